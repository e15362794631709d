-- What searches for suspects of a grammar stand on, and the nets over which they go.
use Rattle.std.specs.Prelude.{◌≡◌, ◌↔◌, ℕ, List, slice_range}
use Rattle.xs_auto.specs.Nets.{Graph}
use Rattle.xs_auto.specs.Nests.{Group, AcceptsNested, IsTame, IsFenced}
use Rattle.xs_gram.specs.declared.parts.GItem.{GItem}
use Rattle.xs_gram.specs.Grammar.{Grammar}
use Rattle.xs_gram.specs.Sound.{IsBuilt}
use Rattle.xs_gram.specs.Fences.{spread, IsCut}
use Rattle.xs_gram.specs.Cuts.{CutsAt}
use Rattle.xs_gram.specs.Loose.{AreComponents, IsLoose}
use Rattle.xs_check_laws.specs.Acceptance.{IsLight}
use Rattle.xs_meet.specs.Sharing.{IsSharedOf}
use Rattle.xs_loose.specs.Nets.{IsNumbered, IsNestOf}
use Rattle.xs_loose.specs.Tables.{AreTables}
use Rattle.xs_searches.specs.declared.nets.CutNets.{CutNets}
use Rattle.xs_searches.specs.declared.nets.Site.{Site}
use Rattle.xs_searches.specs.declared.space.SearchSpace.{SearchSpace}

-- a grammar that was built and whose rules are light, with its components and its tables
pub record IsSite (s : Site) : Type 0 where
  pub built : IsBuilt s.g.now
  pub comps : AreComponents s.g.now s.comps.now
  pub tables : AreTables s.g.now s.comps.now s.tables.now
  pub light : IsLight s.g.now

-- the same with the nest of its groups, and which of them share a word
pub record IsSpace (s : SearchSpace) : Type 0 where
  pub site : IsSite s.site
  pub nest : IsNestOf s.site.g.now s.nest
  pub fenced : IsFenced s.nest
  pub shared : IsSharedOf s.nest s.shared

-- the net of all spread items of rule p
abbrev pub IsRuleNet : Grammar → ℕ → Graph → Type 0
IsRuleNet g p n = IsNumbered g p 0 (spread g p) n

-- the nets of the front and the rest of cut c of rule p
pub record AreNumbered (g : Grammar) (p c : ℕ) (nets : CutNets) : Type 0 where
  pub start : ℕ
  pub end : ℕ
  pub at : CutsAt g.fences (spread g p) c start end
  pub front : IsNumbered g p start (slice_range (spread g p) start c) nets.front
  pub rest : IsNumbered g p c (slice_range (spread g p) c end) nets.rest

-- over the nest the net accepts exactly the loose words of the items, and it may be searched
pub record AcceptsLoose (g : Grammar) (nest : List Group) (is : List GItem) (n : Graph) : Type 0 where
  pub tame : IsTame nest n
  pub words : (w : List ℕ) → AcceptsNested nest n w ↔ IsLoose g is w

-- the nets accept the loose words of the front and of the rest of the cut at c, which has no other
-- front and rest
pub record AreCutNets (g : Grammar) (nest : List Group) (p c : ℕ) (nets : CutNets) : Type 0 where
  pub front_items : List GItem
  pub rest_items : List GItem
  pub cut : IsCut g.fences (spread g p) c front_items rest_items
  pub only : (front rest : List GItem) → IsCut g.fences (spread g p) c front rest → (front ≡ front_items) × (rest ≡ rest_items)
  pub front : AcceptsLoose g nest front_items nets.front
  pub rest : AcceptsLoose g nest rest_items nets.rest
