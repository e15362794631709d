-- What the searches for suspects find, and what they stand on.
use Rattle.std.specs.Prelude.{◌≡◌, ℕ, List}
use Rattle.std.specs.declared.option.Option.{Option}
use Rattle.std.specs.Option.{IfSome}
use Rattle.xs_gram.specs.Grammar.{Grammar}
use Rattle.xs_gram.specs.Sound.{IsBuilt}
use Rattle.xs_gram.specs.Fences.{spread}
use Rattle.xs_gram.specs.Loose.{AreComponents, IsLoose}
use Rattle.xs_gram.specs.Suspects.{IsHorizontal}
use Rattle.xs_check_laws.specs.Acceptance.{IsLight}
use Rattle.xs_loose.specs.declared.tables.Tables.{Tables}
use Rattle.xs_loose.specs.Tables.{AreTables}
use Rattle.xs_screen.specs.declared.screen.Screen.{Screen}
use Rattle.xs_screen.specs.Screens.{IsScreen}
use Rattle.xs_searches.specs.declared.exact.Exact.{Exact}
use Rattle.xs_searches.specs.Spaces.{IsSpace}

-- the word is loose for all spread items of rule p, and of rule q
pub record AreBothLoose (g : Grammar) (p q : ℕ) (w : List ℕ) : Type 0 where
  pub first : IsLoose g (spread g p) w
  pub second : IsLoose g (spread g q) w

-- words overlap at cut c of rule p
abbrev pub OverlapsAt : Grammar → ℕ → ℕ → Type 0
OverlapsAt g p c = (x : List ℕ) × (a : List ℕ) × (y : List ℕ) × IsHorizontal g p c x a y

-- the exact searches are of the grammar
pub record IsExactFor (g : Grammar) (e : Exact) : Type 0 where
  pub space : IsSpace e.space
  pub grammar : e.space.site.g.now ≡ g

-- a grammar that was built and whose rules are light, with its components and its tables, its screen
-- where there is one, and the exact searches where they were made
pub record IsReady (g : Grammar) (cs : List ℕ) (ts : Tables) (quick : Option Screen) (searches : Option Exact) : Type 0 where
  pub built : IsBuilt g
  pub comps : AreComponents g cs
  pub tables : AreTables g cs ts
  pub light : IsLight g
  pub screen : IfSome quick (IsScreen g)
  pub exact : IfSome searches (IsExactFor g)
