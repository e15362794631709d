-- Stretches of a rule's spread items: which they are, and when they are light.
use Rattle.std.specs.Prelude.{◌≡◌, ℕ, suc, ◌<◌, ◌≤◌, List, ◌++◌, length, slice_range}
use Rattle.xs_gram.specs.declared.parts.GItem.{GItem}
use Rattle.xs_gram.specs.Grammar.{Grammar}
use Rattle.xs_gram.specs.Fences.{spread, IsLevel, GroupAt}
use Rattle.xs_check_laws.specs.Weights.{heaviest, PartWeighs}
use Rattle.xs_loose.specs.declared.part.Part.{Part}
use Rattle.xs_loose.specs.declared.part.Fenced.{Fenced}
use Rattle.xs_loose.specs.declared.fault.LooseFault.{LooseFault}
use Rattle.xs_loose.specs.declared.fault.LooseFault.TheVariants.{Heavy, Memory}

-- the spread items of the part
abbrev pub part_items : Grammar → Part → List GItem
part_items g part = slice_range (spread g part.rule) part.start part.end

-- the part stands in its rule, and is level
pub record IsPart (g : Grammar) (part : Part) : Type 0 where
  pub rule : part.rule < length g.rules
  pub order : part.start ≤ part.end
  pub within : part.end ≤ length (spread g part.rule)
  pub level : IsLevel g.fences (part_items g part)

-- the group whose left fence is spread item k of rule p
pub record IsFencedAt (g : Grammar) (p k : ℕ) (f : Fenced) : Type 0 where
  pub at : GroupAt g.fences (spread g p) k f.inside.end f.left (part_items g f.inside) f.right
  pub rule : f.inside.rule ≡ p
  pub start : f.inside.start ≡ suc k
  pub part : IsPart g f.inside

-- the items are a level stretch of rule p's spread items, from item k on
pub record IsStretch (g : Grammar) (p k : ℕ) (is : List GItem) : Type 0 where
  pub rule : p < length g.rules
  pub before : List GItem
  pub after : List GItem
  pub split : spread g p ≡ before ++ (is ++ after)
  pub place : k ≡ length before
  pub level : IsLevel g.fences is

-- the items weigh no more than a stretch that has a net may
abbrev pub AreLight : Grammar → List GItem → Type 0
AreLight g is = (w : ℕ) × PartWeighs g is w × (w ≤ heaviest)

-- where the fault speaks of a weight, it is that of the items, and more than a stretch may weigh
abbrev pub IsCause : Grammar → List GItem → LooseFault → Type 0
IsCause g is (Heavy weight) = PartWeighs g is weight × (heaviest < weight)
IsCause g is Memory = Unit {0}
