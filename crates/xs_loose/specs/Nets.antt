-- The net of a stretch, with the number of each state fixed, and the nest of a grammar's groups.
use Rattle.std.specs.Prelude.{◌≡◌, ◌↔◌, ℕ, suc, ◌<◌, ◌≤◌, true, List, length, Some}
use Rattle.std.specs.List.{Contains}
use Rattle.xs_auto.specs.declared.call.Call.{Call}
use Rattle.xs_auto.specs.Edges.{Edge}
use Rattle.xs_auto.specs.Nets.{Graph, states, final_at, edges_of, moves_of, calls_of}
use Rattle.xs_auto.specs.Nests.{Group, IsGroup}
use Rattle.xs_gram.specs.declared.parts.GItem.{GItem}
use Rattle.xs_gram.specs.Grammar.{Grammar}
use Rattle.xs_gram.specs.Fences.{spread, GroupAt}
use Rattle.xs_check_laws.specs.Weights.{heaviest, PartWeighs}
use Rattle.xs_check_laws.specs.Acceptance.{IsBefore}
use Rattle.xs_loose.specs.declared.part.Part.{Part}
use Rattle.xs_loose.specs.declared.fault.LooseFault.{LooseFault}
use Rattle.xs_loose.specs.declared.fault.LooseFault.TheVariants.{Heavy, Memory}
use Rattle.xs_loose.specs.Arcs.{Arc, read, pass, call}
use Rattle.xs_loose.specs.Groups.{groups_count, group_number}
use Rattle.xs_loose.specs.Laying.{LaysPart}
use Rattle.xs_loose.specs.Parts.{part_items, AreLight}

-- The net of a level stretch of rule p's spread items, from item k on: state 0 is before the first
-- item, the blocks of its items and groups follow from state 1 on, and the state after the last of
-- them, or 0, is the only final one. It has the arcs of the stretch and no others.
pub record IsNumbered (g : Grammar) (p k : ℕ) (is : List GItem) (n : Graph) : Type 0 where
  pub arcs : List Arc
  pub last : ℕ
  pub lays : LaysPart g p k is 0 1 arcs last (states n)
  pub start : n.start ≡ Some 0
  pub finals : (a : ℕ) → (final_at n a ≡ true) ↔ (a ≡ last)
  pub edges : (a : ℕ) (e : Edge) → Contains (edges_of n a) e ↔ Contains arcs (read a e.class e.to)
  pub moves : (a b : ℕ) → Contains (moves_of n a) b ↔ Contains arcs (pass a b)
  pub calls : (a : ℕ) (k : Call) → Contains (calls_of n a) k ↔ Contains arcs (call a k.group k.to)

-- the net of a part
abbrev pub IsNetOf : Grammar → Part → Graph → Type 0
IsNetOf g part n = IsNumbered g part.rule part.start (part_items g part) n

-- the items are light, and the net has one state more than they weigh
pub record HasItsWeight (g : Grammar) (is : List GItem) (n : Graph) : Type 0 where
  pub weight : ℕ
  pub weighs : PartWeighs g is weight
  pub light : weight ≤ heaviest
  pub states : states n ≡ suc weight

-- the group whose left fence is spread item k of rule p, with the net of the stretch inside
pub record IsGroupOf (g : Grammar) (p k : ℕ) (group : Group) : Type 0 where
  pub rule : p < length g.rules
  pub inside : List GItem
  pub partner : ℕ
  pub at : GroupAt g.fences (spread g p) k partner group.left inside group.right
  pub content : IsNumbered g p (suc k) inside group.content
  pub weight : HasItsWeight g inside group.content

-- the nest has one group for each group of the grammar, under its number, and no others
pub record IsNestOf (g : Grammar) (nest : List Group) : Type 0 where
  pub counted : length nest ≡ groups_count g
  pub there : (p k m l r : ℕ) (inside : List GItem) → p < length g.rules → GroupAt g.fences (spread g p) k m l inside r → (group : Group) × IsGroup nest (group_number g p k) group × IsGroupOf g p k group
  pub only : (h : ℕ) (group : Group) → IsGroup nest h group → (p : ℕ) × (k : ℕ) × (h ≡ group_number g p k) × IsGroupOf g p k group

-- the group whose left fence is spread item k of rule p has this inside
pub record HasInside (g : Grammar) (p k : ℕ) (inside : List GItem) : Type 0 where
  pub rule : p < length g.rules
  pub partner : ℕ
  pub left : ℕ
  pub right : ℕ
  pub at : GroupAt g.fences (spread g p) k partner left inside right

-- the inside of each group of the grammar is light
abbrev pub HasLightInsides : Grammar → Type 0
HasLightInsides g = (p k : ℕ) (inside : List GItem) → HasInside g p k inside → AreLight g inside

-- the inside of a group weighs that much, which is more than it may, and no group before it, by the
-- rule and then the place, has a heavy inside
pub record IsFirstHeavy (g : Grammar) (weight : ℕ) : Type 0 where
  pub rule : ℕ
  pub place : ℕ
  pub inside : List GItem
  pub is : HasInside g rule place inside
  pub weighs : PartWeighs g inside weight
  pub heavy : heaviest < weight
  pub before : (q j : ℕ) (other : List GItem) → HasInside g q j other → IsBefore q j rule place → AreLight g other

-- where the fault speaks of a weight, it is that of the first group whose inside is heavy
abbrev pub IsNestCause : Grammar → LooseFault → Type 0
IsNestCause g (Heavy weight) = IsFirstHeavy g weight
IsNestCause g Memory = Unit {0}
