-- How it is seen which groups read no common word.
use Rattle.std.specs.Prelude.{◌≡◌, ℕ, ◌<◌, ◌≤◌, List}
use Rattle.xs_meet.specs.Closed.{AreSettled}
use Rattle.xs_coarse.specs.Coarse.{Table, MayCall}
use Rattle.xs_coarse_net.specs.declared.cover.Content.{Content}
use Rattle.xs_coarse_net.specs.Contents.{nest_of}
use Rattle.xs_coarse.specs.Parts.{IsParted}

-- the labels stand for the same, for as many groups, and what may meet could meet before
pub record Parts (old new : Table) : Type 0 where
  pub parted : IsParted old new
  pub groups : new.groups ≡ old.groups

-- groups h and k may call together, or marks show that they read no common word; and so in the other order
pub record AreBothSettled (contents : List Content) (t : Table) (h k : ℕ) : Type 0 where
  pub one : AreSettled (nest_of t contents) (MayCall t) h k
  pub other : AreSettled (nest_of t contents) (MayCall t) k h

-- so it is with a group and those from it on, before the end
abbrev pub IsRowSettled : List Content → Table → ℕ → ℕ → Type 0
IsRowSettled contents t h end = (k : ℕ) → h ≤ k → k < end → AreBothSettled contents t h k

-- groups that were settled stay so, unless P means them
abbrev pub StaySettled : List Content → Table → Table → (ℕ → ℕ → Type 0) → Type 0
StaySettled contents old new P = (h k : ℕ) → h ≤ k → (P h k → ⊥) → AreBothSettled contents old h k → AreBothSettled contents new h k

-- these two groups
abbrev pub AreTheTwo : ℕ → ℕ → ℕ → ℕ → Type 0
AreTheTwo first second h k = (h ≡ first) × (k ≡ second)

-- a pair that begins with this group
abbrev pub IsOfRow : ℕ → ℕ → ℕ → Type 0
IsOfRow first h k = h ≡ first
