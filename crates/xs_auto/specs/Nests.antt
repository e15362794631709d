-- Groups that nets call, and what a net accepts where each call reads a whole group.
use Rattle.std.specs.Prelude.{◌≡◌, ◌≢◌, ℕ, true, List, [], ◌∷◌, ◌++◌, get_or, slice_get, Some, None, IsSome}
use Rattle.std.specs.List.{Contains}
use Rattle.xs_class.specs.Classes.{Has}
use Rattle.xs_auto.specs.declared.call.Call.{Call}
use Rattle.xs_auto.specs.Edges.{Edge}
use Rattle.xs_auto.specs.Nets.{Graph, final_at, edges_of, moves_of, calls_of}

-- a group: the two symbols of its fence, and a net for what stands between them
pub record Group : Type 0 where
  pub left : ℕ
  pub right : ℕ
  pub content : Graph

-- no group
abbrev pub no_group : Group
no_group = record { left = 0; right = 0; content = record { start = None; nodes = [] } }

-- the group of that number; a group that there is not is as no group
abbrev pub group_at : List Group → ℕ → Group
group_at nest h = get_or nest h no_group

-- the group of that number is this one
abbrev pub IsGroup : List Group → ℕ → Group → Type 0
IsGroup nest h group = slice_get nest h ≡ Some group

-- a path from a state to another reads a word: by edges whose class has the symbol, by empty moves,
-- and by calls, each of which reads the left symbol of its group, a word from the start of the
-- group's content to a final state, and the right symbol
pub data Crossing (nest : List Group) : Graph → ℕ → List ℕ → ℕ → Type 0 where
  stands : {n : Graph} {a : ℕ} → Crossing nest n a [] a
  drifts : {n : Graph} {a b c : ℕ} {w : List ℕ} → Contains (moves_of n a) b → Crossing nest n b w c → Crossing nest n a w c
  takes : {n : Graph} {a c s : ℕ} {w : List ℕ} (e : Edge) → Contains (edges_of n a) e → Has e.class s → Crossing nest n e.to w c → Crossing nest n a (s ∷ w) c
  enters : {n : Graph} {a c first last : ℕ} {u v w : List ℕ} (k : Call) (group : Group) → Contains (calls_of n a) k → IsGroup nest k.group group → group.content.start ≡ Some first → Crossing nest group.content first u last → final_at group.content last ≡ true → Crossing nest n k.to v c → w ≡ group.left ∷ (u ++ group.right ∷ v) → Crossing nest n a w c

-- a path from the start to a final state reads the word
pub record AcceptsNested (nest : List Group) (n : Graph) (w : List ℕ) : Type 0 where
  pub first : ℕ
  pub last : ℕ
  pub starts : n.start ≡ Some first
  pub crosses : Crossing nest n first w last
  pub final : final_at n last ≡ true

-- the symbol stands in no fence
abbrev pub IsPlain : List Group → ℕ → Type 0
IsPlain nest s = (h : ℕ) (group : Group) → IsGroup nest h group → (s ≢ group.left) × (s ≢ group.right)

-- the net has a start, and no class of an edge has a fence symbol
pub record IsTame (nest : List Group) (n : Graph) : Type 0 where
  pub start : IsSome n.start
  pub plain : (a s : ℕ) (e : Edge) → Contains (edges_of n a) e → Has e.class s → IsPlain nest s

-- each group's content is tame, and no symbol is in two fences or on both sides of one
pub record IsFenced (nest : List Group) : Type 0 where
  pub tame : (h : ℕ) (group : Group) → IsGroup nest h group → IsTame nest group.content
  pub one_right : (h k : ℕ) (a b : Group) → IsGroup nest h a → IsGroup nest k b → a.left ≡ b.left → a.right ≡ b.right
  pub one_left : (h k : ℕ) (a b : Group) → IsGroup nest h a → IsGroup nest k b → a.right ≡ b.right → a.left ≡ b.left
  pub sides : (h k : ℕ) (a b : Group) → IsGroup nest h a → IsGroup nest k b → a.left ≢ b.right

-- the two groups have one fence
pub record HaveOneFence (a b : Group) : Type 0 where
  pub left : a.left ≡ b.left
  pub right : a.right ≡ b.right

-- groups h and k have one fence, and their contents accept the word
pub record ShareContent (nest : List Group) (h k : ℕ) (w : List ℕ) : Type 0 where
  pub first : Group
  pub second : Group
  pub is_first : IsGroup nest h first
  pub is_second : IsGroup nest k second
  pub fence : HaveOneFence first second
  pub accepts_first : AcceptsNested nest first.content w
  pub accepts_second : AcceptsNested nest second.content w

-- they share some word
abbrev pub AreShared : List Group → ℕ → ℕ → Type 0
AreShared nest h k = (w : List ℕ) × ShareContent nest h k w
