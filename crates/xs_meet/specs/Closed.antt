-- Closed sets of pairs of states, which show that two nets share no word, or do not overlap.
use Rattle.std.specs.Prelude.{◌≡◌, ℕ, ◌⊎◌, Bool, true, List, Some}
use Rattle.std.specs.List.{Contains}
use Rattle.xs_class.specs.Classes.{Has}
use Rattle.xs_auto.specs.declared.call.Call.{Call}
use Rattle.xs_auto.specs.Edges.{Edge}
use Rattle.xs_auto.specs.Nets.{Graph, edges_of, moves_of, calls_of, final_at}
use Rattle.xs_auto.specs.Nests.{Group, IsGroup, HaveOneFence}

-- an empty move of the first net leads from the pair of a and b to that of c and d
pub record MovesFirst (m n : Graph) (a b c d : ℕ) : Type 0 where
  pub move : Contains (moves_of m a) c
  pub still : d ≡ b

-- an empty move of the second net does
pub record MovesSecond (m n : Graph) (a b c d : ℕ) : Type 0 where
  pub move : Contains (moves_of n b) d
  pub still : c ≡ a

-- an empty move of either net does
abbrev pub Drifts : Graph → Graph → ℕ → ℕ → ℕ → ℕ → Type 0
Drifts m n a b c d = MovesFirst m n a b c d ⊎ MovesSecond m n a b c d

-- edges of both nets that read the symbol x lead from the pair of a and b to that of c and d
pub record ReadsBoth (m n : Graph) (a b x c d : ℕ) : Type 0 where
  pub first : Edge
  pub second : Edge
  pub of_first : Contains (edges_of m a) first
  pub of_second : Contains (edges_of n b) second
  pub takes_first : Has first.class x
  pub takes_second : Has second.class x
  pub to_first : first.to ≡ c
  pub to_second : second.to ≡ d

-- edges of both nets that read some common symbol
abbrev pub Crosses : Graph → Graph → ℕ → ℕ → ℕ → ℕ → Type 0
Crosses m n a b c d = (x : ℕ) × ReadsBoth m n a b x c d

-- calls of both nets, of group g and of group h, which R relates, lead from the pair of a and b to
-- that of c and d
pub record CallsBoth (R : ℕ → ℕ → Type 0) (m n : Graph) (a b g h c d : ℕ) : Type 0 where
  pub first : Call
  pub second : Call
  pub of_first : Contains (calls_of m a) first
  pub of_second : Contains (calls_of n b) second
  pub over_first : first.group ≡ g
  pub over_second : second.group ≡ h
  pub related : R g h
  pub to_first : first.to ≡ c
  pub to_second : second.to ≡ d

-- calls of both nets over some two groups that R relates
abbrev pub Enters : (ℕ → ℕ → Type 0) → Graph → Graph → ℕ → ℕ → ℕ → ℕ → Type 0
Enters R m n a b c d = (g : ℕ) × (h : ℕ) × CallsBoth R m n a b g h c d

-- edges of both nets that read a common symbol, or calls of both over groups that R relates
abbrev pub Strides : (ℕ → ℕ → Type 0) → Graph → Graph → ℕ → ℕ → ℕ → ℕ → Type 0
Strides R m n a b c d = Crosses m n a b c d ⊎ Enters R m n a b c d

-- an empty move of one net, or edges or calls of both
abbrev pub Leads : (ℕ → ℕ → Type 0) → Graph → Graph → ℕ → ℕ → ℕ → ℕ → Type 0
Leads R m n a b c d = Drifts m n a b c d ⊎ Strides R m n a b c d

-- with a pair, Z has each to which L leads from it
abbrev pub IsClosed : (ℕ → ℕ → ℕ → ℕ → Type 0) → (ℕ → ℕ → Type 0) → Type 0
IsClosed L Z = (a b c d : ℕ) → Z a b → L a b c d → Z c d

-- with a pair of Y, Z has each to which L leads from it
abbrev pub LeadsInto : (ℕ → ℕ → ℕ → ℕ → Type 0) → (ℕ → ℕ → Type 0) → (ℕ → ℕ → Type 0) → Type 0
LeadsInto L Y Z = (a b c d : ℕ) → Y a b → L a b c d → Z c d

-- no pair of Z is of two final states
abbrev pub HasNoFinals : Graph → Graph → (ℕ → ℕ → Type 0) → Type 0
HasNoFinals m n Z = (a b : ℕ) → Z a b → final_at m a ≡ true → final_at n b ≡ true → ⊥

-- the set has the two starts, is closed, and has no pair of two final states
pub record IsApart (R : ℕ → ℕ → Type 0) (m n : Graph) (Z : ℕ → ℕ → Type 0) : Type 0 where
  pub starts : (a b : ℕ) → m.start ≡ Some a → n.start ≡ Some b → Z a b
  pub closed : IsClosed (Leads R m n) Z
  pub none : HasNoFinals m n Z

-- four sets: Z1, of pairs of front states, is closed and has the starts; from there Z0 has the
-- second state beside the start of the rest where the first one is final, and is closed under empty
-- moves; Z2 has each pair to which edges or calls lead from Z0, and is closed; from there Z3 has the
-- start of the rest beside the second state where the first one is final, is closed, and has no pair
-- of two final states
pub record IsClear (R : ℕ → ℕ → Type 0) (front rest : Graph) (Z1 Z0 Z2 Z3 : ℕ → ℕ → Type 0) : Type 0 where
  pub starts : (a b : ℕ) → front.start ≡ Some a → front.start ≡ Some b → Z1 a b
  pub closed1 : IsClosed (Leads R front front) Z1
  pub to0 : (a b r : ℕ) → Z1 a b → final_at front a ≡ true → rest.start ≡ Some r → Z0 b r
  pub drifts0 : IsClosed (Drifts front rest) Z0
  pub to2 : LeadsInto (Strides R front rest) Z0 Z2
  pub closed2 : IsClosed (Leads R front rest) Z2
  pub to3 : (b r s : ℕ) → Z2 b r → final_at front b ≡ true → rest.start ≡ Some s → Z3 s r
  pub closed3 : IsClosed (Leads R rest rest) Z3
  pub none : HasNoFinals rest rest Z3

-- the pairs that are marked
abbrev pub Marked : (ℕ → ℕ → Bool) → ℕ → ℕ → Type 0
Marked z a b = z a b ≡ true

-- marks show that the two nets share no word
abbrev pub AreApart : (ℕ → ℕ → Type 0) → Graph → Graph → Type 0
AreApart R m n = (z : ℕ → ℕ → Bool) × IsApart R m n (Marked z)

-- R relates groups h and k, or marks show that their contents share no word, where both have one
-- fence
abbrev pub AreSettled : List Group → (ℕ → ℕ → Type 0) → ℕ → ℕ → Type 0
AreSettled nest R h k = (a b : Group) → IsGroup nest h a → IsGroup nest k b → HaveOneFence a b → R h k ⊎ AreApart R a.content b.content

-- this holds of each two groups
abbrev pub IsSettled : List Group → (ℕ → ℕ → Type 0) → Type 0
IsSettled nest R = (h k : ℕ) → AreSettled nest R h k
