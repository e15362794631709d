-- How far the pairs of a set lead into its rows.
use Rattle.std.specs.Prelude.{◌≡◌, ℕ, ◌<◌, ◌≤◌, ◌⊎◌, true, List, length, take, Option, None, Some}
use Rattle.xs_auto.specs.declared.call.Call.{Call}
use Rattle.xs_auto.specs.Edges.{Edge}
use Rattle.xs_auto.specs.Nets.{Graph, final_at, edges_of, calls_of}
use Rattle.xs_meet.specs.Closed.{Drifts, Strides, Leads, IsClosed, HasNoFinals}
use Rattle.xs_closed.specs.Rows.{Grid, marked, rows_from}
use Rattle.xs_closed.specs.Search.{OneOf, IsPair, Meets, Joins}

-- the pair itself, or one that it leads to
abbrev pub Keeps : (ℕ → ℕ → Type 0) → Graph → Graph → ℕ → ℕ → ℕ → ℕ → Type 0
Keeps R m n a b c d = IsPair a b c d ⊎ Leads R m n a b c d

-- the set has all pairs of T, and the new number is the least that is above their first states and
-- no less than the old one
pub record Raises (z : Grid) (T : ℕ → ℕ → Type 0) (old new : ℕ) : Type 0 where
  pub there : (c d : ℕ) → T c d → marked z c d ≡ true
  pub order : old ≤ new
  pub within : (c d : ℕ) → T c d → c < new
  pub least : (x : ℕ) → old ≤ x → ((c d : ℕ) → T c d → c < x) → new ≤ x

-- the set lacks a pair of T
abbrev pub Lacks : Grid → (ℕ → ℕ → Type 0) → Type 0
Lacks z T = ((c d : ℕ) → T c d → marked z c d ≡ true) → ⊥

-- the new number, or none where the set lacks a pair
abbrev pub IsNeed : Grid → (ℕ → ℕ → Type 0) → ℕ → Option ℕ → Type 0
IsNeed z T old None = Lacks z T
IsNeed z T old (Some new) = Raises z T old new

-- a marked pair of row a leads by F to the pair of c and d
pub record InRow (z : Grid) (a : ℕ) (F : ℕ → ℕ → ℕ → Type 0) (c d : ℕ) : Type 0 where
  pub partner : ℕ
  pub there : marked z a partner ≡ true
  pub leads : F partner c d

-- one whose second state is below a bound does
pub record InRowBelow (z : Grid) (a top : ℕ) (F : ℕ → ℕ → ℕ → Type 0) (c d : ℕ) : Type 0 where
  pub partner : ℕ
  pub before : partner < top
  pub there : marked z a partner ≡ true
  pub leads : F partner c d

-- edges and calls, and those of a state of the second net, lead to the pair of c and d
abbrev pub StridesBy : (ℕ → ℕ → Type 0) → List Edge → List Call → Graph → ℕ → ℕ → ℕ → Type 0
StridesBy R edges calls n b c d = OneOf edges (λ e. OneOf (edges_of n b) (Meets e)) c d ⊎ OneOf calls (λ h. OneOf (calls_of n b) (Joins R h)) c d

-- no pair of row a is of two final states
abbrev pub RowHasNoFinals : Graph → Graph → Grid → ℕ → Type 0
RowHasNoFinals m n z a = (b : ℕ) → marked z a b ≡ true → final_at m a ≡ true → final_at n b ≡ true → ⊥

-- what row a needs with all that leads from it, or none where it leads out of the set or has a pair of
-- two final states
abbrev pub IsRowNeed : (ℕ → ℕ → Type 0) → Graph → Graph → Grid → ℕ → ℕ → Option ℕ → Type 0
IsRowNeed R m n z a old None = RowHasNoFinals m n z a → Lacks z (InRow z a (Keeps R m n a))
IsRowNeed R m n z a old (Some new) = RowHasNoFinals m n z a × Raises z (InRow z a (Keeps R m n a)) old new

-- the pair is marked, and its first state is below x
pub record IsBelow (z : Grid) (x a b : ℕ) : Type 0 where
  pub there : marked z a b ≡ true
  pub before : a < x

-- the pairs whose first states are below x are closed and have no pair of two final states, and x is
-- not below a bound
pub record IsLimit (R : ℕ → ℕ → Type 0) (m n : Graph) (z : Grid) (low x : ℕ) : Type 0 where
  pub order : low ≤ x
  pub closed : IsClosed (Leads R m n) (IsBelow z x)
  pub none : HasNoFinals m n (IsBelow z x)

-- the number of rows with marks whose states are below x
abbrev pub rank : Grid → ℕ → ℕ
rank z x = length (rows_from 0 (take x z.rows))

-- the number of such rows at the greatest limit below x
pub record IsLast (R : ℕ → ℕ → Type 0) (m n : Graph) (z : Grid) (low x j : ℕ) : Type 0 where
  pub limit : ℕ
  pub before : limit < x
  pub count : j ≡ rank z limit
  pub is : IsLimit R m n z low limit
  pub greatest : (y : ℕ) → y < x → IsLimit R m n z low y → y ≤ limit

-- the same, or none where there is no limit below x
abbrev pub IsBest : (ℕ → ℕ → Type 0) → Graph → Graph → Grid → ℕ → ℕ → Option ℕ → Type 0
IsBest R m n z low x None = (y : ℕ) → y < x → IsLimit R m n z low y → ⊥
IsBest R m n z low x (Some j) = IsLast R m n z low x j

-- the rows below x lead to no pair out of the set, and need that number
pub record IsRead (R : ℕ → ℕ → Type 0) (m n : Graph) (z : Grid) (low x need : ℕ) : Type 0 where
  pub there : (a b c d : ℕ) → a < x → marked z a b ≡ true → Leads R m n a b c d → marked z c d ≡ true
  pub none : (a b : ℕ) → a < x → marked z a b ≡ true → final_at m a ≡ true → final_at n b ≡ true → ⊥
  pub order : low ≤ need
  pub within : (a b c d : ℕ) → a < x → marked z a b ≡ true → Leads R m n a b c d → c < need
  pub least : (y : ℕ) → x ≤ y → low ≤ y → ((a b c d : ℕ) → a < x → marked z a b ≡ true → Leads R m n a b c d → c < y) → need ≤ y

-- each marked pair is as P says
abbrev pub EachPair : Grid → (ℕ → ℕ → Type 0) → Type 0
EachPair z P = (a b : ℕ) → marked z a b ≡ true → P a b

-- the pair leads to pairs of y by empty moves, and to pairs of z by edges or calls
pub record LeadsWithin (R : ℕ → ℕ → Type 0) (m n : Graph) (y z : Grid) (a b : ℕ) : Type 0 where
  pub drifts : (c d : ℕ) → Drifts m n a b c d → marked y c d ≡ true
  pub strides : (c d : ℕ) → Strides R m n a b c d → marked z c d ≡ true

-- where the first state is final, the set has the second one beside the start of the rest
abbrev pub IsTurned : Graph → Graph → Grid → ℕ → ℕ → Type 0
IsTurned front rest z a b = final_at front a ≡ true → (r : ℕ) → rest.start ≡ Some r → marked z b r ≡ true

-- a marked pair of row a, whose state is final, leads past it: to s beside the second state
pub record IsPastRow (front : Graph) (z : Grid) (a s c d : ℕ) : Type 0 where
  pub final : final_at front a ≡ true
  pub first : c ≡ s
  pub there : marked z a d ≡ true

-- a marked pair of a row below x does, and s is the start of the rest
pub record IsPastBelow (front rest : Graph) (z : Grid) (x s r : ℕ) : Type 0 where
  pub state : ℕ
  pub before : state < x
  pub within : marked z state r ≡ true
  pub final : final_at front state ≡ true
  pub starts : rest.start ≡ Some s
