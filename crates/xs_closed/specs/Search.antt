-- Where parts of a pair lead; how a search marks pairs, and lists those that it has marked.
use Rattle.std.specs.Prelude.{◌≡◌, ◌↔◌, ℕ, ◌<◌, ◌⊎◌, true, List, ◌++◌, length, slice_get, Some}
use Rattle.std.specs.List.{All, Contains}
use Rattle.xs_class.specs.Classes.{Has}
use Rattle.xs_auto.specs.declared.call.Call.{Call}
use Rattle.xs_auto.specs.Edges.{Edge}
use Rattle.xs_auto.specs.Nets.{Graph, states, final_at}
use Rattle.xs_meet.specs.declared.seat.Seat.{Seat}
use Rattle.xs_meet.specs.Closed.{Marked, Drifts, Leads}
use Rattle.xs_meet.specs.Seats.{start_of, other_of}
use Rattle.xs_closed.specs.declared.moves.Moves.{Moves}
use Rattle.xs_closed.specs.declared.moves.Moves.TheVariants.{Empty, Every}
use Rattle.xs_closed.specs.declared.pair.Pair.{Pair}
use Rattle.xs_closed.specs.Rows.{Grid, marked, IsSized}
use Rattle.xs_closed.specs.Least.{Reach, IsTableOf}

-- a state of a first net and one of a second net
abbrev pub pair : ℕ → ℕ → Pair
pair a b = record { first = a; second = b }

-- the pair is one of them
abbrev pub HasPair : List Pair → ℕ → ℕ → Type 0
HasPair ps a b = Contains ps (pair a b)

-- the states of the pair are below two numbers
pub record IsInside (high wide : ℕ) (p : Pair) : Type 0 where
  pub first : p.first < high
  pub second : p.second < wide

-- the pairs are those that the table marks
pub record IsListed (z : Grid) (ps : List Pair) : Type 0 where
  pub sized : IsSized (length z.rows) z.wide z
  pub inside : All (IsInside (length z.rows) z.wide) ps
  pub listed : (a b : ℕ) → Marked (marked z) a b → HasPair ps a b
  pub marks : (a b : ℕ) → HasPair ps a b → Marked (marked z) a b

-- the table has as many rows and columns as before
pub record KeepsSize (old new : Grid) : Type 0 where
  pub high : length new.rows ≡ length old.rows
  pub wide : new.wide ≡ old.wide

-- the old pairs stand in front
pub record IsLonger (old new : List Pair) : Type 0 where
  pub added : List Pair
  pub is : new ≡ old ++ added

-- the pairs of P are marked too, and no others
pub record Adds (P : ℕ → ℕ → Type 0) (old : Grid) (before : List Pair) (new : Grid) (after : List Pair) : Type 0 where
  pub size : KeepsSize old new
  pub longer : IsLonger before after
  pub marks : (a b : ℕ) → Marked (marked new) a b ↔ (Marked (marked old) a b ⊎ P a b)

-- the pair of c and d is that of a and b
pub record IsPair (a b c d : ℕ) : Type 0 where
  pub first : c ≡ a
  pub second : d ≡ b

-- some element leads to the pair of c and d
pub record OneOf {X : Type 0} (xs : List X) (Q : X → ℕ → ℕ → Type 0) (c d : ℕ) : Type 0 where
  pub item : X
  pub has : Contains xs item
  pub leads : Q item c d

-- the two edges read a common symbol, and lead to the pair
pub record Meets (e f : Edge) (c d : ℕ) : Type 0 where
  pub symbol : ℕ
  pub takes_first : Has e.class symbol
  pub takes_second : Has f.class symbol
  pub to_first : e.to ≡ c
  pub to_second : f.to ≡ d

-- R relates the groups of the two calls, which lead to the pair
pub record Joins (R : ℕ → ℕ → Type 0) (h k : Call) (c d : ℕ) : Type 0 where
  pub related : R h.group k.group
  pub to_first : h.to ≡ c
  pub to_second : k.to ≡ d

-- the first state of the pair is final, and its second one is c or d, beside the start
pub record Turns (seat : Seat) (front : Graph) (start : ℕ) (p : Pair) (c d : ℕ) : Type 0 where
  pub final : final_at front p.first ≡ true
  pub starts : start_of seat c d ≡ start
  pub other : other_of seat c d ≡ p.second

-- the table is for the states of the two nets
pub record IsFor (m n : Graph) (z : Grid) : Type 0 where
  pub high : length z.rows ≡ states m
  pub wide : z.wide ≡ states n

-- where a pair before place k leads is listed
abbrev pub IsClosedBelow : (ℕ → ℕ → ℕ → ℕ → Type 0) → ℕ → List Pair → Type 0
IsClosedBelow L k ps = (i : ℕ) (p : Pair) → i < k → slice_get ps i ≡ Some p → (c d : ℕ) → L p.first p.second c d → HasPair ps c d

-- where these moves lead
abbrev pub LeadsBy : Moves → (ℕ → ℕ → Type 0) → Graph → Graph → ℕ → ℕ → ℕ → ℕ → Type 0
LeadsBy Empty R m n = Drifts m n
LeadsBy Every R m n = Leads R m n

-- the table marks all that is reached from what it marked before
pub record Closes (L : ℕ → ℕ → ℕ → ℕ → Type 0) (old new : Grid) : Type 0 where
  pub size : KeepsSize old new
  pub marks : (a b : ℕ) → Marked (marked new) a b ↔ Reach (Marked (marked old)) L a b

-- the table is that of a set for two nets, and the pairs are those that it marks
pub record AreFound (Z : ℕ → ℕ → Type 0) (m n : Graph) (z : Grid) (ps : List Pair) : Type 0 where
  pub table : IsTableOf Z m n z
  pub listed : IsListed z ps
