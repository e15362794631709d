-- What a net is, what it accepts, and how it grows.
use Rattle.std.specs.Prelude.{◌≡◌, ◌≢◌, ℕ, suc, ◌<◌, ◌^◌, Bool, true, false, List, [], ◌∷◌, ◌++◌, length, get_or, Option, Some, IfSome}
use Rattle.std.specs.List.{All, Contains}
use Rattle.xs_class.specs.Classes.{Has}
use Rattle.xs_auto.specs.declared.call.Call.{Call}
use Rattle.xs_auto.specs.Edges.{Edge}

-- a state: whether it is final, and where it leads to by edges, by empty moves and by calls of
-- groups
pub record Node : Type 0 where
  pub final : Bool
  pub edges : List Edge
  pub moves : List ℕ
  pub calls : List Call

-- a net: the state to begin from, if it was set, and the states by their numbers
pub record Graph : Type 0 where
  pub start : Option ℕ
  pub nodes : List Node

-- a state that leads nowhere and is not final
abbrev pub bare : Node
bare = record { final = false; edges = []; moves = []; calls = [] }

-- the number of states
abbrev pub states : Graph → ℕ
states n = length n.nodes

-- whether the state is final; a state that there is not is as a bare one
abbrev pub final_at : Graph → ℕ → Bool
final_at n a = (get_or n.nodes a bare).final

-- the edges of the state
abbrev pub edges_of : Graph → ℕ → List Edge
edges_of n a = (get_or n.nodes a bare).edges

-- the targets of the state's empty moves
abbrev pub moves_of : Graph → ℕ → List ℕ
moves_of n a = (get_or n.nodes a bare).moves

-- the calls that lead from the state
abbrev pub calls_of : Graph → ℕ → List Call
calls_of n a = (get_or n.nodes a bare).calls

-- a path from a state to another reads a word: by edges whose class has the symbol, and by empty
-- moves
pub data Walks (n : Graph) : ℕ → List ℕ → ℕ → Type 0 where
  rests : {a : ℕ} → Walks n a [] a
  passes : {a b c : ℕ} {w : List ℕ} → Contains (moves_of n a) b → Walks n b w c → Walks n a w c
  reads : {a c s : ℕ} {w : List ℕ} (e : Edge) → Contains (edges_of n a) e → Has e.class s → Walks n e.to w c → Walks n a (s ∷ w) c

-- a path from the start to a final state reads the word
pub record Accepts (n : Graph) (w : List ℕ) : Type 0 where
  pub first : ℕ
  pub last : ℕ
  pub starts : n.start ≡ Some first
  pub walks : Walks n first w last
  pub final : final_at n last ≡ true

-- each state that is named exists
pub record IsSound (n : Graph) : Type 0 where
  pub few : states n < 2 ^ 32
  pub start : IfSome n.start (λ a. a < states n)
  pub edges : (a : ℕ) → All (λ e. e.to < states n) (edges_of n a)
  pub moves : (a : ℕ) → All (λ b. b < states n) (moves_of n a)
  pub calls : (a : ℕ) → All (λ k. k.to < states n) (calls_of n a)

-- all but the edges, the moves and the calls is the same
pub record KeepsStates (old new : Graph) : Type 0 where
  pub states : states new ≡ states old
  pub start : new.start ≡ old.start
  pub finals : (i : ℕ) → final_at new i ≡ final_at old i

-- one bare state more, after all others
pub record AddsState (old new : Graph) : Type 0 where
  pub states : states new ≡ suc (states old)
  pub start : new.start ≡ old.start
  pub finals : (i : ℕ) → final_at new i ≡ final_at old i
  pub edges : (i : ℕ) → edges_of new i ≡ edges_of old i
  pub moves : (i : ℕ) → moves_of new i ≡ moves_of old i
  pub calls : (i : ℕ) → calls_of new i ≡ calls_of old i

-- one edge more from state a, after its others
pub record AddsEdge (old new : Graph) (a : ℕ) (e : Edge) : Type 0 where
  pub keeps : KeepsStates old new
  pub edges : edges_of new a ≡ edges_of old a ++ e ∷ []
  pub others : (i : ℕ) → i ≢ a → edges_of new i ≡ edges_of old i
  pub moves : (i : ℕ) → moves_of new i ≡ moves_of old i
  pub calls : (i : ℕ) → calls_of new i ≡ calls_of old i

-- one empty move more from state a to b, after its others
pub record AddsMove (old new : Graph) (a b : ℕ) : Type 0 where
  pub keeps : KeepsStates old new
  pub edges : (i : ℕ) → edges_of new i ≡ edges_of old i
  pub moves : moves_of new a ≡ moves_of old a ++ b ∷ []
  pub others : (i : ℕ) → i ≢ a → moves_of new i ≡ moves_of old i
  pub calls : (i : ℕ) → calls_of new i ≡ calls_of old i

-- one call more from state a, after its others
pub record AddsCall (old new : Graph) (a : ℕ) (k : Call) : Type 0 where
  pub keeps : KeepsStates old new
  pub edges : (i : ℕ) → edges_of new i ≡ edges_of old i
  pub moves : (i : ℕ) → moves_of new i ≡ moves_of old i
  pub calls : calls_of new a ≡ calls_of old a ++ k ∷ []
  pub others : (i : ℕ) → i ≢ a → calls_of new i ≡ calls_of old i

-- state a is final now
pub record SetsFinal (old new : Graph) (a : ℕ) : Type 0 where
  pub states : states new ≡ states old
  pub start : new.start ≡ old.start
  pub final : final_at new a ≡ true
  pub others : (i : ℕ) → i ≢ a → final_at new i ≡ final_at old i
  pub edges : (i : ℕ) → edges_of new i ≡ edges_of old i
  pub moves : (i : ℕ) → moves_of new i ≡ moves_of old i
  pub calls : (i : ℕ) → calls_of new i ≡ calls_of old i
