-- The arcs of a net, and those of a word and of an automaton.
use Rattle.std.specs.Prelude.{ℕ, suc, ◌+◌, List, [], ◌∷◌, ◌++◌, length, Bool, true, false, slice_index_or}
use Rattle.xs_regex.specs.declared.position.Position.{Position}

-- what an arc reads: a symbol of a class, nothing, or all of a group by its number
pub data Label : Type 0 where
  reads : List (ℕ × ℕ) → Label
  passes : Label
  calls : ℕ → Label

-- an arc from a state to another
pub record Arc : Type 0 where
  pub from : ℕ
  pub label : Label
  pub to : ℕ

abbrev pub read : ℕ → List (ℕ × ℕ) → ℕ → Arc
read a class b = record { from = a; label = reads class; to = b }

abbrev pub pass : ℕ → ℕ → Arc
pass a b = record { from = a; label = passes; to = b }

abbrev pub call : ℕ → ℕ → ℕ → Arc
call a group b = record { from = a; label = calls group; to = b }

-- A word's symbols one by one, from the state before it and by a state for each symbol, the states
-- from `first` on.
abbrev pub word_arcs : List ℕ → ℕ → ℕ → List Arc
word_arcs [] before first = []
word_arcs (s ∷ w) before first = read before ((s, s) ∷ []) first ∷ word_arcs w first (suc first)

-- the state after the word, which is that of its last symbol
abbrev pub after_word : List ℕ → ℕ → ℕ → ℕ
after_word [] before first = before
after_word (s ∷ w) before first = after_word w first (suc first)

-- the class of a position
abbrev pub class_at : Position → ℕ → List (ℕ × ℕ)
class_at p k = slice_index_or p.classes k []

-- from a state to each of the positions, whose states are from `first` on
abbrev pub arcs_into : Position → ℕ → ℕ → List ℕ → List Arc
arcs_into p first from [] = []
arcs_into p first from (k ∷ ks) = read from (class_at p k) (first + k) ∷ arcs_into p first from ks

-- from each position, from the j-th on, to those that follow it, by a list for each
abbrev pub arcs_on : Position → ℕ → ℕ → List (List ℕ) → List Arc
arcs_on p first j [] = []
arcs_on p first j (row ∷ rows) = arcs_into p first (first + j) row ++ arcs_on p first (suc j) rows

-- from each of the positions to a state
abbrev pub arcs_out : ℕ → List ℕ → ℕ → List Arc
arcs_out first [] to = []
arcs_out first (k ∷ ks) to = pass (first + k) to ∷ arcs_out first ks to

-- from a state to another, if the flag is set
abbrev pub arc_past : Bool → ℕ → ℕ → List Arc
arc_past true from to = pass from to ∷ []
arc_past false from to = []

-- the state after an automaton, which follows those of its positions
abbrev pub after_automaton : Position → ℕ → ℕ
after_automaton p first = first + length p.classes

-- an automaton: into its first positions, from each position to those that follow it, from its last
-- positions to the state after it, and past it if it accepts the empty word
abbrev pub automaton_arcs : Position → ℕ → ℕ → List Arc
automaton_arcs p before first =
    arcs_into p first before p.first
    ++ (arcs_on p first 0 p.follow
    ++ (arcs_out first p.last (after_automaton p first)
    ++ arc_past p.nullable before (after_automaton p first)))
