-- Rows of moves on the way.
use Rattle.std.specs.Prelude.{◌≡◌, ℕ, suc, ◌+◌, ◌*◌, ◌<◌, List, length, Some, slice_get, slice_index_or, ◌++◌, [], Option, Contains, IsTrue}
use Rattle.xs_regex.specs.declared.position.Position.{Position}
use Rattle.xs_regex.specs.Automaton.{HasAt}
use Rattle.xs_atoms.specs.declared.atoms.Atoms.{Atoms}
use Rattle.xs_atoms.specs.Alphabet.{atom_of, class_has}
use Rattle.xs_gram.specs.Grammar.{Grammar, term_of, skip_of}
use Rattle.xs_parse_table.specs.declared.validator.Kind.{Kind}
use Rattle.xs_parse_table.specs.declared.validator.Kind.TheVariants.{Terminals, Ignorables}
use Rattle.xs_parse_table.specs.Moves.{stand, MayEnd, cell_at, IsMove, AreMoves}

-- the list has for each position the number of its class
abbrev pub AreClassesOf : Position → Atoms → List ℕ → Type 0
AreClassesOf p a classes = (k s : ℕ) → k < length p.classes → IsTrue (class_has a (slice_index_or classes k 0) (atom_of a s)) → HasAt p k s

-- the lists with more after them
abbrev pub AreLonger : {A : Type 0} → List A → List A → Type 0
AreLonger {A} old new = (more : List A) × (new ≡ old ++ more)

-- the cell leads to the row of a set of those positions that may come and have the atom
pub record IsChoice (a : Atoms) (classes may : List ℕ) (start : ℕ) (sets : List (List ℕ)) (x cell : ℕ) : Type 0 where
  pub to : ℕ
  pub below : to < length sets
  pub leads : cell ≡ start + suc to * suc a.count
  pub chosen : (k : ℕ) → Contains (slice_index_or sets to []) k → Contains may k × IsTrue (class_has a (slice_index_or classes k 0) x)

-- the cells from one on lead to the rows of sets of those positions that may come and have the atom,
-- for the atoms below a number
abbrev pub AreChoices : Atoms → List ℕ → List ℕ → ℕ → List (List ℕ) → List ℕ → ℕ → ℕ → Type 0
AreChoices a classes may start sets cells first below = (x : ℕ) → x < below → IsChoice a classes may start sets x (cell_at cells (first + x))

-- the cells from one on are the row of this number
pub record IsRow (p : Position) (a : Atoms) (sets : List (List ℕ)) (start i : ℕ) (cells : List ℕ) (first : ℕ) : Type 0 where
  pub moves : (x : ℕ) → x < a.count → IsMove p a sets start i x (cell_at cells (first + x))
  pub ends : cell_at cells (first + a.count) ≡ 1 → MayEnd p (stand sets i)

-- how many leaves of the kind there are, and the automaton of one
abbrev pub count_of : Grammar → Kind → ℕ
count_of g Terminals = length g.terms
count_of g Ignorables = length g.skips

abbrev pub automaton_of : Grammar → Kind → ℕ → Position
automaton_of g Terminals k = (term_of g k).automaton
automaton_of g Ignorables k = (skip_of g k).automaton

-- the starts of rows are those of the leaves' automata, where they have some
abbrev pub AreMovesOf : Grammar → Kind → Atoms → List ℕ → List (Option ℕ) → Type 0
AreMovesOf g kind a cells starts = (k start : ℕ) → k < count_of g kind → slice_get starts k ≡ Some (Some start) → AreMoves (automaton_of g kind k) a cells start
