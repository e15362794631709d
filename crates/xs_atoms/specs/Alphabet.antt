-- What the atoms of a grammar are.
use Rattle.std.specs.Prelude.{◌≡◌, ◌↔◌, ℕ, ◌+◌, ◌*◌, ◌/◌, ◌%◌, ◌<◌, Bool, false, List, [], ◌++◌, length, map, replicate, slice_get, slice_index_or, IsTrue}
use Rattle.xs_regex.specs.Automaton.{HasAt}
use Rattle.xs_gram.specs.Grammar.{Grammar, term_of, skip_of}
use Rattle.xs_atoms.specs.declared.atoms.Atoms.{Atoms}
use Rattle.xs_atoms.specs.Fixed.{IsFixed}
use Rattle.xs_atoms.specs.Pages.{cell_of}

-- the atom of a symbol
abbrev pub atom_of : Atoms → ℕ → ℕ
atom_of a s = cell_of a.cells.items a.rest (s % 256) (slice_get a.pages.items (s / 256))

-- how many atoms, and how many classes there are
abbrev pub count_of : Atoms → ℕ
count_of a = a.count

abbrev pub width_of : Atoms → ℕ
width_of a = a.width

-- the numbers of the classes at the positions of a terminal's automaton, and of an ignorable's
abbrev pub term_classes : Atoms → ℕ → List ℕ
term_classes a t = slice_index_or a.terms.items t []

abbrev pub skip_classes : Atoms → ℕ → List ℕ
skip_classes a j = slice_index_or a.skips.items j []

abbrev pub term_class : Atoms → ℕ → ℕ → ℕ
term_class a t k = slice_index_or (term_classes a t) k 0

abbrev pub skip_class : Atoms → ℕ → ℕ → ℕ
skip_class a j k = slice_index_or (skip_classes a j) k 0

-- whether a class has the symbols of an atom
abbrev pub class_has : Atoms → ℕ → ℕ → Bool
class_has a class atom = slice_index_or a.rows.items (a.width * atom + class) false

-- the atoms of the symbols of a document, and then that of its end as often as the padding says
abbrev pub word_of : Atoms → List ℕ → ℕ → List ℕ
word_of a doc padding = map (atom_of a) doc ++ replicate padding (count_of a)

-- A class of the grammar has a symbol exactly where its row has the symbol's atom, the atom of a symbol
-- of a fixed word is that of no other symbol, and all atoms are below their number.
pub record AreAtoms (g : Grammar) (a : Atoms) : Type 0 where
  pub terms : (t k s : ℕ) → t < length g.terms → k < length (term_of g t).automaton.classes → HasAt (term_of g t).automaton k s ↔ IsTrue (class_has a (term_class a t k) (atom_of a s))
  pub skips : (j k s : ℕ) → j < length g.skips → k < length (skip_of g j).automaton.classes → HasAt (skip_of g j).automaton k s ↔ IsTrue (class_has a (skip_class a j k) (atom_of a s))
  pub fixed : (s x : ℕ) → IsFixed g x → atom_of a s ≡ atom_of a x → s ≡ x
  pub below : (s : ℕ) → atom_of a s < a.count
  pub few : a.count < 65535
