-- What a validator keeps of its grammar, and when it is ready for a document.
use Rattle.std.specs.Prelude.{◌≡◌, ◌≤◌, ℕ, List, length, map, ◌++◌, Option, None, Some, slice_range}
use Rattle.xs_regex.specs.declared.position.Position.{Position}
use Rattle.xs_regex.specs.Automaton.{Accepts}
use Rattle.xs_gram.specs.Grammar.{Grammar}
use Rattle.xs_atoms.specs.declared.atoms.Atoms.{Atoms}
use Rattle.xs_atoms.specs.Alphabet.{AreAtoms, atom_of}
use Rattle.xs_parse_table.specs.declared.validator.Validator.{Validator}
use Rattle.xs_parse_table.specs.Moves.{Says}
use Rattle.xs_parse_table.specs.declared.validator.Kind.TheVariants.{Terminals, Ignorables}
use Rattle.xs_parse_table.specs.Rows.{AreMovesOf}

-- the rows of terminals and ignorables are those of their automata, where they have some
pub record IsValidatorOf (g : Grammar) (a : Atoms) (v : Validator) : Type 0 where
  pub count : v.count ≡ a.count
  pub terms : AreMovesOf g Terminals a v.cells.items v.terms.items
  pub skips : AreMovesOf g Ignorables a v.cells.items v.skips.items

-- what the moves from a cell say of words of the document, the automaton accepts
abbrev pub AreSaid : Validator → Option ℕ → Position → List ℕ → List ℕ → Type 0
AreSaid v None p doc word = Unit {0}
AreSaid v (Some start) p doc word = (at to : ℕ) → to ≤ length doc → at ≤ to → Says v.cells.items v.count start (slice_range word at to) → Accepts p (slice_range doc at to)

-- the validator is of the grammar and its atoms, and those of the document's symbols come first in a
-- list
pub record IsReady (g : Grammar) (v : Validator) (doc word : List ℕ) : Type 0 where
  pub atoms : Atoms
  pub are : AreAtoms g atoms
  pub of : IsValidatorOf g atoms v
  pub more : List ℕ
  pub front : word ≡ map (atom_of atoms) doc ++ more
