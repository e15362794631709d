-- Edits of a document: a stretch of it is replaced.
use Rattle.std.specs.Prelude.{◌≡◌, ℕ, ◌+◌, ◌<◌, ◌≤◌, List, [], ◌++◌, length, take, drop}
use Rattle.xs_edit.specs.declared.fault.EditFault.{EditFault}
use Rattle.xs_edit.specs.declared.fault.EditFault.TheVariants.{Outside, Long, Memory}

-- the document with `cut` symbols from a place on replaced by others
abbrev pub edited : List ℕ → ℕ → ℕ → List ℕ → List ℕ
edited doc at cut put = take at doc ++ put ++ drop (at + cut) doc

-- how many symbols a document may have
abbrev pub document_limit : ℕ
document_limit = 1048576

-- the symbols that are replaced are there, and the document does not get too long
pub record CanEdit (doc : List ℕ) (at cut : ℕ) (put : List ℕ) : Type 0 where
  pub inside : at + cut ≤ length doc
  pub short : length (edited doc at cut put) ≤ document_limit

-- why there was no edit, and the document after that: it is as it was, but empty after want of memory
abbrev pub IsUndone : List ℕ → ℕ → ℕ → List ℕ → List ℕ → EditFault → Type 0
IsUndone doc at cut put new Outside = (length doc < at + cut) × (new ≡ doc)
IsUndone doc at cut put new Long = (at + cut ≤ length doc) × (document_limit < length (edited doc at cut put)) × (new ≡ doc)
IsUndone doc at cut put new Memory = CanEdit doc at cut put × (new ≡ [])
