-- The document of a script, of which a session has read an older state.
use Rattle.std.specs.Prelude.{◌≡◌, ℕ, ◌+◌, ◌<◌, ◌≤◌, List, length, take, MatchOption}
use Rattle.std.specs.declared.option.Option.{Option}
use Rattle.xs_pair.specs.Grammars.{Pair}
use Rattle.xs_edit.specs.declared.fault.EditFault.{EditFault}
use Rattle.xs_edit.specs.declared.fault.EditFault.TheVariants.{Outside, Long, Memory}
use Rattle.xs_edit.specs.Edits.{edited, document_limit}
use Rattle.xs_edit.specs.Sessions.{Editing}
use Rattle.xs_script.specs.Playing.{IsTreeAnswer}

-- two grammars, a document of the text side, and the document that the session has read
pub record Drafting : Type 0 where
  pub pair : Pair
  pub document : List ℕ
  pub read : List ℕ

-- what a draft keeps: that many first symbols are those of the session's document, and a line, where there is one, is
-- that of the derivation
pub record IsDraft (pair : Pair) (session : Editing) (doc : List ℕ) (same : ℕ) (line : Option (List ℕ)) : Type 0 where
  pub of : session.pair ≡ pair
  pub front : take same session.document ≡ take same doc
  pub within : same ≤ length doc
  pub there : same ≤ length session.document
  pub short : length doc ≤ document_limit
  pub old : length session.document ≤ document_limit
  pub told : MatchOption line (Unit {0}) (IsTreeAnswer pair doc)

-- why there was no edit
abbrev pub IsRefused : List ℕ → ℕ → ℕ → List ℕ → EditFault → Type 0
IsRefused doc at cut put Outside = length doc < at + cut
IsRefused doc at cut put Long = (at + cut ≤ length doc) × (document_limit < length (edited doc at cut put))
IsRefused doc at cut put Memory = Unit {0}
