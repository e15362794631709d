-- Runs over devices in memory, and what two of them say of each other.
use Rattle.std.specs.Prelude.{◌≡◌, ◌⊎◌, ⊤, ℕ, List, [], Some, codes}
use Rattle.std.specs.declared.option.Option.{Option}
use Rattle.xs_io.specs.Causes.{Rose}
use Rattle.xs_class.specs.declared.side.Side.TheVariants.{Text}
use Rattle.xs_chars.specs.declared.form.Form.TheVariants.{AsIs}
use Rattle.xs_chars.specs.Text.{text_of}
use Rattle.xs_gram.specs.Derivations.{Derivation}
use Rattle.xs_gram.specs.Languages.{Derives}
use Rattle.xs_pair.specs.Grammars.{Pair}
use Rattle.xs_talk.specs.declared.outcome.Outcome.{Outcome}
use Rattle.xs_talk.specs.declared.outcome.Outcome.TheVariants.{Done, WriteFault, NoteFault}
use Rattle.xs_top.specs.Devices.{Run}
use Rattle.xs_top.specs.Sheets.{IsPairOfBytes}
use Rattle.xs_top.specs.Ran.{Told}
use Rattle.xs_top.specs.Runs.{HaveNoIgnorable}
use Rattle.xs_top.specs.Laws.{IsDecided}

-- A run of these words ended so. Its file `sheet` has these bytes and did not fail, its input is this document and did not
-- fail, and out took these bytes.
pub record IsRan (words : List (List ℕ)) (sheet document : List ℕ) (o : Outcome) (written : List ℕ) : Type 0 where
  pub run : Run
  pub words_are : run.words ≡ words
  pub files : List ℕ → Option (List ℕ)
  pub files_are : run.shelf.files ≡ Some files
  pub sheet_is : files (codes "sheet") ≡ Some sheet
  pub sheet_sure : Rose (run.shelf.name_before (codes "sheet")) (run.shelf.name_now (codes "sheet")) → ⊥
  pub input : run.input.left_before ≡ Some document
  pub input_sure : Rose run.input.faults_before run.input.faults_now → ⊥
  pub taken_before : run.out.taken_before ≡ Some []
  pub taken_now : run.out.taken_now ≡ Some written
  pub told : Told run o

-- a sink failed
abbrev pub IsSinkFault : Outcome → Type 0
IsSinkFault (WriteFault written) = ⊤
IsSinkFault (NoteFault of written) = ⊤
IsSinkFault o = ⊥

-- it is done, or a sink failed
abbrev pub IsDoneOrSinkFault : Outcome → Type 0
IsDoneOrSinkFault o = (o ≡ Done) ⊎ IsSinkFault o

-- no derivation of the text has an ignorable
abbrev pub HasNoIgnorable : List ℕ → List ℕ → Type 0
HasNoIgnorable sheet text = (p : Pair) (d : Derivation) → IsPairOfBytes sheet p → Derives p.text (text_of text AsIs) d → HaveNoIgnorable d.parts

-- the bytes spell two grammars, by which the outcome is decided, or a sink failed
pub record IsDecidedBy (sheet text : List ℕ) (o : Outcome) : Type 0 where
  pub pair : Pair
  pub is_pair : IsPairOfBytes sheet pair
  pub decided : IsDecided pair Text (text_of text AsIs) o ⊎ IsSinkFault o
