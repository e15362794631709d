-- A run of the whole program over bytes in memory.
use Rattle.std.specs.Prelude.{◌≡◌, ℕ, List, [], map, Some, codes}
use Rattle.std.specs.declared.option.Option.{Option}
use Rattle.std.specs.List.{Any}
use Rattle.std.specs.Str.{IsUtf8}
use Rattle.xs_io.specs.Causes.{Rose}
use Rattle.xs_talk.specs.declared.outcome.Outcome.{Outcome}
use Rattle.xs_talk.specs.declared.outcome.Outcome.TheVariants.{Done, Usage, WriteFault, NoteFault}
use Rattle.xs_top.specs.Devices.{Run}
use Rattle.xs_top.specs.Ran.{Told, IsComplete}
use Rattle.xs_c.specs.declared.answer.Answer.{Answer}
use Rattle.xs_c.specs.declared.running.Word.{Word}
use Rattle.xs_c.specs.Answers.{IsTold, IsRefusal, IsWanting}

-- the bytes of the words
abbrev pub said : List Word → List (List ℕ)
said words = map (λ (w : Word). w.bytes.now) words

-- one of the words is no UTF-8
abbrev pub HasNoText : List (List ℕ) → Type 0
HasNoText words = Any (λ (w : List ℕ). IsUtf8 w → ⊥) words

-- A run of these words ended so. Its files `sheet` and `certificate` have these bytes, its input is this document, none of
-- which failed, and out and notes took these bytes.
pub record IsRan (words : List (List ℕ)) (sheet certificate document : List ℕ) (o : Outcome) (written noted : List ℕ) : Type 0 where
  pub run : Run
  pub words_are : run.words ≡ words
  pub files : List ℕ → Option (List ℕ)
  pub files_are : run.shelf.files ≡ Some files
  pub sheet_is : files (codes "sheet") ≡ Some sheet
  pub certificate_is : files (codes "certificate") ≡ Some certificate
  pub sheet_sure : Rose (run.shelf.name_before (codes "sheet")) (run.shelf.name_now (codes "sheet")) → ⊥
  pub certificate_sure : Rose (run.shelf.name_before (codes "certificate")) (run.shelf.name_now (codes "certificate")) → ⊥
  pub input : run.input.left_before ≡ Some document
  pub input_sure : Rose run.input.faults_before run.input.faults_now → ⊥
  pub taken_before : run.out.taken_before ≡ Some []
  pub taken_now : run.out.taken_now ≡ Some written
  pub noted_before : run.notes.taken_before ≡ Some []
  pub noted_now : run.notes.taken_now ≡ Some noted
  pub told : Told run o
  pub complete : IsComplete run o

-- What is told of a run: what it wrote where it is done, what it reported where it is not; and a fault of out or notes, which
-- are in memory, as want of it.
abbrev pub IsEnded : Outcome → List ℕ → List ℕ → Answer → Answer → ℕ → Type 0
IsEnded Done written noted before after status = IsTold written Done after status
IsEnded (WriteFault count) written noted before after status = IsWanting before after status
IsEnded (NoteFault of count) written noted before after status = IsWanting before after status
IsEnded o written noted before after status = IsTold noted o after status

-- How a run ended: its words are no texts; or it ran, and its end is told; or memory ran out.
pub data IsRunDone (words : List (List ℕ)) (sheet certificate document : List ℕ) (before after : Answer) (status : ℕ) : Type 0 where
  no_text : HasNoText words → IsRefusal [] Usage before after status → IsRunDone words sheet certificate document before after status
  ran : (o : Outcome) (written noted : List ℕ) → IsRan words sheet certificate document o written noted → IsEnded o written noted before after status → IsRunDone words sheet certificate document before after status
  no_memory : IsWanting before after status → IsRunDone words sheet certificate document before after status
