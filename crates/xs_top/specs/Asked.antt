-- What the words ask for: a shipped sheet, the upgrade of a sheet, a check by a certificate, or what is to be done by
-- a sheet; and what a job needs.
use Rattle.std.specs.Prelude.{ℕ, List, Bool, true, false}
use Rattle.std.specs.declared.option.Option.{Option}
use Rattle.std.specs.Option.{option_map}
use Rattle.xs_class.specs.declared.side.Side.{Side}
use Rattle.xs_class.specs.declared.side.Side.TheVariants.{Text, Xml}
use Rattle.xs_chars.specs.declared.form.Form.{Form}
use Rattle.xs_chars.specs.declared.form.Form.TheVariants.{AsIs}
use Rattle.xs_words.specs.Command.{Sheet, leiden, Command, check, to_xml, to_text, round_text, round_xml, trees, print_sheet, make, session, to_tree, from_tree, cover, command_of, upgrade, prove, check_cert}
use Rattle.xs_top.specs.declared.asking.Job.{Job}
use Rattle.xs_top.specs.declared.asking.Job.TheVariants.{Check, Turn, Trees, Make, Session, ToTree, FromTree, Cover, Prove}

-- a shipped sheet, as it is; the upgrade of a sheet; the check of a sheet by the certificate in a file; or a job by a
-- sheet
pub data Ask : Type 0 where
  printing : Sheet → Ask
  upgrading : Sheet → Ask
  certifying : Sheet → List ℕ → Ask
  by : Sheet → Job → Ask

-- what a command asks for: a document of one side is read, and one of a side is written; a text is made for the
-- first shipped sheet
abbrev pub ask_of : Command → Ask
ask_of (check sheet) = by sheet Check
ask_of (to_xml sheet form) = by sheet (Turn Text Xml form)
ask_of (to_text sheet) = by sheet (Turn Xml Text AsIs)
ask_of (round_text sheet form) = by sheet (Turn Text Text form)
ask_of (round_xml sheet) = by sheet (Turn Xml Xml AsIs)
ask_of (trees sheet max) = by sheet (Trees max)
ask_of (print_sheet sheet) = printing sheet
ask_of (upgrade sheet) = upgrading sheet
ask_of (make seed lines) = by leiden (Make seed lines)
ask_of (prove sheet) = by sheet Prove
ask_of (check_cert sheet cert) = certifying sheet cert
ask_of (session sheet) = by sheet Session
ask_of (to_tree sheet side form) = by sheet (ToTree side form)
ask_of (from_tree sheet side) = by sheet (FromTree side)
ask_of (cover sheet) = by sheet Cover

-- what the words ask for, or nothing where they are no command
abbrev pub asked : List (List ℕ) → Option Ask
asked words = option_map ask_of (command_of words)

-- a job for which the sheet is checked
abbrev pub searches : Job → Bool
searches (Trees max) = false
searches Cover = false
searches job = true

-- what a job is done with: the sheet alone; the text that is made of a seed; or what is read of the input, which is a
-- document of a side, a text in a form, an edit script, or an outline
pub data Reading : Type 0 where
  of_nothing : Reading
  of_made : ℕ → ℕ → Reading
  of_document : Side → Form → Reading
  of_script : Reading
  of_outline : Reading

abbrev pub read_for : Job → Reading
read_for (Turn from to form) = of_document from form
read_for (Trees max) = of_document Text AsIs
read_for (Make seed lines) = of_made seed lines
read_for Session = of_script
read_for (ToTree from form) = of_document from form
read_for (FromTree to) = of_outline
read_for job = of_nothing
