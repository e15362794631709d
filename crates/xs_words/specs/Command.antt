-- The command that a list of words is.
use Rattle.std.specs.Prelude.{ℕ, List, [], ◌∷◌, None, Some, codes, ◌&&◌, if◌then◌else◌}
use Rattle.std.specs.declared.option.Option.{Option}
use Rattle.std.specs.Option.{option_map}
use Rattle.std.specs.Str.{bytes_eq}
use Rattle.xs_class.specs.declared.side.Side.{Side}
use Rattle.xs_class.specs.declared.side.Side.TheVariants.{Text, Xml}
use Rattle.xs_chars.specs.declared.form.Form.{Form}
use Rattle.xs_chars.specs.declared.form.Form.TheVariants.{AsIs, Nfc, Nfd}
use Rattle.xs_words.specs.Number.{number_within}

-- a sheet: one of the two that the program includes, or that of a file of this name
pub data Sheet : Type 0 where
  leiden : Sheet
  leiden2 : Sheet
  file : List ℕ → Sheet

-- a command, with its sheet, its side, its form, the name of a certificate's file, and its numbers: a
-- greatest number of trees, a seed and a number of lines
pub data Command : Type 0 where
  check : Sheet → Command
  to_xml : Sheet → Form → Command
  to_text : Sheet → Command
  round_text : Sheet → Form → Command
  round_xml : Sheet → Command
  trees : Sheet → ℕ → Command
  print_sheet : Sheet → Command
  make : ℕ → ℕ → Command
  upgrade : Sheet → Command
  prove : Sheet → Command
  check_cert : Sheet → List ℕ → Command
  session : Sheet → Command
  to_tree : Sheet → Side → Form → Command
  from_tree : Sheet → Side → Command
  cover : Sheet → Command

abbrev pub sheet_of : List ℕ → Sheet
sheet_of word = if bytes_eq word (codes "@leiden") then leiden else (if bytes_eq word (codes "@leiden2") then leiden2 else file word)

abbrev pub form_of : List ℕ → Option Form
form_of word = if bytes_eq word (codes "asis") then Some AsIs else (if bytes_eq word (codes "nfc") then Some Nfc else (if bytes_eq word (codes "nfd") then Some Nfd else None))

abbrev pub side_of : List ℕ → Option Side
side_of word = if bytes_eq word (codes "text") then Some Text else (if bytes_eq word (codes "xml") then Some Xml else None)

-- sheet 2
abbrev pub printed_of : List ℕ → Option Command
printed_of number = if bytes_eq number (codes "2") then Some (print_sheet leiden2) else None

-- check SHEET, to-xml SHEET, to-text SHEET, session SHEET, cover SHEET, upgrade SHEET, prove SHEET, sheet 2
abbrev pub command_of_two : List ℕ → List ℕ → Option Command
command_of_two verb sheet = if bytes_eq verb (codes "check") then Some (check (sheet_of sheet)) else (if bytes_eq verb (codes "to-xml") then Some (to_xml (sheet_of sheet) AsIs) else (if bytes_eq verb (codes "to-text") then Some (to_text (sheet_of sheet)) else (if bytes_eq verb (codes "session") then Some (session (sheet_of sheet)) else (if bytes_eq verb (codes "cover") then Some (cover (sheet_of sheet)) else (if bytes_eq verb (codes "upgrade") then Some (upgrade (sheet_of sheet)) else (if bytes_eq verb (codes "prove") then Some (prove (sheet_of sheet)) else (if bytes_eq verb (codes "sheet") then printed_of sheet else None)))))))

-- round SHEET text, round SHEET xml
abbrev pub round_of : List ℕ → List ℕ → Option Command
round_of sheet side = if bytes_eq side (codes "text") then Some (round_text (sheet_of sheet) AsIs) else (if bytes_eq side (codes "xml") then Some (round_xml (sheet_of sheet)) else None)

-- make, where both its words are numbers in their range
abbrev pub make_of : Option ℕ → Option ℕ → Option Command
make_of None lines = None
make_of (Some seed) None = None
make_of (Some seed) (Some lines) = Some (make seed lines)

-- to-tree SHEET text, to-tree SHEET xml
abbrev pub to_tree_of : List ℕ → Option Side → Option Command
to_tree_of sheet None = None
to_tree_of sheet (Some side) = Some (to_tree (sheet_of sheet) side AsIs)

-- to-xml SHEET FORM, round SHEET SIDE, trees SHEET MAX, make SEED LINES, to-tree SHEET SIDE, from-tree SHEET SIDE
abbrev pub command_of_three : List ℕ → List ℕ → List ℕ → Option Command
command_of_three verb first second = if bytes_eq verb (codes "to-xml") then option_map (to_xml (sheet_of first)) (form_of second) else (if bytes_eq verb (codes "round") then round_of first second else (if bytes_eq verb (codes "trees") then option_map (trees (sheet_of first)) (number_within 1 1000 second) else (if bytes_eq verb (codes "make") then make_of (number_within 0 2147483647 first) (number_within 1 2000 second) else (if bytes_eq verb (codes "to-tree") then to_tree_of first (side_of second) else (if bytes_eq verb (codes "from-tree") then option_map (from_tree (sheet_of first)) (side_of second) else None)))))

-- round SHEET text FORM, to-tree SHEET text FORM, check SHEET cert FILE
abbrev pub command_of_four : List ℕ → List ℕ → List ℕ → List ℕ → Option Command
command_of_four verb sheet third last = if bytes_eq verb (codes "round") && bytes_eq third (codes "text") then option_map (round_text (sheet_of sheet)) (form_of last) else (if bytes_eq verb (codes "to-tree") && bytes_eq third (codes "text") then option_map (to_tree (sheet_of sheet) Text) (form_of last) else (if bytes_eq verb (codes "check") && bytes_eq third (codes "cert") then Some (check_cert (sheet_of sheet) last) else None))

-- the command that the words are, or none; a text is taken as it is where no form is named
abbrev pub command_of : List (List ℕ) → Option Command
command_of (verb ∷ []) = if bytes_eq verb (codes "sheet") then Some (print_sheet leiden) else None
command_of (verb ∷ sheet ∷ []) = command_of_two verb sheet
command_of (verb ∷ first ∷ second ∷ []) = command_of_three verb first second
command_of (verb ∷ sheet ∷ third ∷ last ∷ []) = command_of_four verb sheet third last
command_of words = None
