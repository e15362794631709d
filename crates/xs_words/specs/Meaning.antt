-- What a command of the program means: the words that it borrows, read.
use Rattle.std.specs.Prelude.{◌≤◌}
use Rattle.xs_words.specs.declared.command.SheetName.{SheetName}
use Rattle.xs_words.specs.declared.command.SheetName.TheVariants.{Leiden, Leiden2, File}
use Rattle.xs_words.specs.declared.command.Command.{Command as Asked}
use Rattle.xs_words.specs.declared.command.Command.TheVariants.{Check, ToXml, ToText, RoundText, RoundXml, Trees, PrintSheet, Make, Session, ToTree, FromTree, Cover, PrintSheet2, Upgrade, Prove, CheckCert}
use Rattle.xs_words.specs.Command.{Sheet, leiden, file, Command, check, to_xml, to_text, round_text, round_xml, trees, print_sheet, make, session, to_tree, from_tree, cover, leiden2, upgrade, prove, check_cert}

abbrev pub sheet_meant : SheetName → Sheet
sheet_meant Leiden = leiden
sheet_meant Leiden2 = leiden2
sheet_meant (File name) = file name.now

abbrev pub meant : Asked → Command
meant (Check sheet) = check (sheet_meant sheet)
meant (ToXml sheet form) = to_xml (sheet_meant sheet) form
meant (ToText sheet) = to_text (sheet_meant sheet)
meant (RoundText sheet form) = round_text (sheet_meant sheet) form
meant (RoundXml sheet) = round_xml (sheet_meant sheet)
meant (Trees sheet max) = trees (sheet_meant sheet) max
meant PrintSheet = print_sheet leiden
meant PrintSheet2 = print_sheet leiden2
meant (Make seed lines) = make seed lines
meant (Upgrade sheet) = upgrade (sheet_meant sheet)
meant (Prove sheet) = prove (sheet_meant sheet)
meant (CheckCert sheet cert) = check_cert (sheet_meant sheet) cert.now
meant (Session sheet) = session (sheet_meant sheet)
meant (ToTree sheet side form) = to_tree (sheet_meant sheet) side form
meant (FromTree sheet side) = from_tree (sheet_meant sheet) side
meant (Cover sheet) = cover (sheet_meant sheet)

-- a text that is made has 1 to 2,000 lines
abbrev pub HasLines : Asked → Type 0
HasLines (Make seed lines) = (1 ≤ lines) × (lines ≤ 2000)
HasLines other = Unit {0}
