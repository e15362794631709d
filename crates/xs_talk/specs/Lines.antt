-- The line that reports an outcome, as bytes, with the line feed that ends it.
use Rattle.std.specs.Prelude.{ℕ, List, [], ◌++◌, codes, decimal, encode_utf8_all}
use Rattle.xs_class.specs.declared.side.Side.{Side}
use Rattle.xs_class.specs.declared.side.Side.TheVariants.{Text, Xml}
use Rattle.xs_pair.specs.declared.ill.Ill.{Ill}
use Rattle.xs_pair.specs.declared.ill.IllRule.{IllRule}
use Rattle.xs_pair.specs.declared.ill.IllRule.TheVariants.{Twice, Undefined, NoStart, NameOnce, Kind, AttrTwice, RootShape, EmptyClass, NotChar, Normal, Unproductive, Loop, FenceChar, FenceInside, FenceOpen}
use Rattle.xs_talk.specs.declared.outcome.Report.{Report}
use Rattle.xs_talk.specs.declared.outcome.Report.TheVariants.{Vertical, Horizontal}
use Rattle.xs_talk.specs.declared.outcome.Outcome.{Outcome}
use Rattle.xs_talk.specs.declared.outcome.Outcome.TheVariants.{Done, Foreign, SheetLong, SheetBad, SheetIll, Heavy, Suspect, NotUtf8, NotXml, Usage, SheetFault, ReadFault, WriteFault, NoteFault, DocLong, ScriptBad, OutlineBad, CertFault, CertLong, CertBad}
use Rattle.xs_talk.specs.Words.{quoted}
use Rattle.xs_talk.specs.Room.{write_fault_line}

-- a number between two texts
abbrev pub numbered : List ℕ → ℕ → List ℕ → List ℕ
numbered before n after = before ++ decimal n ++ after

-- what is said of a rule that fails
abbrev pub rule_words : IllRule → List ℕ
rule_words Twice = codes "name defined twice"
rule_words Undefined = codes "name not defined"
rule_words NoStart = codes "start is not a nonterminal"
rule_words NameOnce = codes "named item not once on both sides"
rule_words Kind = codes "item of a wrong kind"
rule_words AttrTwice = codes "attribute twice"
rule_words RootShape = codes "start is not one element"
rule_words EmptyClass = codes "empty class"
rule_words NotChar = codes "character not allowed"
rule_words Normal = codes "normal spelling does not match"
rule_words Unproductive = codes "derives no word"
rule_words Loop = codes "derives itself"
rule_words FenceChar = codes "fence is not two new characters"
rule_words FenceInside = codes "fence inside a regular expression"
rule_words FenceOpen = codes "fence not closed"

abbrev pub ill_line : Ill → List ℕ
ill_line ill = numbered (codes "sheet: line ") ill.line (codes ": ") ++ rule_words ill.rule ++ codes "\n"

-- the beginning of a report: the side and the nonterminal
abbrev pub report_begin : Side → List ℕ → List ℕ
report_begin Text name = codes "suspect: text: " ++ encode_utf8_all name
report_begin Xml name = codes "suspect: xml: " ++ encode_utf8_all name

-- what two rules at these lines share
abbrev pub shared : List (List ℕ) → ℕ → ℕ → List ℕ → List ℕ
shared names line line2 word = numbered (codes ": lines ") line (codes " and ") ++ decimal line2 ++ codes " share " ++ quoted names word ++ codes "\n"

-- where a rule can be cut in two ways
abbrev pub cut_at : ℕ → ℕ → List ℕ
cut_at line cut = numbered (codes ": line ") line (codes ", cut ") ++ decimal cut ++ codes ": "

-- the words before the cut, in the middle and after it
abbrev pub cut_words : List (List ℕ) → List ℕ → List ℕ → List ℕ → List ℕ
cut_words names x a y = quoted names x ++ codes " " ++ quoted names a ++ codes " " ++ quoted names y ++ codes "\n"

abbrev pub report_line : List (List ℕ) → Report → List ℕ
report_line names (Vertical side name line line2 word) = report_begin side name ++ shared names line line2 word
report_line names (Horizontal side name line cut x a y) = report_begin side name ++ cut_at line cut ++ cut_words names x a y

abbrev pub usage_line : List ℕ
usage_line = codes "usage: xsugar check S | to-xml S [F] | to-text S | round S text [F] | round S xml | trees S M | sheet | sheet 2 | make SEED LINES | upgrade S | prove S | check S cert C | session S | to-tree S text [F] | to-tree S xml | from-tree S text | from-tree S xml | cover S\n"

-- nothing is said of a run that is done, and of one whose notes failed
abbrev pub line : List (List ℕ) → Outcome → List ℕ
line names Done = []
line names (Foreign viable) = numbered (codes "input: foreign after ") viable (codes " symbols\n")
line names SheetLong = codes "sheet: more than 65536 bytes\n"
line names (SheetBad at) = numbered (codes "sheet: byte ") at (codes ": not expected here\n")
line names (SheetIll ill) = ill_line ill
line names (Heavy weight) = numbered (codes "sheet: weight ") weight (codes " is more than 8192\n")
line names (Suspect report) = report_line names report
line names (NotUtf8 at) = numbered (codes "input: byte ") at (codes ": not UTF-8\n")
line names (NotXml at) = numbered (codes "input: character ") at (codes ": not XML\n")
line names Usage = usage_line
line names SheetFault = codes "sheet: cannot be read\n"
line names ReadFault = codes "input: cannot be read\n"
line names (WriteFault written) = write_fault_line written
line names (NoteFault of written) = []
line names DocLong = codes "input: more than 1048576 bytes\n"
line names (ScriptBad bad) = numbered (codes "script: line ") bad (codes ": not expected here\n")
line names (OutlineBad bad) = numbered (codes "outline: line ") bad (codes ": not expected here\n")
line names CertFault = codes "certificate: cannot be read\n"
line names CertLong = codes "certificate: more than 268435456 bytes\n"
line names (CertBad bad) = numbered (codes "certificate: line ") bad (codes ": not expected here\n")
