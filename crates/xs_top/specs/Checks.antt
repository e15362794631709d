-- The check that a sheet is not ambiguous: what it gives, and what is reported where it fails.
use Rattle.std.specs.Prelude.{◌≡◌, ◌<◌, ℕ, List, [], length, slice_index_or}
use Rattle.xs_class.specs.declared.side.Side.{Side}
use Rattle.xs_gram.specs.declared.suspect.Suspect.{Suspect as Found}
use Rattle.xs_gram.specs.declared.suspect.Suspect.TheVariants.{Vertical, Horizontal}
use Rattle.xs_gram.specs.Grammar.{rule_of}
use Rattle.xs_gram.specs.Languages.{IsUnique}
use Rattle.xs_check_laws.specs.Acceptance.{IsAccepted, IsLight, IsFirstHeavy, Shows}
use Rattle.xs_unique.specs.Reasons.{shown}
use Rattle.xs_pair.specs.Grammars.{Pair, grammar_of}
use Rattle.xs_talk.specs.declared.outcome.Report.{Report}
use Rattle.xs_talk.specs.declared.outcome.Report.TheVariants as R
use Rattle.xs_talk.specs.declared.outcome.Outcome.{Outcome}
use Rattle.xs_talk.specs.declared.outcome.Outcome.TheVariants.{Heavy, Suspect}

-- the two grammars are accepted, and each word of either side has at most one derivation
pub record IsSure (p : Pair) : Type 0 where
  pub accepted : IsAccepted p.text p.xml
  pub text : IsUnique p.text
  pub xml : IsUnique p.xml

-- the name of a production's nonterminal, and the production's line
abbrev pub name_at : Pair → Side → ℕ → List ℕ
name_at p side rule = slice_index_or p.nons (rule_of (grammar_of p side) rule).non []

abbrev pub line_at : Pair → ℕ → ℕ
line_at p rule = slice_index_or p.lines rule 0

-- a suspect, with a name and lines in place of numbers
abbrev pub report_at : Pair → Found → Report
report_at p (Vertical side rule rule2 word) = R.Vertical side (name_at p side rule) (line_at p rule) (line_at p rule2) word
report_at p (Horizontal side rule cut x a y) = R.Horizontal side (name_at p side rule) (line_at p rule) cut x a y

-- the productions that a suspect names are there
abbrev pub HasRules : Pair → Found → Type 0
HasRules p (Vertical side rule rule2 word) = (rule < length (grammar_of p side).rules) × (rule2 < length (grammar_of p side).rules)
HasRules p (Horizontal side rule cut x a y) = rule < length (grammar_of p side).rules

-- no rule is heavy, and the report is that of the first suspect
pub record IsReported (p : Pair) (report : Report) : Type 0 where
  pub found : Found
  pub light_text : IsLight p.text
  pub light_xml : IsLight p.xml
  pub shows : Shows p.text p.xml (shown found)
  pub is : report ≡ report_at p found

-- why a sheet is not accepted
abbrev pub IsUnsure : Pair → Outcome → Type 0
IsUnsure p (Heavy weight) = IsFirstHeavy p.text p.xml weight
IsUnsure p (Suspect report) = IsReported p report
IsUnsure p other = ⊥
