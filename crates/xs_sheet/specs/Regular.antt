-- The regular expression of a pattern.
use Rattle.std.specs.Prelude.{ℕ, List}
use Rattle.xs_regex.specs.declared.regex.Regex.{Regex}
use Rattle.xs_regex.specs.Meaning.{IsPatternOf}

-- the pattern is read as this regular expression
abbrev pub IsRegex : List ℕ → Regex → Type 0
IsRegex pattern regex = IsPatternOf pattern regex
