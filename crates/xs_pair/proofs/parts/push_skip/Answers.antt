use Rattle.xs_regex.specs.Meaning.{IsPatternOf}
use Rattle.xs_pair.proofs.RegexCopies.{pattern_copy, pattern_fit}
use Rattle.xs_pair.proofs.parts.push_skip.Goals as goal

pub returns-in_ok-push-in-Ignorable : goal.returns-in_ok-push-in-Ignorable
returns-in_ok-push-in-Ignorable c =
    let new = c.in_ok-regex-in-Ignorable.regex in
    let old : IsPatternOf c.in-Ignorable.pattern c.in-Ignorable.regex = rw c.in-Ignorable.is at c.requires in
    let of : IsPatternOf c.in-Ignorable.pattern new = pattern_copy c.in-Ignorable.pattern c.in-Ignorable.regex new old c.in_ok-regex-in-Ignorable.ensures in
    rw c.in-Ignorable.is (record { regex = new; normal = c.in_ok-normal-in-Ignorable.normal }, of, pattern_fit c.in-Ignorable.pattern new of, c.in_ok-normal-in-Ignorable.ensures, c.in_ok-push-in-Ignorable.ensures.items)
