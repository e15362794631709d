use Rattle.xs_regex.specs.Meaning.{IsPatternOf}
use Rattle.xs_pair.proofs.RegexCopies.{pattern_copy, pattern_fit}
use Rattle.xs_pair.proofs.parts.push_regex.Goals as goal

pub returns-in_ok-push-in-Terminal : goal.returns-in_ok-push-in-Terminal
returns-in_ok-push-in-Terminal c =
    let new = c.in_ok-regex-in-Terminal.regex in
    let old : IsPatternOf c.in-Terminal.pattern c.in-Terminal.regex = rw c.in-Terminal.is at c.requires in
    let of : IsPatternOf c.in-Terminal.pattern new = pattern_copy c.in-Terminal.pattern c.in-Terminal.regex new old c.in_ok-regex-in-Terminal.ensures in
    rw c.in-Terminal.is (new, of, pattern_fit c.in-Terminal.pattern new of, c.in_ok-push-in-Terminal.ensures.items)
