use Rattle.std.proofs.Common.{List, ℕ, sym, subst}
use Rattle.xs_regex.specs.Meaning.{IsPatternOf}
use Rattle.xs_pair.proofs.RegexCopies.{pattern_copy}
use Rattle.xs_pair.proofs.copying.copied_ignorable.Goals as goal

pub returns-clause-regex : goal.returns-clause-regex
returns-clause-regex c =
    subst (λ (p : List ℕ). IsPatternOf p c.in_ok-regex.regex) (sym c.in_ok-pattern.ensures) (pattern_copy c.args.pattern.now c.args.regex.now c.in_ok-regex.regex c.requires c.in_ok-regex.ensures)
