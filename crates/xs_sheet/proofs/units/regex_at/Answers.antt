use Rattle.std.proofs.Common.{subst}
use Rattle.std.specs.Option.{MatchOption}
use Rattle.xs_regex.specs.declared.regex.Regex.{Regex}
use Rattle.xs_sheet.specs.Regular.{IsRegex}
use Rattle.xs_sheet.proofs.units.regex_at.Goals as goal

pub unreachable-requires : goal.unreachable-requires
unreachable-requires c =
    let none : (r : Regex) → IsRegex c.args.piece.now.text r → ⊥ = subst (λ o. MatchOption o ((r : Regex) → IsRegex c.args.piece.now.text r → ⊥) (λ r. IsRegex c.args.piece.now.text r)) c.in_default.is c.in_ok-regex.ensures in
    none c.requires.0 c.requires.1
