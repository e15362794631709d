use Rattle.std.proofs.Common.{sym, ◌∙◌}
use Rattle.xs_horiz.proofs.search.overlap_at.Goals as goal

pub returns-clause-none : goal.returns-clause-none
returns-clause-none c = λ o. c.requires.doubts c.args.cut (sym c.is_doubted.ensures ∙ c.if-is_doubted.false) o.0 o.1 o.2 o.3
