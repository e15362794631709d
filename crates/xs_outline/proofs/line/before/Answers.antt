use Rattle.std.proofs.Common.{◌∙◌}
use Rattle.xs_outline.proofs.Cuts.{lacks_more}
use Rattle.xs_outline.proofs.line.before.Goals as goal

pub symbols-preserved : goal.symbols-preserved
symbols-preserved c = lacks_more c.args.stop c.args.text.now c.symbols.place _ c.symbols-test.true c.index-text-place.is (λ e. c.if-number-stop.false (c.number.ensures ∙ e)) c.symbols.invariant
