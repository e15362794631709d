use Rattle.std.proofs.Common.{◌∙◌, sym, subst, arith}
use Rattle.std.proofs.lemmas.List.{take_all}
use Rattle.xs_outline.specs.Lines.{Lacks}
use Rattle.xs_outline.proofs.Cuts.{lacks_more, no_name_all, no_name_feed}
use Rattle.xs_outline.proofs.line.cut_line.Goals as goal

pub returns-then-number-eq-LINE_FEED : goal.returns-then-number-eq-LINE_FEED
returns-then-number-eq-LINE_FEED c = no_name_feed c.args.text.now c.symbols.place _ c.symbols.invariant.space c.symbols-test.true c.index-text-place.is (sym c.number-number.ensures ∙ c.if-number-eq-LINE_FEED.true)

pub symbols-preserved : goal.symbols-preserved
symbols-preserved c = record {
  space = lacks_more 32 c.args.text.now c.symbols.place _ c.symbols-test.true c.index-text-place.is (λ e. c.if-number-eq-SPACE.false (c.number-number.ensures ∙ e)) c.symbols.invariant.space;
  feed = lacks_more 10 c.args.text.now c.symbols.place _ c.symbols-test.true c.index-text-place.is (λ e. c.if-number-eq-LINE_FEED.false (c.number-number.ensures ∙ e)) c.symbols.invariant.feed;
}

pub returns : goal.returns
returns c = no_name_all c.args.text.now (subst (Lacks 32) (take_all c.symbols.place c.args.text.now (omega (arith, c.symbols-test.false))) c.symbols.invariant.space)
