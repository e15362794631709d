use Rattle.std.proofs.Common.{◌+◌, arith, eq-eqb}
use Rattle.std.proofs.lemmas.List.{get_or_read}
use Rattle.xs_coarse_net.specs.Going.{goes_none}
use Rattle.xs_coarse_net.proofs.Going.{grows_none, grows_on}
use Rattle.xs_coarse_net.proofs.Laying.{symbol_more, word_done}
use Rattle.xs_coarse_net.proofs.leaf.lay_word.Goals as goal

pub symbols-init : goal.symbols-init
symbols-init c = record { grows = grows_none; goes = λ plain. goes_none; last = λ e some. absurd (omega (arith, some)) }

pub returns-clause-goes : goal.returns-clause-goes
returns-clause-goes c = word_done c.args.site.now.g.now.fences c.args.site.now.labels.now c.symbols.draft c.args.word.now c.symbols.place c.args.from c.symbols.at c.args.to c.symbols-test.false (c.symbols.invariant.last (omega (arith, c.symbols-test.false, c.symbols.auto.place-end)) (omega (arith, c.requires.some, c.symbols-test.false))) c.symbols.invariant.goes

pub symbols-preserved : goal.symbols-preserved
symbols-preserved c =
    let w = c.args.word.now in
    let i = c.symbols.place in
    let same = c.state_or.ensures.same in
    let grows = rw same at c.in_ok-lay_symbol.ensures.grows in
    record {
      grows = grows_on c.symbols.invariant.grows grows;
      goes = symbol_more c.args.site.now.g.now.fences c.args.site.now.labels.now c.symbols.draft _ w i c.args.from c.symbols.at c.in_ok-next.next c.index-word-place.result c.symbols-test.true (get_or_read w i c.index-word-place.result c.symbols-test.true c.index-word-place.is 0) c.symbols.invariant.goes grows c.in_ok-lay_symbol.ensures.reads;
      last = λ e some. c.in_ok-next.ensures.last (eq-eqb (i + 1) _ e);
    }
