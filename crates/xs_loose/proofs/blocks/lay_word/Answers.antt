use Rattle.std.proofs.Common.{refl, sym, arith}
use Rattle.std.proofs.lemmas.List.{get_or_read, take_all}
use Rattle.xs_loose.proofs.Growing.{grows_none}
use Rattle.xs_loose.proofs.Pushing.{word_more, after_more}
use Rattle.xs_loose.proofs.blocks.lay_word.Goals as goal

pub symbols-init : goal.symbols-init
symbols-init c = record { from = refl; low = c.requires.before; grows = grows_none c.args.net.now }

pub symbols-preserved : goal.symbols-preserved
symbols-preserved c =
    let w = c.args.word.now in
    let i = c.symbols.place in
    let step = rw c.symbols.invariant.from at c.in_ok-read_symbol.ensures in
    record {
      from = sym (after_more w i c.args.before c.args.at c.symbols-test.true);
      low = omega (arith, c.requires.room, c.symbols-test.true, c.symbols.invariant.grows.states, c.in_ok-read_symbol.ensures.states);
      grows = word_more w i c.index-word-place.result c.args.before c.args.at c.args.net.now c.symbols.net _ c.symbols-test.true (get_or_read w i c.index-word-place.result c.symbols-test.true c.index-word-place.is 0) c.symbols.invariant.grows step;
    }

pub returns-clause-after : goal.returns-clause-after
returns-clause-after c = rw (take_all c.symbols.place c.args.word.now c.symbols-test.false) at c.symbols.invariant.from

pub returns-clause-grows : goal.returns-clause-grows
returns-clause-grows c = rw (take_all c.symbols.place c.args.word.now c.symbols-test.false) at c.symbols.invariant.grows
