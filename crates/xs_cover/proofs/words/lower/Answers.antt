use Rattle.std.proofs.Common.{◌+◌, length, sym, refl, arith}
use Rattle.xs_cover.specs.Tables.{at}
use Rattle.xs_cover.proofs.Ways.{follow_below, in_row, settled_low, lower_rests}
use Rattle.xs_cover.proofs.words.lower.Goals as goal

pub lowest-requires : goal.lowest-requires
lowest-requires c = follow_below c.args.automaton.now c.args.position (length c.args.rests.now) c.followers.result.now c.requires.formed (sym c.requires.rests.counted) c.followers.ensures

pub bounds-rests-next : goal.bounds-rests-next
bounds-rests-next c = follow_below c.args.automaton.now c.args.position (length c.args.rests.now) c.followers.result.now c.requires.formed (sym c.requires.rests.counted) c.followers.ensures c.in-Some.next c.in-Some.ensures.among

pub returns-then-rests-place-clause-settled : goal.returns-then-rests-place-clause-settled
returns-then-rests-place-clause-settled c = λ same. settled_low c.args.automaton.now c.args.rests.now c.args.position c.in-Some.next c.followers.result.now c.followers.ensures c.in-Some.ensures (omega (arith, c.if-rests-place.true))

pub returns-clause-rests : goal.returns-clause-rests
returns-clause-rests c =
    lower_rests c.args.automaton.now c.args.rests.now c.args.position c.in-Some.next (at c.args.rests.now c.in-Some.next + 1) c.requires.rests c.requires.position (c.has_symbol.ensures.some c.if-not-has_symbol.false) (in_row c.args.automaton.now c.args.position c.in-Some.next c.followers.result.now c.followers.ensures c.in-Some.ensures.among) refl (omega (arith, c.if-rests-place.false))
