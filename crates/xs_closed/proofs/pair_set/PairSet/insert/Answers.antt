use Rattle.std.proofs.Common.{◌+◌, ◌*◌, ◌/◌, not, ◌∙◌, sym, ap, arith}
use Rattle.xs_closed.proofs.WordLemmas.{rows_length, grid_sized, pair_inside, pair_read, pair_marks, word_packed}
use Rattle.xs_closed.proofs.pair_set.PairSet.insert.Goals as goal

pub set_bit-place-requires : goal.set_bit-place-requires
set_bit-place-requires c = (pair_inside c.args.a c.args.b c.self.invariant c.self.view_is c.requires.first c.requires.second).2

pub overflow_add-place : goal.overflow_add-place
overflow_add-place c = omega (arith, (pair_inside c.args.a c.args.b c.self.invariant c.self.view_is c.requires.first c.requires.second).2, c.self.inside.words.ok)

pub invariant_of-self : goal.invariant_of-self
invariant_of-self c =
    let p = c.self.inside in
    let inside = pair_inside c.args.a c.args.b c.self.invariant c.self.view_is c.requires.first c.requires.second in
    rw c.set_bit-place.ensures.words (word_packed p.high p.wide p.step p.used c.max-self-inside.result _ (c.args.a * p.step + c.args.b / 64) p.words.items c.self.invariant inside.2 (rw c.set_bit-place.ensures.place at c.max-self-inside.ensures))

pub returns-clause-fresh : goal.returns-clause-fresh
returns-clause-fresh c =
    let p = c.self.inside in
    let inside = pair_inside c.args.a c.args.b c.self.invariant c.self.view_is c.requires.first c.requires.second in
    c.set_bit-place.ensures.fresh ∙ ap not (rw (← c.self.view_is) (sym (pair_read p.high p.wide p.step p.words.items c.args.a c.args.b inside.0 inside.1)))

pub returns-clause-marks : goal.returns-clause-marks
returns-clause-marks c =
    let p = c.self.inside in
    let inside = pair_inside c.args.a c.args.b c.self.invariant c.self.view_is c.requires.first c.requires.second in
    rw (c.set_bit-place.ensures.words, ← c.self.view_is) (pair_marks p.high p.wide p.step p.used p.words.items c.args.a c.args.b c.self.invariant inside.0 inside.1)

pub returns-clause-sized : goal.returns-clause-sized
returns-clause-sized c =
    let p = c.self.inside in
    rw (← c.self.view_is, rows_length p.high p.wide p.step p.words.items) (grid_sized p.high p.wide p.step _)
