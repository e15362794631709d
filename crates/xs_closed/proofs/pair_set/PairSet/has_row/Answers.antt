use Rattle.std.proofs.Common.{refl, arith}
use Rattle.xs_closed.proofs.WordLemmas.{rows_length, word_there, row_kept, word_kept, lack_tells, beside}
use Rattle.xs_closed.proofs.pair_set.PairSet.has_row.Goals as goal

pub word_of-theirs-requires : goal.word_of-theirs-requires
word_of-theirs-requires c =
    let same = rw (← c.other.view_is, ← c.self.view_is) at c.requires.wide in
    rw c.deref.ensures.value (word_there c.args.a c.words.at c.other.invariant c.other.view_is c.requires.other_row (rw (← c.other.view_is, same) (omega (arith, c.words-test.true))))

pub word_of-ours-requires : goal.word_of-ours-requires
word_of-ours-requires c = rw c.deref-in-words.ensures.value (word_there c.args.c c.words.at c.self.invariant c.self.view_is c.requires.row (rw (← c.self.view_is) (omega (arith, c.words-test.true))))

pub returns-in-Some : goal.returns-in-Some
returns-in-Some c =
    let p = c.self.inside in
    let q = c.other.inside in
    let same = rw (← c.other.view_is, ← c.self.view_is) at c.requires.wide in
    let both = beside q.high q.wide q.step p.high p.wide p.step q.words.items p.words.items c.args.a c.args.c c.words.at _ _ c.other.view_is c.self.view_is c.requires.other_row c.requires.row (rw c.deref.ensures.value at c.word_of-theirs.ensures) (rw c.deref-in-words.ensures.value at c.word_of-ours.ensures) in
    rw (← c.self.view_is, ← c.other.view_is, same) (lack_tells q.high p.high p.wide q.step p.step q.words.items p.words.items c.args.a c.args.c c.words.at _ _ c.in-Some.bit both.row both.other_row c.words.invariant.whole both.theirs both.ours c.in-Some.ensures.some c.words.invariant.below)

pub words-preserved : goal.words-preserved
words-preserved c =
    let p = c.self.inside in
    let q = c.other.inside in
    let both = beside q.high q.wide q.step p.high p.wide p.step q.words.items p.words.items c.args.a c.args.c c.words.at _ _ c.other.view_is c.self.view_is c.requires.other_row c.requires.row (rw c.deref.ensures.value at c.word_of-theirs.ensures) (rw c.deref-in-words.ensures.value at c.word_of-ours.ensures) in
    record {
      whole = omega (arith, c.words.invariant.whole);
      below = word_kept q.step p.step q.words.items p.words.items c.args.a c.args.c c.words.at _ _ c.words.invariant.whole both.theirs both.ours c.in_default.ensures.none c.words.invariant.below;
    }

pub returns : goal.returns
returns c =
    let p = c.self.inside in
    let q = c.other.inside in
    let l = rw (← c.self.view_is, rows_length p.high p.wide p.step p.words.items) at c.requires.row in
    let m = rw (← c.other.view_is, rows_length q.high q.wide q.step q.words.items) at c.requires.other_row in
    let same = rw (← c.other.view_is, ← c.self.view_is) at c.requires.wide in
    rw (← c.self.view_is, ← c.other.view_is, same) (λ t. row_kept q.high p.high p.wide q.step p.step q.words.items p.words.items c.args.a c.args.c m l (λ b near. c.words.invariant.below b (omega (arith, c.words-test.false))), λ k. refl)
