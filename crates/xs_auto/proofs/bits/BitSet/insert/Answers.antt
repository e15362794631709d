use Rattle.std.proofs.Common.{◌<◌, ◌/◌, length, set, true, ◌∙◌, sym, ap, arith, not}
use Rattle.std.proofs.lemmas.List.{get_or_read}
use Rattle.xs_auto.proofs.BitLemmas.{bit_read, length_bits, set_bits, bit_holds, fresh_bit}
use Rattle.xs_auto.proofs.bits.BitSet.insert.Goals as goal

pub index-word-requires : goal.index-word-requires
index-word-requires c =
    let l = rw (← c.self.view_is, length_bits c.self.inside.bound c.self.inside.words.items) at c.requires in
    omega (arith, c.self.invariant.room, c.self.inside.words.ok, l)

pub index_mut-requires : goal.index_mut-requires
index_mut-requires c =
    let l = rw (← c.self.view_is, length_bits c.self.inside.bound c.self.inside.words.items) at c.requires in
    omega (arith, c.self.invariant.room, c.self.inside.words.ok, l)

pub invariant_of-self : goal.invariant_of-self
invariant_of-self c =
    let l = rw (← c.self.view_is, length_bits c.self.inside.bound c.self.inside.words.items) at c.requires in
    bit_holds c.self.inside.bound c.self.inside.used c.max-self-inside.result _ c.self.inside.words.items c.args.number c.self.invariant (omega (arith, c.self.invariant.room, l)) c.max-self-inside.ensures

pub returns-clause-fresh : goal.returns-clause-fresh
returns-clause-fresh c =
    let words = c.self.inside.words.items in
    let l = rw (← c.self.view_is, length_bits c.self.inside.bound words) at c.requires in
    let word = get_or_read words (c.args.number / 64) c.index-word.result.now (omega (arith, c.self.invariant.room, l)) c.index-word.ensures 0 in
    fresh_bit c.index-word.result.now _ ∙ ap not (rw (word, ← c.self.view_is) (sym (bit_read c.self.inside.bound words c.args.number l)))

pub returns-clause-inserted : goal.returns-clause-inserted
returns-clause-inserted c =
    let words = c.self.inside.words.items in
    let l = rw (← c.self.view_is, length_bits c.self.inside.bound words) at c.requires in
    let within : c.args.number / 64 < length words = omega (arith, c.self.invariant.room, l) in
    let word = get_or_read words (c.args.number / 64) c.index-word.result.now within c.index-word.ensures 0 in
    rw word (set_bits c.self.inside.bound words c.args.number l within) ∙ ap (λ s. set s c.args.number true) c.self.view_is
