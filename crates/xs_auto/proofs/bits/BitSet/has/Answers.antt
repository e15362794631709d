use Rattle.std.proofs.Common.{◌/◌, ◌∙◌, sym, arith}
use Rattle.std.proofs.lemmas.List.{get_or_read}
use Rattle.xs_auto.proofs.BitLemmas.{bit_read, length_bits, held_bit}
use Rattle.xs_auto.proofs.bits.BitSet.has.Goals as goal

pub index-requires : goal.index-requires
index-requires c =
    let l = rw (← c.self.view_is, length_bits c.self.inside.bound c.self.inside.words.items) at c.requires in
    omega (arith, c.self.invariant.room, l)

pub returns : goal.returns
returns c =
    let words = c.self.inside.words.items in
    let l = rw (← c.self.view_is, length_bits c.self.inside.bound words) at c.requires in
    let word = get_or_read words (c.args.number / 64) c.index.result.now (omega (arith, c.self.invariant.room, l)) c.index.ensures 0 in
    held_bit c.index.result.now _ ∙ rw (word, ← c.self.view_is) (sym (bit_read c.self.inside.bound words c.args.number l))
