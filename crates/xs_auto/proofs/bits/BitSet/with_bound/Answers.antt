use Rattle.xs_auto.proofs.BitLemmas.{blank_bits, copy_at}
use Rattle.xs_auto.proofs.bits.BitSet.with_bound.Goals as goal

pub returns : goal.returns
returns c = blank_bits c.args.bound c.in_ok-words.words.items (λ k. rw (c.in_ok-words.ensures.items_if_clones_equal (λ y e. e)) (copy_at 0 _ k))
