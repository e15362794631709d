use Rattle.xs_coarse_net.proofs.rule.lay_item.Goals as goal

pub returns-in_ok-lay_word-in-Fixed-clause-laid : goal.returns-in_ok-lay_word-in-Fixed-clause-laid
returns-in_ok-lay_word-in-Fixed-clause-laid c = rw c.in-Fixed.is (rw c.as_slice.ensures at c.in_ok-lay_word-in-Fixed.ensures.goes)
