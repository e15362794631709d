use Rattle.xs_coarse.proofs.search.Search.doubles.Goals as goal

pub returns : goal.returns
returns c = rw (c.in_ok-pairs.ensures.items, c.deref.ensures.value) (c.in_ok-find_doubles.ensures.ok c.if-not-branch.false)
