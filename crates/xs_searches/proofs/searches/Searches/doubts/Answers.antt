use Rattle.xs_searches.proofs.searches.Searches.doubts.Goals as goal

pub returns-then-not-are_any-clause-doubts : goal.returns-then-not-are_any-clause-doubts
returns-then-not-are_any-clause-doubts c = rw c.self.view_is at c.in_ok-fixed_doubts.ensures

pub returns-in-None-clause-doubts : goal.returns-in-None-clause-doubts
returns-in-None-clause-doubts c = rw c.self.view_is at c.in_ok-fixed_doubts.ensures

pub returns-in_ok-doubts-in-Some-clause-doubts : goal.returns-in_ok-doubts-in-Some-clause-doubts
returns-in_ok-doubts-in-Some-clause-doubts c = rw (c.self-2.view_is, c.take_screen.ensures.same) at c.in_ok-doubts-in-Some.ensures.doubts
