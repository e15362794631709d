use Rattle.xs_searches.proofs.searches.Searches.are_seen_apart.Goals as goal

pub returns-in_ok-apart-in-Some-clause-apart : goal.returns-in_ok-apart-in-Some-clause-apart
returns-in_ok-apart-in-Some-clause-apart c = rw (c.self-2.view_is, c.take_screen.ensures.same) at c.in_ok-apart-in-Some.ensures.apart
