use Rattle.xs_closed.proofs.least.least_apart.Goals as goal

pub returns : goal.returns
returns c = c.in_ok-find_meeting.ensures.table
