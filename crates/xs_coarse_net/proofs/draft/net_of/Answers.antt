use Rattle.xs_coarse_net.proofs.draft.net_of.Goals as goal

pub returns : goal.returns
returns c = record { states = c.in_ok-net.ensures.states; kept = λ x h. (c.in_ok-net.ensures.arcs x).1 h }
