use Rattle.xs_script.proofs.Requests.{no_change_one, no_change_two, no_change_at, no_change_cut, no_change_put}
use Rattle.xs_script.proofs.request.read_change.Goals as goal

pub returns-in_default : goal.returns-in_default
returns-in_default c = no_change_one c.args.text.now c.in_default.ensures

pub returns-in_default-cut_at_space : goal.returns-in_default-cut_at_space
returns-in_default-cut_at_space c = no_change_two c.args.text.now c.in-Some.first.now c.in-Some.rest.now c.in-Some.ensures.1 c.in-Some.ensures.0 c.in_default-cut_at_space.ensures

pub returns-in_default-number : goal.returns-in_default-number
returns-in_default-number c = no_change_at c.args.text.now c.in-Some.first.now c.in-Some.rest.now c.in-Some.ensures.1 c.in-Some.ensures.0 c.in_default-number.ensures

pub returns-in_default-number-2 : goal.returns-in_default-number-2
returns-in_default-number-2 c =
    no_change_cut c.args.text.now c.in-Some.first.now c.in-Some.rest.now c.in-Some-cut_at_space.second.now c.in-Some-cut_at_space.token.now
    c.in-Some.ensures.1 c.in-Some.ensures.0 c.in-Some-cut_at_space.ensures.1 c.in-Some-cut_at_space.ensures.0 c.in_default-number-2.ensures

pub returns-in-None : goal.returns-in-None
returns-in-None c =
    no_change_put c.args.text.now c.in-Some.first.now c.in-Some.rest.now c.in-Some-cut_at_space.second.now c.in-Some-cut_at_space.token.now
    c.in-Some.ensures.1 c.in-Some.ensures.0 c.in-Some-cut_at_space.ensures.1 c.in-Some-cut_at_space.ensures.0 (rw c.in-None.is at c.in_ok-put.ensures)
