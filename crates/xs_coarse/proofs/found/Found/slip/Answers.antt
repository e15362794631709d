use Rattle.std.proofs.Common.{rules}
use Rattle.xs_coarse.proofs.ArcLemmas.{slips_on}
use Rattle.xs_coarse.proofs.GrowthLemmas.{more_found}
use Rattle.xs_coarse.proofs.Walks.{found_by, first_target, second_target}
use Rattle.xs_coarse.proofs.found.Found.slip.Goals as goal

pub returns-clause-ok : goal.returns-clause-ok
returns-clause-ok c =
    let at = c.args.at in
    let firsts = found_by (first_target at.second) c.in_ok-visit_each.ensures.ok (λ x o given. search rules) in
    let seconds = found_by (second_target at.first) c.in_ok-visit_each-2.ensures.ok (λ x o given. search rules) in
    slips_on c.args.first.now c.args.second.now at.first at.second c.visit_each.new.self c.visit_each-2.new.self _ _ c.row.ensures.complete c.row-2.ensures.complete (more_found c.visit_each-2.ensures.more) firsts seconds
