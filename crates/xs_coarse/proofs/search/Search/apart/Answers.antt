use Rattle.std.proofs.Common.{arith}
use Rattle.std.proofs.lemmas.Result.{IfOk-weaker}
use Rattle.xs_coarse.specs.Arcs.{Goes}
use Rattle.xs_coarse.specs.Found.{pair}
use Rattle.xs_coarse.proofs.FoundLemmas.{begun, more_for}
use Rattle.xs_coarse.proofs.GrowthLemmas.{more_has}
use Rattle.xs_coarse.proofs.LayerLemmas.{LooksAt, looks_of, looks_on, shut_from}
use Rattle.xs_coarse.proofs.SetLemmas.{shut_apart}
use Rattle.xs_coarse.proofs.search.Search.apart.Goals as goal

pub close-requires-clause-nets : goal.close-requires-clause-nets
close-requires-clause-nets c = more_for c.args.first.now c.args.second.now c.begin.new.self c.visit.new.self (begun c.args.first.now c.args.second.now c.begin.new.self c.len.result c.len-2.result c.in_ok-begin.field-0 c.if-not-branch.false c.in_ok-begin.ensures.ok (omega (arith, c.len.ensures.states)) (omega (arith, c.len-2.ensures.states))) c.visit.ensures.more

pub returns : goal.returns
returns c =
    let looks : LooksAt c.args.first.now.states c.args.second.now.states c.begin.new.self = rw (← c.len.ensures.states, ← c.len-2.ensures.states) (looks_of (c.in_ok-begin.ensures.ok c.if-not-branch.false)) in
    let visited = looks_on looks c.visit.ensures.more in
    let starts = c.in_ok-visit.ensures.ok (omega (arith, visited.height, c.requires.first)) (omega (arith, visited.width, c.requires.second)) in
    IfOk-weaker c.close.result _ _ (λ closed shut yes. shut_apart c.args.labels.now c.args.first.now c.args.second.now c.args.a c.args.b c.args.c c.args.d c.close.new.self.pairs.items c.see_table.ensures c.len.ensures.within c.len-2.ensures.within (more_has c.close.ensures.more c.args.a c.args.c starts) (shut_from (Goes c.args.labels.now c.args.first.now c.args.second.now) (pair c.args.b c.args.d) looks c.visit.ensures.more c.close.ensures.more (rw c.new.ensures at (shut yes)))) c.close.ensures.ok
