use Rattle.std.proofs.Common.{◌≡◌, ◌+◌, ℕ, suc, length, sym, subst, arith}
use Rattle.xs_grow.specs.Lists.{Appends}
use Rattle.xs_grow.specs.Candidates.{WholeAt, InSets}
use Rattle.xs_grow.proofs.Gathering.{sets_none, sets_more, whole_set}
use Rattle.xs_grow.proofs.gather.wholes.Goals as goal

pub sets-init : goal.sets-init
sets-init c = sets_none (WholeAt c.args.g.now) c.args.chart.now.sets c.args.candidates.now.items

pub sets-preserved : goal.sets-preserved
sets-preserved c =
    let P = (WholeAt c.args.g.now) in
    let sets = c.args.chart.now.sets in
    let n = c.sets.set in
    let one : n + 1 ≡ suc n = omega arith in
    subst (λ (z : ℕ). Appends (InSets P sets z) c.args.candidates.now.items c.wholes_in.new.candidates.items) (sym one) (sets_more P sets n c.args.candidates.now.items c.sets.candidates.items c.wholes_in.new.candidates.items (whole_set c.args.g.now) c.sets.invariant c.in_ok-wholes_in.ensures)

pub returns : goal.returns
returns c =
    let all : c.sets.set ≡ length c.args.chart.now.sets = omega arith in
    subst (λ (z : ℕ). Appends (InSets (WholeAt c.args.g.now) c.args.chart.now.sets z) c.args.candidates.now.items c.sets.candidates.items) all c.sets.invariant
