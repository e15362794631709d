use Rattle.std.proofs.Common.{◌≡◌, ◌+◌, ℕ, suc, length, sym, subst, arith}
use Rattle.xs_class.proofs.Lists.{contains_of}
use Rattle.xs_chart_laws.specs.Charts.{set_at}
use Rattle.xs_grow.specs.Lists.{Appends}
use Rattle.xs_grow.specs.Candidates.{FrontFrom, InSet}
use Rattle.xs_grow.proofs.Gathering.{set_none, set_more, front_item}
use Rattle.xs_grow.proofs.gather.fronts_in.Goals as goal

pub items-init : goal.items-init
items-init c = set_none (FrontFrom c.args.g.now c.args.doc.now c.args.calls.now) c.args.chart.now.sets c.args.set c.args.candidates.now.items

pub fronts_at-requires-clause-place : goal.fronts_at-requires-clause-place
fronts_at-requires-clause-place c = c.requires.places.placed c.args.set c.item.result (contains_of (set_at c.args.chart.now.sets c.args.set) c.items.k c.item.result c.item.ensures)

pub items-preserved : goal.items-preserved
items-preserved c =
    let P = (FrontFrom c.args.g.now c.args.doc.now c.args.calls.now) in
    let sets = c.args.chart.now.sets in
    let set = c.args.set in
    let k = c.items.k in
    let one : k + 1 ≡ suc k = omega arith in
    subst (λ (z : ℕ). Appends (InSet P sets set z) c.args.candidates.now.items c.fronts_at.new.candidates.items) (sym one) (set_more P sets set k c.item.result c.args.candidates.now.items c.items.candidates.items c.fronts_at.new.candidates.items c.item.ensures (c.requires.places.different set) (front_item c.args.g.now c.args.doc.now c.args.calls.now set) c.items.invariant c.in_ok-fronts_at.ensures)

pub returns : goal.returns
returns c =
    let all : c.items.k ≡ length (set_at c.args.chart.now.sets c.args.set) = omega arith in
    subst (λ (z : ℕ). Appends (InSet (FrontFrom c.args.g.now c.args.doc.now c.args.calls.now) c.args.chart.now.sets c.args.set z) c.args.candidates.now.items c.items.candidates.items) all c.items.invariant
