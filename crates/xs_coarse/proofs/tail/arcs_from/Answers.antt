use Rattle.std.proofs.Common.{◌+◌, [], ◌∷◌, ◌++◌, List, arith, get_or, subst, sym, take}
use Rattle.std.specs.List.{All}
use Rattle.std.proofs.lemmas.List.Elements.{All-push}
use Rattle.xs_coarse.specs.declared.arc.Arc.{Arc}
use Rattle.xs_coarse.specs.Coarse.{IsWithin}
use Rattle.xs_coarse.proofs.ArcLemmas.{arc}
use Rattle.xs_coarse.proofs.GrowthLemmas.{each_next, each_all}
use Rattle.xs_coarse.proofs.TailArcs.{IsKept, kept_more, kept_here, kept_none, all_kept, lower, lower_within}
use Rattle.xs_coarse.proofs.tail.arcs_from.Goals as goal
use Rattle.xs_coarse.proofs.tail.arcs_from.Goals.{then-x-gate+then-x-gate-2+in_ok-push, else-x-gate, else-x-gate-via-then-x-gate+else-x-gate-2, else-x-gate-via-else-x-gate}

pub arcs-preserved : goal.arcs-preserved
arcs-preserved c =
    let same = c.arcs-x-items.ensures in
    let known = c.arcs.invariant in
    let gate = c.args.gate in
    let i = c.arcs.x-index in
    let xs = c.arcs-x-items.result.now in
    let ys = c.arcs.arcs.items in
    let y = get_or xs i (arc 0 0 0) in
    let before = subst (λ (zs : List Arc). All (IsKept gate ys) (take i zs)) (sym same) known.has in
    elim c.if-x-gate.branch [
      | then-x-gate+then-x-gate-2+in_ok-push w ↦ rw (w.arcs-is, w.in_ok-push.ensures.items) (record {
        has = subst (λ (zs : List Arc). All (IsKept gate (ys ++ lower gate y ∷ [])) (take (i + 1) zs)) same (each_next (IsKept gate ys) (IsKept gate (ys ++ lower gate y ∷ [])) xs i (arc 0 0 0) c.arcs-test.true (kept_more gate ys (lower gate y)) before (kept_here gate ys y));
        within = λ states e. All-push (IsWithin states) ys (lower gate y) (known.within states e) (lower_within gate states c.args.net.now.states y e (omega (arith, w.if-x-gate.true)) (omega (arith, w.if-x-gate-2.true)) (subst (λ (zs : List Arc). All (IsWithin c.args.net.now.states) zs) (sym same) c.len-states.ensures.within i (arc 0 0 0) c.arcs-test.true));
      })
      | else-x-gate w ↦ rw w.arcs-is (record {
        has = subst (λ (zs : List Arc). All (IsKept gate ys) (take (i + 1) zs)) same (each_next (IsKept gate ys) (IsKept gate ys) xs i (arc 0 0 0) c.arcs-test.true (λ z h. h) before (kept_none gate ys y (λ from to. elim w.else-x-gate.branch [
          | else-x-gate-via-then-x-gate+else-x-gate-2 v ↦ omega (arith, to, v.if-x-gate-2.false)
          | else-x-gate-via-else-x-gate v ↦ omega (arith, from, v.if-x-gate.false)
        ])));
        within = known.within;
      })
    ]

pub returns-clause-has : goal.returns-clause-has
returns-clause-has c =
    let same = c.arcs-x-items.ensures in
    let gate = c.args.gate in
    let ys = c.arcs.arcs.items in
    let before = subst (λ (zs : List Arc). All (IsKept gate ys) (take c.arcs.x-index zs)) (sym same) c.arcs.invariant.has in
    all_kept gate c.args.net.now.arcs ys (subst (λ (zs : List Arc). All (IsKept gate ys) zs) same (each_all (IsKept gate ys) c.arcs-x-items.result.now c.arcs.x-index c.arcs-test.false before))
