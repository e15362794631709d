use Rattle.std.proofs.Common.{ℕ, List, sym, subst}
use Rattle.xs_chart.specs.Advancing.{AreThere, Advanced}
use Rattle.xs_chart.specs.Charted.{items_of, waiting_of}
use Rattle.xs_earley.proofs.Completing.{waiters_there, completes_made}
use Rattle.xs_earley.proofs.Settlings.{ends_made}
use Rattle.xs_earley.proofs.steps.complete.Goals as goal

pub advance-requires-clause-there : goal.advance-requires-clause-there
advance-requires-clause-there c =
    let old = c.args.chart.now in
    let there = waiters_there c.args.g.now c.args.facts.now c.requires.facts old c.args.from c.args.non (c.requires.waiting c.if-from-at.false) in
    subst (λ (l : List ℕ). AreThere l (items_of old c.args.from) (waiting_of old c.args.from c.args.non)) (sym c.deref.ensures.value) there

pub returns-clause-adds : goal.returns-clause-adds
returns-clause-adds c =
    let old = c.args.chart.now in
    let new = c.advance.new.self in
    let lt = c.if-from-at.false in
    let advanced = subst (λ (l : List ℕ). Advanced l c.args.from c.args.non old new) c.deref.ensures.value c.in_ok-advance.ensures.advanced in
    ends_made c.args.g.now c.args.at c.args.from c.args.non old.sets new.sets lt (completes_made c.args.g.now c.args.facts.now c.requires.facts old c.args.from c.args.non (c.requires.waiting lt) c.args.at new c.requires.last advanced)
