use Rattle.std.proofs.Common.{◌∙◌, sym, ap, subst, reverse, arith}
use Rattle.std.proofs.lemmas.List.{get_or_read}
use Rattle.xs_graph.specs.declared.visit.Visit.TheVariants.{Unseen}
use Rattle.xs_graph.specs.States.{State, state_of, IsState}
use Rattle.xs_graph.proofs.Stepping.{idle_opened}
use Rattle.xs_graph.proofs.search.Search.visit.Goals as goal

pub run-requires-clause-state : goal.run-requires-clause-state
run-requires-clause-state c =
    let graph = c.args.graph.now in
    let old = state_of c.args.self.now in
    subst (λ (x : State). IsState graph x) (sym c.in_ok-open-in-Unseen.ensures) (idle_opened graph old c.args.node c.requires.state (ap reverse c.requires.idle) c.requires.node (sym (get_or_read c.args.self.now.visits.items c.args.node c.index.result.now (omega (arith, c.requires.state.sized, c.requires.node)) c.index.ensures Unseen) ∙ c.in-Unseen.is))
