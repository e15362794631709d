use Rattle.std.proofs.Common.{◌≤◌, false, length, sym, subst}
use Rattle.std.proofs.lemmas.Bool.{false≢true}
use Rattle.xs_earley.specs.Running.{Running}
use Rattle.xs_earley.proofs.Steadiness.{at_rest_now, with_steady}
use Rattle.xs_earley.proofs.Steppings.{run_back}
use Rattle.xs_earley.proofs.run.Run.back.Goals as goal

pub returns-clause-run : goal.returns-clause-run
returns-clause-run c g run =
    let i = c.self.inside in
    let inside = at_rest_now g _ _ c.self.view_is run in
    let within : c.args.len ≤ length i.word.items = subst (λ (r : Running). c.args.len ≤ length r.word) (sym c.self.view_is) c.requires.len in
    rw (c.truncate.ensures.items, c.truncate-2.ensures, c.truncate-3.ensures) (with_steady g _ _ _ _ _ i.atom false (run_back g i.word.items i.facts i.chart i.begun (length i.called) inside c.args.len within) (λ e. absurd (false≢true e)))
