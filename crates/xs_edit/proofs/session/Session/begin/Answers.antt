use Rattle.std.proofs.Common.{ℕ, List, sym, subst}
use Rattle.xs_gram.specs.Grammar.{Grammar}
use Rattle.xs_earley.specs.Running.{IsRunOf}
use Rattle.xs_edit.specs.Sessions.{IsKept}
use Rattle.xs_edit.proofs.Prefixes.{nothing_kept}
use Rattle.xs_edit.proofs.session.Session.begin.Goals as goal

pub invariant_of-result : goal.invariant_of-result
invariant_of-result c =
    let run = c.in_ok-run.run' in
    let p = c.args.two.now in
    subst (λ (d : List ℕ). IsKept p d run) (sym c.new.ensures) (nothing_kept p run (subst (λ (g : Grammar). IsRunOf g run) c.gram.ensures c.in_ok-run.ensures.run) c.in_ok-run.ensures.word)
