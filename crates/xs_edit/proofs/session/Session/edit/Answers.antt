use Rattle.std.proofs.Common.{◌≡◌, ◌∙◌, [], ℕ, List, sym, subst}
use Rattle.xs_gram.specs.Grammar.{Grammar}
use Rattle.xs_earley.specs.Running.{IsRunOf}
use Rattle.xs_edit.specs.Sessions.{IsKept}
use Rattle.xs_edit.proofs.Prefixes.{nothing_kept}
use Rattle.xs_edit.proofs.session.Session.edit.Goals as goal

pub invariant_of-self-in-Err : goal.invariant_of-self-in-Err
invariant_of-self-in-Err c =
    let p = c.self.inside.two.now in
    let run = c.back.new.self in
    let empty : c.replace-doc.new.dest ≡ [] = c.replace-doc.ensures.after ∙ c.new.ensures in
    subst (λ (d : List ℕ). IsKept p d run) (sym empty) (nothing_kept p run (c.back.ensures.run p.text (subst (λ (g : Grammar). IsRunOf g c.change.new.run) c.gram-g.ensures c.change.ensures.run)) c.back.ensures.word)
