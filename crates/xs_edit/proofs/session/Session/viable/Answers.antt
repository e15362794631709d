use Rattle.std.proofs.Common.{ℕ, sym, subst}
use Rattle.xs_gram.specs.Languages.{IsViable}
use Rattle.xs_edit.specs.Sessions.{Editing}
use Rattle.xs_edit.proofs.session.Session.viable.Goals as goal

pub returns : goal.returns
returns c =
    let i = c.self.inside in
    subst (λ (e : Editing). IsViable e.pair.text e.document c.len.result) c.self.view_is
    (subst (λ (n : ℕ). IsViable i.two.now.text i.doc n) (sym c.len.ensures) c.self.invariant.following.viable)
