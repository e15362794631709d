use Rattle.std.proofs.Common.{◌↔◌, ◌<◌, ◌≤◌, ◌++◌, ◌∷◌, [], ℕ, Some, None, length, take, subst, arith}
use Rattle.xs_class.specs.Classes.{Has}
use Rattle.xs_gram.specs.Grammar.{Grammar}
use Rattle.xs_gram.specs.Languages.{IsFront}
use Rattle.xs_edit.specs.Sessions.{Editing, IsNext}
use Rattle.xs_edit.proofs.Prefixes.{next_is}
use Rattle.xs_edit.proofs.session.Session.next.Goals as goal

pub returns-then-at-len : goal.returns-then-at-len
returns-then-at-len c =
    let i = c.self.inside in
    let lt : length i.run.word < c.args.at = omega (arith, c.if-at-len.true, c.len.ensures) in
    subst (λ (e : Editing). IsNext e.pair.text e.document c.args.at None) c.self.view_is (length i.run.word, c.self.invariant.following.viable, lt)

pub returns : goal.returns
returns c =
    let i = c.self.inside in
    let le : c.args.at ≤ length i.run.word = omega (arith, c.if-at-len.false, c.len.ensures) in
    let exact = subst (λ (g : Grammar). (s : ℕ) → Has c.in_ok-class.class s ↔ IsFront g (take c.args.at i.run.word ++ s ∷ [])) c.gram.ensures c.in_ok-class.ensures in
    subst (λ (e : Editing). IsNext e.pair.text e.document c.args.at (Some c.in_ok-class.class)) c.self.view_is (next_is i.two.now.text i.doc i.run c.args.at c.in_ok-class.class c.self.invariant.following le exact)
