use Rattle.std.proofs.Common.{◌≡◌, ◌∙◌, ◌++◌, ℕ, List, ap, sym, subst}
use Rattle.std.specs.Prelude.{codes}
use Rattle.xs_gram.specs.Languages.{IsViable}
use Rattle.xs_edit.specs.Sessions.{Editing}
use Rattle.xs_script.specs.Playing.{number_line, IsTreeAnswer}
use Rattle.xs_script.proofs.Answered.{foreign_answer}
use Rattle.xs_script.proofs.answering.tree.Goals as goal

pub returns-in_ok-push_number-in-None-clause-answer : goal.returns-in_ok-push_number-in-None-clause-answer
returns-in_ok-push_number-in-None-clause-answer c =
    let p = c.args.two.now in
    let doc = c.args.session.now.document in
    let none = rw c.in-None.is at c.in_ok-spelt.ensures.tree in
    let viable = subst (λ (e : Editing). IsViable e.pair.text e.document c.viable.result) c.tree.ensures.unchanged c.viable.ensures in
    let line : c.push_number.new.out ≡ number_line (codes "foreign ") c.viable.result = c.in_ok-push_number-in-None.ensures ∙ ap (λ (l : List ℕ). l ++ number_line (codes "foreign ") c.viable.result) c.new-line.ensures in
    subst (IsTreeAnswer p doc) (sym line) (foreign_answer p doc c.viable.result (rw c.requires.pair at none) (rw c.requires.pair at viable))
