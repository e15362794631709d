use Rattle.std.proofs.Common.{◌∙◌, ◌++◌, ℕ, List, ap, subst}
use Rattle.std.specs.Prelude.{codes}
use Rattle.xs_class.specs.Classes.{IsClass}
use Rattle.xs_script.specs.Playing.{next_line}
use Rattle.xs_script.proofs.Answered.{next_answer, beyond_answer}
use Rattle.xs_script.proofs.answering.next.Goals as goal

pub returns-in_ok-push_class-in-Some : goal.returns-in_ok-push_class-in-Some
returns-in_ok-push_class-in-Some c =
    let p = c.args.two.now in
    let next = rw c.in-Some.is at c.in_ok-class.ensures in
    let sorted : IsClass c.in-Some.class = subst IsClass c.class.view_is c.class.invariant in (
      next_line p.names c.in-Some.class,
      next_answer p c.args.session.now.document c.args.at c.in-Some.class (rw c.requires at next) sorted,
      c.in_ok-push_class-in-Some.ensures ∙ ap (λ (names : List (List ℕ)). c.args.out.now ++ next_line names c.in-Some.class) c.names.ensures,
    )

pub returns-in_ok-extend-in-None : goal.returns-in_ok-extend-in-None
returns-in_ok-extend-in-None c =
    let p = c.args.two.now in
    let next = rw c.in-None.is at c.in_ok-class.ensures in
    (codes "no beyond\n", beyond_answer p c.args.session.now.document c.args.at (rw c.requires at next), c.in_ok-extend-in-None.ensures.ok)
