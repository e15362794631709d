use Rattle.std.proofs.Common.{◌≡◌, ◌++◌, ◌∙◌, ◌-◌, ◌∷◌, [], ℕ, List, ap, subst, take}
use Rattle.std.specs.Prelude.{slice_range}
use Rattle.xs_parse_table.specs.declared.table.Node.{Node}
use Rattle.xs_table_out.specs.declared.steps.Step.{Step}
use Rattle.xs_table_out.specs.Walk.{IsDone, IsEntered, next_task, rest_steps}
use Rattle.xs_table_out.proofs.Owing.{ended, went_back, went_in, went_on}
use Rattle.xs_table_out.proofs.walk.go_on.Goals as goal

pub returns-in-None-clause-gone : goal.returns-in-None-clause-gone
returns-in-None-clause-gone g c = λ rest are.
    let none = subst (λ (l : List Step). rest_steps l c.args.task ≡ []) c.deref.ensures.value c.in_default.ensures.next in
    let empty : c.args.tasks.now.items ≡ [] = c.in-None.ensures.items ∙ ap (λ l. l ++ []) (c.in-None.ensures.rest ∙ ap (λ n. take (n - 1) c.args.tasks.now.items) c.in-None.ensures.cases.0) in
    ended c.args.g.now c.args.h.now c.args.steps.now c.args.doc.now c.args.table.now c.args.tasks.now.items c.args.task rest (g.W.Writer.whole c.args.out.now) none are empty

pub returns-in-Some-pop-clause-gone : goal.returns-in-Some-pop-clause-gone
returns-in-Some-pop-clause-gone g c = λ rest are.
    let none = subst (λ (l : List Step). rest_steps l c.args.task ≡ []) c.deref.ensures.value c.in_default.ensures.next in
    let on = went_back c.args.g.now c.args.h.now c.args.steps.now c.args.doc.now c.args.table.now c.args.tasks.now.items c.pop.new.self.items c.args.task c.in-Some-pop.last rest (g.W.Writer.whole c.args.out.now) none are c.in-Some-pop.ensures.items in
    (on.rest, on.are, on.is)

pub returns-in-Done-clause-gone : goal.returns-in-Done-clause-gone
returns-in-Done-clause-gone g c = λ rest are.
    let next = subst (λ (l : List Step). rest_steps l c.args.task ≡ c.in-Some.step ∷ rest_steps l (next_task c.args.task)) c.deref.ensures.value c.in-Some.ensures.next in
    let printed = rw c.in-Done.is at c.in_ok-print_step.ensures.printed in
    let by_nodes = subst (λ (l : List Node). IsDone c.args.doc.now l c.deref-3.result.now c.args.task (slice_range c.args.steps.now.text.items c.in-Some.step.begin c.in-Some.step.end) (g.W.Writer.whole c.args.out.now) (g.W.Writer.whole c.print_step.new.out) c.in-Some.step.child) c.deref-2.ensures.value printed in
    let done = subst (λ (l : List ℕ). IsDone c.args.doc.now c.args.table.now.nodes.items l c.args.task (slice_range c.args.steps.now.text.items c.in-Some.step.begin c.in-Some.step.end) (g.W.Writer.whole c.args.out.now) (g.W.Writer.whole c.print_step.new.out) c.in-Some.step.child) c.deref-3.ensures.value by_nodes in
    let on = went_on c.args.g.now c.args.h.now c.args.steps.now c.args.doc.now c.args.table.now c.requires.built.slots c.args.tasks.now.items c.args.task c.in-Some.step rest (g.W.Writer.whole c.args.out.now) (g.W.Writer.whole c.print_step.new.out) next are done in
    (on.rest, on.are, on.is)

pub returns-in_ok-put_aside-in-Entered-clause-gone : goal.returns-in_ok-put_aside-in-Entered-clause-gone
returns-in_ok-put_aside-in-Entered-clause-gone g c = λ rest are.
    let next = subst (λ (l : List Step). rest_steps l c.args.task ≡ c.in-Some.step ∷ rest_steps l (next_task c.args.task)) c.deref.ensures.value c.in-Some.ensures.next in
    let printed = rw c.in-Entered.is at c.in_ok-print_step.ensures.printed in
    let by_nodes = subst (λ (l : List Node). IsEntered c.args.steps.now.rows.items l c.deref-3.result.now c.args.task (slice_range c.args.steps.now.text.items c.in-Some.step.begin c.in-Some.step.end) (g.W.Writer.whole c.args.out.now) (g.W.Writer.whole c.print_step.new.out) c.in-Some.step.child c.in-Entered.child) c.deref-2.ensures.value printed in
    let entered = subst (λ (l : List ℕ). IsEntered c.args.steps.now.rows.items c.args.table.now.nodes.items l c.args.task (slice_range c.args.steps.now.text.items c.in-Some.step.begin c.in-Some.step.end) (g.W.Writer.whole c.args.out.now) (g.W.Writer.whole c.print_step.new.out) c.in-Some.step.child c.in-Entered.child) c.deref-3.ensures.value by_nodes in
    let on = went_in c.args.g.now c.args.h.now c.args.steps.now c.args.doc.now c.args.table.now c.requires.built.slots c.requires.steps c.args.tasks.now.items c.put_aside.new.tasks.items c.args.task c.in-Entered.child c.in-Some.step rest (g.W.Writer.whole c.args.out.now) (g.W.Writer.whole c.print_step.new.out) next are entered c.in_ok-put_aside-in-Entered.ensures in
    (on.rest, on.are, on.is)
