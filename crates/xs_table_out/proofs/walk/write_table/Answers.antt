use Rattle.std.proofs.Common.{◌++◌, ◌∷◌, [], List, refl, subst, sym}
use Rattle.xs_gram.specs.Common.{print, strip}
use Rattle.xs_parse_table.specs.declared.table.Node.{Node}
use Rattle.xs_table_out.specs.declared.steps.StepRow.{StepRow}
use Rattle.xs_table_out.specs.declared.walk.Task.{Task}
use Rattle.xs_table_out.specs.Walk.{AreOwed, IsLastTask}
use Rattle.xs_table_out.proofs.Owing.{root_owed}
use Rattle.xs_table_out.proofs.walk.write_table.Goals as goal

pub steps-init : goal.steps-init
steps-init g c =
    let by_rows = subst (λ (l : List StepRow). IsLastTask l c.deref-2.result.now c.in-Some.task) c.deref.ensures.value c.in-Some.ensures in
    let last = subst (λ (l : List Node). IsLastTask c.args.printing.now.steps.now.rows.items l c.in-Some.task) c.deref-2.ensures.value by_rows in
    record {
      texts = c.requires.texts;
      so_far = λ d is derives. record {
        rest = print c.args.printing.now.to.now (strip c.args.printing.now.from.now d);
        are = subst (λ (l : List Task). AreOwed c.args.printing.now.from.now c.args.printing.now.to.now c.args.printing.now.steps.now c.args.printing.now.doc.now c.args.printing.now.table.now (l ++ c.in-Some.task ∷ []) (print c.args.printing.now.to.now (strip c.args.printing.now.from.now d))) (sym c.new-tasks.ensures.items)
            (root_owed c.args.printing.now.from.now c.args.printing.now.to.now c.args.printing.now.steps.now c.args.printing.now.doc.now c.args.printing.now.table.now c.requires.steps c.in-Some.task last d is derives);
        is = refl;
      };
    }
