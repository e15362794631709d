use Rattle.xs_gram.specs.Common.{print, strip}
use Rattle.xs_gram.specs.Derivations.{Derivation}
use Rattle.xs_gram.specs.Languages.{Derives}
use Rattle.xs_parse_table.specs.Tables.{IsTreeOf}
use Rattle.xs_table_out.specs.Steps.{HasTexts}
use Rattle.xs_table_out.proofs.Owing.{OwedOn}
use Rattle.xs_table_out.proofs.walk.write_table.Given as goal

abbrev pub invariant-steps : goal.invariant-steps
invariant-steps g l = record {
  texts : HasTexts l.printing.steps.now (g.W.Writer.text l.out);
  so_far : (d : Derivation) → IsTreeOf l.printing.table.now l.printing.doc.now d → Derives l.printing.from.now l.printing.doc.now d → OwedOn l.printing.from.now l.printing.to.now l.printing.steps.now l.printing.doc.now l.printing.table.now l.tasks.items l.task (g.W.Writer.whole l.out) (g.W.Writer.whole l.fn.out (print l.printing.to.now (strip l.printing.from.now d)));
}
