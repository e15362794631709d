use Rattle.std.proofs.Common.{subst}
use Rattle.xs_class.specs.declared.side.Side.TheVariants as S
use Rattle.xs_chars.specs.declared.form.Form.{Form}
use Rattle.xs_c.specs.declared.working.Work.TheVariants as W
use Rattle.xs_c.specs.Works.{IsDone}
use Rattle.xs_c.proofs.documents.xsugar_to_xml.Goals as goal

pub returns-clause-done : goal.returns-clause-done
returns-clause-done c = subst (λ (form : Form). IsDone c.args.sheet.now.held.kept (W.Turn S.Text S.Xml form) c.args.text.now c.args.answer.now c.done.new.answer c.done.result) c.form.ensures c.done.ensures.done
