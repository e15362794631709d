use Rattle.std.proofs.Common.{◌∙◌, List, Bool, true, set, ap}
use Rattle.xs_earley.proofs.Marks.{marked_more}
use Rattle.xs_earley.proofs.called.Called.mark.Goals as goal

pub returns : goal.returns
returns c = marked_more c.self.inside.last c.self.inside.marks.items c.args.non ∙ ap (λ (l : List Bool). set l c.args.non true) c.self.view_is
