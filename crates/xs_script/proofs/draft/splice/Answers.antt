use Rattle.std.proofs.Common.{◌≡◌, ◌∙◌, ap}
use Rattle.std.specs.Slice.Iter.{iter_rest}
use Rattle.std.specs.Iterator.Adapters.{copied_source}
use Rattle.std.proofs.iter.Yields.{Copied-Drains}
use Rattle.xs_script.proofs.Drafts.{edit_is}
use Rattle.xs_script.proofs.draft.splice.Goals as goal

pub returns-clause-ok : goal.returns-clause-ok
returns-clause-ok c =
    let run = c.in_ok-splice.ensures.items in
    let put : run.1 ≡ c.args.put.now = Copied-Drains run.0 run.1 run.3 ∙ ap (λ s. iter_rest (copied_source s)) run.2 ∙ ap iter_rest c.copied.ensures.source ∙ c.iter.ensures.rest in
    edit_is c.args.doc.now.items c.args.put.now run.1 c.splice.new.self.items c.args.at c.args.cut run.4 put
