use Rattle.std.proofs.Common.{◌++◌, ◌∷◌, [], ℕ, Option, ◌∙◌, ap}
use Rattle.xs_class.specs.Marks.{closing_mark}
use Rattle.xs_xml_laws.specs.Reads.{marked}
use Rattle.xs_form.proofs.reader.push_closing.Goals as goal

pub returns : goal.returns
returns c =
    c.in_ok-push.ensures.ok ∙ ap (λ (x : ℕ). c.args.word.now ++ x ∷ []) (c.mark_of.ensures ∙ ap (λ (o : Option ℕ). marked closing_mark o) c.in_ok-place.ensures.value)
