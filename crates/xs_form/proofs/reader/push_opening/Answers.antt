use Rattle.std.proofs.Common.{◌≡◌, ◌++◌, ◌∷◌, [], List, ℕ, Option, ◌∙◌, ap, append_assoc}
use Rattle.std.proofs.lemmas.Result.{on_ok_weaker}
use Rattle.xs_class.specs.Marks.{opening_mark}
use Rattle.xs_xml_laws.specs.Reads.{marked}
use Rattle.xs_form.specs.Sorted.{shown_ordered, entry_symbols}
use Rattle.xs_form.proofs.reader.push_opening.Goals as goal

pub returns : goal.returns
returns c =
    let rest = entry_symbols c.args.names.now (shown_ordered c.args.attributes) in
    let m = c.mark_of.ensures ∙ ap (λ (o : Option ℕ). marked opening_mark o) c.in_ok-place.ensures.value in
    on_ok_weaker c.push_ordered.result (λ (e : c.push_ordered.new.word ≡ c.push.new.self ++ rest).
    e
    ∙ ap (λ (x : List ℕ). x ++ rest) c.in_ok-push.ensures.ok
    ∙ append_assoc c.args.word.now (c.mark_of.result ∷ []) rest
    ∙ ap (λ (x : ℕ). c.args.word.now ++ x ∷ rest) m) c.push_ordered.ensures
