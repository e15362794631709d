use Rattle.std.proofs.Common.{◌≡◌, ◌++◌, ◌∙◌, ℕ, List, Some, ap, sym}
use Rattle.std.specs.Prelude.{slice_get, slice_range}
use Rattle.xs_table_out.specs.declared.text.Encoding.{Encoding}
use Rattle.xs_table_out.specs.Steps.{text_at}
use Rattle.xs_table_out.proofs.Spellings.{word_writes}
use Rattle.xs_table_out.proofs.text.TextBytesWriter.put_text.Goals as goal

pub returns-clause-put : goal.returns-clause-put
returns-clause-put c = λ done rest.
    let encoding = c.in-Some.encoding in
    let there : slice_get c.args.self.now.encodings.now.all.items c.args.number ≡ Some c.in-Some.encoding = ap (λ (l : List Encoding). slice_get l c.args.number) (sym c.deref.ensures.value) ∙ sym c.in-Some.ensures in
    let is = c.args.self.now.encoded c.args.number c.in-Some.encoding there in
    word_writes (text_at c.args.self.now.steps.now c.args.number) c.args.self.now.bytes.items c.append.new.list.items rest
    (c.in_ok-append.ensures ∙ ap (λ (l : List ℕ). c.args.self.now.bytes.items ++ l) (c.in-Some-stretch.ensures ∙ ap (λ (l : List ℕ). slice_range l c.in-Some.encoding.begin c.in-Some.encoding.end) c.deref-2.ensures.value ∙ is.is))
