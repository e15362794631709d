use Rattle.std.proofs.Common.{◌++◌, ◌∙◌, ℕ, List, ap, sym}
use Rattle.xs_table_out.proofs.Marks.{mark, marked}
use Rattle.xs_table_out.proofs.text.marked.Goals as goal

pub returns : goal.returns
returns c = λ word is.
    marked word c.args.bytes.items c.extend_from_slice-2.new.self.items (sym c.if-not-begins_with_mark.false ∙ c.begins_with_mark.ensures word (c.deref.ensures.value ∙ is)) is
    (c.in_ok-extend_from_slice-2.ensures.items ∙ ap (λ (l : List ℕ). l ++ c.deref-2.result.now) (c.in_ok-extend_from_slice.ensures.items ∙ ap (λ (l : List ℕ). l ++ mark) c.in_ok-all.ensures.items) ∙ ap (λ (l : List ℕ). mark ++ l) c.deref-2.ensures.value)
