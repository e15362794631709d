use Rattle.std.proofs.Common.{◌≡◌, ◌++◌, ◌∙◌, List, Some, ap, sym, append_assoc}
use Rattle.std.specs.Prelude.{slice_get, slice_range}
use Rattle.xs_table_out.specs.declared.steps.Step.{Step}
use Rattle.xs_table_out.specs.Steps.{text_at, text_of}
use Rattle.xs_table_out.proofs.symbols.SymbolsWriter.put_text.Goals as goal

pub returns-clause-put : goal.returns-clause-put
returns-clause-put c = λ done rest.
    let s = c.args.self.now.steps.now in
    let all = c.args.self.now.all.items in
    let step = c.in-Some.step in
    let there : slice_get c.args.self.now.steps.now.all.items c.args.number ≡ Some c.in-Some.step = ap (λ (l : List Step). slice_get l c.args.number) (sym c.deref.ensures.value) ∙ sym c.in-Some.ensures in
    let text_is : text_at c.args.self.now.steps.now c.args.number ≡ slice_range c.args.self.now.steps.now.text.items c.in-Some.step.begin c.in-Some.step.end = ap (text_of c.args.self.now.steps.now.text.items) there in
    ap (λ l. l ++ rest) c.in_ok-append.ensures ∙ append_assoc c.args.self.now.all.items c.in-Some-stretch.text.now rest
    ∙ ap (λ w. c.args.self.now.all.items ++ (w ++ rest)) (c.in-Some-stretch.ensures ∙ ap (λ t. slice_range t c.in-Some.step.begin c.in-Some.step.end) c.deref-2.ensures.value ∙ sym text_is)
