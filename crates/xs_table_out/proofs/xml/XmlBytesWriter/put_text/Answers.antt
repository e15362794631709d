use Rattle.std.proofs.Common.{◌≡◌, ◌∙◌, ℕ, List, Some, string_bytes, ap}
use Rattle.std.specs.Prelude.{slice_get, slice_range}
use Rattle.std.specs.Option.{option_map}
use Rattle.xs_table_out.specs.declared.xml.Spelt.{Spelt}
use Rattle.xs_table_out.specs.Spelt.{cell_in}
use Rattle.xs_table_out.specs.Steps.{text_at}
use Rattle.xs_table_out.proofs.Spellings.{cell_writes, found_cell}
use Rattle.xs_table_out.proofs.xml.XmlBytesWriter.put_text.Goals as goal

pub returns-clause-put : goal.returns-clause-put
returns-clause-put c = λ done rest.
    let found : Some c.in-Some.cell ≡ option_map (λ x. cell_in x c.args.self.now.mode) (slice_get c.args.self.now.spellings.now.all.items c.args.number) =
    c.in-Some.ensures ∙ ap (λ (l : List Spelt). option_map (λ x. cell_in x c.args.self.now.mode) (slice_get l c.args.number)) c.deref.ensures.value in
    let is = found_cell c.args.self.now.steps.now c.args.self.now.spellings.now c.args.number c.args.self.now.mode c.in-Some.cell c.args.self.now.spelt found in
    cell_writes c.args.self.now.spellings.now.tags c.args.self.now.mode (text_at c.args.self.now.steps.now c.args.number) (string_bytes c.args.self.now.spellings.now.text) c.in-Some-stretch.text.now c.args.self.now.bytes.items c.append.new.list.items rest c.in-Some.cell is
    (c.in-Some-stretch.ensures ∙ ap (λ (l : List ℕ). slice_range l c.in-Some.cell.begin c.in-Some.cell.end) c.as_bytes.ensures.value) c.in_ok-append.ensures
