use Rattle.std.proofs.Common.{◌++◌, ◌∙◌, [], ℕ, List, ap, sym, append-nil, string_bytes}
use Rattle.xs_xml_out.specs.declared.mode.Mode.TheVariants.{Content}
use Rattle.xs_xml_out.specs.Written.{rest_bytes}
use Rattle.xs_xml_out.proofs.Appended.{appended_rest, rest_bytes-nil}
use Rattle.xs_xml_out.proofs.write.put_all.Goals as goal

pub returns : goal.returns
returns c =
    let after = c.in_ok-put_stretch.field-0 in
    c.in_ok-put_text.ensures
    ∙ ap (λ (l : List ℕ). string_bytes c.put_stretch.new.out ++ l) (sym (rest_bytes-nil c.args.tags.now after))
    ∙ appended_rest c.args.tags.now Content after c.args.symbols.now (string_bytes c.args.out.now) (string_bytes c.put_stretch.new.out) [] c.in_ok-put_stretch.ensures
    ∙ ap (λ (w : List ℕ). string_bytes c.args.out.now ++ rest_bytes c.args.tags.now Content w) (append-nil c.args.symbols.now)
