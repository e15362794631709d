use Rattle.std.proofs.Common.{List, ℕ, ◌∙◌, ap, subst, sym, vec_items}
use Rattle.std.specs.Str.{IsUtf8}
use Rattle.std.proofs.lemmas.Str.{IsUtf8-string_bytes}
use Rattle.xs_xml_out.specs.Spelling.{AreKnown}
use Rattle.xs_xml_out.proofs.Known.{balanced_known}
use Rattle.xs_xml_out.proofs.write.write_xml.Goals as goal

pub put_all-requires : goal.put_all-requires
put_all-requires c =
    let known = balanced_known c.args.names.now c.args.word.now c.requires in
    subst (λ (names : List (List ℕ)). AreKnown names c.as_slice-symbols.result.now) (sym c.in_ok-tags.ensures) (subst (AreKnown c.args.names.now) (sym c.as_slice-symbols.ensures) known)

pub returns-clause-utf8 : goal.returns-clause-utf8
returns-clause-utf8 c = subst (λ (b : List ℕ). IsUtf8 b) (sym (c.from_vec.ensures ∙ ap vec_items c.into_bytes.ensures.value)) (IsUtf8-string_bytes c.put_all.new.out)
