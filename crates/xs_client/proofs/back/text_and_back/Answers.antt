use Rattle.std.proofs.Common.{◌≡◌, [], ◌∷◌, map, string_bytes}
use Rattle.std.specs.Prelude.{codes}
use Rattle.xs_class.specs.declared.side.Side.TheVariants.{Text, Xml}
use Rattle.xs_chars.specs.declared.form.Form.TheVariants.{AsIs}
use Rattle.xs_top.specs.Runs.{IsNormalOf}
use Rattle.xs_client.proofs.Asking.{sheet_name, turns_to_xml, turns_to_text}
use Rattle.xs_client.proofs.Writing.{normal_same}
use Rattle.xs_client.proofs.Twice.{answered, ends, turned_back}
use Rattle.xs_client.proofs.back.text_and_back.Goals as goal

pub returns-clause-normal : goal.returns-clause-normal
returns-clause-normal c = λ first second.
    let two = rw c.as_slice.ensures at c.in_ok-second.ensures in
    let to_xml : map string_bytes c.deref.result.now ≡ codes "to-xml" ∷ sheet_name ∷ [] = rw c.deref.ensures.value c.in_ok-to_xml.ensures in
    let to_text : map string_bytes c.deref-2.result.now ≡ codes "to-text" ∷ sheet_name ∷ [] = rw c.deref-2.ensures.value c.in_ok-to_text.ensures in
    let back = turned_back _ _ _ _ _ _ _ _ c.requires c.in_ok-first.ensures two c.translates_back.ensures Text Xml (turns_to_xml _ to_xml) (turns_to_text _ to_text) first in
    answered _ _ _ _ _ _ _ _ c.requires c.in_ok-first.ensures two (IsNormalOf c.args.sheet.now Text AsIs c.args.text.now) back second

pub returns-clause-same : goal.returns-clause-same
returns-clause-same c = λ first second none unmarked.
    let two = rw c.as_slice.ensures at c.in_ok-second.ensures in
    let to_xml : map string_bytes c.deref.result.now ≡ codes "to-xml" ∷ sheet_name ∷ [] = rw c.deref.ensures.value c.in_ok-to_xml.ensures in
    let to_text : map string_bytes c.deref-2.result.now ≡ codes "to-text" ∷ sheet_name ∷ [] = rw c.deref-2.ensures.value c.in_ok-to_text.ensures in
    let back = turned_back _ _ _ _ _ _ _ _ c.requires c.in_ok-first.ensures two c.translates_back.ensures Text Xml (turns_to_xml _ to_xml) (turns_to_text _ to_text) first in
    normal_same _ _ _ (answered _ _ _ _ _ _ _ _ c.requires c.in_ok-first.ensures two (IsNormalOf c.args.sheet.now Text AsIs c.args.text.now) back second) none unmarked

pub returns-clause-ends : goal.returns-clause-ends
returns-clause-ends c = λ first few.
    let two = rw c.as_slice.ensures at c.in_ok-second.ensures in
    let to_xml : map string_bytes c.deref.result.now ≡ codes "to-xml" ∷ sheet_name ∷ [] = rw c.deref.ensures.value c.in_ok-to_xml.ensures in
    let to_text : map string_bytes c.deref-2.result.now ≡ codes "to-text" ∷ sheet_name ∷ [] = rw c.deref-2.ensures.value c.in_ok-to_text.ensures in
    let back = turned_back _ _ _ _ _ _ _ _ c.requires c.in_ok-first.ensures two c.translates_back.ensures Text Xml (turns_to_xml _ to_xml) (turns_to_text _ to_text) first in
    ends _ _ _ _ _ _ _ _ c.requires c.in_ok-first.ensures two (IsNormalOf c.args.sheet.now Text AsIs c.args.text.now) back few
