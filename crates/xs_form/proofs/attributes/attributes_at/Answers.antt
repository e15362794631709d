use Rattle.std.proofs.Common.{◌≡◌, ◌++◌, ◌∷◌, [], map, List, sym, ◌∙◌, ap, subst}
use Rattle.std.specs.Option.{option_map}
use Rattle.std.proofs.lemmas.List.{map-append}
use Rattle.xs_xml_laws.specs.Scan.{attr_at}
use Rattle.xs_form.specs.Attributes.{Held, shown, shown_attribute, kept_attribute}
use Rattle.xs_form.proofs.AttributeLaws.{IsListSoFar, list_more, list_ends, attribute_shorter}
use Rattle.xs_form.proofs.attributes.attributes_at.Goals as goal

pub attributes-smaller : goal.attributes-smaller
attributes-smaller c =
    let found : option_map shown_attribute c.in_ok-attribute.field-0 ≡ option_map kept_attribute (attr_at c.attributes.rest.now) = c.in_ok-attribute.ensures in
    attribute_shorter c.attributes.rest.now c.in-Some.more.now (shown c.in-Some.attribute) (ap (option_map shown_attribute) (sym c.in-Some.is) ∙ found)

pub attributes-preserved : goal.attributes-preserved
attributes-preserved c =
    let found : option_map shown_attribute c.in_ok-attribute.field-0 ≡ option_map kept_attribute (attr_at c.attributes.rest.now) = c.in_ok-attribute.ensures in
    let next = list_more c.args.text.now (map shown c.attributes.attributes.items) c.attributes.rest.now c.in-Some.more.now (shown c.in-Some.attribute) c.attributes.invariant (ap (option_map shown_attribute) (sym c.in-Some.is) ∙ found) in
    let e : map shown c.push.new.self.items ≡ map shown c.attributes.attributes.items ++ shown c.in-Some.attribute ∷ [] = ap (map shown) c.in_ok-push.ensures.items ∙ map-append shown c.attributes.attributes.items (c.in-Some.attribute ∷ []) in
    subst (λ (x : List Held). IsListSoFar c.args.text.now x c.in-Some.more.now) (sym e) next

pub returns : goal.returns
returns c =
    let found : option_map shown_attribute c.in_ok-attribute.field-0 ≡ option_map kept_attribute (attr_at c.attributes.rest.now) = c.in_ok-attribute.ensures in
    let end = list_ends c.args.text.now (map shown c.attributes.attributes.items) c.attributes.rest.now c.attributes.invariant (ap (option_map shown_attribute) (sym c.in_default.is) ∙ found) in
    record { kept = end.kept; left = end.left; are = end.are }
