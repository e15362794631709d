-- Copies of units, one item and one unit after another.
use Rattle.std.proofs.Common.{◌≡◌, ◌∙◌, ◌<◌, ◌+◌, sym, ap, subst, ℕ, List, [], ◌∷◌, ◌++◌, length, take, get_or, map}
use Rattle.std.proofs.lemmas.List.{map-append}
use Rattle.xs_class.proofs.Lists.{take_next}
use Rattle.xs_sheet.specs.declared.unit.Unit.{Unit}
use Rattle.xs_sheet.specs.declared.x_item.Attr.{Attr}
use Rattle.xs_sheet.specs.declared.x_item.XItem.{XItem, Element}
use Rattle.xs_sheet.specs.Outline.{Content, element, with_item, content_of, UnitOutline, unit_outline}
use Rattle.xs_sheet.specs.Grammar.{HasRegex, HaveRegexes}
use Rattle.xs_sheet.proofs.ContentLaws.{content_push, with_element, regexes_push}
use Rattle.xs_pair.specs.Upgrades.{AreCopies}

-- one more item
pub content_next : (xs ys new : List XItem) (i : ℕ) (x y : XItem) → i < length ys → y ≡ get_or ys i y → content_of xs ≡ content_of (take i ys) → ((before : Content) → with_item x before ≡ with_item y before) → new ≡ xs ++ x ∷ [] → content_of new ≡ content_of (take (i + 1) ys)
content_next xs ys new i x y lt at so_far same is =
    ap content_of is ∙ content_push xs x ∙ same (content_of xs) ∙ ap (λ (c : Content). with_item y c) so_far ∙ sym (content_push (take i ys) y) ∙ ap content_of (sym (take_next ys i y lt at))

-- an element whose content is the same
pub element_same : (tag : List ℕ) (as_ : List Attr) (inner outer : List XItem) (before : Content) → content_of inner ≡ content_of outer → with_item (Element tag as_ inner) before ≡ with_item (Element tag as_ outer) before
element_same tag as_ inner outer before same = with_element tag as_ inner before ∙ ap (λ (c : Content). element before tag as_ c) same ∙ sym (with_element tag as_ outer before)

-- one more unit
pub copies_next : (us vs new : List Unit) (i : ℕ) (u v : Unit) → i < length us → u ≡ get_or us i u → AreCopies (take i us) vs → unit_outline v ≡ unit_outline u → HasRegex v → new ≡ vs ++ v ∷ [] → AreCopies (take (i + 1) us) new
copies_next us vs new i u v lt at copies same regex is =
    let taken : take (i + 1) us ≡ take i us ++ u ∷ [] = take_next us i u lt at in
    record {
      outlines = ap (λ (xs : List Unit). map unit_outline xs) is ∙ map-append unit_outline vs (v ∷ []) ∙ ap (λ (os : List UnitOutline). os ++ unit_outline v ∷ []) copies.outlines ∙ ap (λ (o : UnitOutline). map unit_outline (take i us) ++ o ∷ []) same ∙ sym (map-append unit_outline (take i us) (u ∷ [])) ∙ ap (λ (xs : List Unit). map unit_outline xs) (sym taken);
      regexes = subst (λ (xs : List Unit). HaveRegexes xs) (sym is) (regexes_push vs v copies.regexes regex);
    }
