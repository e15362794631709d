-- Where none of the three rules on fences fails, the fences of a text side are proper.
use Rattle.std.proofs.Common.{◌≡◌, ◌∙◌, ap, sym, refl, subst, ℕ, suc, List, [], ◌∷◌, ◌++◌, append-nil, Some, None, slice_get, Bool, true, false, ◌||◌, ◌==◌, map, inl, inr, eqb-true, ◌⊎◌}
use Rattle.std.specs.declared.option.Option.{Option}
use Rattle.xs_class.specs.Classes.{Has}
use Rattle.xs_class.specs.declared.side.Side.TheVariants.{Text}
use Rattle.xs_class.proofs.Truth.{false_true}
use Rattle.xs_class.specs.Ordered.{place_of}
use Rattle.xs_regex.specs.declared.regex.Regex.{Regex}
use Rattle.xs_regex.specs.declared.regex.Regex.TheVariants as R
use Rattle.xs_sheet.specs.declared.item.Item.{Item}
use Rattle.xs_sheet.specs.declared.item.Item.TheVariants as I
use Rattle.xs_sheet.specs.declared.unit.Unit.{Unit}
use Rattle.xs_sheet.specs.declared.unit.Unit.TheVariants as V
use Rattle.xs_sheet.specs.declared.sheet.Sheet.{Sheet}
use Rattle.xs_gram.specs.declared.parts.RulePart.{RulePart}
use Rattle.xs_gram.specs.declared.parts.SkipPart.{SkipPart}
use Rattle.xs_gram.specs.declared.parts.GramParts.{GramParts}
use Rattle.xs_gram.specs.Fences.{fence_symbols, is_fence, spread_items, IsLevel, AvoidsFences}
use Rattle.xs_gram.specs.Laws.{IsDistinct}
use Rattle.xs_gram.specs.Building.{EachOf, HasProperFences}
use Rattle.xs_pair.specs.declared.ill.IllRule.TheVariants.{FenceChar, FenceInside, FenceOpen}
use Rattle.xs_pair.specs.declared.mark.Mark.TheVariants.{Content}
use Rattle.xs_pair.specs.Balance.{AreApart}
use Rattle.xs_pair.specs.Fences.{IsBalanced, fence_letters, fence_pairs, is_one_of, HasSomeOf, item_letters, side_letters, IsInside, IsOpen, FenceFails}
use Rattle.xs_pair.specs.Grammars.{Numbering, numbering, named_item, flat_item, flat_marks, rule_parts, AreTermsOf, AreSkipsOf, ArePartsOf}
use Rattle.xs_pair.specs.Listing.{rules_of}
use Rattle.xs_pair.specs.Marks.{slot_names}
use Rattle.xs_pair.specs.Rules.{SomeOf}
use Rattle.xs_pair.specs.Units.{unit_line, number_of}
use Rattle.xs_pair.specs.Verdict.{NoneFails}
use Rattle.xs_pair.proofs.Apart.{pairs_apart, pairs_once, no_fence}
use Rattle.xs_pair.proofs.Levels.{items_word, words_append, not_open_level}

-- a regex none of whose classes has a fence character avoids the fences
some_of : (P : ℕ → Type 0) (cs : List ℕ) (s : ℕ) → is_one_of cs s ≡ true → P s → SomeOf P cs
some_of P [] s is p = absurd (false_true is)
some_of P (c ∷ cs) s is p = by (c == s) refl is (λ later. some_of P cs s later p)
  where
    by : (t : Bool) → (c == s) ≡ t → (t || is_one_of cs s) ≡ true → (is_one_of cs s ≡ true → SomeOf P cs) → P c ⊎ SomeOf P cs
    by true same is later = inl (subst P (sym (eqb-true c s same)) p)
    by false other is later = inr (later is)

class_avoids : (us : List Unit) (class : List (ℕ × ℕ)) → (SomeOf (Has class) (fence_letters us) → ⊥) → (s : ℕ) → Has class s → is_fence (fence_pairs us) s ≡ false
class_avoids us class none s has = by (is_one_of (fence_letters us) s) refl
  where
    by : (t : Bool) → is_one_of (fence_letters us) s ≡ t → is_fence (fence_pairs us) s ≡ false
    by true is = absurd (none (some_of (Has class) (fence_letters us) s is has))
    by false is = no_fence us s is

avoids : (us : List Unit) (r : Regex) → (HasSomeOf (fence_letters us) r → ⊥) → AvoidsFences (fence_pairs us) r
avoids us R.Empty none = tt
avoids us (R.Set class) none = class_avoids us class none
avoids us (R.Then' p a q b) none = (avoids us a (λ h. none (inl h)), avoids us b (λ h. none (inr h)))
avoids us (R.Or' p a q b) none = (avoids us a (λ h. none (inl h)), avoids us b (λ h. none (inr h)))
avoids us (R.Star' p a) none = avoids us a none
avoids us (R.Times' p a least most) none = avoids us a none

abbrev NoneInside : List ℕ → List Unit → Type 0
NoneInside letters us = (k : ℕ) (u : Unit) → slice_get us k ≡ Some u → IsInside letters u → ⊥

terms_avoid : (all us : List Unit) (rs : List Regex) → NoneInside (fence_letters all) us → AreTermsOf us rs → EachOf (AvoidsFences (fence_pairs all)) rs
terms_avoid all [] [] none are = tt
terms_avoid all [] (r ∷ rs) none are = absurd are
terms_avoid all (V.Terminal name pattern regex line ∷ us) [] none are = absurd are
terms_avoid all (V.Terminal name pattern regex line ∷ us) (r ∷ rs) none are =
    (avoids all r (λ some. none 0 (V.Terminal name pattern regex line) refl (r, are.0, some)), terms_avoid all us rs (λ k u at. none (suc k) u at) are.1)
terms_avoid all (V.Ignorable name pattern regex normal line ∷ us) rs none are = terms_avoid all us rs (λ k u at. none (suc k) u at) are
terms_avoid all (V.Production name left right line ∷ us) rs none are = terms_avoid all us rs (λ k u at. none (suc k) u at) are
terms_avoid all (V.Fence left right line ∷ us) rs none are = terms_avoid all us rs (λ k u at. none (suc k) u at) are

skips_avoid : (all us : List Unit) (ks : List SkipPart) → NoneInside (fence_letters all) us → AreSkipsOf us ks → EachOf (λ (k : SkipPart). AvoidsFences (fence_pairs all) k.regex) ks
skips_avoid all [] [] none are = tt
skips_avoid all [] (k ∷ ks) none are = absurd are
skips_avoid all (V.Terminal name pattern regex line ∷ us) ks none are = skips_avoid all us ks (λ k u at. none (suc k) u at) are
skips_avoid all (V.Ignorable name pattern regex normal line ∷ us) [] none are = absurd are
skips_avoid all (V.Ignorable name pattern regex normal line ∷ us) (k ∷ ks) none are =
    (avoids all k.regex (λ some. none 0 (V.Ignorable name pattern regex normal line) refl (k.regex, are.0, some)), skips_avoid all us ks (λ k u at. none (suc k) u at) are.2)
skips_avoid all (V.Production name left right line ∷ us) ks none are = skips_avoid all us ks (λ k u at. none (suc k) u at) are
skips_avoid all (V.Fence left right line ∷ us) ks none are = skips_avoid all us ks (λ k u at. none (suc k) u at) are

-- the word of a text side laid out flat
item_flat : (n : Numbering) (slots : List (List ℕ)) (i : Item) → items_word (flat_item n slots i) ≡ item_letters i
item_flat n slots (I.Fixed []) = refl
item_flat n slots (I.Fixed (c ∷ cs)) = append-nil (c ∷ cs)
item_flat n slots (I.Skip name) = refl
item_flat n slots (I.Named name slot) = by (place_of n.terms name)
  where
    by : (o : Option ℕ) → items_word (named_item o (number_of n.nons name) (number_of slots slot) ∷ []) ≡ []
    by None = refl
    by (Some t) = refl

side_flat : (n : Numbering) (slots : List (List ℕ)) (is : List Item) → items_word (flat_marks n slots (map Content is)) ≡ side_letters is
side_flat n slots [] = refl
side_flat n slots (i ∷ is) =
    words_append (flat_item n slots i) (flat_marks n slots (map Content is)) ∙ ap (λ (w : List ℕ). w ++ items_word (flat_marks n slots (map Content is))) (item_flat n slots i) ∙ ap (λ (w : List ℕ). item_letters i ++ w) (side_flat n slots is)

abbrev NoneOpen : List (ℕ × ℕ) → List Unit → Type 0
NoneOpen fs us = (k : ℕ) (u : Unit) → slice_get us k ≡ Some u → IsOpen fs u → ⊥

rules_level : (n : Numbering) (fs : List (ℕ × ℕ)) (us : List Unit) → AreApart fs → NoneOpen fs us → EachOf (λ (r : RulePart). IsLevel fs (spread_items fs r.items)) (rule_parts n Text (rules_of us))
rules_level n fs [] apart none = tt
rules_level n fs (V.Terminal name pattern regex line ∷ us) apart none = rules_level n fs us apart (λ k u at. none (suc k) u at)
rules_level n fs (V.Ignorable name pattern regex normal line ∷ us) apart none = rules_level n fs us apart (λ k u at. none (suc k) u at)
rules_level n fs (V.Fence left right line ∷ us) apart none = rules_level n fs us apart (λ k u at. none (suc k) u at)
rules_level n fs (V.Production name left right line ∷ us) apart none =
    let slots = slot_names (map Content left) in (
      not_open_level fs (flat_marks n slots (map Content left)) apart (λ open_. none 0 (V.Production name left right line) refl (λ b. open_ (subst (λ (w : List ℕ). IsBalanced fs w) (sym (side_flat n slots left)) b))),
      rules_level n fs us apart (λ k u at. none (suc k) u at),
    )

pub text_proper : (s : Sheet) (names : List (List ℕ)) (parts : GramParts) → ArePartsOf s names Text parts → NoneFails (FenceFails s.units) → parts.fences ≡ fence_pairs s.units → HasProperFences parts
text_proper s names parts are none is =
    let us = s.units in
    let fs = fence_pairs us in
    let inside : NoneInside (fence_letters us) us = λ k u at in_. none FenceInside (unit_line u) (k, u, at, in_, refl) in
    let open_ : NoneOpen fs us = λ k u at out. none FenceOpen (unit_line u) (k, u, at, out, refl) in
    let apart = pairs_apart us (none FenceChar) in
    let level = rules_level (numbering us names) fs us apart open_ in record {
      once = subst (λ (z : List (ℕ × ℕ)). IsDistinct (fence_symbols z)) (sym is) (pairs_once us (none FenceChar));
      each_term = subst (λ (z : List (ℕ × ℕ)). EachOf (AvoidsFences z) parts.terms) (sym is) (terms_avoid us us parts.terms inside are.terms);
      each_skip = subst (λ (z : List (ℕ × ℕ)). EachOf (λ (k : SkipPart). AvoidsFences z k.regex) parts.skips) (sym is) (skips_avoid us us parts.skips inside are.skips);
      each_rule = subst (λ (z : List (ℕ × ℕ)). EachOf (λ (r : RulePart). IsLevel z (spread_items z r.items)) parts.rules) (sym is) (subst (λ (rs : List RulePart). EachOf (λ (r : RulePart). IsLevel fs (spread_items fs r.items)) rs) (sym are.rules) level);
    }
