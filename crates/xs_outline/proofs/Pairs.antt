-- The grammars of a sheet have a name for each slot of each production.
use Rattle.std.proofs.Common.{◌≡◌, ℕ, zero, suc, ◌≢◌, ◌⊎◌, inl, inr, List, [], ◌∷◌, length, get_or, map, refl, sym, ◌∙◌, ap, subst, Some}
use Rattle.std.specs.Prelude.{slice_get}
use Rattle.std.proofs.lemmas.Option.{none-some, same_Some}
use Rattle.xs_class.specs.Ordered.{place_of}
use Rattle.std.proofs.lemmas.List.{length-map}
use Rattle.xs_class.specs.declared.side.Side.TheVariants.{Text}
use Rattle.xs_gram.specs.declared.parts.GItem.{GItem}
use Rattle.xs_gram.specs.declared.parts.GItem.TheVariants.{Fixed, Term, Non, Skip}
use Rattle.xs_gram.specs.declared.parts.RulePart.{RulePart}
use Rattle.xs_gram.specs.Common.{Kind, kinds}
use Rattle.xs_gram.specs.Grammar.{items, slots, no_rule}
use Rattle.xs_gram.specs.Laws.{Every, IsDistinct, HasNumberedSlots}
use Rattle.xs_gram.proofs.Lookup.{keys}
use Rattle.xs_sheet.specs.declared.sheet.Sheet.{Sheet}
use Rattle.xs_pair.specs.declared.production.Rule.{Rule}
use Rattle.xs_pair.specs.Grammars.{Pair, IsPairOf, Numbering, numbering, rule_part}
use Rattle.xs_pair.specs.Listing.{rules_of}
use Rattle.xs_pair.specs.Marks.{slot_names, slots_of}
use Rattle.xs_pair.specs.Units.{number_of}
use Rattle.xs_pair.proofs.Places.{found_there, first_before}
use Rattle.xs_pair.proofs.SlotKinds.{numbered, flat_kinds}
use Rattle.xs_outline.specs.Shapes.{names_of, HasSlotNames}
use Rattle.xs_outline.specs.Machine.{HasDistinctSlots}

names_long : (n : Numbering) (r : Rule) → length (kinds (rule_part n Text r).items) ≡ length (slot_names r.left)
names_long n r =
    ap length (flat_kinds n (slot_names r.left) r.left) ∙ length-map (slots_of r.left) (numbered n (slot_names r.left)) ∙ sym (length-map (slots_of r.left) (λ (s : List ℕ × List ℕ). s.0))

counts_at : (n : Numbering) (rs : List Rule) (q : ℕ) → length (kinds (get_or (map (rule_part n Text) rs) q no_rule).items) ≡ length (get_or (map (λ (r : Rule). slot_names r.left) rs) q [])
counts_at n [] q = refl
counts_at n (r ∷ rs) zero = names_long n r
counts_at n (r ∷ rs) (suc q) = counts_at n rs q

pub pair_has_slot_names : (s : Sheet) (p : Pair) → IsPairOf s p → HasSlotNames p
pair_has_slot_names s p pair =
    let rs = rules_of s.units in
    let n = numbering s.units p.names in
    record {
      rules = ap length pair.slots ∙ length-map rs (λ (r : Rule). slot_names r.left) ∙ sym (ap length pair.text.rules ∙ length-map rs (rule_part n Text));
      counts = λ q. ap (λ (l : List RulePart). length (kinds (get_or l q no_rule).items)) pair.text.rules ∙ counts_at n rs q ∙ ap (λ (l : List (List (List ℕ))). length (get_or l q [])) (sym pair.slots);
    }

every_at : (P : ℕ → Type 0) (xs : List ℕ) (k x : ℕ) → Every P xs → slice_get xs k ≡ Some x → P x
every_at P [] k x all is = absurd (none-some x is)
every_at P (y ∷ ys) zero x all is = subst P (same_Some y x is) all.0
every_at P (y ∷ ys) (suc k) x all is = every_at P ys k x all.1 is

distinct_at : (xs : List ℕ) (j k x : ℕ) → IsDistinct xs → slice_get xs j ≡ Some x → slice_get xs k ≡ Some x → j ≡ k
distinct_at [] j k x distinct a b = absurd (none-some x a)
distinct_at (y ∷ ys) zero zero x distinct a b = refl
distinct_at (y ∷ ys) zero (suc k) x distinct a b = absurd (every_at (λ m. m ≢ y) ys k x distinct.0 b (sym (same_Some y x a)))
distinct_at (y ∷ ys) (suc j) zero x distinct a b = absurd (every_at (λ m. m ≢ y) ys j x distinct.0 a (sym (same_Some y x b)))
distinct_at (y ∷ ys) (suc j) (suc k) x distinct a b = ap suc (distinct_at ys j k x distinct.1 a b)

pub slots_are : (is : List GItem) → slots is ≡ keys (kinds is)
slots_are [] = refl
slots_are (Fixed f ∷ is) = slots_are is
slots_are (Term t s ∷ is) = ap (λ (z : List ℕ). s ∷ z) (slots_are is)
slots_are (Non n s ∷ is) = ap (λ (z : List ℕ). s ∷ z) (slots_are is)
slots_are (Skip k ∷ is) = slots_are is

-- the slot of an entry is the number of its name
number_at : (n : Numbering) (sl : List (List ℕ)) (es : List (List ℕ × List ℕ)) (s : ℕ) (name : List ℕ) → slice_get (map (λ (e : List ℕ × List ℕ). e.0) es) s ≡ Some name → slice_get (keys (map (numbered n sl) es)) s ≡ Some (number_of sl name)
number_at n sl [] s name is = absurd (none-some name is)
number_at n sl (e ∷ es) zero name is = ap (λ (z : List ℕ). Some (number_of sl z)) (same_Some e.0 name is)
number_at n sl (e ∷ es) (suc s) name is = number_at n sl es s name is

rule_case : (n : Numbering) (rs : List Rule) (q : ℕ) → ((r : Rule) × (get_or (map (rule_part n Text) rs) q no_rule ≡ rule_part n Text r) × (get_or (map (λ (x : Rule). slot_names x.left) rs) q [] ≡ slot_names r.left)) ⊎ (get_or (map (λ (x : Rule). slot_names x.left) rs) q [] ≡ [])
rule_case n [] q = inr refl
rule_case n (r ∷ rs) zero = inl (r, refl, refl)
rule_case n (r ∷ rs) (suc q) = rule_case n rs q

-- where the slots of the text side are numbered, their names are distinct
distinct_names : (n : Numbering) (r : Rule) → IsDistinct (slots (rule_part n Text r).items) → (s : ℕ) (name : List ℕ) → slice_get (slot_names r.left) s ≡ Some name → place_of (slot_names r.left) name ≡ Some s
distinct_names n r distinct s name is =
    let sl = slot_names r.left in
    let are : slots (rule_part n Text r).items ≡ keys (map (numbered n sl) (slots_of r.left)) = slots_are (rule_part n Text r).items ∙ ap (λ (z : List (ℕ × Kind)). keys z) (flat_kinds n sl r.left) in
    let first = first_before sl name s is in
    let there = found_there sl name first.0 first.2 in
    let one = ap (λ (z : List ℕ). slice_get z s) are ∙ number_at n sl (slots_of r.left) s name is in
    let other = ap (λ (z : List ℕ). slice_get z first.0) are ∙ number_at n sl (slots_of r.left) first.0 name there in
    first.2 ∙ ap (λ k. Some k) (distinct_at (slots (rule_part n Text r).items) first.0 s (number_of sl name) distinct other one)

distinct_case : (n : Numbering) (rs : List Rule) (p : Pair) (q at : ℕ) (name : List ℕ) → p.text.rules ≡ map (rule_part n Text) rs → names_of p q ≡ get_or (map (λ (r : Rule). slot_names r.left) rs) q [] → IsDistinct (slots (items p.text q)) → slice_get (names_of p q) at ≡ Some name → ((r : Rule) × (get_or (map (rule_part n Text) rs) q no_rule ≡ rule_part n Text r) × (get_or (map (λ (x : Rule). slot_names x.left) rs) q [] ≡ slot_names r.left)) ⊎ (get_or (map (λ (x : Rule). slot_names x.left) rs) q [] ≡ []) → place_of (names_of p q) name ≡ Some at
distinct_case n rs p q at name rules names distinct is (inl (r, part, own)) =
    let items_are : items p.text q ≡ (rule_part n Text r).items = ap (λ (l : List RulePart). (get_or l q no_rule).items) rules ∙ ap (λ (x : RulePart). x.items) part in
    let whole = names ∙ own in
    ap (λ (z : List (List ℕ)). place_of z name) whole
    ∙ distinct_names n r (subst (λ (z : List GItem). IsDistinct (slots z)) items_are distinct) at name (ap (λ (z : List (List ℕ)). slice_get z at) (sym whole) ∙ is)
distinct_case n rs p q at name rules names distinct is (inr empty) = absurd (none-some name (ap (λ (z : List (List ℕ)). slice_get z at) (sym (names ∙ empty)) ∙ is))

pub pair_has_distinct_slots : (s : Sheet) (p : Pair) → IsPairOf s p → HasNumberedSlots p.text → HasDistinctSlots p
pair_has_distinct_slots s p pair numbers q at name is =
    let rs = rules_of s.units in
    let n = numbering s.units p.names in
    distinct_case n rs p q at name pair.text.rules (ap (λ (l : List (List (List ℕ))). get_or l q []) pair.slots) (numbers q).once is (rule_case n rs q)
