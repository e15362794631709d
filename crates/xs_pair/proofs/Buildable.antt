-- A grammar can be built of the parts of either side, where none of the seven rules fails.
use Rattle.std.proofs.Common.{◌≡◌, ◌≢◌, ◌⊎◌, ◌∙◌, ◌<◌, ◌≤◌, ◌+◌, inl, inr, ap, sym, refl, ℕ, suc, zero, List, [], ◌∷◌, ◌++◌, length, map, get_or, Some, None, true, arith, slice_get, length-append, eqb}
use Rattle.std.specs.List.{list_any}
use Rattle.std.specs.declared.option.Option.{Option}
use Rattle.std.specs.Option.{option_map}
use Rattle.std.proofs.lemmas.List.{length-map, map-append}
use Rattle.std.proofs.lemmas.Bool.Decides.{nat_tests}
use Rattle.std.proofs.lemmas.Option.{none-some, same_Some, slice_get_within, slice_get-map, slice_get-get_or}
use Rattle.std.proofs.lemmas.Map.Steps.{le-length_from_below}
use Rattle.xs_class.specs.Ordered.{place_of}
use Rattle.xs_gram.proofs.Each.{each_append}
use Rattle.xs_sheet.specs.declared.item.Item.{Item}
use Rattle.xs_sheet.specs.declared.item.Item.TheVariants as I
use Rattle.xs_sheet.specs.declared.unit.Unit.{Unit}
use Rattle.xs_gram.specs.declared.parts.GItem.{GItem}
use Rattle.xs_gram.specs.declared.parts.GItem.TheVariants.{Fixed, Term, Non, Skip}
use Rattle.xs_gram.specs.Grammar.{slots, fixed_symbols}
use Rattle.xs_gram.specs.Laws.{IsNumbered, Every}
use Rattle.xs_gram.specs.Laws as L
use Rattle.xs_gram.specs.Building.{EachOf, NamesThere}
use Rattle.xs_pair.specs.declared.mark.Mark.{Mark}
use Rattle.xs_pair.specs.declared.mark.Mark.TheVariants.{Opening, Attribute, AttributeEnd, Closing, Value, Content}
use Rattle.xs_pair.specs.declared.names.Sort.TheVariants as S
use Rattle.xs_pair.specs.Directories.{IsDistinct}
use Rattle.xs_pair.specs.Grammars.{numbering, Numbering, flat_item, flat_mark, flat_marks, named_item}
use Rattle.xs_pair.specs.Marks.{item_slots, mark_slots, slots_of, slot_names}
use Rattle.xs_pair.specs.Rules.{SomeOf, IsAmong, HasOtherName, IsUndefined, IsMisnamed, IsMiskinded, HasRepeat}
use Rattle.xs_pair.specs.Units.{names_of, nons_of, terms_of, skips_of, number_of}
use Rattle.xs_pair.specs.Weights.{item_weight, mark_weight, marks_weight}
use Rattle.xs_pair.proofs.Places.{found_there, not_both, among_if}
use Rattle.xs_pair.proofs.Numbering.{number_is, number_bound, firsts_have, sorted}
use Rattle.xs_pair.proofs.Once.{distinct_no_repeat}

There : List Unit → GItem → Type 0
There us i = NamesThere (length (nons_of us)) (length (terms_of us)) (length (skips_of us)) i

-- what the items of an item name is there
item_there : (us : List Unit) (names sl : List (List ℕ)) (i : Item) → (HasOtherName (names_of S.Any us) i → ⊥) → (IsMisnamed (skips_of us) i → ⊥) → EachOf (NamesThere (length (nons_of us)) (length (terms_of us)) (length (skips_of us))) (flat_item (numbering us names) sl i)
item_there us names sl (I.Fixed []) named kind = tt
item_there us names sl (I.Fixed (c ∷ cs)) named kind = (omega arith, tt)
item_there us names sl (I.Skip name) named kind = (number_bound (skips_of us) name (among_if (skips_of us) name kind), tt)
item_there us names sl (I.Named name slot) named kind = (by_case (place_of (terms_of us) name) refl, tt)
  where
    of_unit : place_of (terms_of us) name ≡ None → IsAmong (terms_of us) name ⊎ (IsAmong (skips_of us) name ⊎ IsAmong (names_of S.Production us) name) → number_of (nons_of us) name < length (nons_of us)
    of_unit none (inl h) = absurd (not_both (terms_of us) name h none)
    of_unit none (inr (inl h)) = absurd (kind h)
    of_unit none (inr (inr h)) = number_bound (nons_of us) name (firsts_have (names_of S.Production us) name h)

    by_case : (o : Option ℕ) → place_of (terms_of us) name ≡ o → NamesThere (length (nons_of us)) (length (terms_of us)) (length (skips_of us)) (named_item o (number_of (nons_of us) name) (number_of sl slot))
    by_case None is = of_unit is (sorted us name (among_if (names_of S.Any us) name named))
    by_case (Some t) is = slice_get_within (terms_of us) t name (found_there (terms_of us) name t is)

mark_there : (us : List Unit) (names sl : List (List ℕ)) (m : Mark) → (IsUndefined (names_of S.Any us) m → ⊥) → (IsMiskinded (terms_of us) (skips_of us) m → ⊥) → EachOf (NamesThere (length (nons_of us)) (length (terms_of us)) (length (skips_of us))) (flat_mark (numbering us names) sl m)
mark_there us names sl (Opening tag as_) named kind = (omega arith, tt)
mark_there us names sl (Attribute name) named kind = (omega arith, tt)
mark_there us names sl AttributeEnd named kind = (omega arith, tt)
mark_there us names sl (Closing tag) named kind = (omega arith, tt)
mark_there us names sl (Value i) named kind = item_there us names sl i named (λ h. kind (inl h))
mark_there us names sl (Content i) named kind = item_there us names sl i named kind

pub marks_there : (us : List Unit) (names sl : List (List ℕ)) (ms : List Mark) → (SomeOf (IsUndefined (names_of S.Any us)) ms → ⊥) → (SomeOf (IsMiskinded (terms_of us) (skips_of us)) ms → ⊥) → EachOf (NamesThere (length (nons_of us)) (length (terms_of us)) (length (skips_of us))) (flat_marks (numbering us names) sl ms)
marks_there us names sl [] named kind = tt
marks_there us names sl (m ∷ ms) named kind =
    each_append (NamesThere (length (nons_of us)) (length (terms_of us)) (length (skips_of us))) (flat_mark (numbering us names) sl m) (flat_marks (numbering us names) sl ms)
    (mark_there us names sl m (λ h. named (inl h)) (λ h. kind (inl h)))
    (marks_there us names sl ms (λ h. named (inr h)) (λ h. kind (inr h)))

-- the slots of flat items are the numbers of the slots
slots-append : (xs ys : List GItem) → slots (xs ++ ys) ≡ slots xs ++ slots ys
slots-append [] ys = refl
slots-append (Fixed w ∷ xs) ys = slots-append xs ys
slots-append (Term t s ∷ xs) ys = ap (λ (l : List ℕ). s ∷ l) (slots-append xs ys)
slots-append (Non n s ∷ xs) ys = ap (λ (l : List ℕ). s ∷ l) (slots-append xs ys)
slots-append (Skip k ∷ xs) ys = slots-append xs ys

numbers : List (List ℕ) → List (List ℕ × List ℕ) → List ℕ
numbers sl ss = map (number_of sl) (map (λ (s : List ℕ × List ℕ). s.0) ss)

item_numbers : (n : Numbering) (sl : List (List ℕ)) (i : Item) → slots (flat_item n sl i) ≡ map (number_of sl) (map (λ (s : List ℕ × List ℕ). s.0) (item_slots i))
item_numbers n sl (I.Fixed []) = refl
item_numbers n sl (I.Fixed (c ∷ cs)) = refl
item_numbers n sl (I.Skip name) = refl
item_numbers n sl (I.Named name slot) = by_case (place_of n.terms name)
  where
    by_case : (o : Option ℕ) → slots (named_item o (number_of n.nons name) (number_of sl slot) ∷ []) ≡ number_of sl slot ∷ []
    by_case None = refl
    by_case (Some t) = refl

mark_numbers : (n : Numbering) (sl : List (List ℕ)) (m : Mark) → slots (flat_mark n sl m) ≡ map (number_of sl) (map (λ (s : List ℕ × List ℕ). s.0) (mark_slots m))
mark_numbers n sl (Value i) = item_numbers n sl i
mark_numbers n sl (Content i) = item_numbers n sl i
mark_numbers n sl m = refl

pub flat_slots : (n : Numbering) (sl : List (List ℕ)) (ms : List Mark) → slots (flat_marks n sl ms) ≡ map (number_of sl) (slot_names ms)
flat_slots n sl [] = refl
flat_slots n sl (m ∷ ms) =
    slots-append (flat_mark n sl m) (flat_marks n sl ms)
    ∙ ap (λ (l : List ℕ). l ++ slots (flat_marks n sl ms)) (mark_numbers n sl m)
    ∙ ap (λ (l : List ℕ). map (number_of sl) (map (λ (s : List ℕ × List ℕ). s.0) (mark_slots m)) ++ l) (flat_slots n sl ms)
    ∙ sym (ap (map (number_of sl)) (map-append (λ (s : List ℕ × List ℕ). s.0) (mark_slots m) (slots_of ms)) ∙ map-append (number_of sl) (map (λ (s : List ℕ × List ℕ). s.0) (mark_slots m)) (slot_names ms))

-- numbers of names that are there, each once, are the numbers from 0 on
every_number : (P : ℕ → Type 0) (sl ns : List (List ℕ)) → ((k : ℕ) (name : List ℕ) → slice_get ns k ≡ Some name → P (number_of sl name)) → Every P (map (number_of sl) ns)
every_number P sl [] h = tt
every_number P sl (n ∷ ns) h = (h 0 n refl, every_number P sl ns (λ k name at. h (suc k) name at))

pub repeat_later : (n : List ℕ) (ns : List (List ℕ)) → HasRepeat ns → HasRepeat (n ∷ ns)
repeat_later n ns r = let lt = r.before in record { name = r.name; j = suc r.j; k = suc r.k; before = omega arith; first_at = r.first_at; again_at = r.again_at }

pub same_number : (sl : List (List ℕ)) (a b : List ℕ) → IsAmong sl a → IsAmong sl b → number_of sl a ≡ number_of sl b → a ≡ b
same_number sl a b (j, is_a) (k, is_b) same =
    let one : j ≡ k = sym (number_is sl a j is_a) ∙ same ∙ number_is sl b k is_b in
    same_Some a b (sym (found_there sl a j is_a) ∙ ap (λ i. slice_get sl i) one ∙ found_there sl b k is_b)

once_numbers : (sl ns : List (List ℕ)) → (HasRepeat ns → ⊥) → ((k : ℕ) (name : List ℕ) → slice_get ns k ≡ Some name → IsAmong sl name) → L.IsDistinct (map (number_of sl) ns)
once_numbers sl [] never there = tt
once_numbers sl (n ∷ ns) never there = (
  every_number (λ m. m ≢ number_of sl n) sl ns (λ k name at same.
      let is : name ≡ n = same_number sl name n (there (suc k) name at) (there 0 n refl) same in
      never (record { name = n; j = 0; k = suc k; before = omega arith; first_at = refl; again_at = at ∙ ap Some is })),
  once_numbers sl ns (λ r. never (repeat_later n ns r)) (λ k name at. there (suc k) name at),
)

any_at : (xs : List ℕ) (k q : ℕ) → slice_get xs k ≡ Some q → list_any (eqb q) xs ≡ true
any_at [] k q at = absurd (none-some q at)
any_at (x ∷ xs) zero q at = grind (arith, nat_tests, same_Some x q at)
any_at (x ∷ xs) (suc k) q at = let rest = any_at xs k q at in grind (arith, nat_tests)

-- names that stand once and are all in another list are no more than those
pub longer : (sl ns : List (List ℕ)) → IsDistinct sl → ((k : ℕ) (name : List ℕ) → slice_get sl k ≡ Some name → IsAmong ns name) → length sl ≤ length ns
longer sl ns one back =
    let long : length sl ≤ length (map (number_of sl) ns) = le-length_from_below (map (number_of sl) ns) (length sl) (λ q lt. reached q lt (slice_get-get_or sl q [] lt)) in
    omega (arith, length-map ns (number_of sl))
  where
    reached : (q : ℕ) → q < length sl → slice_get sl q ≡ Some (get_or sl q []) → list_any (eqb q) (map (number_of sl) ns) ≡ true
    reached q lt at =
        let (k, is) = back q (get_or sl q []) at in
        let here = slice_get-map (number_of sl) ns k ∙ ap (option_map (number_of sl)) (found_there ns (get_or sl q []) k is) in
        let num : number_of sl (get_or sl q []) ≡ q = number_is sl (get_or sl q []) q (one q (get_or sl q []) at) in
        any_at (map (number_of sl) ns) k q (here ∙ ap Some num)

pub are_numbered : (sl ns : List (List ℕ)) → IsDistinct sl → IsDistinct ns → ((k : ℕ) (name : List ℕ) → slice_get ns k ≡ Some name → IsAmong sl name) → ((k : ℕ) (name : List ℕ) → slice_get sl k ≡ Some name → IsAmong ns name) → IsNumbered (map (number_of sl) ns)
are_numbered sl ns one two there back =
    let long : length sl ≤ length (map (number_of sl) ns) = omega (arith, longer sl ns one back, length-map ns (number_of sl)) in record {
      below = every_number (λ q. q < length (map (number_of sl) ns)) sl ns (λ k name at. (let low = number_bound sl name (there k name at) in omega arith));
      once = once_numbers sl ns (distinct_no_repeat ns two) there;
    }

-- how many items, and symbols of fixed words, flat items have
item_short : (n : Numbering) (sl : List (List ℕ)) (i : Item) → (length (flat_item n sl i) ≤ item_weight i) × (fixed_symbols (flat_item n sl i) ≤ item_weight i)
item_short n sl (I.Fixed []) = (omega arith, omega arith)
item_short n sl (I.Fixed (c ∷ cs)) = (omega arith, omega arith)
item_short n sl (I.Skip name) = (omega arith, omega arith)
item_short n sl (I.Named name slot) = by_case (place_of n.terms name)
  where
    by_case : (o : Option ℕ) → (1 ≤ 1) × (fixed_symbols (named_item o (number_of n.nons name) (number_of sl slot) ∷ []) ≤ 1)
    by_case None = (omega arith, omega arith)
    by_case (Some t) = (omega arith, omega arith)

mark_short : (n : Numbering) (sl : List (List ℕ)) (m : Mark) → (length (flat_mark n sl m) ≤ mark_weight m) × (fixed_symbols (flat_mark n sl m) ≤ mark_weight m)
mark_short n sl (Opening tag as_) = (omega arith, omega arith)
mark_short n sl (Attribute name) = (omega arith, omega arith)
mark_short n sl AttributeEnd = (omega arith, omega arith)
mark_short n sl (Closing tag) = (omega arith, omega arith)
mark_short n sl (Value i) = item_short n sl i
mark_short n sl (Content i) = item_short n sl i

symbols-append : (xs ys : List GItem) → fixed_symbols (xs ++ ys) ≡ fixed_symbols xs + fixed_symbols ys
symbols-append [] ys = omega arith
symbols-append (Fixed w ∷ xs) ys = let rest = symbols-append xs ys in omega arith
symbols-append (Term t s ∷ xs) ys = symbols-append xs ys
symbols-append (Non n s ∷ xs) ys = symbols-append xs ys
symbols-append (Skip k ∷ xs) ys = symbols-append xs ys

pub marks_short : (n : Numbering) (sl : List (List ℕ)) (ms : List Mark) → (length (flat_marks n sl ms) ≤ marks_weight ms) × (fixed_symbols (flat_marks n sl ms) ≤ marks_weight ms)
marks_short n sl [] = (omega arith, omega arith)
marks_short n sl (m ∷ ms) =
    let one = mark_short n sl m in
    let rest = marks_short n sl ms in (
      omega (arith, length-append (flat_mark n sl m) (flat_marks n sl ms), one.0, rest.0),
      omega (arith, symbols-append (flat_mark n sl m) (flat_marks n sl ms), one.1, rest.1),
    )
