-- The entries of the parts of a rule: they stand under its slots, one at each.
use Rattle.std.proofs.Common.{◌≡◌, ◌≢◌, inl, inr, ℕ, ◌<◌, List, [], ◌∷◌, length, Bool, true, false, eqb, Option, Some, None, refl, sym, ◌∙◌, ap, arith, ◌||◌}
use Rattle.std.specs.List.{AllByRecursion, IsDistinct as HasNoTwo, list_any}
use Rattle.std.proofs.lemmas.Bool.Decides.{nat_tests, eqb_tells}
use Rattle.std.proofs.lemmas.Map.Keys.{IsDistinct-cons}
use Rattle.std.proofs.lemmas.Map.Steps.{length-le_from_distinct_below}
use Rattle.xs_gram.specs.declared.parts.GItem.{GItem}
use Rattle.xs_gram.specs.declared.parts.GItem.TheVariants.{Fixed, Term, Non, Skip}
use Rattle.xs_gram.specs.Grammar.{Grammar, slots}
use Rattle.xs_gram.specs.Derivations.{Parts, done, fixed, leaf, skip, sub, FitsItems}
use Rattle.xs_gram.specs.Common.{lookup, named}
use Rattle.xs_gram.specs.Laws.{Every, IsDistinct, IsNumbered}
use Rattle.xs_gram.proofs.Lookup.{keys, length-keys}

-- the entries' numbers are the slots
pub keys_are : (g : Grammar) (is : List GItem) (ps : Parts) → FitsItems g is ps → keys (named g is ps) ≡ slots is
keys_are g [] done fit = refl
keys_are g (Fixed f ∷ is) (fixed u ps) fit = keys_are g is ps fit.1
keys_are g (Term t s ∷ is) (leaf u ps) fit = ap (λ (l : List ℕ). s ∷ l) (keys_are g is ps fit.1)
keys_are g (Skip k ∷ is) (skip u ps) fit = keys_are g is ps fit.1
keys_are g (Non n s ∷ is) (sub q qs ps) fit = ap (λ (l : List ℕ). s ∷ l) (keys_are g is ps fit.2)
keys_are g is ps fit = absurd fit

pub lookup_same : {A : Type 0} (s : ℕ) (a : A) (es : List (ℕ × A)) → lookup s ((s, a) ∷ es) ≡ Some a
lookup_same s a es = grind (arith, nat_tests)

pub lookup_other : {A : Type 0} (s r : ℕ) (a : A) (es : List (ℕ × A)) → r ≢ s → lookup r ((s, a) ∷ es) ≡ lookup r es
lookup_other s r a es ne = grind (arith, nat_tests)

-- a number that has no entry is none of the entries' numbers
other_keys : {A : Type 0} (es : List (ℕ × A)) (s : ℕ) → lookup s es ≡ None → AllByRecursion (λ y. eqb s y ≡ false) (keys es)
other_keys [] s e = tt
other_keys {A = A} ((k, a) ∷ es) s e = elim (eqb_tells s k) [
  | inl (one, same) ↦ absurd (some_none a (sym (lookup_same k a es) ∙ ap (λ x. lookup x ((k, a) ∷ es)) (sym same) ∙ e))
  | inr (two, ne) ↦ (two, other_keys es s (sym (lookup_other k s a es ne) ∙ e))
]
  where
    some_none : (x : A) → Some x ≡ None → ⊥
    some_none x h = cc

others : (n : ℕ) (ns : List ℕ) → Every (λ m. m ≢ n) ns → AllByRecursion (λ y. eqb n y ≡ false) ns
others n [] h = tt
others n (m ∷ ns) h = elim (eqb_tells n m) [ inl (one, same) ↦ absurd (h.0 (sym same)) | inr (two, ne) ↦ (two, others n ns h.1) ]

no_two : (ns : List ℕ) → IsDistinct ns → HasNoTwo eqb ns
unfolding HasNoTwo
no_two [] h = tt
no_two (n ∷ ns) h = (others n ns h.0, no_two ns h.1)

any_below : (ns : List ℕ) (n q : ℕ) → Every (λ m. m < n) ns → list_any (eqb q) ns ≡ true → q < n
any_below [] n q h e = cc
any_below (m ∷ ns) n q h e = elim (eqb_tells q m) [
  | inl (one, same) ↦ let lt = h.0 in omega arith
  | inr (two, ne) ↦ any_below ns n q h.1 (rest (eqb q m) (list_any (eqb q) ns) two e)
]
  where
    rest : (a b : Bool) → a ≡ false → a || b ≡ true → b ≡ true
    rest true b h e = cc
    rest false b h e = e

-- where entries are numbered, each number below their count has one
pub found : {A : Type 0} (es : List (ℕ × A)) → IsNumbered (keys es) → (s : ℕ) → s < length es → (a : A) × (lookup s es ≡ Some a)
found {A = A} es numbered s lt = by_case (lookup s es) refl
  where
    by_case : (o : Option A) → lookup s es ≡ o → (a : A) × (lookup s es ≡ Some a)
    by_case (Some a) e = (a, e)
    by_case None e =
        let all : HasNoTwo eqb (s ∷ keys es) = IsDistinct-cons eqb s (keys es) (other_keys es s e) (no_two (keys es) numbered.once) in
        let long = length-keys es in
        let below : Every (λ m. m < length (keys es)) (s ∷ keys es) = (omega arith, numbered.below) in
        let le = length-le_from_distinct_below (s ∷ keys es) (length (keys es)) all (λ q h. any_below (s ∷ keys es) (length (keys es)) q below h) in
        absurd (omega arith)
