-- Items of a rule by their places, and tables of one number.
use Rattle.std.proofs.Common.{◌≡◌, inl, inr, ℕ, zero, suc, ◌<◌, ◌≤◌, List, [], ◌∷◌, length, refl, sym, subst, arith, Some, slice_get, get_or, replicate}
use Rattle.std.proofs.lemmas.Bool.{cases_lt}
use Rattle.std.proofs.lemmas.List.{get_or_past, get_or-replicate, length-replicate}
use Rattle.std.proofs.lemmas.Option.{slice_get_read, same_Some, none-some}
use Rattle.xs_gram.specs.declared.parts.GItem.{GItem}
use Rattle.xs_gram.specs.declared.parts.GItem.TheVariants.{Fixed, Term, Non, Skip}
use Rattle.xs_gram.specs.Grammar.{Grammar, items, slots, ItemAt}
use Rattle.xs_gram.specs.Common.{Kind, of_non, lookup, kinds}
use Rattle.xs_gram.specs.Laws.{Every, IsDistinct, IsNumbered}
use Rattle.xs_gram.proofs.Lookup.{AllOf, each_found}
use Rattle.xs_gram.proofs.Printed.{keys-kinds}
use Rattle.xs_cover.specs.Tables.{at}

pub item_read : (g : Grammar) (q n : ℕ) (is : List GItem) (i : GItem) → is ≡ items g q → n < length is → i ≡ get_or is n i → ItemAt g q n i
item_read g q n is i e h is_item = subst (λ l. slice_get l n ≡ Some i) e (slice_get_read is (length is) n i refl h is_item)

-- what holds of each slot holds of an item's
pub item_slots : (P : ℕ → Type 0) (is : List GItem) (n : ℕ) (item : GItem) → Every P (slots is) → slice_get is n ≡ Some item → Every P (slots (item ∷ []))
item_slots P [] n item every e = absurd (none-some item e)
item_slots P (Fixed f ∷ is) zero item every e = subst (λ j. Every P (slots (j ∷ []))) (same_Some (Fixed f) item e) tt
item_slots P (Term t s ∷ is) zero item every e = subst (λ j. Every P (slots (j ∷ []))) (same_Some (Term t s) item e) (every.0, tt)
item_slots P (Non m s ∷ is) zero item every e = subst (λ j. Every P (slots (j ∷ []))) (same_Some (Non m s) item e) (every.0, tt)
item_slots P (Skip k ∷ is) zero item every e = subst (λ j. Every P (slots (j ∷ []))) (same_Some (Skip k) item e) tt
item_slots P (Fixed f ∷ is) (suc n) item every e = item_slots P is n item every e
item_slots P (Term t s ∷ is) (suc n) item every e = item_slots P is n item every.1 e
item_slots P (Non m s ∷ is) (suc n) item every e = item_slots P is n item every.1 e
item_slots P (Skip k ∷ is) (suc n) item every e = item_slots P is n item every e

-- what holds of each slot with its kind holds of an item's
entry_of : (P : ℕ × Kind → Type 0) (is : List GItem) (n m s : ℕ) → AllOf P (kinds is) → slice_get is n ≡ Some (Non m s) → P (s, of_non m)
entry_of P [] n m s all e = absurd (none-some (Non m s) e)
entry_of P (i ∷ is) zero m s all e = first i (same_Some i (Non m s) e) all
  where
    first : (j : GItem) → j ≡ Non m s → AllOf P (kinds (j ∷ is)) → P (s, of_non m)
    first j is_j every = (subst (λ k. AllOf P (kinds (k ∷ is))) is_j every).0
entry_of P (Fixed f ∷ is) (suc n) m s all e = entry_of P is n m s all e
entry_of P (Term u k ∷ is) (suc n) m s all e = entry_of P is n m s all.1 e
entry_of P (Non u k ∷ is) (suc n) m s all e = entry_of P is n m s all.1 e
entry_of P (Skip k ∷ is) (suc n) m s all e = entry_of P is n m s all e

pub non_found : (is : List GItem) (n m s : ℕ) → IsNumbered (slots is) → slice_get is n ≡ Some (Non m s) → lookup s (kinds is) ≡ Some (of_non m)
non_found is n m s numbered e = entry_of (λ x. lookup x.0 (kinds is) ≡ Some x.1) is n m s (each_found (kinds is) (subst IsDistinct (sym (keys-kinds is)) numbered.once)) e

-- a table of one number
pub at_replicate : (count x k : ℕ) → k < count → at (replicate count x) k ≡ x
at_replicate count x k h = get_or-replicate count k x 0 h

pub at_replicate_low : (count x k : ℕ) → at (replicate count x) k ≤ x
at_replicate_low count x k = elim (cases_lt k count) [
  | inl below ↦ omega (arith, at_replicate count x k below)
  | inr past ↦ omega (arith, get_or_past (replicate count x) k 0 (omega (arith, length-replicate count x, past)))
]
