-- Where an item may end that begins at a place of the document.
use Rattle.std.proofs.Common.{◌≡◌, ◌⊎◌, ◌↔◌, ℕ, zero, suc, ◌+◌, ◌<◌, ◌≤◌, Bool, true, false, List, [], ◌∷◌, length, take, slice_get, Some, refl, sym, ap, ◌∙◌, subst, arith, inl, inr, true≢false}
use Rattle.std.specs.Prelude.{IsTrue, slice_range}
use Rattle.std.proofs.lemmas.Option.{none-some, same_Some}
use Rattle.xs_gram.specs.declared.parts.GItem.TheVariants.{Term, Skip}
use Rattle.xs_gram.specs.Grammar.{Grammar, term_of, skip_of, ItemAt}
use Rattle.xs_gram.specs.Sound.{IsBuilt}
use Rattle.xs_chart_laws.specs.Reading.{Reads}
use Rattle.xs_chart_laws.proofs.Words.{get_take, Reads-join, Reads-is, Reads-within}
use Rattle.xs_chart_laws.proofs.Spelling.{term_agrees, skip_agrees}
use Rattle.xs_grow.specs.declared.call.Call.{Call}
use Rattle.xs_grow.specs.Lists.{HasAllOf}
use Rattle.xs_grow.specs.Candidates.{EndsAt}
use Rattle.xs_grow.specs.Running.{AcceptsTo}
use Rattle.xs_grow.proofs.ListLemmas.{all_none, all_one, all_same}

pub reads_more : (w u : List ℕ) (at k x next : ℕ) → Reads w at (take k u) (at + k) → slice_get u k ≡ Some x → slice_get w (at + k) ≡ Some x → next ≡ suc k → Reads w at (take next u) (at + next)
reads_more w u at k x next r here there e =
    let far : suc (at + k) ≡ at + next = omega arith in
    subst (λ z. Reads w at (take next u) z) far (subst (λ z. Reads w at (take z u) (suc (at + k))) (sym e) (subst (λ z. Reads w at z (suc (at + k))) (sym (get_take u k x here)) (Reads-join w at (take k u) (x ∷ []) (at + k) (suc (at + k)) r (there, refl))))

pub reads_get : (w u : List ℕ) (at k x j : ℕ) → Reads w at u j → slice_get u k ≡ Some x → slice_get w (at + k) ≡ Some x
reads_get w [] at k x j r e = absurd (none-some x e)
reads_get w (y ∷ u) at zero x j r e =
    let s : at + 0 ≡ at = omega arith in
    subst (λ z. slice_get w z ≡ Some x) (sym s) (r.0 ∙ ap (λ (z : ℕ). Some z) (same_Some y x e))
reads_get w (y ∷ u) at (suc k) x j r e =
    let s : suc at + k ≡ at + suc k = omega arith in
    subst (λ z. slice_get w z ≡ Some x) s (reads_get w u (suc at) k x j r.1 e)

-- a symbol that differs
pub not_read : (w u : List ℕ) (at k x y j : ℕ) → slice_get w (at + k) ≡ Some x → slice_get u k ≡ Some y → (x ≡ y → ⊥) → Reads w at u j → ⊥
not_read w u at k x y j there here differ r = differ (same_Some x y (sym there ∙ reads_get w u at k y j r here))

-- a word that is too long
pub too_long : (w u : List ℕ) (at j : ℕ) → at ≤ length w → length w < at + length u → Reads w at u j → ⊥
too_long w u at j le long r = let e = Reads-is w at u j r in let within = Reads-within w at u j le r in absurd (omega arith)

pub fixed_ends : (w u : List ℕ) (at end : ℕ) (ends : List ℕ) (b : Bool) → (IsTrue b ↔ Reads w at u (at + length u)) → ((b ≡ true) × (end ≡ at + length u) × (ends ≡ end ∷ [])) ⊎ ((b ≡ false) × (ends ≡ [])) → HasAllOf (Reads w at u) ends
fixed_ends w u at end ends b reads (inl (t, e, is)) =
    subst (λ z. HasAllOf (Reads w at u) z) (sym is) (all_one (Reads w at u) end (subst (λ z. Reads w at u z) (sym e) (reads.0 t)) (λ j r. e ∙ sym (Reads-is w at u j r)))
fixed_ends w u at end ends b reads (inr (f, is)) =
    subst (λ z. HasAllOf (Reads w at u) z) (sym is) (all_none (Reads w at u) (λ j r. true≢false (sym (reads.1 (subst (λ z. Reads w at u z) (Reads-is w at u j r) r)) ∙ f)))

module _ (g : Grammar) (w : List ℕ) (calls : List (Call × ℕ)) (built : IsBuilt g) (p n : ℕ) where
  pub term_ends : (t s m : ℕ) (ends : List ℕ) → ItemAt g p n (Term t s) → HasAllOf (AcceptsTo (term_of g t).automaton w m (length w)) ends → HasAllOf (EndsAt g w calls (Term t s) m) ends
  term_ends t s m ends at all =
      let agrees = (term_agrees g built p n t s at).accepts in
      all_same (AcceptsTo (term_of g t).automaton w m (length w)) (EndsAt g w calls (Term t s) m) ends (λ j h. (h.0, h.1, (agrees (slice_range w m j)).1 h.2)) (λ j h. (h.0, h.1, (agrees (slice_range w m j)).0 h.2)) all

  pub skip_ends : (k m : ℕ) (ends : List ℕ) → ItemAt g p n (Skip k) → HasAllOf (AcceptsTo (skip_of g k).automaton w m (length w)) ends → HasAllOf (EndsAt g w calls (Skip k) m) ends
  skip_ends k m ends at all =
      let agrees = (skip_agrees g built p n k at).accepts in
      all_same (AcceptsTo (skip_of g k).automaton w m (length w)) (EndsAt g w calls (Skip k) m) ends (λ j h. (h.0, h.1, (agrees (slice_range w m j)).1 h.2)) (λ j h. (h.0, h.1, (agrees (slice_range w m j)).0 h.2)) all
