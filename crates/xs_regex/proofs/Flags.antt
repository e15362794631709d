-- Flags of positions, and the word that leads to them.
use Rattle.std.proofs.Common.{◌≡◌, ◌⊎◌, ◌↔◌, ◌∙◌, ℕ, ◌+◌, ◌<◌, Bool, true, false, List, [], ◌∷◌, ◌++◌, length, take, set, get_or, refl, sym, ap, subst, inl, inr, get_or-set_same, get_or-set_other, nat_eq}
use Rattle.std.proofs.lemmas.Bool.{cases_eq, eqb-true, eq-eqb}
use Rattle.std.proofs.lemmas.List.{take_more, same_from_push, nil_from_length}
use Rattle.std.proofs.lemmas.List.Elements.{Contains-append_left, Contains-append_right, Contains-append_cases}
use Rattle.std.specs.List.{Contains}
use Rattle.std.specs.Bool.{IsTrue}
use Rattle.xs_regex.specs.declared.position.Position.{Position}
use Rattle.xs_regex.specs.Automaton.{HasAt, Runs, begins, goes, Accepts}
use Rattle.xs_regex.specs.Marked.{Marked, MayCome, AreEntered, AreNext, IsReached}
use Rattle.xs_regex.proofs.Rows.{contains_one}
use Rattle.xs_regex.proofs.Runs.{run_not_empty}
use Rattle.xs_class.proofs.Lists.{one_contains}

-- one flag more
marked_now : (flags : List Bool) (x k : ℕ) → x < length flags → Marked (set flags x true) k → Marked flags k ⊎ (k ≡ x)
marked_now flags x k l m = elim (cases_eq k x) [
  | inl e ↦ inr e
  | inr n ↦ inl (sym (get_or-set_other flags x k true false n) ∙ m)
]

marked_kept : (flags : List Bool) (x k : ℕ) → x < length flags → Marked flags k → Marked (set flags x true) k
marked_kept flags x k l m = elim (cases_eq k x) [
  | inl e ↦ rw e (get_or-set_same flags x true false l)
  | inr n ↦ get_or-set_other flags x k true false n ∙ m
]

pub mark_more : (old flags : List Bool) (numbers : List ℕ) (x i : ℕ) → i < length numbers → x ≡ get_or numbers i 0 → x < length flags → ((k : ℕ) → Marked flags k ↔ (Marked old k ⊎ Contains (take i numbers) k)) → (k : ℕ) → Marked (set flags x true) k ↔ (Marked old k ⊎ Contains (take (i + 1) numbers) k)
mark_more old flags numbers x i l is within h k = (
  λ m. elim (marked_now flags x k within m) [
    | inl a ↦ elim ((h k).0 a) [
      | inl b ↦ inl b
      | inr b ↦ inr (longer k (Contains-append_left (take i numbers) (x ∷ []) k b))
    ]
    | inr e ↦ inr (longer k (Contains-append_right (take i numbers) (x ∷ []) k (subst (λ y. Contains (x ∷ []) y) (sym e) (one_contains x))))
  ],
  λ m. elim m [
    | inl a ↦ marked_kept flags x k within ((h k).1 (inl a))
    | inr a ↦ elim (Contains-append_cases (take i numbers) (x ∷ []) k (subst (λ (t : List ℕ). Contains t k) whole a)) [
      | inl b ↦ marked_kept flags x k within ((h k).1 (inr b))
      | inr b ↦ let e = contains_one x k b in rw e (get_or-set_same flags x true false within)
    ]
  ],
)
  where
    whole : take (i + 1) numbers ≡ take i numbers ++ x ∷ []
    whole = take_more numbers i 0 l ∙ ap (λ (y : ℕ). take i numbers ++ y ∷ []) (sym is)

    longer : (k : ℕ) → Contains (take i numbers ++ x ∷ []) k → Contains (take (i + 1) numbers) k
    longer k c = subst (λ (t : List ℕ). Contains t k) (sym whole) c

pub mark_end : (old flags : List Bool) (numbers : List ℕ) (i : ℕ) → take i numbers ≡ numbers → ((k : ℕ) → Marked flags k ↔ (Marked old k ⊎ Contains (take i numbers) k)) → (k : ℕ) → Marked flags k ↔ (Marked old k ⊎ Contains numbers k)
mark_end old flags numbers i e h = subst (λ (t : List ℕ). (k : ℕ) → Marked flags k ↔ (Marked old k ⊎ Contains t k)) e h

-- the word that leads to the flags, from its start on
pub reached_init : (p : Position) (clear may reached : List Bool) → ((k : ℕ) → Marked clear k → ⊥) → ((k : ℕ) → Marked may k ↔ (Marked clear k ⊎ Contains p.first k)) → ((k : ℕ) → Marked reached k → ⊥) → IsReached p [] may reached
reached_init p clear may reached c m r = record {
  next = λ k. (
    λ a. elim ((m k).0 a) [ inl b ↦ absurd (c k b) | inr b ↦ inl (refl, b) ],
    λ a. elim a [ inl b ↦ (m k).1 (inr b.1) | inr b ↦ absurd (run_not_empty b.1 refl) ],
  );
  last = λ k. (λ a. absurd (r k a), λ a. absurd (run_not_empty a refl));
}

front_is_nil : (v : List ℕ) (s t : ℕ) → v ++ s ∷ [] ≡ t ∷ [] → v ≡ []
front_is_nil v s t e = (same_from_push v [] s t e).0

entered : (p : Position) (v : List ℕ) (s k : ℕ) → MayCome p v k → HasAt p k s → Runs p (v ++ s ∷ []) k
entered p v s k (inl a) h = begins s a.1 h (ap (λ (x : List ℕ). x ++ s ∷ []) a.0)
entered p v s k (inr a) h = goes v a.0 s a.1 a.2 h refl

entered_back : (p : Position) (v w : List ℕ) (s k : ℕ) → w ≡ v ++ s ∷ [] → Runs p w k → MayCome p v k × HasAt p k s
entered_back p v w s k e (begins t c h is) =
    let same = same_from_push v [] s t (sym e ∙ is) in
    (inl (same.0, c), subst (λ x. HasAt p k x) (sym same.1) h)
entered_back p v w s k e (goes u j t run l h is) =
    let same = same_from_push v u s t (sym e ∙ is) in
    (inr (j, subst (λ (x : List ℕ). Runs p x j) (sym same.0) run, l), subst (λ x. HasAt p k x) (sym same.1) h)

pub reached_more : (p : Position) (v w : List ℕ) (s : ℕ) (may reached also then : List Bool) → w ≡ v ++ s ∷ [] → IsReached p v may reached → AreEntered p may s also → AreNext p also then → IsReached p w then also
reached_more p v w s may reached also then e h a n = record {
  next = λ k. (
    λ m. let b = (n k).0 m in inr (b.0, ran b.0 b.1, b.2),
    λ m. elim m [
      | inl b ↦ absurd (not_nil (sym e ∙ b.0))
      | inr b ↦ (n k).1 (b.0, back b.0 b.1, b.2)
    ],
  );
  last = λ k. (λ m. ran k m, λ r. back k r);
}
  where
    ran : (k : ℕ) → Marked also k → Runs p w k
    ran k m = let b = (a k).0 m in subst (λ (x : List ℕ). Runs p x k) (sym e) (entered p v s k ((h.next k).0 b.0) b.1)

    back : (k : ℕ) → Runs p w k → Marked also k
    back k r = let b = entered_back p v w s k e r in (a k).1 ((h.next k).1 b.0, b.1)

    not_nil : v ++ s ∷ [] ≡ [] → ⊥
    not_nil e = push_not_nil v s e
      where
        push_not_nil : (v : List ℕ) (s : ℕ) → v ++ s ∷ [] ≡ [] → ⊥
        push_not_nil [] s e = cc
        push_not_nil (x ∷ v) s e = cc

pub reached_end : (p : Position) (w : List ℕ) (empty result : Bool) (may reached : List Bool) → (IsTrue empty ↔ (w ≡ [])) → IsReached p w may reached → (IsTrue result ↔ ((IsTrue empty × IsTrue p.nullable) ⊎ ((k : ℕ) × Contains p.last k × Marked reached k))) → IsTrue result ↔ Accepts p w
reached_end p w empty result may reached e h r = (
  λ t. elim (r.0 t) [
    | inl a ↦ inl (e.0 a.0, a.1)
    | inr a ↦ inr (a.0, (h.last a.0).0 a.2, a.1)
  ],
  λ a. elim a [
    | inl b ↦ r.1 (inl (e.1 b.0, b.1))
    | inr b ↦ r.1 (inr (b.0, b.2, (h.last b.0).1 b.1))
  ],
)

pub empty_test : (b : Bool) (w : List ℕ) → b ≡ nat_eq (length w) 0 → IsTrue b ↔ (w ≡ [])
empty_test b w e = (λ t. nil_from_length w (eqb-true (length w) 0 (sym e ∙ t)), λ n. e ∙ eq-eqb (length w) 0 (ap (λ (x : List ℕ). length x) n))
