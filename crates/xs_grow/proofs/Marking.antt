-- The numbers of a label among marks.
use Rattle.std.proofs.Common.{◌≡◌, ℕ, suc, ◌<◌, ◌≤◌, Bool, true, false, cond, List, [], ◌∷◌, ◌++◌, length, slice_get, Option, None, Some, refl, sym, ap, ◌∙◌, subst, arith, inl, inr}
use Rattle.std.specs.Prelude.{Contains, slice_index_or}
use Rattle.std.proofs.lemmas.Bool.{cases_lt, cases_eq}
use Rattle.std.proofs.lemmas.Option.{same_Some, slice_get_read, slice_get_within}
use Rattle.xs_class.proofs.Lists.{get_of, contains_of, get_push, get_left, get_last, one_longer}
use Rattle.xs_grow.specs.Lists.{AreOnce, Appends}
use Rattle.xs_grow.specs.Marked.{IsFirst, IsLatest, AreLinked}
use Rattle.xs_grow.proofs.ListLemmas.{appends_none, appends_one, appends_more, appends_same}

-- the marks with one more
module _ {L : Type 0} (marks : List (L × ℕ)) (label : L) (n : ℕ) where
  abbrev longer : List (L × ℕ)
  longer = marks ++ (label, n) ∷ []

  old_label : (k m : ℕ) (other : L) → k < length marks → slice_get longer k ≡ Some (other, m) → slice_get marks k ≡ Some (other, m)
  old_label k m other lt at = elim (get_push marks (label, n) (other, m) k at) [
    | inl old ↦ old
    | inr last ↦ let e = last.0 in absurd (omega arith)
  ]

  old_latest : (limit : ℕ) (other : L) (o : Option ℕ) → limit ≤ length marks → IsLatest marks limit other o → IsLatest longer limit other o
  old_latest limit other None le none = λ k m lt at. none k m lt (old_label k m other (omega arith) at)
  old_latest limit other (Some p) le (lt, at, after) =
      (lt, (at.0, get_left marks ((label, n) ∷ []) p (other, at.0) at.1), (λ k m above below there. after k m above below (old_label k m other (omega arith) there)))

  -- the new mark is the last one of its label
  new_latest : IsLatest longer (suc (length marks)) label (Some (length marks))
  new_latest = (omega arith, (n, get_last marks (label, n)), (λ k m above below there. absurd (omega arith)))

  -- and of another label the last one is what it was
  other_latest : (other : L) (o : Option ℕ) → (label ≡ other → ⊥) → IsLatest marks (length marks) other o → IsLatest longer (suc (length marks)) other o
  other_latest other None differs none = λ k m lt at. elim (get_push marks (label, n) (other, m) k at) [
    | inl old ↦ none k m (slice_get_within marks k (other, m) old) old
    | inr last ↦ differs (ap (λ (z : L × ℕ). z.0) last.1)
  ]
  other_latest other (Some p) differs (lt, at, after) = (
    omega arith,
    (at.0, get_left marks ((label, n) ∷ []) p (other, at.0) at.1),
    (λ k m above below there. elim (get_push marks (label, n) (other, m) k there) [
      | inl old ↦ after k m above (slice_get_within marks k (other, m) old) old
      | inr last ↦ differs (ap (λ (z : L × ℕ). z.0) last.1)
    ]),
  )

  -- a label leads to the new mark where it is the mark's
  pub linked_more : (eq : L → L → Bool) (itself : (x : L) → eq x x ≡ true) (same : (x y : L) → eq x y ≡ true → x ≡ y) (last last' : L → Option ℕ) (befores befores' : List (Option ℕ)) (o : Option ℕ) (marks' : List (L × ℕ)) (place : ℕ) → AreLinked last marks befores → marks' ≡ longer → place ≡ length marks → o ≡ last label → befores' ≡ befores ++ o ∷ [] → ((other : L) → last' other ≡ cond (eq label other) (Some place) (last other)) → AreLinked last' marks' befores'
  linked_more eq itself same last last' befores befores' o marks' place h e at_end before e' updated = subst (λ (z : List (L × ℕ)). AreLinked last' z befores') (sym e) (record {
    long = ap length e' ∙ (one_longer befores o ∙ (ap suc h.long ∙ sym (one_longer marks (label, n))));
    last_is = λ other. subst (λ z. IsLatest longer z other (last' other)) (sym (one_longer marks (label, n))) (subst (λ z. IsLatest longer (suc (length marks)) other z) (sym (updated other ∙ ap (λ z. cond (eq label other) (Some z) (last other)) at_end)) (lasts other (eq label other) refl));
    before_is = before_is;
  })
    where
      lasts : (other : L) (b : Bool) → eq label other ≡ b → IsLatest longer (suc (length marks)) other (cond b (Some (length marks)) (last other))
      lasts other true t = subst (λ (z : L). IsLatest longer (suc (length marks)) z (Some (length marks))) (same label other t) new_latest
      lasts other false f = other_latest other (last other) (λ is. absurd (true_false (sym (itself label) ∙ (ap (λ (z : L). eq label z) is ∙ f)))) (h.last_is other)
        where
          true_false : true ≡ false → ⊥
          true_false c = cc

      before_is : (k m : ℕ) (other : L) (p : Option ℕ) → slice_get longer k ≡ Some (other, m) → slice_get befores' k ≡ Some p → IsLatest longer k other p
      before_is k m other p at there = elim (get_push marks (label, n) (other, m) k at) [
        | inl old ↦
            let lt = slice_get_within marks k (other, m) old in
            let l = h.long in
            old_latest k other p (omega arith) (h.before_is k m other p old (elim (get_push befores o p k (subst (λ (z : List (Option ℕ)). slice_get z k ≡ Some p) e' there)) [
              | inl here ↦ here
              | inr end ↦ let is = end.0 in absurd (omega arith)
            ]))
        | inr new ↦
            let place : k ≡ length marks = new.0 in
            let is : o ≡ p = same_Some o p (sym (subst (λ z. slice_get (befores ++ o ∷ []) z ≡ Some o) (h.long ∙ sym place) (get_last befores o)) ∙ subst (λ (z : List (Option ℕ)). slice_get z k ≡ Some p) e' there) in
            let latest : IsLatest marks (length marks) other p = subst (λ (z : L). IsLatest marks (length marks) z p) (ap (λ (z : L × ℕ). z.0) new.1) (subst (λ z. IsLatest marks (length marks) label z) (sym before ∙ is) (h.last_is label)) in
            subst (λ z. IsLatest longer z other p) (sym place) (old_latest (length marks) other p (omega arith) latest)
      ]

-- the number of a mark of the label from place `from` on
abbrev pub IsLaterNumber : {L : Type 0} → List (L × ℕ) → L → ℕ → ℕ → Type 0
IsLaterNumber marks label from n = (k : ℕ) × (from ≤ k) × (slice_get marks k ≡ Some (label, n))

-- Where the next mark of the label is looked for, going down from the last: those from place `limit` on are
-- appended, and `place` is the last one before it.
pub record IsDown {L : Type 0} (marks : List (L × ℕ)) (label : L) (place : Option ℕ) (old new : List ℕ) : Type 0 where
  pub limit : ℕ
  pub latest : IsLatest marks limit label place
  pub appended : Appends (IsLaterNumber marks label limit) old new

module _ {L : Type 0} (marks : List (L × ℕ)) where
  pub down_start : (label : L) (place : Option ℕ) (old : List ℕ) → IsLatest marks (length marks) label place → IsDown marks label place old old
  down_start label place old latest = record {
    limit = length marks;
    latest = latest;
    appended = appends_none (IsLaterNumber marks label (length marks)) old (λ n h. let lt = slice_get_within marks h.0 (label, n) h.2 in let le = h.1 in absurd (omega arith));
  }

  -- the mark at the place that was found
  pub down_at : (label : L) (place : Option ℕ) (k : ℕ) (old new : List ℕ) → place ≡ Some k → IsDown marks label place old new → (n : ℕ) × (slice_get marks k ≡ Some (label, n))
  down_at label place k old new e h = let m : IsLatest marks h.limit label (Some k) = subst (λ z. IsLatest marks h.limit label z) e h.latest in m.1

  -- one mark down
  pub down_step : (label : L) (k n : ℕ) (next : Option ℕ) (old mid new : List ℕ) → AreOnce marks → IsDown marks label (Some k) old mid → slice_get marks k ≡ Some (label, n) → new ≡ mid ++ n ∷ [] → IsLatest marks k label next → IsDown marks label next old new
  down_step label k n next old mid new once h at e latest = record { limit = k; latest = latest; appended = more }
    where
      found : (k < h.limit) × ((m : ℕ) × (slice_get marks k ≡ Some (label, m))) × ((l m : ℕ) → k < l → l < h.limit → slice_get marks l ≡ Some (label, m) → ⊥)
      found = h.latest

      one : Appends (λ m. n ≡ m) mid new
      one = appends_one (λ m. n ≡ m) mid new n e refl (λ m same. same)

      more : Appends (IsLaterNumber marks label k) old new
      more = appends_more (IsLaterNumber marks label h.limit) (λ m. n ≡ m) (IsLaterNumber marks label k) old mid new h.appended one
          (λ m (l, le, there) same.
          let e' = once l k (label, n) (subst (λ z. slice_get marks l ≡ Some (label, z)) (sym same) there) at in
          let lt = found.0 in
          absurd (omega arith))
          (λ m (l, le, there). let lt = found.0 in (l, omega arith, there))
          (λ m same. (k, omega arith, subst (λ z. slice_get marks k ≡ Some (label, z)) same at))
          (λ m (l, le, there). elim (cases_lt l h.limit) [
            | inl lt ↦ elim (cases_eq l k) [
              | inl e' ↦ inr (ap (λ (z : L × ℕ). z.1) (same_Some (label, n) (label, m) (sym at ∙ (ap (λ z. slice_get marks z) (sym e') ∙ there))))
              | inr ne ↦ absurd (found.2 l m (omega arith) lt there)
            ]
            | inr ge ↦ inl (l, ge, there)
          ])

  -- the same, by what was read
  pub down_next : (label : L) (k : ℕ) (x : L × ℕ) (inside : List (L × ℕ)) (place next : Option ℕ) (old mid new : List ℕ) → inside ≡ marks → AreOnce marks → place ≡ Some k → IsDown marks label place old mid → x ≡ slice_index_or inside k x → new ≡ mid ++ x.1 ∷ [] → IsLatest marks k label next → IsDown marks label next old new
  down_next label k x inside place next old mid new is once found down read e latest =
      let m = down_at label place k old mid found down in
      let there : slice_get marks k ≡ Some x = slice_get_read marks (length marks) k x refl (slice_get_within marks k (label, m.0) m.1) (subst (λ (z : List (L × ℕ)). x ≡ slice_index_or z k x) is read) in
      let same : m.0 ≡ x.1 = ap (λ (z : L × ℕ). z.1) (same_Some (label, m.0) x (sym m.1 ∙ there)) in
      down_step label k x.1 next old mid new once (subst (λ z. IsDown marks label z old mid) found down) (subst (λ z. slice_get marks k ≡ Some (label, z)) same m.1) e latest

  pub down_end : (label : L) (old new : List ℕ) → IsDown marks label None old new → Appends (λ n. Contains marks (label, n)) old new
  down_end label old new h = appends_same (IsLaterNumber marks label h.limit) (λ n. Contains marks (label, n)) old new
      (λ n (k, le, at). contains_of marks k (label, n) at)
      (λ n c.
      let k = get_of marks (label, n) c in
      elim (cases_lt k.0 h.limit) [
        | inl lt ↦ absurd (none k.0 n lt k.1)
        | inr ge ↦ (k.0, ge, k.1)
      ])
      h.appended
    where
      none : IsFirst marks h.limit label
      none = h.latest
