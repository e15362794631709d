-- One automaton or another: the words are those of either.
use Rattle.std.proofs.Common.{◌≡◌, ◌⊎◌, ◌∙◌, ℕ, ◌+◌, ◌||◌, Bool, true, false, List, ◌++◌, length, refl, sym, ap, subst, inl, inr, arith, length-append}
use Rattle.std.proofs.lemmas.List.{length-map}
use Rattle.std.proofs.lemmas.List.Elements.{Contains-append_left, Contains-append_right, Contains-append_cases}
use Rattle.std.specs.List.{Contains}
use Rattle.std.specs.Bool.{IsTrue}
use Rattle.xs_class.specs.Classes.{Has}
use Rattle.xs_regex.specs.declared.position.Position.{Position}
use Rattle.xs_regex.specs.Automaton.{Leads, Runs, begins, goes, Accepts, GoesOn, IsWellFormed}
use Rattle.xs_regex.specs.Parts.{shift, IsEither, IsTrim}
use Rattle.xs_regex.proofs.Rows.{at_left, at_right, at_split, at_within, shift_contains, contains_shift, shift_row, row_shift, split_below}
use Rattle.xs_regex.proofs.Runs.{Embeds, run_moved, on_moved, run_within, has_left, has_right}

one_of : (a b : Bool) → IsTrue (a || b) → IsTrue a ⊎ IsTrue b
one_of true b e = inl refl
one_of false b e = inr e

or_left : (a b : Bool) → IsTrue a → IsTrue (a || b)
or_left true b e = refl
or_left false b e = cc

or_right : (a b : Bool) → IsTrue b → IsTrue (a || b)
or_right true b e = refl
or_right false b e = e

-- numbers of the first, and those of the second after them
numbers_split : (n : ℕ) (xs ys zs : List ℕ) → zs ≡ xs ++ shift n ys → (k : ℕ) → Contains zs k → Contains xs k ⊎ ((m : ℕ) × (k ≡ n + m) × Contains ys m)
numbers_split n xs ys zs e k c = elim (Contains-append_cases xs (shift n ys) k (rw e at c)) [
  | inl h ↦ inl h
  | inr h ↦ inr (contains_shift n ys k h)
]

numbers_left : (n : ℕ) (xs ys zs : List ℕ) → zs ≡ xs ++ shift n ys → (k : ℕ) → Contains xs k → Contains zs k
numbers_left n xs ys zs e k c = rw e (Contains-append_left _ _ k c)

numbers_right : (n : ℕ) (xs ys zs : List ℕ) → zs ≡ xs ++ shift n ys → (k : ℕ) → Contains ys k → Contains zs (n + k)
numbers_right n xs ys zs e k c = rw e (Contains-append_right _ _ _ (shift_contains n ys k c))

pub either_leads : {p q r : Position} → IsWellFormed p → IsEither p q r → (j k : ℕ) → Leads r j k → Leads p j k ⊎ ((i : ℕ) × (m : ℕ) × (j ≡ length p.classes + i) × (k ≡ length p.classes + m) × Leads q i m)
either_leads {p} {q} {r} f t j k l = elim (at_split (λ row. Contains row k) (length p.classes) p.follow _ j f.rows (rw t.follow at l)) [
  | inl a ↦ inl a
  | inr b ↦ let s = row_shift (length p.classes) q.follow b.0 k b.2 in inr (b.0, s.0, b.1, s.1, s.2)
]

pub either_left : {p q r : Position} → IsEither p q r → Embeds (λ k. k) p r
either_left {p} {q} {r} t = record {
  leads = λ j k l. rw t.follow (at_left (λ row. Contains row k) p.follow _ j l);
  has = λ k s h. rw t.classes (at_left (λ class. Has class s) p.classes q.classes k h);
}

pub either_right : {p q r : Position} → IsWellFormed p → IsEither p q r → Embeds (λ k. length p.classes + k) q r
either_right {p} {q} {r} f t = record {
  leads = λ j k l. rw t.follow (at_right (λ row. Contains row (length p.classes + k)) (length p.classes) p.follow _ j f.rows (shift_row (length p.classes) q.follow j k l));
  has = λ k s h. rw t.classes (at_right (λ class. Has class s) (length p.classes) p.classes q.classes k refl h);
}

either_run : {p q r : Position} {w : List ℕ} {k : ℕ} → IsWellFormed p → IsEither p q r → Runs r w k → Runs p w k ⊎ ((m : ℕ) × (k ≡ length p.classes + m) × Runs q w m)
either_run {p} {q} {r} f t (begins {k = k} s c h is) = elim (numbers_split (length p.classes) p.first q.first r.first t.first k c) [
  | inl a ↦ inl (begins s a (has_left p q r t.classes k s (f.first_in k a) h) is)
  | inr b ↦ inr (b.0, b.1, begins s b.2 (has_right p q r t.classes k b.0 s b.1 h) is)
]
either_run {p} {q} {r} f t (goes {k = k} v j s run l h is) = elim (either_leads f t j k l) [
  | inl a ↦ elim (either_run f t run) [
    | inl one ↦ inl (goes v j s one a (has_left p q r t.classes k s (f.follow_in j k a) h) is)
    | inr two ↦ absurd (omega (arith, two.1, at_within (λ row. Contains row k) p.follow j a, f.rows))
  ]
  | inr d ↦ elim (either_run f t run) [
    | inl one ↦ absurd (omega (arith, d.2, run_within one))
    | inr two ↦
        let same : two.0 ≡ d.0 = omega (arith, two.1, d.2) in
        inr (d.1, d.3, goes v d.0 s (subst (λ x. Runs q v x) same two.2) d.4 (has_right p q r t.classes k d.1 s d.3 h) is)
  ]
]

pub either_sound : {p q r : Position} {w : List ℕ} → IsWellFormed p → IsEither p q r → Accepts r w → Accepts p w ⊎ Accepts q w
either_sound {p} {q} {r} f t (inl e) = elim (one_of p.nullable q.nullable (rw t.nullable at e.1)) [
  | inl n ↦ inl (inl (e.0, n))
  | inr n ↦ inr (inl (e.0, n))
]
either_sound {p} {q} {r} f t (inr a) = elim (either_run f t a.1) [
  | inl one ↦ elim (numbers_split (length p.classes) p.last q.last r.last t.last a.0 a.2) [
    | inl h ↦ inl (inr (a.0, one, h))
    | inr h ↦ absurd (omega (arith, h.1, run_within one))
  ]
  | inr two ↦ elim (numbers_split (length p.classes) p.last q.last r.last t.last a.0 a.2) [
    | inl h ↦ absurd (omega (arith, two.1, f.last_in a.0 h))
    | inr h ↦ let same : h.0 ≡ two.0 = omega (arith, two.1, h.1) in inr (inr (two.0, two.2, subst (λ x. Contains q.last x) same h.2))
  ]
]

pub either_complete : {p q r : Position} {w : List ℕ} → IsWellFormed p → IsEither p q r → Accepts p w ⊎ Accepts q w → Accepts r w
either_complete {p} {q} {r} f t (inl (inl a)) = inl (a.0, rw t.nullable (or_left p.nullable q.nullable a.1))
either_complete {p} {q} {r} f t (inl (inr a)) = inr (a.0, run_moved (either_left t) (numbers_left (length p.classes) p.first q.first r.first t.first) a.1, numbers_left (length p.classes) p.last q.last r.last t.last a.0 a.2)
either_complete {p} {q} {r} f t (inr (inl b)) = inl (b.0, rw t.nullable (or_right p.nullable q.nullable b.1))
either_complete {p} {q} {r} f t (inr (inr b)) = inr (length p.classes + b.0, run_moved (either_right f t) (numbers_right (length p.classes) p.first q.first r.first t.first) b.1, numbers_right (length p.classes) p.last q.last r.last t.last b.0 b.2)

pub either_formed : {p q r : Position} → IsWellFormed p → IsWellFormed q → IsEither p q r → IsWellFormed r
either_formed {p} {q} {r} f g t =
    let n : length r.classes ≡ length p.classes + length q.classes = ap (λ (x : List (List (ℕ × ℕ))). length x) t.classes ∙ length-append p.classes q.classes in
    record {
      rows = rw (t.follow, length-append, length-map, f.rows, g.rows) (sym n);
      first_in = λ k c. elim (numbers_split (length p.classes) p.first q.first r.first t.first k c) [
        | inl h ↦ omega (arith, f.first_in k h)
        | inr h ↦ omega (arith, h.1, g.first_in h.0 h.2)
      ];
      last_in = λ k c. elim (numbers_split (length p.classes) p.last q.last r.last t.last k c) [
        | inl h ↦ omega (arith, f.last_in k h)
        | inr h ↦ omega (arith, h.1, g.last_in h.0 h.2)
      ];
      follow_in = λ j k l. elim (either_leads f t j k l) [
        | inl h ↦ omega (arith, f.follow_in j k h)
        | inr h ↦ omega (arith, h.3, g.follow_in h.0 h.1 h.4)
      ];
    }

pub either_trim : {p q r : Position} → IsWellFormed p → IsEither p q r → IsTrim p → IsTrim q → IsTrim r
either_trim {p} {q} {r} f t a b = record {
  ends = λ k l. elim (split_below k (length p.classes)) [
    | inl lt ↦ from_left k (a.ends k lt)
    | inr h ↦ from_right k h.0 h.1 (b.ends h.0 (omega (arith, h.1, ap (λ (x : List (List (ℕ × ℕ))). length x) t.classes ∙ length-append p.classes q.classes)))
  ];
  lives = elim a.lives [
    | inl n ↦ inl (rw t.nullable (or_left p.nullable q.nullable n))
    | inr h ↦ inr (h.0, numbers_left (length p.classes) p.first q.first r.first t.first h.0 h.1)
  ];
}
  where
    from_right : (k i : ℕ) → k ≡ length p.classes + i → (w : List ℕ) × (end : ℕ) × GoesOn q i w end × Contains q.last end → (w : List ℕ) × (end : ℕ) × GoesOn r k w end × Contains r.last end
    from_right k i e h = rw e (h.0, length p.classes + h.1, on_moved (either_right f t) h.2, numbers_right (length p.classes) p.last q.last r.last t.last h.1 h.3)

    from_left : (k : ℕ) → (w : List ℕ) × (end : ℕ) × GoesOn p k w end × Contains p.last end → (w : List ℕ) × (end : ℕ) × GoesOn r k w end × Contains r.last end
    from_left k h = (h.0, h.1, on_moved (either_left t) h.2, numbers_left (length p.classes) p.last q.last r.last t.last h.1 h.3)
