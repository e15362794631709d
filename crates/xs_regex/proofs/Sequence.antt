-- One automaton and then another: the words are those of the first followed by those of the second.
use Rattle.std.proofs.Common.{◌≡◌, ◌⊎◌, ◌∙◌, ℕ, ◌+◌, ◌<◌, ◌&&◌, Bool, true, false, List, [], ◌∷◌, ◌++◌, length, refl, sym, ap, subst, inl, inr, arith, append_assoc, length-append, if◌then◌else◌}
use Rattle.std.proofs.lemmas.List.{append-nil, length-map}
use Rattle.std.proofs.lemmas.List.Elements.{Contains-append_left, Contains-append_right, Contains-append_cases}
use Rattle.std.specs.List.{Contains}
use Rattle.std.specs.Bool.{IsTrue}
use Rattle.xs_class.specs.Classes.{Has}
use Rattle.xs_regex.specs.declared.position.Position.{Position}
use Rattle.xs_regex.specs.Automaton.{Leads, Runs, begins, goes, Accepts, GoesOn, steps, IsWellFormed, ClassesHaveMembers}
use Rattle.xs_regex.specs.Parts.{shift, IsThen, IsTrim}
use Rattle.xs_regex.proofs.Rows.{at_left, at_right, at_split, at_within, contains_nil, shift_contains, contains_shift, shift_row, row_shift, split_below}
use Rattle.xs_regex.proofs.Runs.{Embeds, run_moved, on_moved, run_after, on_after, run_within, has_left, has_right, members_right}

-- numbers that are added where a test holds
pub added_split : (b : Bool) (xs ys : List ℕ) (k : ℕ) → Contains (xs ++ (if b then ys else [])) k → Contains xs k ⊎ (IsTrue b × Contains ys k)
added_split true xs ys k c = elim (Contains-append_cases xs ys k c) [ inl a ↦ inl a | inr h ↦ inr (refl, h) ]
added_split false xs ys k c = elim (Contains-append_cases xs [] k c) [ inl a ↦ inl a | inr h ↦ absurd (contains_nil k h) ]

pub added_right : (b : Bool) (xs ys : List ℕ) (k : ℕ) → IsTrue b → Contains ys k → Contains (xs ++ (if b then ys else [])) k
added_right true xs ys k e c = Contains-append_right xs ys k c
added_right false xs ys k e c = cc

pub front_split : (b : Bool) (xs ys : List ℕ) (k : ℕ) → Contains ((if b then xs else []) ++ ys) k → (IsTrue b × Contains xs k) ⊎ Contains ys k
front_split true xs ys k c = elim (Contains-append_cases xs ys k c) [ inl a ↦ inl (refl, a) | inr h ↦ inr h ]
front_split false xs ys k c = inr c

pub front_left : (b : Bool) (xs ys : List ℕ) (k : ℕ) → IsTrue b → Contains xs k → Contains ((if b then xs else []) ++ ys) k
front_left true xs ys k e c = Contains-append_left xs ys k c
front_left false xs ys k e c = cc

pub both_left : (a b : Bool) → IsTrue (a && b) → IsTrue a
both_left true b e = refl
both_left false b e = cc

pub both_right : (a b : Bool) → IsTrue (a && b) → IsTrue b
both_right true b e = e
both_right false b e = cc

pub both : (a b : Bool) → IsTrue a → IsTrue b → IsTrue (a && b)
both true b d e = e
both false b d e = cc

-- what the parts of the whole are
first_left : {p q r : Position} → IsThen p q r → (k : ℕ) → Contains p.first k → Contains r.first k
first_left {p} {q} {r} t k c = rw t.first (Contains-append_left _ _ k c)

first_right : {p q r : Position} → IsThen p q r → IsTrue p.nullable → (k : ℕ) → Contains q.first k → Contains r.first (length p.classes + k)
first_right {p} {q} {r} t n k c = rw t.first (added_right p.nullable p.first _ _ n (shift_contains (length p.classes) q.first k c))

first_split : {p q r : Position} → IsThen p q r → (k : ℕ) → Contains r.first k → Contains p.first k ⊎ (IsTrue p.nullable × ((m : ℕ) × (k ≡ length p.classes + m) × Contains q.first m))
first_split {p} {q} {r} t k c = elim (added_split p.nullable p.first (shift (length p.classes) q.first) k (rw t.first at c)) [
  | inl h ↦ inl h
  | inr h ↦ inr (h.0, contains_shift (length p.classes) q.first k h.1)
]

last_left : {p q r : Position} → IsThen p q r → IsTrue q.nullable → (k : ℕ) → Contains p.last k → Contains r.last k
last_left {p} {q} {r} t n k c = rw t.last (front_left q.nullable p.last _ k n c)

last_right : {p q r : Position} → IsThen p q r → (k : ℕ) → Contains q.last k → Contains r.last (length p.classes + k)
last_right {p} {q} {r} t k c = rw t.last (Contains-append_right _ _ _ (shift_contains (length p.classes) q.last k c))

last_split : {p q r : Position} → IsThen p q r → (k : ℕ) → Contains r.last k → (IsTrue q.nullable × Contains p.last k) ⊎ ((m : ℕ) × (k ≡ length p.classes + m) × Contains q.last m)
last_split {p} {q} {r} t k c = elim (front_split q.nullable p.last (shift (length p.classes) q.last) k (rw t.last at c)) [
  | inl h ↦ inl h
  | inr h ↦ inr (contains_shift (length p.classes) q.last k h)
]

rows_length : {p q r : Position} → IsWellFormed p → (t : IsThen p q r) → length t.rows ≡ length p.classes
rows_length f t = t.linked.rows ∙ f.rows

pub then_left : {p q r : Position} → IsThen p q r → Embeds (λ k. k) p r
then_left {p} {q} {r} t = record {
  leads = λ j k l. rw t.follow (at_left (λ row. Contains row k) t.rows _ j (t.linked.kept j k l));
  has = λ k s h. rw t.classes (at_left (λ class. Has class s) p.classes q.classes k h);
}

pub then_right : {p q r : Position} → IsWellFormed p → IsThen p q r → Embeds (λ k. length p.classes + k) q r
then_right {p} {q} {r} f t = record {
  leads = λ j k l. rw t.follow (at_right (λ row. Contains row (length p.classes + k)) (length p.classes) t.rows _ j (rows_length f t) (shift_row (length p.classes) q.follow j k l));
  has = λ k s h. rw t.classes (at_right (λ class. Has class s) (length p.classes) p.classes q.classes k refl h);
}

pub across : {p q r : Position} → IsWellFormed p → IsThen p q r → (j : ℕ) → Contains p.last j → (k : ℕ) → Contains q.first k → Leads r j (length p.classes + k)
across {p} {q} {r} f t j c k d =
    rw t.follow (at_left (λ row. Contains row (length p.classes + k)) t.rows _ j (t.linked.linked j (length p.classes + k) (rw f.rows (f.last_in j c)) c (shift_contains (length p.classes) q.first k d)))

pub then_leads : {p q r : Position} → IsWellFormed p → IsThen p q r → (j k : ℕ) → Leads r j k →
    Leads p j k ⊎ (Contains p.last j × ((m : ℕ) × (k ≡ length p.classes + m) × Contains q.first m)) ⊎ ((i : ℕ) × (m : ℕ) × (j ≡ length p.classes + i) × (k ≡ length p.classes + m) × Leads q i m)
then_leads {p} {q} {r} f t j k l = elim (at_split (λ row. Contains row k) (length p.classes) t.rows _ j (rows_length f t) (rw t.follow at l)) [
  | inl a ↦ elim (t.linked.only j k a) [
    | inl h ↦ inl h
    | inr h ↦ inr (inl (h.0, contains_shift (length p.classes) q.first k h.1))
  ]
  | inr b ↦ let s = row_shift (length p.classes) q.follow b.0 k b.2 in inr (inr (b.0, s.0, b.1, s.1, s.2))
]

-- a run is one of the first, or goes on by the second from a word of the first
pub record GoesThrough (p q : Position) (w : List ℕ) (k : ℕ) : Type 0 where
  pub place : ℕ
  pub front : List ℕ
  pub rest : List ℕ
  pub place_is : k ≡ length p.classes + place
  pub word_is : w ≡ front ++ rest
  pub accepted : Accepts p front
  pub run : Runs q rest place

then_run : {p q r : Position} {w : List ℕ} {k : ℕ} → IsWellFormed p → IsThen p q r → Runs r w k → Runs p w k ⊎ GoesThrough p q w k
then_run {p} {q} {r} {w} f t (begins {k = k} s c h is) = elim (first_split t k c) [
  | inl a ↦ inl (begins s a (has_left p q r t.classes k s (f.first_in k a) h) is)
  | inr b ↦ inr record {
    place = b.1.0;
    front = [];
    rest = w;
    place_is = b.1.1;
    word_is = refl;
    accepted = inl (refl, b.0);
    run = begins s b.1.2 (has_right p q r t.classes k b.1.0 s b.1.1 h) is;
  }
]
then_run {p} {q} {r} {w} f t (goes {k = k} v j s run l h is) = elim (then_leads f t j k l) [
  | inl a ↦ elim (then_run f t run) [
    | inl one ↦ inl (goes v j s one a (has_left p q r t.classes k s (f.follow_in j k a) h) is)
    | inr two ↦ absurd (omega (arith, two.place_is, at_within (λ row. Contains row k) p.follow j a, f.rows))
  ]
  | inr (inl b) ↦ elim (then_run f t run) [
    | inl one ↦ inr record {
      place = b.1.0;
      front = v;
      rest = s ∷ [];
      place_is = b.1.1;
      word_is = is;
      accepted = inr (j, one, b.0);
      run = begins s b.1.2 (has_right p q r t.classes k b.1.0 s b.1.1 h) refl;
    }
    | inr two ↦ absurd (omega (arith, two.place_is, f.last_in j b.0))
  ]
  | inr (inr d) ↦ elim (then_run f t run) [
    | inl one ↦ absurd (omega (arith, d.2, run_within one))
    | inr two ↦
        let same : two.place ≡ d.0 = omega (arith, two.place_is, d.2) in
        inr record {
          place = d.1;
          front = two.front;
          rest = two.rest ++ s ∷ [];
          place_is = d.3;
          word_is = is ∙ ap (λ (x : List ℕ). x ++ s ∷ []) two.word_is ∙ append_assoc two.front two.rest (s ∷ []);
          accepted = two.accepted;
          run = goes two.rest d.0 s (subst (λ x. Runs q two.rest x) same two.run) d.4 (has_right p q r t.classes k d.1 s d.3 h) refl;
        }
  ]
]

pub then_sound : {p q r : Position} {w : List ℕ} → IsWellFormed p → IsThen p q r → Accepts r w → (u : List ℕ) × (v : List ℕ) × (w ≡ u ++ v) × Accepts p u × Accepts q v
then_sound {p} {q} {r} {w} f t (inl e) =
    let n = rw t.nullable at e.1 in
    ([], [], e.0, inl (refl, both_left p.nullable q.nullable n), inl (refl, both_right p.nullable q.nullable n))
then_sound {p} {q} {r} {w} f t (inr a) = elim (then_run f t a.1) [
  | inl one ↦ elim (last_split t a.0 a.2) [
    | inl h ↦ (w, [], sym (append-nil w), inr (a.0, one, h.1), inl (refl, h.0))
    | inr h ↦ absurd (omega (arith, h.1, run_within one))
  ]
  | inr two ↦ elim (last_split t a.0 a.2) [
    | inl h ↦ absurd (omega (arith, two.place_is, f.last_in a.0 h.1))
    | inr h ↦
        let same : h.0 ≡ two.place = omega (arith, two.place_is, h.1) in
        (two.front, two.rest, two.word_is, two.accepted, inr (two.place, two.run, subst (λ x. Contains q.last x) same h.2))
  ]
]

pub then_complete : {p q r : Position} {u v : List ℕ} → IsWellFormed p → IsThen p q r → Accepts p u → Accepts q v → Accepts r (u ++ v)
then_complete {p} {q} {r} {u} {v} f t (inl a) (inl b) = inl (rw (a.0, b.0) refl, rw t.nullable (both p.nullable q.nullable a.1 b.1))
then_complete {p} {q} {r} {u} {v} f t (inl a) (inr b) =
    rw a.0 (inr (length p.classes + b.0, run_moved (then_right f t) (first_right t a.1) b.1, last_right t b.0 b.2))
then_complete {p} {q} {r} {u} {v} f t (inr a) (inl b) =
    let whole : u ++ v ≡ u = ap (λ (x : List ℕ). u ++ x) b.0 ∙ append-nil u in
    rw whole (inr (a.0, run_moved (then_left t) (first_left t) a.1, last_left t b.1 a.0 a.2))
then_complete {p} {q} {r} {u} {v} f t (inr a) (inr b) =
    inr (length p.classes + b.0, run_after (then_right f t) (run_moved (then_left t) (first_left t) a.1) (across f t a.0 a.2) b.1, last_right t b.0 b.2)

pub then_formed : {p q r : Position} → IsWellFormed p → IsWellFormed q → IsThen p q r → IsWellFormed r
then_formed {p} {q} {r} f g t =
    let n : length r.classes ≡ length p.classes + length q.classes = ap (λ (x : List (List (ℕ × ℕ))). length x) t.classes ∙ length-append p.classes q.classes in
    record {
      rows = rw (t.follow, length-append, length-map, rows_length f t, g.rows) (sym n);
      first_in = λ k c. elim (first_split t k c) [
        | inl h ↦ omega (arith, f.first_in k h)
        | inr h ↦ omega (arith, h.1.1, g.first_in h.1.0 h.1.2)
      ];
      last_in = λ k c. elim (last_split t k c) [
        | inl h ↦ omega (arith, f.last_in k h.1)
        | inr h ↦ omega (arith, h.1, g.last_in h.0 h.2)
      ];
      follow_in = λ j k l. elim (then_leads f t j k l) [
        | inl h ↦ omega (arith, f.follow_in j k h)
        | inr (inl h) ↦ omega (arith, h.1.1, g.first_in h.1.0 h.1.2)
        | inr (inr h) ↦ omega (arith, h.3, g.follow_in h.0 h.1 h.4)
      ];
    }

-- each position of the first goes on to its last, and from there into the second unless that may be empty
pub then_trim : {p q r : Position} → IsWellFormed p → IsWellFormed q → IsThen p q r → ClassesHaveMembers r → IsTrim p → IsTrim q → IsTrim r
then_trim {p} {q} {r} f g t m a b = record {
  ends = λ k l. elim (split_below k (length p.classes)) [
    | inl lt ↦ from_left k (a.ends k lt)
    | inr h ↦ from_right k h.0 h.1 (b.ends h.0 (omega (arith, h.1, ap (λ (x : List (List (ℕ × ℕ))). length x) t.classes ∙ length-append p.classes q.classes)))
  ];
  lives = elim a.lives [
    | inr h ↦ inr (h.0, first_left t h.0 h.1)
    | inl n ↦ elim b.lives [
      | inl e ↦ inl (rw t.nullable (both p.nullable q.nullable n e))
      | inr h ↦ inr (length p.classes + h.0, first_right t n h.0 h.1)
    ]
  ];
}
  where
    from_right : (k i : ℕ) → k ≡ length p.classes + i → (w : List ℕ) × (end : ℕ) × GoesOn q i w end × Contains q.last end → (w : List ℕ) × (end : ℕ) × GoesOn r k w end × Contains r.last end
    from_right k i e h = rw e (h.0, length p.classes + h.1, on_moved (then_right f t) h.2, last_right t h.1 h.3)

    from_left : (k : ℕ) → (w : List ℕ) × (end : ℕ) × GoesOn p k w end × Contains p.last end → (w : List ℕ) × (end : ℕ) × GoesOn r k w end × Contains r.last end
    from_left k h = elim b.lives [
      | inl e ↦ (h.0, h.1, on_moved (then_left t) h.2, last_left t e h.1 h.3)
      | inr c ↦
          let within : c.0 < length q.classes = g.first_in c.0 c.1 in
          let member = members_right p q r t.classes m c.0 within in
          let rest = b.ends c.0 within in
          (h.0 ++ (member.0 ∷ rest.0), length p.classes + rest.1, on_after (on_moved (then_left t) h.2) (steps (length p.classes + c.0) member.0 rest.0 (across f t h.1 h.3 c.0 c.1) ((then_right f t).has c.0 member.0 member.1) (on_moved (then_right f t) rest.2) refl), last_right t rest.1 rest.3)
    ]
