-- How the pairs that a search has marked and listed grow.
use Rattle.std.proofs.Common.{◌≡◌, ℕ, ◌+◌, ◌<◌, ◌≤◌, ◌⊎◌, List, [], ◌∷◌, ◌++◌, length, get_or, take, refl, sym, ap, subst, ◌∙◌, inl, inr, arith, append_assoc, append-nil, ◌↔◌}
use Rattle.std.proofs.lemmas.Bool.{cases_eq}
use Rattle.std.proofs.lemmas.List.{take_more, take_all}
use Rattle.std.proofs.lemmas.List.Elements.{All-push, Contains-append_left, Contains-push, Contains-push_cases}
use Rattle.xs_meet.specs.Closed.{Marked}
use Rattle.xs_closed.specs.declared.pair.Pair.{Pair}
use Rattle.xs_closed.specs.Rows.{Grid, marked, IsSized, Marks}
use Rattle.xs_closed.specs.Search.{pair, IsInside, IsListed, KeepsSize, IsLonger, Adds, IsPair, OneOf}

pub longer_same : (ps : List Pair) → IsLonger ps ps
longer_same ps = record { added = []; is = sym (append-nil ps) }

pub longer_then : {ps qs rs : List Pair} → IsLonger ps qs → IsLonger qs rs → IsLonger ps rs
longer_then {ps} a b = record { added = a.added ++ b.added; is = b.is ∙ ap (λ us. us ++ b.added) a.is ∙ append_assoc ps a.added b.added }

pub size_same : (z : Grid) → KeepsSize z z
size_same z = record { high = refl; wide = refl }

pub size_then : {x y z : Grid} → KeepsSize x y → KeepsSize y z → KeepsSize x z
size_then a b = record { high = b.high ∙ a.high; wide = b.wide ∙ a.wide }

-- all pairs of P are marked already
pub adds_known : (P : ℕ → ℕ → Type 0) (z : Grid) (ps : List Pair) → ((a b : ℕ) → P a b → Marked (marked z) a b) → Adds P z ps z ps
adds_known P z ps known = record {
  size = size_same z;
  longer = longer_same ps;
  marks = λ a b. (λ h. inl h, λ h. elim h [ inl x ↦ x | inr p ↦ known a b p ]);
}

pub adds_then : (P Q : ℕ → ℕ → Type 0) {x y z : Grid} {ps qs rs : List Pair} → Adds P x ps y qs → Adds Q y qs z rs → Adds (λ a b. P a b ⊎ Q a b) x ps z rs
adds_then P Q {x} {y} {z} g h = record { size = size_then g.size h.size; longer = longer_then g.longer h.longer; marks = λ a b. (to a b, back a b) }
  where
    to : (a b : ℕ) → Marked (marked z) a b → Marked (marked x) a b ⊎ (P a b ⊎ Q a b)
    to a b m = elim ((h.marks a b).0 m) [
      | inl u ↦ elim ((g.marks a b).0 u) [ inl v ↦ inl v | inr p ↦ inr (inl p) ]
      | inr q ↦ inr (inr q)
    ]

    back : (a b : ℕ) → Marked (marked x) a b ⊎ (P a b ⊎ Q a b) → Marked (marked z) a b
    back a b (inl u) = (h.marks a b).1 (inl ((g.marks a b).1 (inl u)))
    back a b (inr (inl p)) = (h.marks a b).1 (inl ((g.marks a b).1 (inr p)))
    back a b (inr (inr q)) = (h.marks a b).1 (inr q)

pub adds_as : (P Q : ℕ → ℕ → Type 0) {y z : Grid} {ps qs : List Pair} → ((a b : ℕ) → P a b → Q a b) → ((a b : ℕ) → Q a b → P a b) → Adds P y ps z qs → Adds Q y ps z qs
adds_as P Q to back g = record {
  size = g.size;
  longer = g.longer;
  marks = λ a b. (λ h. elim ((g.marks a b).0 h) [ inl x ↦ inl x | inr p ↦ inr (to a b p) ], λ h. (g.marks a b).1 (elim h [ inl x ↦ inl x | inr q ↦ inr (back a b q) ]));
}

-- a loop's beginning, its turn at one more element, and its end
pub adds_none : {X : Type 0} (Q : X → ℕ → ℕ → Type 0) (z : Grid) (ps : List Pair) → Adds (OneOf [] Q) z ps z ps
adds_none Q z ps = adds_known (OneOf [] Q) z ps (λ a b p. absurd (omega (arith, p.has.1)))

pub adds_more : {X : Type 0} (Q : X → ℕ → ℕ → Type 0) {x y z : Grid} {ps qs rs : List Pair} (xs : List X) (i : ℕ) (d : X) → i < length xs → Adds (OneOf (take i xs) Q) x ps y qs → Adds (Q (get_or xs i d)) y qs z rs → Adds (OneOf (take (i + 1) xs) Q) x ps z rs
adds_more {X} Q xs i d l g h = adds_as (λ a b. OneOf (take i xs) Q a b ⊎ Q (get_or xs i d) a b) (OneOf (take (i + 1) xs) Q) to back (adds_then (OneOf (take i xs) Q) (Q (get_or xs i d)) g h)
  where
    more : take (i + 1) xs ≡ take i xs ++ get_or xs i d ∷ []
    more = take_more xs i d l

    to : (a b : ℕ) → OneOf (take i xs) Q a b ⊎ Q (get_or xs i d) a b → OneOf (take (i + 1) xs) Q a b
    to a b (inl p) = record { item = p.item; has = rw more (Contains-append_left (take i xs) (get_or xs i d ∷ []) p.item p.has); leads = p.leads }
    to a b (inr q) = record { item = get_or xs i d; has = rw more (Contains-push (take i xs) (get_or xs i d)); leads = q }

    back : (a b : ℕ) → OneOf (take (i + 1) xs) Q a b → OneOf (take i xs) Q a b ⊎ Q (get_or xs i d) a b
    back a b p = elim (Contains-push_cases (take i xs) (get_or xs i d) p.item (rw more at p.has)) [
      | inl c ↦ inl (record { item = p.item; has = c; leads = p.leads })
      | inr e ↦ inr (rw e p.leads)
    ]

pub adds_read : {X : Type 0} (Q : X → ℕ → ℕ → Type 0) {x y z : Grid} {ps qs rs : List Pair} (xs : List X) (i : ℕ) (u : X) → i < length xs → u ≡ get_or xs i u → Adds (OneOf (take i xs) Q) x ps y qs → Adds (Q u) y qs z rs → Adds (OneOf (take (i + 1) xs) Q) x ps z rs
adds_read Q {x} {y} {z} {ps} {qs} {rs} xs i u l e g h = adds_more Q xs i u l g (subst (λ v. Adds (Q v) y qs z rs) e h)

pub adds_all : {X : Type 0} (Q : X → ℕ → ℕ → Type 0) {y z : Grid} {ps qs : List Pair} (xs : List X) (i : ℕ) → length xs ≤ i → Adds (OneOf (take i xs) Q) y ps z qs → Adds (OneOf xs Q) y ps z qs
adds_all Q xs i l g = rw (take_all i xs l) at g

-- one pair more is marked, and all others as before
pub marks_one : {y z : Grid} {a b : ℕ} → Marks y z a b → (c d : ℕ) → Marked (marked z) c d ↔ (Marked (marked y) c d ⊎ IsPair a b c d)
marks_one {y} {z} {a} {b} m c d = (to, back)
  where
    there : IsPair a b c d → Marked (marked z) c d
    there p = rw (p.first, p.second) m.there

    to : Marked (marked z) c d → Marked (marked y) c d ⊎ IsPair a b c d
    to h = elim (cases_eq c a) [
      | inl e ↦ elim (cases_eq d b) [
        | inl f ↦ inr (record { first = e; second = f })
        | inr ne ↦ inl (sym (m.others c d (λ _ f. ne f)) ∙ h)
      ]
      | inr ne ↦ inl (sym (m.others c d (λ e _. ne e)) ∙ h)
    ]

    back : Marked (marked y) c d ⊎ IsPair a b c d → Marked (marked z) c d
    back (inr p) = there p
    back (inl h) = elim (cases_eq c a) [
      | inl e ↦ elim (cases_eq d b) [
        | inl f ↦ there (record { first = e; second = f })
        | inr ne ↦ m.others c d (λ _ f. ne f) ∙ h
      ]
      | inr ne ↦ m.others c d (λ e _. ne e) ∙ h
    ]

size_of : {y z : Grid} {a b : ℕ} → Marks y z a b → KeepsSize y z
size_of m = record { high = m.high; wide = m.wide }

sized_on : (y z : Grid) (a b : ℕ) → Marks y z a b → IsSized (length y.rows) y.wide z → IsSized (length z.rows) z.wide z
sized_on y z a b m s = record { high = refl; wide = refl; even = λ k l. s.even k (omega (arith, l, m.high)) ∙ sym m.wide }

-- a pair is marked that was not, and added to the list
pub listed_new : {y z : Grid} {ps qs : List Pair} (a b : ℕ) → IsListed y ps → Marks y z a b → IsSized (length y.rows) y.wide z → a < length y.rows → b < y.wide → qs ≡ ps ++ pair a b ∷ [] → IsListed z qs
listed_new {y} {z} {ps} {qs} a b l m s first second e = record {
  sized = sized_on y z a b m s;
  inside = rw (e, m.high, m.wide) (All-push (IsInside (length y.rows) y.wide) ps (pair a b) l.inside (record { first = first; second = second }));
  listed = λ c d h. rw e (elim ((marks_one m c d).0 h) [
    | inl x ↦ Contains-append_left ps (pair a b ∷ []) (pair c d) (l.listed c d x)
    | inr p ↦ rw (p.first, p.second) (Contains-push ps (pair a b))
  ]);
  marks = λ c d h. (marks_one m c d).1 (elim (Contains-push_cases ps (pair a b) (pair c d) (rw e at h)) [
    | inl x ↦ inl (l.marks c d x)
    | inr p ↦ inr (record { first = sym (ap (λ (k : Pair). k.first) p); second = sym (ap (λ (k : Pair). k.second) p) })
  ]);
}

pub adds_new : {y z : Grid} {ps qs : List Pair} (a b : ℕ) → Marks y z a b → qs ≡ ps ++ pair a b ∷ [] → Adds (IsPair a b) y ps z qs
adds_new a b m e = record { size = size_of m; longer = record { added = pair a b ∷ []; is = e }; marks = marks_one m }

-- a pair is marked that was marked before
pub listed_old : {y z : Grid} {ps : List Pair} (a b : ℕ) → IsListed y ps → Marks y z a b → IsSized (length y.rows) y.wide z → Marked (marked y) a b → IsListed z ps
listed_old {y} {z} {ps} a b l m s was = record {
  sized = sized_on y z a b m s;
  inside = rw (m.high, m.wide) l.inside;
  listed = λ c d h. elim ((marks_one m c d).0 h) [
    | inl x ↦ l.listed c d x
    | inr p ↦ l.listed c d (rw (p.first, p.second) was)
  ];
  marks = λ c d h. (marks_one m c d).1 (inl (l.marks c d h));
}

pub adds_old : {y z : Grid} {ps : List Pair} (a b : ℕ) → Marks y z a b → Adds (IsPair a b) y ps z ps
adds_old {ps = ps} a b m = record { size = size_of m; longer = longer_same ps; marks = marks_one m }
