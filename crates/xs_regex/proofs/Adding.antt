-- Characters that the items of a set add.
use Rattle.std.proofs.Common.{◌≡◌, ◌≢◌, ◌⊎◌, ◌∙◌, ◌↔◌, ℕ, zero, suc, ◌≤◌, Bool, true, false, ◌==◌, List, [], ◌∷◌, ◌++◌, refl, sym, ap, subst, inl, inr, None, Some, Ok, Err, Bor, if◌then◌else◌}
use Rattle.std.proofs.lemmas.Bool.Decides.{eqb_tells}
use Rattle.std.specs.Option.{IsSomeAnd, is_some}
use Rattle.std.specs.declared.option.Option.{Option}
use Rattle.std.specs.declared.result.Result.{Result}
use Rattle.std.specs.Bool.{IsTrue}
use Rattle.ucd_sets.specs.Sets.{in_set}
use Rattle.ucd_sets.specs.declared.set.Set.{Set}
use Rattle.xs_class.specs.Classes.{Has, IsClass}
use Rattle.xs_class.specs.Named.{set_named, HasMembersOf}
use Rattle.xs_class.specs.Tables.{IsChar}
use Rattle.xs_class.proofs.Adding.{has_append}
use Rattle.xs_regex.specs.declared.fault.RegexFault.{RegexFault}
use Rattle.xs_regex.specs.Characters.{Item, span, named, is_known, known, with_left, known_item, item_at, item_more, items_more, items_at, some_of, none_of, sorted, one_at, one_set}
use Rattle.xs_regex.specs.Meaning.{IsOfItem, IsOfItems, IsClassOf}
use Rattle.xs_regex.specs.Reported.{IsReported, Adds}

pub add_span : (old new : List (ℕ × ℕ)) (low high : ℕ) → new ≡ old ++ (low, high) ∷ [] → Adds old new (IsOfItem (span low high))
add_span old new low high e = λ s. subst (λ (x : List (ℕ × ℕ)). Has x s ↔ (Has old s ⊎ IsOfItem (span low high) s)) (sym e) (
  λ h. elim ((has_append old ((low, high) ∷ []) s).0 h) [ inl a ↦ inl a | inr b ↦ elim b [ inl c ↦ inr c | inr d ↦ absurd d ] ],
  λ h. (has_append old ((low, high) ∷ []) s).1 (elim h [ inl a ↦ inl a | inr b ↦ inr (inl b) ]),
)

known_named : (name : List ℕ) (o : Option Set) → set_named name ≡ o → is_known name ≡ is_some o
unfolding is_known
known_named name o e = ap (λ x. is_some x) e

if_known : (b : Bool) (name : List ℕ) → b ≡ true → (if b then Some (named name) else None) ≡ Some (named name)
if_known true name e = refl
if_known false name e = cc

if_unknown : (b : Bool) (name : List ℕ) → b ≡ false → (if b then Some (named name) else None) ≡ None
if_unknown true name e = cc
if_unknown false name e = refl

pub unknown : (name : List ℕ) → set_named name ≡ None → known (named name) ≡ None
unknown name e = if_unknown (is_known name) name (known_named name None e)

pub add_named : (name : List ℕ) (old new ranges : List (ℕ × ℕ)) → new ≡ old ++ ranges → IsSomeAnd (set_named name) (λ set. HasMembersOf ranges set) → IsSomeAnd (known (named name)) (λ a. Adds old new (IsOfItem a))
add_named name old new ranges e h = by_set (set_named name) refl h
  where
    members : (s : ℕ) (o : Option Set) → IsSomeAnd o (λ set. HasMembersOf ranges set) → Has ranges s ↔ IsSomeAnd o (λ set. (s ≤ 0x10FFFF) × IsTrue (in_set set s))
    members s None h = absurd h
    members s (Some set) h = h s

    by_set : (o : Option Set) → set_named name ≡ o → IsSomeAnd o (λ set. HasMembersOf ranges set) → IsSomeAnd (known (named name)) (λ a. Adds old new (IsOfItem a))
    by_set None f g = absurd g
    by_set (Some set) f g =
        subst (λ o. IsSomeAnd o (λ a. Adds old new (IsOfItem a))) (sym (if_known (is_known name) name (known_named name (Some set) f)))
        (λ s. subst (λ (x : List (ℕ × ℕ)). Has x s ↔ (Has old s ⊎ IsOfItem (named name) s)) (sym e) (
          λ m. elim ((has_append old ranges s).0 m) [ inl a ↦ inl a | inr b ↦ inr ((members s (set_named name) h).0 b) ],
          λ m. (has_append old ranges s).1 (elim m [ inl a ↦ inl a | inr b ↦ inr ((members s (set_named name) h).1 b) ]),
        ))

-- items up to a closing bracket
known_same : (item : Item) (Q : Item → Type 0) → IsSomeAnd (known item) Q → (known item ≡ Some item) × Q item
known_same (span low high) Q h = (refl, h)
known_same (named name) Q h = by_test (is_known name) refl h
  where
    by_test : (b : Bool) → is_known name ≡ b → IsSomeAnd (if b then Some (named name) else None) Q → ((if b then Some (named name) else None) ≡ Some (named name)) × Q (named name)
    by_test true e h = (refl, h)
    by_test false e h = absurd h

pub items_none : (n : ℕ) (cs : List ℕ) → item_at cs ≡ None → items_at n cs ≡ None
items_none zero cs e = refl
items_none (suc n) cs e = ap (λ o. items_more (known_item o) (λ left. items_at n left)) e

pub items_unknown : (n : ℕ) (cs left : List ℕ) (item : Item) → item_at cs ≡ Some (item, left) → known item ≡ None → items_at n cs ≡ None
items_unknown zero cs left item e k = refl
items_unknown (suc n) cs left item e k = ap (λ o. items_more (known_item o) (λ left. items_at n left)) e ∙ ap (λ o. items_more (with_left left o) (λ left. items_at n left)) k

first_item : (n : ℕ) (cs left : List ℕ) (item : Item) → item_at cs ≡ Some (item, left) → known item ≡ Some item → items_at (suc n) cs ≡ items_more (Some (item, left)) (λ left. items_at n left)
first_item n cs left item e k = ap (λ o. items_more (known_item o) (λ left. items_at n left)) e ∙ ap (λ o. items_more (with_left left o) (λ left. items_at n left)) k

pub items_cut : (n : ℕ) (cs : List ℕ) (item : Item) (Q : Item → Type 0) → item_at cs ≡ Some (item, []) → IsSomeAnd (known item) Q → items_at n cs ≡ None
items_cut zero cs item Q e h = refl
items_cut (suc n) cs item Q e h = first_item n cs [] item e (known_same item Q h).0

pub items_end : (n : ℕ) (cs rest left : List ℕ) (c : ℕ) (item : Item) (old new : List (ℕ × ℕ)) → (n ≡ 0 → ⊥) → item_at cs ≡ Some (item, left) → left ≡ c ∷ rest → c ≡ 93 → IsSomeAnd (known item) (λ a. Adds old new (IsOfItem a)) → IsSomeAnd (items_at n cs) (λ a. (a.1 ≡ rest) × Adds old new (IsOfItems a.0))
items_end zero cs rest left c item old new p e f k h = absurd (p refl)
items_end (suc n) cs rest left c item old new p e f k h =
    let same = known_same item (λ a. Adds old new (IsOfItem a)) h in
    let whole : items_at (suc n) cs ≡ Some (item ∷ [], rest) = first_item n cs left item e same.0 ∙ ap (λ l. items_more (Some (item, l)) (λ left. items_at n left)) (f ∙ ap (λ x. x ∷ rest) k) in
    subst (λ o. IsSomeAnd o (λ a. (a.1 ≡ rest) × Adds old new (IsOfItems a.0))) (sym whole) (
      refl,
      λ s. (
        λ m. elim ((same.1 s).0 m) [ inl a ↦ inl a | inr b ↦ inr (inl b) ],
        λ m. (same.1 s).1 (elim m [ inl a ↦ inl a | inr b ↦ elim b [ inl x ↦ inr x | inr y ↦ absurd y ] ]),
      ),
    )

other_next : (n : ℕ) (c : ℕ) (rest : List ℕ) (item : Item) → c ≢ 93 → items_more (Some (item, c ∷ rest)) (λ left. items_at n left) ≡ item_more item (items_at n (c ∷ rest))
other_next n c rest item k = by_test (c == 93) (eqb_tells c 93)
  where
    by_test : (b : Bool) → ((b ≡ true) × (c ≡ 93)) ⊎ ((b ≡ false) × (c ≢ 93)) → (if b then Some (item ∷ [], rest) else item_more item (items_at n (c ∷ rest))) ≡ item_more item (items_at n (c ∷ rest))
    by_test true t = elim t [ inl h ↦ absurd (k h.1) | inr h ↦ absurd (true_false h.0) ]
      where
        true_false : true ≡ false → ⊥
        true_false e = cc
    by_test false t = refl

some_none : (a : List Item × List ℕ) → ◌≡◌ {A = Option (List Item × List ℕ)} (Some a) None → ⊥
some_none a e = cc

pub items_on : (n m : ℕ) (cs rest left : List ℕ) (c : ℕ) (item : Item) (old mid new : List (ℕ × ℕ)) (r : Result (Bor (List ℕ)) RegexFault) → n ≡ suc m → item_at cs ≡ Some (item, left) → left ≡ c ∷ rest → c ≢ 93 → IsSomeAnd (known item) (λ a. Adds old mid (IsOfItem a)) → IsReported (items_at m left) (λ a x. (a.1 ≡ x.now) × Adds mid new (IsOfItems a.0)) r → IsReported (items_at n cs) (λ a x. (a.1 ≡ x.now) × Adds old new (IsOfItems a.0)) r
items_on n m cs rest left c item old mid new r p e f k h t =
    let same = known_same item (λ a. Adds old mid (IsOfItem a)) h in
    let whole : items_at n cs ≡ item_more item (items_at m left) = ap (λ x. items_at x cs) p ∙ first_item m cs left item e same.0 ∙ ap (λ l. items_more (Some (item, l)) (λ left. items_at m left)) f ∙ other_next m c rest item k ∙ ap (λ l. item_more item (items_at m l)) (sym f) in
    subst (λ o. IsReported o (λ a x. (a.1 ≡ x.now) × Adds old new (IsOfItems a.0)) r) (sym whole) (more (items_at m left) r same.1 t)
  where
    more : (o : Option (List Item × List ℕ)) (r : Result (Bor (List ℕ)) RegexFault) → Adds old mid (IsOfItem item) → IsReported o (λ a x. (a.1 ≡ x.now) × Adds mid new (IsOfItems a.0)) r → IsReported (item_more item o) (λ a x. (a.1 ≡ x.now) × Adds old new (IsOfItems a.0)) r
    more None (Ok x) g t = absurd t
    more (Some a) (Ok x) g t = (
      t.0,
      λ s. (
        λ m. elim ((t.1 s).0 m) [
          | inl b ↦ elim ((g s).0 b) [ inl d ↦ inl d | inr d ↦ inr (inl d) ]
          | inr b ↦ inr (inr b)
        ],
        λ m. (t.1 s).1 (elim m [
          | inl b ↦ inl ((g s).1 (inl b))
          | inr b ↦ elim b [ inl d ↦ inl ((g s).1 (inr d)) | inr d ↦ inr d ]
        ]),
      ),
    )
    more None (Err e) g t = λ k. refl
    more (Some a) (Err e) g t = λ k. absurd (some_none a (t k))

-- sets of the characters that were added
pub some_reported : (o : Option (List Item × List ℕ)) (old ranges class : List (ℕ × ℕ)) (left : List ℕ) → old ≡ [] → IsSomeAnd o (λ a. (a.1 ≡ left) × Adds old ranges (IsOfItems a.0)) → IsClass class → ((s : ℕ) → Has class s ↔ (IsChar s × Has ranges s)) → IsSomeAnd (sorted some_of o) (λ a. (a.1 ≡ left) × IsClassOf a.0 class)
some_reported None old ranges class left e h up k = absurd h
some_reported (Some a) old ranges class left e h up k = (
  h.0,
  (
    up,
    λ s. (
      λ m. let b = (k s).0 m in (b.0, from_none s ((h.1 s).0 b.1)),
      λ m. (k s).1 (m.0, (h.1 s).1 (inr m.1)),
    ),
  ),
)
  where
    from_none : (s : ℕ) → Has old s ⊎ IsOfItems a.0 s → IsOfItems a.0 s
    from_none s (inl b) = absurd (rw e at b)
    from_none s (inr b) = b

pub none_reported : (o : Option (List Item × List ℕ)) (old ranges class : List (ℕ × ℕ)) (left : List ℕ) → old ≡ [] → IsSomeAnd o (λ a. (a.1 ≡ left) × Adds old ranges (IsOfItems a.0)) → IsClass class → ((s : ℕ) → Has class s ↔ (IsChar s × (Has ranges s → ⊥))) → IsSomeAnd (sorted none_of o) (λ a. (a.1 ≡ left) × IsClassOf a.0 class)
none_reported None old ranges class left e h up k = absurd h
none_reported (Some a) old ranges class left e h up k = (
  h.0,
  (
    up,
    λ s. (
      λ m. let b = (k s).0 m in (b.0, λ i. b.1 ((h.1 s).1 (inr i))),
      λ m. (k s).1 (m.0, λ i. m.1 (from_none s ((h.1 s).0 i))),
    ),
  ),
)
  where
    from_none : (s : ℕ) → Has old s ⊎ IsOfItems a.0 s → IsOfItems a.0 s
    from_none s (inl b) = absurd (rw e at b)
    from_none s (inr b) = b

pub one_reported : (o : Option Item) (old ranges class : List (ℕ × ℕ)) (left : List ℕ) → old ≡ [] → IsSomeAnd o (λ a. Adds old ranges (IsOfItem a)) → IsClass class → ((s : ℕ) → Has class s ↔ (IsChar s × Has ranges s)) → IsSomeAnd (one_set (with_left left o)) (λ a. (a.1 ≡ left) × IsClassOf a.0 class)
one_reported None old ranges class left e h up k = absurd h
one_reported (Some item) old ranges class left e h up k = (
  refl,
  (
    up,
    λ s. (
      λ m. let b = (k s).0 m in (b.0, from_none s ((h s).0 b.1)),
      λ m. (k s).1 (m.0, (h s).1 (inr (only s m.1))),
    ),
  ),
)
  where
    from_none : (s : ℕ) → Has old s ⊎ IsOfItem item s → IsOfItems (item ∷ []) s
    from_none s (inl b) = absurd (rw e at b)
    from_none s (inr b) = inl b

    only : (s : ℕ) → IsOfItems (item ∷ []) s → IsOfItem item s
    only s (inl b) = b
    only s (inr b) = absurd b

pub one_unknown : (cs left : List ℕ) (item : Item) → one_at cs ≡ Some (item, left) → known item ≡ None → one_set (known_item (one_at cs)) ≡ None
one_unknown cs left item e k = ap (λ o. one_set (known_item o)) e ∙ ap (λ o. one_set (with_left left o)) k
