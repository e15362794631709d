-- Sets to which items are added.
use Rattle.std.proofs.Common.{◌≡◌, ℕ, suc, ◌+◌, ◌<◌, List, [], ◌∷◌, ◌++◌, length, take, set, Bool, true, false, if◌then◌else◌, refl, sym, ◌∙◌, ap, subst, arith, append_assoc, append-nil, inl, inr, ◌↔◌, length-set, get_or-set_same, get_or-set_other}
use Rattle.std.specs.Prelude.{Contains, IsTrue}
use Rattle.std.proofs.lemmas.Bool.{cases_eq, false≢true}
use Rattle.std.proofs.lemmas.List.Elements.{Contains-append_left, Contains-append_right, Contains-append_cases, Contains-push, Contains-push_cases}
use Rattle.xs_chart.specs.declared.item.Item.{Item}
use Rattle.xs_chart.specs.Charted.{Charted, items_of, last_set, with_item, with_items}
use Rattle.xs_chart.proofs.Advancing.{no_element, contains_cases}
use Rattle.xs_gram.specs.declared.places.Place.{Place}
use Rattle.xs_gram.specs.Grammar.{Grammar}
use Rattle.xs_chart_laws.specs.Charts.{IsNumber, set_at}
use Rattle.xs_earley.specs.Adding.{Puts, IsOf, Adds, Is}

-- nothing is added
pub puts_none : (at : ℕ) (P : Item → Type 0) (a : List (List Item)) → Puts at P a a
puts_none at P a = record { counted = refl; more = []; last = sym (append-nil (set_at a at)); each = λ item h. absurd (no_element item h); others = λ k ne. refl }

-- first some items and then others
pub puts_then : (at : ℕ) (P Q R : Item → Type 0) (a b c : List (List Item)) → ((item : Item) → P item → R item) → ((item : Item) → Q item → R item) → Puts at P a b → Puts at Q b c → Puts at R a c
puts_then at P Q R a b c p q first next = record {
  counted = next.counted ∙ first.counted;
  more = first.more ++ next.more;
  last = next.last ∙ ap (λ l. l ++ next.more) first.last ∙ append_assoc (set_at a at) first.more next.more;
  each = λ item h. elim (Contains-append_cases first.more next.more item h) [ inl x ↦ p item (first.each item x) | inr x ↦ q item (next.each item x) ];
  others = λ k ne. next.others k ne ∙ first.others k ne;
}

pub puts_weaker : (at : ℕ) (P R : Item → Type 0) (a b : List (List Item)) → ((item : Item) → P item → R item) → Puts at P a b → Puts at R a b
puts_weaker at P R a b p puts = record { counted = puts.counted; more = puts.more; last = puts.last; each = λ item h. p item (puts.each item h); others = puts.others }

-- what was there stays
pub puts_kept : (at : ℕ) (P : Item → Type 0) (a b : List (List Item)) → Puts at P a b → (k : ℕ) (item : Item) → Contains (set_at a k) item → Contains (set_at b k) item
puts_kept at P a b puts k item h = elim (cases_eq k at) [
  | inl e ↦ subst (λ j. Contains (set_at b j) item) (sym e) (subst (λ (l : List Item). Contains l item) (sym puts.last) (Contains-append_left (set_at a at) puts.more item (subst (λ j. Contains (set_at a j) item) e h)))
  | inr ne ↦ subst (λ (l : List Item). Contains l item) (sym (puts.others k ne)) h
]

-- items are put last in a set
pub set_puts : (sets : List (List Item)) (at : ℕ) (more items : List Item) → at < length sets → items ≡ set_at sets at ++ more → Puts at (Contains more) sets (set sets at items)
set_puts sets at more items lt is = record {
  counted = length-set sets at items;
  more = more;
  last = get_or-set_same sets at items [] lt ∙ is;
  each = λ x h. h;
  others = λ k ne. get_or-set_other sets at k items [] ne;
}

pub set_there : (sets : List (List Item)) (at : ℕ) (more items : List Item) → at < length sets → items ≡ set_at sets at ++ more → (item : Item) → Contains more item → Contains (set_at (set sets at items) at) item
set_there sets at more items lt is item h = subst (λ (l : List Item). Contains l item) (sym (get_or-set_same sets at items [] lt ∙ is)) (Contains-append_right (set_at sets at) more item h)

pub last_at : (chart : Charted) (at : ℕ) → length chart.sets ≡ suc at → last_set chart ≡ at
last_at chart at last = omega arith

-- items are put last in the last set of a chart
pub appended_puts : (old new : Charted) (at : ℕ) (more : List Item) → length old.sets ≡ suc at → new ≡ with_items old more → Puts at (Contains more) old.sets new.sets
appended_puts old new at more last is =
    let lt : at < length old.sets = omega arith in
    let here = set_puts old.sets at more (set_at old.sets at ++ more) lt refl in
    subst (λ (c : Charted). Puts at (Contains more) old.sets c.sets) (sym is) (subst (λ k. Puts at (Contains more) old.sets (set old.sets k (set_at old.sets k ++ more))) (sym (last_at old at last)) here)

pub appended_there : (old new : Charted) (at : ℕ) (more : List Item) → length old.sets ≡ suc at → new ≡ with_items old more → (item : Item) → Contains more item → Contains (set_at new.sets at) item
appended_there old new at more last is item h =
    let lt : at < length old.sets = omega arith in
    let here = set_there old.sets at more (set_at old.sets at ++ more) lt refl item h in
    subst (λ (c : Charted). Contains (set_at c.sets at) item) (sym is) (subst (λ k. Contains (set_at (set old.sets k (set_at old.sets k ++ more)) at) item) (sym (last_at old at last)) here)

-- an item is added to the last set of a chart
pub added_puts : (old new : Charted) (at : ℕ) (item : Item) (added : Bool) → length old.sets ≡ suc at → new ≡ (if added then with_item old item else old) → Puts at (λ x. x ≡ item) old.sets new.sets
added_puts old new at item true last is =
    puts_weaker at (Contains (item ∷ [])) (λ x. x ≡ item) old.sets new.sets (λ x h. elim (Contains-push_cases [] item x h) [ inl none ↦ absurd (no_element x none) | inr e ↦ sym e ]) (appended_puts old new at (item ∷ []) last is)
added_puts old new at item false last is = subst (λ (c : Charted). Puts at (λ x. x ≡ item) old.sets c.sets) (sym is) (puts_none at (λ x. x ≡ item) old.sets)

pub added_there : (old new : Charted) (at : ℕ) (item : Item) (added : Bool) → length old.sets ≡ suc at → new ≡ (if added then with_item old item else old) → IsTrue added ↔ (Contains (items_of old (last_set old)) item → ⊥) → Contains (set_at new.sets at) item
added_there old new at item true last is iff = appended_there old new at (item ∷ []) last is item (0, omega arith, refl)
added_there old new at item false last is iff = elim (contains_cases (set_at old.sets at) item) [
  | inl h ↦ subst (λ (c : Charted). Contains (set_at c.sets at) item) (sym is) h
  | inr never ↦ absurd (false≢true (iff.1 (λ h. never (subst (λ k. Contains (set_at old.sets k) item) (last_at old at last) h))))
]

module _ (g : Grammar) (at : ℕ) where
  -- the item of a place and an origin
  pub adds_one : (p : Place) (k o : ℕ) (a b : List (List Item)) → IsNumber g k p → Puts at (λ x. x ≡ record { state = k; origin = o }) a b → Contains (set_at b at) (record { state = k; origin = o }) → Adds g at (Is p o) a b
  adds_one p k o a b num puts there = record {
    puts = puts_weaker at (λ x. x ≡ record { state = k; origin = o }) (IsOf g (Is p o)) a b (λ x e. (p, subst (λ n. IsNumber g n p) (sym (ap (λ (y : Item). y.state) e)) num, (refl, ap (λ (y : Item). y.origin) e))) puts;
    there = λ c i q. (k, subst (λ d. IsNumber g k d) (sym q.0) num, subst (λ n. Contains (set_at b at) (record { state = k; origin = n })) (sym q.1) there);
  }

  pub adds_none : (P : Place → ℕ → Type 0) (a : List (List Item)) → ((c : Place) (i : ℕ) → P c i → ⊥) → Adds g at P a a
  adds_none P a none = record { puts = puts_none at (IsOf g P) a; there = λ c i p. absurd (none c i p) }

  pub adds_same : (P Q : Place → ℕ → Type 0) (a b : List (List Item)) → ((c : Place) (i : ℕ) → P c i → Q c i) → ((c : Place) (i : ℕ) → Q c i → P c i) → Adds g at P a b → Adds g at Q a b
  adds_same P Q a b to from adds = record {
    puts = puts_weaker at (IsOf g P) (IsOf g Q) a b (λ item h. (h.0, h.1, to h.0 item.origin h.2)) adds.puts;
    there = λ c i q. adds.there c i (from c i q);
  }

-- one item more of a list
pub put_more : (items : List Item) (n at : ℕ) (item : Item) (a b c : List (List Item)) → take (n + 1) items ≡ take n items ++ item ∷ [] → Puts at (Contains (take n items)) a b → Puts at (λ x. x ≡ item) b c → Puts at (Contains (take (n + 1) items)) a c
put_more items n at item a b c more first next = puts_then at (Contains (take n items)) (λ x. x ≡ item) (Contains (take (n + 1) items)) a b c before here first next
  where
    before : (x : Item) → Contains (take n items) x → Contains (take (n + 1) items) x
    before x h = subst (λ (l : List Item). Contains l x) (sym more) (Contains-append_left (take n items) (item ∷ []) x h)

    here : (x : Item) → x ≡ item → Contains (take (n + 1) items) x
    here x e = subst (λ (l : List Item). Contains l x) (sym more) (subst (λ y. Contains (take n items ++ item ∷ []) y) (sym e) (Contains-push (take n items) item))

pub put_there : (items : List Item) (n at : ℕ) (item : Item) (b c : List (List Item)) → take (n + 1) items ≡ take n items ++ item ∷ [] → ((x : Item) → Contains (take n items) x → Contains (set_at b at) x) → Puts at (λ x. x ≡ item) b c → Contains (set_at c at) item → (x : Item) → Contains (take (n + 1) items) x → Contains (set_at c at) x
put_there items n at item b c more before puts here x h = elim (Contains-push_cases (take n items) item x (subst (λ (l : List Item). Contains l x) more h)) [
  | inl l ↦ puts_kept at (λ y. y ≡ item) b c puts at x (before x l)
  | inr e ↦ subst (λ y. Contains (set_at c at) y) e here
]
