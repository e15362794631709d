-- Marking the children of one row after the other, from the root down, marks all that the root's unfolding has.
use Rattle.std.proofs.Common.{◌≡◌, ◌⊎◌, inl, inr, ℕ, zero, suc, ◌<◌, ◌≤◌, List, [], ◌∷◌, length, Bool, true, false, Option, Some, None, refl, sym, ◌∙◌, ap, arith, subst, replicate}
use Rattle.std.specs.Prelude.{slice_get, slice_index_or, slice_set}
use Rattle.std.proofs.lemmas.Bool.{cases_lt}
use Rattle.xs_gram.specs.Grammar.{Grammar}
use Rattle.xs_forest.specs.declared.row.Alt.{Alt}
use Rattle.xs_forest.specs.Rows.{IsEarlier}
use Rattle.xs_forest_laws.specs.Forest.{Forest, alts_of, Unfolding, bare, pick, IsRight}
use Rattle.xs_forest_laws.specs.First.{IsFirst}
use Rattle.xs_listing.specs.Marks.{IsFirstAlt, IsReady, IsMarked, IsMarkedChild, AreMarked, with_mark, passed, pass}
use Rattle.xs_listing.proofs.Children.{IsInside, children_earlier, children_inside}

pub set_there : (m : List Bool) (c : ℕ) → c < length m → slice_get (slice_set m c true) c ≡ Some true
set_there [] c lt = absurd (omega arith)
set_there (b ∷ m) zero lt = refl
set_there (b ∷ m) (suc c) lt = set_there m c (omega arith)

set_keeps : (m : List Bool) (c r : ℕ) → IsMarked m r → IsMarked (slice_set m c true) r
set_keeps [] c r h = cc
set_keeps (b ∷ m) zero zero h = refl
set_keeps (b ∷ m) zero (suc r) h = h
set_keeps (b ∷ m) (suc c) zero h = h
set_keeps (b ∷ m) (suc c) (suc r) h = set_keeps m c r h

set_only : (m : List Bool) (c r : ℕ) → IsMarked (slice_set m c true) r → (r ≡ c) ⊎ IsMarked m r
set_only [] c r h = cc
set_only (b ∷ m) zero zero h = inl refl
set_only (b ∷ m) zero (suc r) h = inr h
set_only (b ∷ m) (suc c) zero h = inr h
set_only (b ∷ m) (suc c) (suc r) h = elim (set_only m c r h) [ inl e ↦ inl (ap suc e) | inr k ↦ inr k ]

none_marked : (n r : ℕ) → IsMarked (replicate n false) r → ⊥
none_marked zero r h = cc
none_marked (suc n) zero h = cc
none_marked (suc n) (suc r) h = none_marked n r h

mark_keeps : (o : Option ℕ) (m : List Bool) (r : ℕ) → IsMarked m r → IsMarked (with_mark o m) r
mark_keeps None m r h = h
mark_keeps (Some c) m r h = set_keeps m c r h

mark_only : (o : Option ℕ) (m : List Bool) (r : ℕ) → IsMarked (with_mark o m) r → (o ≡ Some r) ⊎ IsMarked m r
mark_only None m r h = inr h
mark_only (Some c) m r h = elim (set_only m c r h) [ inl e ↦ inl (ap Some (sym e)) | inr k ↦ inr k ]

mark_there : (o : Option ℕ) (m : List Bool) → IsEarlier o (length m) → IsMarkedChild (with_mark o m) o
mark_there None m lt = tt
mark_there (Some c) m lt = set_there m c lt

child_keeps : (o q : Option ℕ) (m : List Bool) → IsMarkedChild m q → IsMarkedChild (with_mark o m) q
child_keeps o None m h = tt
child_keeps o (Some r) m h = mark_keeps o m r h

pub length_set : (m : List Bool) (c : ℕ) → length (slice_set m c true) ≡ length m
length_set [] c = refl
length_set (b ∷ m) zero = refl
length_set (b ∷ m) (suc c) = ap suc (length_set m c)

pub length_mark : (o : Option ℕ) (m : List Bool) → length (with_mark o m) ≡ length m
length_mark None m = refl
length_mark (Some c) m = length_set m c

length_passed : (b : Bool) (o : Option Alt) (m : List Bool) → length (passed b o m) ≡ length m
length_passed false o m = refl
length_passed true None m = refl
length_passed true (Some a) m = length_mark a.right (with_mark a.left m) ∙ length_mark a.left m

pub length_pass : (f : Forest) (r : ℕ) (m : List Bool) → length (pass f r m) ≡ length m
length_pass f r m = length_passed (slice_index_or m r false) (slice_get (alts_of f r) zero) m

passed_keeps : (b : Bool) (o : Option Alt) (m : List Bool) (r : ℕ) → IsMarked m r → IsMarked (passed b o m) r
passed_keeps false o m r h = h
passed_keeps true None m r h = h
passed_keeps true (Some a) m r h = mark_keeps a.right (with_mark a.left m) r (mark_keeps a.left m r h)

pub pass_keeps : (f : Forest) (r : ℕ) (m : List Bool) (q : ℕ) → IsMarked m q → IsMarked (pass f r m) q
pass_keeps f r m q h = passed_keeps (slice_index_or m r false) (slice_get (alts_of f r) zero) m q h

mark_at : (m : List Bool) (r : ℕ) → r < length m → slice_get m r ≡ Some (slice_index_or m r false)
mark_at [] r lt = absurd (omega arith)
mark_at (b ∷ m) zero lt = refl
mark_at (b ∷ m) (suc r) lt = mark_at m r (omega arith)

pub marked_at : (m : List Bool) (r : ℕ) → r < length m → slice_index_or m r false ≡ true → IsMarked m r
marked_at m r lt e = mark_at m r lt ∙ ap Some e

module _ (g : Grammar) (w : List ℕ) (f : Forest) (right : IsRight g w f) where
  -- a child's unfolding by first alternatives
  abbrev IsReadyChild : Option ℕ → Type 0
  IsReadyChild None = Unit {0}
  IsReadyChild (Some c) = IsReady w f c

  ready_child : (o : Option ℕ) (u : Unfolding) → IsFirst f o u → IsInside g w f right o → IsReadyChild o
  ready_child None u h i = tt
  ready_child (Some c) u h i = record { chosen = u; first = h; inside = i }

  pub children_ready : (r : ℕ) (a : Alt) → IsFirstAlt f r a → (u : Unfolding) → IsFirst f (Some r) u → IsInside g w f right (Some r) → IsReadyChild a.left × IsReadyChild a.right
  children_ready r a e bare h i = absurd h
  children_ready r a e (pick b l t) (lt, at, hl, ht) i =
      let same : b ≡ a = cc in
      let c = children_inside g w f right r zero a lt e i in (
        ready_child a.left l (subst (λ (x : Alt). IsFirst f x.left l) same hl) c.0,
        ready_child a.right t (subst (λ (x : Alt). IsFirst f x.right t) same ht) c.1,
      )

  ready_of : (o : Option ℕ) (r : ℕ) → o ≡ Some r → IsReadyChild o → IsReady w f r
  ready_of o r e h = subst IsReadyChild e h

  pub first_marked : (root n : ℕ) → IsReady w f root → root < n → AreMarked w f (slice_set (replicate n false) root true) n
  first_marked root n ready lt = record {
    ready = λ r h. elim (set_only (replicate n false) root r h) [ inl e ↦ subst (λ x. IsReady w f x) (sym e) ready | inr k ↦ absurd (none_marked n r k) ];
    lefts = λ r a le h e. absurd (elim (set_only (replicate n false) root r h) [ inl s ↦ omega arith | inr k ↦ none_marked n r k ]);
    rights = λ r a le h e. absurd (elim (set_only (replicate n false) root r h) [ inl s ↦ omega arith | inr k ↦ none_marked n r k ]);
  }

  earlier_not : (o : Option ℕ) (row r : ℕ) → IsEarlier o row → row ≤ r → o ≡ Some r → ⊥
  earlier_not o row r e le is = let lt : IsEarlier (Some r) row = subst (λ x. IsEarlier x row) is e in omega arith

  same_row : (row r : ℕ) → row ≤ r → (r ≡ row) ⊎ (suc row ≤ r)
  same_row row r le = elim (cases_lt row r) [ inl lt ↦ inr (omega arith) | inr ge ↦ inl (omega arith) ]

  -- a row that is not marked, or has no alternative, passes nothing on
  marked_same : (m : List Bool) (row : ℕ) → AreMarked w f m (suc row) → ((a : Alt) → IsMarked m row → IsFirstAlt f row a → ⊥) → AreMarked w f m row
  marked_same m row marked none = record {
    ready = marked.ready;
    lefts = λ r a le h e. elim (same_row row r le) [ inl s ↦ absurd (none a (subst (λ x. IsMarked m x) s h) (subst (λ x. IsFirstAlt f x a) s e)) | inr lt ↦ marked.lefts r a lt h e ];
    rights = λ r a le h e. elim (same_row row r le) [ inl s ↦ absurd (none a (subst (λ x. IsMarked m x) s h) (subst (λ x. IsFirstAlt f x a) s e)) | inr lt ↦ marked.rights r a lt h e ];
  }

  module _ (m : List Bool) (row : ℕ) (long : row < length m) (a : Alt) (lt : row < length f) (at : IsFirstAlt f row a) (marked : AreMarked w f m (suc row)) (own : IsMarked m row) where
    before : (n : ℕ) → row ≤ n → IsEarlier a.left n × IsEarlier a.right n
    before n le = children_earlier g w f right row zero n a lt le at

    ready_row : IsReady w f row
    ready_row = marked.ready row own

    ready_children : IsReadyChild a.left × IsReadyChild a.right
    ready_children = let h = ready_row in children_ready row a at h.chosen h.first h.inside

    left_marked : IsMarkedChild (with_mark a.right (with_mark a.left m)) a.left
    left_marked = child_keeps a.right a.left (with_mark a.left m) (mark_there a.left m (before (length m) (omega arith)).0)

    right_marked : IsMarkedChild (with_mark a.right (with_mark a.left m)) a.right
    right_marked =
        let e = length_mark a.left m in
        mark_there a.right (with_mark a.left m) (before (length (with_mark a.left m)) (omega arith)).1

    was_marked : (r : ℕ) → row ≤ r → IsMarked (with_mark a.right (with_mark a.left m)) r → IsMarked m r
    was_marked r le h = elim (mark_only a.right (with_mark a.left m) r h) [
      | inl e ↦ absurd (earlier_not a.right row r (before row (omega arith)).1 le e)
      | inr k ↦ elim (mark_only a.left m r k) [ inl e ↦ absurd (earlier_not a.left row r (before row (omega arith)).0 le e) | inr old ↦ old ]
    ]

    same_alt : (b : Alt) → IsFirstAlt f row b → a ≡ b
    same_alt b e = cc

    keeps : (q : Option ℕ) → IsMarkedChild m q → IsMarkedChild (with_mark a.right (with_mark a.left m)) q
    keeps q h = child_keeps a.right q (with_mark a.left m) (child_keeps a.left q m h)

    marked_more : AreMarked w f (with_mark a.right (with_mark a.left m)) row
    marked_more = record {
      ready = λ r h. elim (mark_only a.right (with_mark a.left m) r h) [
        | inl e ↦ ready_of a.right r e ready_children.1
        | inr k ↦ elim (mark_only a.left m r k) [ inl e ↦ ready_of a.left r e ready_children.0 | inr old ↦ marked.ready r old ]
      ];
      lefts = λ r b le h e. elim (same_row row r le) [
        | inl s ↦ subst (λ (x : Alt). IsMarkedChild (with_mark a.right (with_mark a.left m)) x.left) (same_alt b (subst (λ x. IsFirstAlt f x b) s e)) left_marked
        | inr lt ↦ keeps b.left (marked.lefts r b lt (was_marked r le h) e)
      ];
      rights = λ r b le h e. elim (same_row row r le) [
        | inl s ↦ subst (λ (x : Alt). IsMarkedChild (with_mark a.right (with_mark a.left m)) x.right) (same_alt b (subst (λ x. IsFirstAlt f x b) s e)) right_marked
        | inr lt ↦ keeps b.right (marked.rights r b lt (was_marked r le h) e)
      ];
    }

  passed_marked : (m : List Bool) (row : ℕ) (b : Bool) (o : Option Alt) → row < length m → row < length f → slice_get m row ≡ Some b → slice_get (alts_of f row) zero ≡ o → AreMarked w f m (suc row) → AreMarked w f (passed b o m) row
  passed_marked m row false o long lt at e marked = marked_same m row marked (λ a h i. cc)
  passed_marked m row true None long lt at e marked = marked_same m row marked (λ a h i. cc)
  passed_marked m row true (Some a) long lt at e marked = marked_more m row long a lt e marked at

  -- one row more passes its mark on
  pub pass_marked : (m : List Bool) (row : ℕ) → row < length m → row < length f → AreMarked w f m (suc row) → AreMarked w f (pass f row m) row
  pass_marked m row long lt marked = passed_marked m row (slice_index_or m row false) (slice_get (alts_of f row) zero) long lt (mark_at m row long) refl marked
