-- The candidates of one item more, of one set more, and of one mark more.
use Rattle.std.proofs.Common.{◌≡◌, ◌⊎◌, ℕ, zero, suc, ◌<◌, List, [], ◌∷◌, ◌++◌, length, slice_get, map, None, Some, refl, sym, ap, ◌∙◌, subst, arith, inl, inr, append-nil}
use Rattle.std.specs.Prelude.{Contains}
use Rattle.std.proofs.lemmas.Bool.{cases_eq}
use Rattle.std.proofs.lemmas.Option.{none-some, same_Some}
use Rattle.xs_class.proofs.Lists.{get_of, contains_of}
use Rattle.xs_chart.specs.declared.item.Item.{Item}
use Rattle.xs_chart.specs.Different.{AreDifferent}
use Rattle.xs_gram.specs.declared.parts.GItem.{GItem}
use Rattle.xs_gram.specs.declared.places.Place.{Place}
use Rattle.xs_gram.specs.Grammar.{Grammar, rule_of, items, ItemAt}
use Rattle.xs_gram.specs.Places.{at_dot}
use Rattle.xs_gram.proofs.Numbers.{place_once, as_dot}
use Rattle.xs_chart_laws.specs.Charts.{IsNumber, set_at}
use Rattle.xs_chart_laws.proofs.Numbers.{one_place}
use Rattle.xs_forest_laws.specs.declared.span.What.{What}
use Rattle.xs_forest_laws.specs.declared.span.What.TheVariants.{Whole, Front}
use Rattle.xs_forest_laws.specs.Forest.{key_at}
use Rattle.xs_grow.specs.declared.call.Call.{Call}
use Rattle.xs_grow.specs.Lists.{AreOnce, HasAllOf, Appends}
use Rattle.xs_grow.specs.Candidates.{Candidate, call_at, WholeAt, IsSearched, IsLater, EndsAt, FrontFrom, InSet, InSets, CallIn, IsCallPushed}
use Rattle.xs_grow.proofs.ListLemmas.{all_none, all_push, all_same, appends_none, appends_one, appends_more}

module _ (P : ℕ → Item → Candidate → Type 0) (sets : List (List Item)) where
  pub set_none : (j : ℕ) (candidates : List Candidate) → Appends (InSet P sets j 0) candidates candidates
  set_none j candidates = appends_none (InSet P sets j 0) candidates (λ c h. absurd (omega (arith, h.1)))

  pub sets_none : (candidates : List Candidate) → Appends (InSets P sets 0) candidates candidates
  sets_none candidates = appends_none (InSets P sets 0) candidates (λ c h. absurd (omega (arith, h.1)))

  -- one item more
  pub set_more : (j t : ℕ) (it : Item) (a b c : List Candidate) → slice_get (set_at sets j) t ≡ Some it → AreDifferent (set_at sets j) → ((one two : Item) (m : Candidate) → P j one m → P j two m → one ≡ two) → Appends (InSet P sets j t) a b → Appends (P j it) b c → Appends (InSet P sets j (suc t)) a c
  set_more j t it a b c here different only before now = appends_more (InSet P sets j t) (P j it) (InSet P sets j (suc t)) a b c before now apart left right split
    where
      apart : (m : Candidate) → InSet P sets j t m → P j it m → ⊥
      apart m (k, lt, one, at, p) q =
          let e : k ≡ t = different k t it (at ∙ ap (λ (z : Item). Some z) (only one it m p q)) here in
          absurd (omega (arith, lt))

      left : (m : Candidate) → InSet P sets j t m → InSet P sets j (suc t) m
      left m (k, lt, one, at, p) = (k, omega (arith, lt), one, at, p)

      right : (m : Candidate) → P j it m → InSet P sets j (suc t) m
      right m q = (t, omega arith, it, here, q)

      split : (m : Candidate) → InSet P sets j (suc t) m → InSet P sets j t m ⊎ P j it m
      split m (k, lt, one, at, p) = elim (cases_eq k t) [
        | inl e ↦ let same = same_Some one it (sym at ∙ (ap (λ z. slice_get (set_at sets j) z) e ∙ here)) in inr (subst (λ z. P j z m) same p)
        | inr ne ↦ let le = lt in inl (k, omega arith, one, at, p)
      ]

  -- one set more
  pub sets_more : (n : ℕ) (a b c : List Candidate) → ((i j : ℕ) (one two : Item) (m : Candidate) → P i one m → P j two m → i ≡ j) → Appends (InSets P sets n) a b → Appends (InSet P sets n (length (set_at sets n))) b c → Appends (InSets P sets (suc n)) a c
  sets_more n a b c only before now = appends_more (InSets P sets n) (InSet P sets n (length (set_at sets n))) (InSets P sets (suc n)) a b c before now apart left right split
    where
      apart : (m : Candidate) → InSets P sets n m → InSet P sets n (length (set_at sets n)) m → ⊥
      apart m (j, lt, (k, below, one, at, p)) (l, in', two, there, q) =
          let e : j ≡ n = only j n one two m p q in
          absurd (omega (arith, lt))

      left : (m : Candidate) → InSets P sets n m → InSets P sets (suc n) m
      left m (j, lt, (k, below, one, at, p)) = (j, omega (arith, lt), (k, below, one, at, p))

      right : (m : Candidate) → InSet P sets n (length (set_at sets n)) m → InSets P sets (suc n) m
      right m (k, below, one, at, p) = (n, omega arith, (k, below, one, at, p))

      split : (m : Candidate) → InSets P sets (suc n) m → InSets P sets n m ⊎ InSet P sets n (length (set_at sets n)) m
      split m (j, lt, (k, below, one, at, p)) = elim (cases_eq j n) [
        | inl e ↦ inr (subst (λ z. InSet P sets z (length (set_at sets z)) m) e (k, below, one, at, p))
        | inr ne ↦ let le = lt in inl (j, omega arith, (k, below, one, at, p))
      ]

same_item : (one two : Item) → one.state ≡ two.state → one.origin ≡ two.origin → one ≡ two
same_item one two e f = go one.state two.state one.origin two.origin e f
  where
    go : (a b c d : ℕ) → a ≡ b → c ≡ d → ◌≡◌ {A = Item} (record { state = a; origin = c }) (record { state = b; origin = d })
    go a b c d e f = ap (λ (s : ℕ). record { state = s; origin = c }) e ∙ ap (λ (o : ℕ). record { state = b; origin = o }) f

pub same_start : (x y : What) (i j k l m n : ℕ) → ◌≡◌ {A = Candidate} (key_at x i j, m) (key_at y k l, n) → (x ≡ y) × (i ≡ k) × (j ≡ l) × (m ≡ n)
same_start x y i j k l m n e = (ap (λ (z : Candidate). z.0.what) e, ap (λ (z : Candidate). z.0.start) e, ap (λ (z : Candidate). z.0.end) e, ap (λ (z : Candidate). z.1) e)

pub same_rule : (p q d e : ℕ) → Front p (suc d) ≡ Front q (suc e) → p ≡ q
same_rule p q d e h = cc

pub same_dot : (p q d e : ℕ) → Front p (suc d) ≡ Front q (suc e) → d ≡ e
same_dot p q d e h = let s : suc d ≡ suc e = cc in omega arith

one_number : (g : Grammar) (c d : Place) (k l p q m n : ℕ) → IsNumber g k c → IsNumber g l d → c.inside ≡ None → d.inside ≡ None → c.rule ≡ d.rule → c.dot ≡ d.dot → k ≡ l
one_number g c d k l p q m n is_c is_d plain_c plain_d e f =
    let same : c ≡ d = sym (as_dot c plain_c) ∙ (ap (λ r. at_dot r c.dot) e ∙ (ap (λ t. at_dot d.rule t) f ∙ as_dot d plain_d)) in
    place_once g d k l (subst (λ z. IsNumber g k z) same is_c) is_d

module _ (g : Grammar) where
  pub whole_item : (j : ℕ) (one two : Item) (m : Candidate) → WholeAt g j one m → WholeAt g j two m → one ≡ two
  whole_item j one two m a b =
      let s = same_start (Whole (rule_of g a.place.rule).non) (Whole (rule_of g b.place.rule).non) one.origin j two.origin j a.place.rule b.place.rule (sym a.is ∙ b.is) in
      let dots : a.place.dot ≡ b.place.dot = a.whole ∙ (ap (λ r. length (items g r)) s.3 ∙ sym b.whole) in
      same_item one two (one_number g a.place b.place one.state two.state 0 0 0 0 a.numbered b.numbered a.plain b.plain s.3 dots) s.1

  pub whole_set : (i j : ℕ) (one two : Item) (m : Candidate) → WholeAt g i one m → WholeAt g j two m → i ≡ j
  whole_set i j one two m a b = (same_start (Whole (rule_of g a.place.rule).non) (Whole (rule_of g b.place.rule).non) one.origin i two.origin j a.place.rule b.place.rule (sym a.is ∙ b.is)).2

  -- the candidate of an item at the end of its rule, and of one that stands elsewhere
  pub whole_one : (j : ℕ) (it : Item) (place : Place) (a b : List Candidate) → IsNumber g it.state place → ((place.inside ≡ None) × (place.dot ≡ length (items g place.rule))) × (b ≡ a ++ (key_at (Whole (rule_of g place.rule).non) it.origin j, place.rule) ∷ []) ⊎ (((place.inside ≡ None) × (place.dot ≡ length (items g place.rule)) → ⊥) × (b ≡ a)) → Appends (WholeAt g j it) a b
  whole_one j it place a b number (inl (end, e)) =
      appends_one (WholeAt g j it) a b (key_at (Whole (rule_of g place.rule).non) it.origin j, place.rule) e (record { place = place; numbered = number; plain = end.0; whole = end.1; is = refl }) (λ m h. sym (h.is ∙ ap (λ (c : Place). (key_at (Whole (rule_of g c.rule).non) it.origin j, c.rule)) (one_place g it.state h.place place h.numbered number)))
  whole_one j it place a b number (inr (none, e)) =
      subst (λ z. Appends (WholeAt g j it) a z) (sym e) (appends_none (WholeAt g j it) a (λ m h. none (subst (λ (c : Place). (c.inside ≡ None) × (c.dot ≡ length (items g c.rule))) (one_place g it.state h.place place h.numbered number) (h.plain, h.whole))))

  module _ (w : List ℕ) (calls : List (Call × ℕ)) where
    pub front_item : (j : ℕ) (one two : Item) (m : Candidate) → FrontFrom g w calls j one m → FrontFrom g w calls j two m → one ≡ two
    front_item j one two m a b =
        let s = same_start (Front a.place.rule (suc a.place.dot)) (Front b.place.rule (suc b.place.dot)) one.origin a.end two.origin b.end j j (sym a.is ∙ b.is) in
        same_item one two (one_number g a.place b.place one.state two.state 0 0 0 0 a.numbered b.numbered a.plain b.plain (same_rule a.place.rule b.place.rule a.place.dot b.place.dot s.0) (same_dot a.place.rule b.place.rule a.place.dot b.place.dot s.0)) s.1

    pub front_set : (i j : ℕ) (one two : Item) (m : Candidate) → FrontFrom g w calls i one m → FrontFrom g w calls j two m → i ≡ j
    front_set i j one two m a b = (same_start (Front a.place.rule (suc a.place.dot)) (Front b.place.rule (suc b.place.dot)) one.origin a.end two.origin b.end i j (sym a.is ∙ b.is)).3

    -- an item that stands inside an item, or before none that is searched, has no such candidates
    pub front_inside : (j : ℕ) (it : Item) (place : Place) (k : ℕ) (a : List Candidate) → IsNumber g it.state place → place.inside ≡ Some k → Appends (FrontFrom g w calls j it) a a
    front_inside j it place k a number inside = appends_none (FrontFrom g w calls j it) a (λ m h. none-some k (sym h.plain ∙ (ap (λ (c : Place). c.inside) (one_place g it.state h.place place h.numbered number) ∙ inside)))

    pub front_not : (j : ℕ) (it : Item) (place : Place) (a : List Candidate) → IsNumber g it.state place → (IsLater (items g place.rule) place.dot → ⊥) → Appends (FrontFrom g w calls j it) a a
    front_not j it place a number none = appends_none (FrontFrom g w calls j it) a (λ m h. none (subst (λ (c : Place). IsLater (items g c.rule) c.dot) (one_place g it.state h.place place h.numbered number) (h.item, h.at, h.later, h.searched)))

    abbrev mark_of : (j : ℕ) (it : Item) (place : Place) (end : ℕ) → Candidate
    mark_of j it place end = (key_at (Front place.rule (suc place.dot)) it.origin end, j)

    same_end : (j : ℕ) (it : Item) (place : Place) (e f : ℕ) → mark_of j it place e ≡ mark_of j it place f → e ≡ f
    same_end j it place e f h = ap (λ (z : Candidate). z.0.end) h

    mapped_all : (j : ℕ) (it : Item) (place : Place) (item : GItem) (ends : List ℕ) → IsNumber g it.state place → place.inside ≡ None → 0 < place.dot → IsSearched item → ItemAt g place.rule place.dot item → HasAllOf (EndsAt g w calls item j) ends → HasAllOf (FrontFrom g w calls j it) (map (mark_of j it place) ends)
    mapped_all j it place item ends number plain later searched at all = record { sound = sound; complete = complete; once = once }
      where
        got : (xs : List ℕ) (k : ℕ) (m : Candidate) → slice_get (map (mark_of j it place) xs) k ≡ Some m → (e : ℕ) × (slice_get xs k ≡ Some e) × (mark_of j it place e ≡ m)
        got [] k m h = absurd (none-some m h)
        got (x ∷ xs) zero m h = (x, refl, same_Some (mark_of j it place x) m h)
        got (x ∷ xs) (suc k) m h = got xs k m h

        put : (xs : List ℕ) (k e : ℕ) → slice_get xs k ≡ Some e → slice_get (map (mark_of j it place) xs) k ≡ Some (mark_of j it place e)
        put [] k e h = absurd (none-some e h)
        put (x ∷ xs) zero e h = ap (λ (z : ℕ). Some (mark_of j it place z)) (same_Some x e h)
        put (x ∷ xs) (suc k) e h = put xs k e h

        sound : (m : Candidate) → Contains (map (mark_of j it place) ends) m → FrontFrom g w calls j it m
        sound m c =
            let at' = get_of (map (mark_of j it place) ends) m c in
            let e = got ends at'.0 m at'.1 in
            record { place = place; numbered = number; plain = plain; item = item; later = later; searched = searched; at = at; end = e.0; last = all.sound e.0 (contains_of ends at'.0 e.0 e.1); is = sym e.2 }

        complete : (m : Candidate) → FrontFrom g w calls j it m → Contains (map (mark_of j it place) ends) m
        complete m h =
            let same = one_place g it.state h.place place h.numbered number in
            let at' : ItemAt g place.rule place.dot h.item = subst (λ (c : Place). ItemAt g c.rule c.dot h.item) same h.at in
            let item' : h.item ≡ item = same_Some h.item item (sym at' ∙ at) in
            let c = get_of ends h.end (all.complete h.end (subst (λ z. EndsAt g w calls z j h.end) item' h.last)) in
            let is : m ≡ mark_of j it place h.end = h.is ∙ ap (λ (c : Place). (key_at (Front c.rule (suc c.dot)) it.origin h.end, j)) same in
            subst (λ z. Contains (map (mark_of j it place) ends) z) (sym is) (contains_of (map (mark_of j it place) ends) c.0 (mark_of j it place h.end) (put ends c.0 h.end c.1))

        once : AreOnce (map (mark_of j it place) ends)
        once k l m a b =
            let e = got ends k m a in
            let f = got ends l m b in
            let same : f.0 ≡ e.0 = same_end j it place f.0 e.0 (f.2 ∙ sym e.2) in
            all.once k l e.0 e.1 (subst (λ z. slice_get ends l ≡ Some z) same f.1)

    pub front_ends : (j : ℕ) (it : Item) (place : Place) (item : GItem) (ends : List ℕ) (a b : List Candidate) (dot : ℕ) → IsNumber g it.state place → place.inside ≡ None → IsLater (items g place.rule) place.dot → ItemAt g place.rule place.dot item → HasAllOf (EndsAt g w calls item j) ends → dot ≡ suc place.dot → b ≡ a ++ map (λ end. (key_at (Front place.rule dot) it.origin end, j)) ends → Appends (FrontFrom g w calls j it) a b
    front_ends j it place item ends a b dot number plain (other, there, later, searched) at all e is =
        record { added = map (mark_of j it place) ends; is = is ∙ ap (λ d. a ++ map (λ end. (key_at (Front place.rule d) it.origin end, j)) ends) e; all = mapped_all j it place item ends number plain later (subst IsSearched (same_Some other item (sym there ∙ at)) searched) at all }

-- the calls of one mark more
module _ (marks : List Candidate) where
  none_whole : (n p d : ℕ) → Whole n ≡ Front p d → ⊥
  none_whole n p d e = cc

  same_whole : (n m : ℕ) → Whole n ≡ Whole m → n ≡ m
  same_whole n m e = cc

  pub calls_none : HasAllOf (CallIn marks 0) []
  calls_none = all_none (CallIn marks 0) (λ c h. absurd (omega (arith, h.1)))

  keep : (t : ℕ) (c : Call × ℕ) → CallIn marks t c → CallIn marks (suc t) c
  keep t c (r, lt, m, k, l, q, at, is) = (r, omega (arith, lt), m, k, l, q, at, is)

  -- the call of a mark
  at_last : (t : ℕ) (x : What) (i j number : ℕ) (c : Call × ℕ) → slice_get marks t ≡ Some (key_at x i j, number) → CallIn marks (suc t) c → CallIn marks t c ⊎ ((n : ℕ) × (x ≡ Whole n) × ((call_at n i, j) ≡ c))
  at_last t x i j number c here (r, lt, m, k, l, q, at, is) = elim (cases_eq r t) [
    | inl e ↦
        let same = same_Some (key_at x i j, number) (key_at (Whole m) k l, q) (sym here ∙ subst (λ z. slice_get marks z ≡ Some (key_at (Whole m) k l, q)) e at) in
        inr (m, ap (λ (z : Candidate). z.0.what) same, ap (λ (z : Candidate). (call_at m z.0.start, z.0.end)) same ∙ sym is)
    | inr ne ↦ let le = lt in inl (r, omega arith, m, k, l, q, at, is)
  ]

  pub calls_more : (t : ℕ) (x : What) (i j number : ℕ) (old new : List (Call × ℕ)) → slice_get marks t ≡ Some (key_at x i j, number) → IsCallPushed marks t (key_at x i j) old new → HasAllOf (CallIn marks t) old → HasAllOf (CallIn marks (suc t)) new
  calls_more t (Whole n) i j number old new here (inl (first, e)) all =
      subst (λ z. HasAllOf (CallIn marks (suc t)) z) (sym e) (all_push (CallIn marks t) (CallIn marks (suc t)) old (call_at n i, j) all fresh (t, omega arith, n, i, j, number, here, refl) (keep t) split)
    where
      fresh : CallIn marks t (call_at n i, j) → ⊥
      fresh (r, lt, m, k, l, q, at, is) =
          let n' : n ≡ m = ap (λ (z : Call × ℕ). z.0.non) is in
          let i' : i ≡ k = ap (λ (z : Call × ℕ). z.0.start) is in
          let j' : j ≡ l = ap (λ (z : Call × ℕ). z.1) is in
          let same : key_at (Whole m) k l ≡ key_at (Whole n) i j = sym (ap (λ z. key_at (Whole z) i j) n' ∙ (ap (λ z. key_at (Whole m) z j) i' ∙ ap (λ z. key_at (Whole m) k z) j')) in
          first r q lt (subst (λ z. slice_get marks r ≡ Some (z, q)) same at)

      split : (c : Call × ℕ) → CallIn marks (suc t) c → CallIn marks t c ⊎ ((call_at n i, j) ≡ c)
      split c h = elim (at_last t (Whole n) i j number c here h) [
        | inl old ↦ inl old
        | inr (m, is, same) ↦ inr (ap (λ z. (call_at z i, j)) (same_whole n m is) ∙ same)
      ]
  calls_more t (Front p d) i j number old new here (inl (first, e)) all =
      subst (λ z. HasAllOf (CallIn marks (suc t)) z) (sym (e ∙ append-nil old)) (all_same (CallIn marks t) (CallIn marks (suc t)) old (keep t) back all)
    where
      back : (c : Call × ℕ) → CallIn marks (suc t) c → CallIn marks t c
      back c h = elim (at_last t (Front p d) i j number c here h) [
        | inl old ↦ old
        | inr (m, is, same) ↦ absurd (none_whole m p d (sym is))
      ]
  calls_more t x i j number old new here (inr ((m, q, lt, at), e)) all =
      subst (λ z. HasAllOf (CallIn marks (suc t)) z) (sym e) (all_same (CallIn marks t) (CallIn marks (suc t)) old (keep t) back all)
    where
      back : (c : Call × ℕ) → CallIn marks (suc t) c → CallIn marks t c
      back c h = elim (at_last t x i j number c here h) [
        | inl old ↦ old
        | inr (n, is, same) ↦ (m, lt, n, i, j, q, subst (λ z. slice_get marks m ≡ Some (key_at z i j, q)) is at, sym same)
      ]
