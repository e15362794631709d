-- The shapes of regular expressions: sequences and choices put together otherwise, shapes of no
-- position, and the copies of a repetition.
use Rattle.std.proofs.Common.{◌≡◌, ◌⊎◌, ◌∙◌, ◌↔◌, ℕ, zero, suc, ◌+◌, ◌-◌, ◌<◌, ◌≤◌, Bool, true, false, ◌&&◌, ◌||◌, List, [], ◌∷◌, ◌++◌, length, refl, sym, ap, subst, inl, inr, arith, min, None, Some, nat_eq, nat_lt, nat_le, append_assoc, if◌then◌else◌}
use Rattle.std.proofs.lemmas.List.{append-nil, map-append}
use Rattle.std.proofs.lemmas.List.Elements.{Contains-append_left, Contains-append_right}
use Rattle.std.proofs.lemmas.Bool.{ltb-true, ltb-false, leb-true, leb-false}
use Rattle.std.proofs.lemmas.Bool.Decides.{eqb_tells}
use Rattle.std.specs.List.{Contains}
use Rattle.std.specs.Bool.{IsTrue}
use Rattle.std.specs.declared.option.Option.{Option}
use Rattle.xs_regex.specs.declared.position.Position.{Position}
use Rattle.xs_regex.specs.Automaton.{IsWellFormed}
use Rattle.xs_regex.specs.Parts.{bare, optional, shift, IsThen, IsRound}
use Rattle.xs_regex.specs.Size.{IsInOrder}
use Rattle.xs_regex.specs.Links.{Shape, bare_of, place, turn, choice, once_or_more, at_most_once, least_copies, copies_between, as_often, places, is_nullable, firsts, lasts, Follows, HasLinks, OneAutomaton}
use Rattle.xs_regex.proofs.Links.{bare_links, then_links, round_links, optional_links}
use Rattle.xs_regex.proofs.Rows.{shift_contains, contains_shift}
use Rattle.xs_regex.proofs.Sequence.{added_split, added_right, front_split, front_left, both_left, both_right, both}

-- automata of one shape
pub one_automaton : OneAutomaton
one_automaton = λ a b p q e h k c. record {
  classes = c;
  nullable = h.nullable ∙ ap (λ s. is_nullable s) e ∙ sym k.nullable;
  first = h.first ∙ ap (λ s. firsts s) e ∙ sym k.first;
  last = h.last ∙ ap (λ s. lasts s) e ∙ sym k.last;
  follow = λ i j. (
    λ l. (k.follow i j).1 (subst (λ s. Follows s i j) e ((h.follow i j).0 l)),
    λ l. (h.follow i j).1 (subst (λ s. Follows s i j) (sym e) ((k.follow i j).0 l)),
  );
}

-- numbers that are shifted twice
shift_again : (n m : ℕ) (ks : List ℕ) → shift (n + m) ks ≡ shift n (shift m ks)
shift_again n m [] = refl
shift_again n m (k ∷ ks) =
    let e : n + m + k ≡ n + (m + k) = omega arith in
    ap (λ x. x ∷ shift (n + m) ks) e ∙ ap (λ (l : List ℕ). (n + (m + k)) ∷ l) (shift_again n m ks)

shift_both : (n m : ℕ) (vs ws : List ℕ) → shift n vs ++ shift (n + m) ws ≡ shift n (vs ++ shift m ws)
shift_both n m vs ws = ap (λ (l : List ℕ). shift n vs ++ l) (shift_again n m ws) ∙ sym (map-append (λ k. n + k) vs (shift m ws))

and_again : (x y z : Bool) → (x && y) && z ≡ x && (y && z)
and_again true y z = refl
and_again false y z = refl

or_again : (x y z : Bool) → (x || y) || z ≡ x || (y || z)
or_again true y z = refl
or_again false y z = refl

firsts_again : (x y : Bool) (n m : ℕ) (us vs ws : List ℕ) → (us ++ (if x then shift n vs else [])) ++ (if x && y then shift (n + m) ws else []) ≡ us ++ (if x then shift n (vs ++ (if y then shift m ws else [])) else [])
firsts_again true true n m us vs ws = append_assoc us (shift n vs) (shift (n + m) ws) ∙ ap (λ (l : List ℕ). us ++ l) (shift_both n m vs ws)
firsts_again true false n m us vs ws = append-nil (us ++ shift n vs) ∙ ap (λ (l : List ℕ). us ++ shift n l) (sym (append-nil vs))
firsts_again false y n m us vs ws = append-nil (us ++ [])

lasts_again : (y z : Bool) (n m : ℕ) (us vs ws : List ℕ) → (if z then (if y then us else []) ++ shift n vs else []) ++ shift (n + m) ws ≡ (if y && z then us else []) ++ shift n ((if z then vs else []) ++ shift m ws)
lasts_again true true n m us vs ws = append_assoc us (shift n vs) (shift (n + m) ws) ∙ ap (λ (l : List ℕ). us ++ l) (shift_both n m vs ws)
lasts_again false true n m us vs ws = shift_both n m vs ws
lasts_again true false n m us vs ws = shift_again n m ws
lasts_again false false n m us vs ws = shift_again n m ws

all_again : (n m : ℕ) (us vs ws : List ℕ) → (us ++ shift n vs) ++ shift (n + m) ws ≡ us ++ shift n (vs ++ shift m ws)
all_again n m us vs ws = append_assoc us (shift n vs) (shift (n + m) ws) ∙ ap (λ (l : List ℕ). us ++ l) (shift_both n m vs ws)

-- the first two of three in turn, and then the third
pub turn_again : (a b c : Shape) (p : Position) → HasLinks (turn (turn a b) c) p → HasLinks (turn a (turn b c)) p
turn_again a b c p h =
    let e : places a + places b + places c ≡ places a + (places b + places c) = omega arith in
    record {
      count = h.count ∙ e;
      nullable = h.nullable ∙ and_again (is_nullable a) (is_nullable b) (is_nullable c);
      first = h.first ∙ firsts_again (is_nullable a) (is_nullable b) (places a) (places b) (firsts a) (firsts b) (firsts c);
      last = h.last ∙ lasts_again (is_nullable b) (is_nullable c) (places a) (places b) (lasts a) (lasts b) (lasts c);
      follow = λ j k. (λ l. to j k ((h.follow j k).0 l), λ g. (h.follow j k).1 (back j k g));
    }
  where
    from_last : (j k m : ℕ) → k ≡ places a + places b + m → Contains (firsts c) m → (IsTrue (is_nullable b) × Contains (lasts a) j) ⊎ Contains (shift (places a) (lasts b)) j → Follows (turn a (turn b c)) j k
    from_last j k m e d (inl g) = inr (inl (g.1, (places b + m, omega (arith, e), added_right (is_nullable b) (firsts b) (shift (places b) (firsts c)) (places b + m) g.0 (shift_contains (places b) (firsts c) m d))))
    from_last j k m e d (inr g) =
        let i = contains_shift (places a) (lasts b) j g in
        inr (inr (i.0, i.1, (places b + m, omega (arith, e), inr (inl (i.2, (m, refl, d))))))

    to : (j k : ℕ) → Follows (turn (turn a b) c) j k → Follows (turn a (turn b c)) j k
    to j k (inl (inl g)) = inl g
    to j k (inl (inr (inl g))) = inr (inl (g.0, (g.1.0, g.1.1, Contains-append_left (firsts b) (if is_nullable b then shift (places b) (firsts c) else []) g.1.0 g.1.2)))
    to j k (inl (inr (inr g))) = inr (inr (g.0, g.1, (g.2.0, g.2.1, inl g.2.2)))
    to j k (inr (inl g)) = from_last j k g.1.0 g.1.1 g.1.2 (front_split (is_nullable b) (lasts a) (shift (places a) (lasts b)) j g.0)
    to j k (inr (inr g)) = inr (inr (places b + g.0, omega (arith, g.1), (places b + g.2.0, omega (arith, g.2.1), inr (inr (g.0, refl, (g.2.0, refl, g.2.2))))))

    to_first : (j k m : ℕ) → k ≡ places a + m → Contains (lasts a) j → Contains (firsts b) m ⊎ (IsTrue (is_nullable b) × Contains (shift (places b) (firsts c)) m) → Follows (turn (turn a b) c) j k
    to_first j k m e d (inl g) = inl (inr (inl (d, (m, e, g))))
    to_first j k m e d (inr g) =
        let i = contains_shift (places b) (firsts c) m g.1 in
        inr (inl (front_left (is_nullable b) (lasts a) (shift (places a) (lasts b)) j g.0 d, (i.0, omega (arith, e, i.1), i.2)))

    inner : (j k i m : ℕ) → j ≡ places a + i → k ≡ places a + m → Follows (turn b c) i m → Follows (turn (turn a b) c) j k
    inner j k i m e d (inl g) = inl (inr (inr (i, e, (m, d, g))))
    inner j k i m e d (inr (inl g)) =
        let from : Contains (shift (places a) (lasts b)) j = rw e (shift_contains (places a) (lasts b) i g.0) in
        inr (inl (Contains-append_right (if is_nullable b then lasts a else []) (shift (places a) (lasts b)) j from, (g.1.0, omega (arith, d, g.1.1), g.1.2)))
    inner j k i m e d (inr (inr g)) = inr (inr (g.0, omega (arith, e, g.1), (g.2.0, omega (arith, d, g.2.1), g.2.2)))

    back : (j k : ℕ) → Follows (turn a (turn b c)) j k → Follows (turn (turn a b) c) j k
    back j k (inl g) = inl (inl g)
    back j k (inr (inl g)) = to_first j k g.1.0 g.1.1 g.0 (added_split (is_nullable b) (firsts b) (shift (places b) (firsts c)) g.1.0 g.1.2)
    back j k (inr (inr g)) = inner j k g.0 g.2.0 g.1 g.2.1 g.2.2

-- the first two of three beside each other, and then the third
pub choice_again : (a b c : Shape) (p : Position) → HasLinks (choice (choice a b) c) p → HasLinks (choice a (choice b c)) p
choice_again a b c p h =
    let e : places a + places b + places c ≡ places a + (places b + places c) = omega arith in
    record {
      count = h.count ∙ e;
      nullable = h.nullable ∙ or_again (is_nullable a) (is_nullable b) (is_nullable c);
      first = h.first ∙ all_again (places a) (places b) (firsts a) (firsts b) (firsts c);
      last = h.last ∙ all_again (places a) (places b) (lasts a) (lasts b) (lasts c);
      follow = λ j k. (λ l. to j k ((h.follow j k).0 l), λ g. (h.follow j k).1 (back j k g));
    }
  where
    to : (j k : ℕ) → Follows (choice (choice a b) c) j k → Follows (choice a (choice b c)) j k
    to j k (inl (inl g)) = inl g
    to j k (inl (inr g)) = inr (g.0, g.1, (g.2.0, g.2.1, inl g.2.2))
    to j k (inr g) = inr (places b + g.0, omega (arith, g.1), (places b + g.2.0, omega (arith, g.2.1), inr (g.0, refl, (g.2.0, refl, g.2.2))))

    inner : (j k i m : ℕ) → j ≡ places a + i → k ≡ places a + m → Follows (choice b c) i m → Follows (choice (choice a b) c) j k
    inner j k i m e d (inl g) = inl (inr (i, e, (m, d, g)))
    inner j k i m e d (inr g) = inr (g.0, omega (arith, e, g.1), (g.2.0, omega (arith, d, g.2.1), g.2.2))

    back : (j k : ℕ) → Follows (choice a (choice b c)) j k → Follows (choice (choice a b) c) j k
    back j k (inl g) = inl (inl g)
    back j k (inr g) = inner j k g.0 g.2.0 g.1 g.2.1 g.2.2

-- a shape of no position
nil_turn : (x : Bool) (n : ℕ) (us vs : List ℕ) → us ≡ [] → vs ≡ [] → us ++ (if x then shift n vs else []) ≡ []
nil_turn true n us vs e d = rw (e, d) refl
nil_turn false n us vs e d = rw e refl

nil_front : (x : Bool) (n : ℕ) (us vs : List ℕ) → us ≡ [] → vs ≡ [] → (if x then us else []) ++ shift n vs ≡ []
nil_front true n us vs e d = rw (e, d) refl
nil_front false n us vs e d = rw d refl

no_left : (n m : ℕ) → n + m ≡ 0 → n ≡ 0
no_left n m e = omega (arith, e)

no_right : (n m : ℕ) → n + m ≡ 0 → m ≡ 0
no_right n m e = omega (arith, e)

no_first : (s : Shape) → places s ≡ 0 → firsts s ≡ []
no_first (bare_of b) e = refl
no_first place e = absurd (omega (arith, e))
no_first (turn a b) e = nil_turn (is_nullable a) (places a) (firsts a) (firsts b) (no_first a (no_left (places a) (places b) e)) (no_first b (no_right (places a) (places b) e))
no_first (choice a b) e = nil_turn true (places a) (firsts a) (firsts b) (no_first a (no_left (places a) (places b) e)) (no_first b (no_right (places a) (places b) e))
no_first (once_or_more a) e = no_first a e
no_first (at_most_once a) e = no_first a e

no_last : (s : Shape) → places s ≡ 0 → lasts s ≡ []
no_last (bare_of b) e = refl
no_last place e = absurd (omega (arith, e))
no_last (turn a b) e = nil_front (is_nullable b) (places a) (lasts a) (lasts b) (no_last a (no_left (places a) (places b) e)) (no_last b (no_right (places a) (places b) e))
no_last (choice a b) e = nil_front true (places a) (lasts a) (lasts b) (no_last a (no_left (places a) (places b) e)) (no_last b (no_right (places a) (places b) e))
no_last (once_or_more a) e = no_last a e
no_last (at_most_once a) e = no_last a e

none_in : (us : List ℕ) (k : ℕ) → us ≡ [] → Contains us k → ⊥
none_in us k e c = let d = rw e at c in absurd (omega (arith, d.1))

no_follow : (s : Shape) (j k : ℕ) → places s ≡ 0 → Follows s j k → ⊥
no_follow (bare_of b) j k e g = g
no_follow place j k e g = g
no_follow (turn a b) j k e (inl g) = no_follow a j k (no_left (places a) (places b) e) g
no_follow (turn a b) j k e (inr (inl g)) = none_in (lasts a) j (no_last a (no_left (places a) (places b) e)) g.0
no_follow (turn a b) j k e (inr (inr g)) = no_follow b g.0 g.2.0 (no_right (places a) (places b) e) g.2.2
no_follow (choice a b) j k e (inl g) = no_follow a j k (no_left (places a) (places b) e) g
no_follow (choice a b) j k e (inr g) = no_follow b g.0 g.2.0 (no_right (places a) (places b) e) g.2.2
no_follow (once_or_more a) j k e (inl g) = no_follow a j k e g
no_follow (once_or_more a) j k e (inr g) = none_in (lasts a) j (no_last a e) g.0
no_follow (at_most_once a) j k e g = no_follow a j k e g

no_place : (s : Shape) (b : Bool) → places s ≡ 0 → b ≡ is_nullable s → HasLinks s (bare b)
no_place s b e d = record {
  count = sym e;
  nullable = d;
  first = sym (no_first s e);
  last = sym (no_last s e);
  follow = λ j k. (λ l. absurd l, λ g. absurd (no_follow s j k e g));
}

-- copies of a shape of no position
none_least : (n : ℕ) (s : Shape) → places s ≡ 0 → places (least_copies n s) ≡ 0
none_least zero s e = e
none_least (suc zero) s e = e
none_least (suc (suc n)) s e = let d : places (least_copies (suc n) s) ≡ 0 = none_least (suc n) s e in omega (arith, e, d)

none_between : (n m : ℕ) (s : Shape) → places s ≡ 0 → places (copies_between n m s) ≡ 0
none_between zero zero s e = refl
none_between (suc n) zero s e = refl
none_between zero (suc m) s e = let d : places (copies_between zero m s) ≡ 0 = none_between zero m s e in omega (arith, e, d)
none_between (suc n) (suc m) s e = let d : places (copies_between n m s) ≡ 0 = none_between n m s e in omega (arith, e, d)

false_true : IsTrue false → ⊥
false_true e = cc

to_least : (n : ℕ) (s : Shape) → IsTrue (is_nullable (least_copies n s)) → (n ≡ 0) ⊎ (IsTrue (is_nullable s) × IsInOrder n None)
to_least zero s e = inl refl
to_least (suc zero) s e = inr (e, tt)
to_least (suc (suc n)) s e = inr (both_left (is_nullable s) (is_nullable (least_copies (suc n) s)) e, tt)

from_least : (n : ℕ) (s : Shape) → (n ≡ 0) ⊎ (IsTrue (is_nullable s) × IsInOrder n None) → IsTrue (is_nullable (least_copies n s))
from_least zero s h = refl
from_least (suc n) s (inl e) = absurd (omega (arith, e))
from_least (suc zero) s (inr h) = h.0
from_least (suc (suc n)) s (inr h) = both (is_nullable s) (is_nullable (least_copies (suc n) s)) h.0 (from_least (suc n) s (inr (h.0, tt)))

to_between : (n m : ℕ) (s : Shape) → IsTrue (is_nullable (copies_between n m s)) → (n ≡ 0) ⊎ (IsTrue (is_nullable s) × (n ≤ m))
to_between zero m s e = inl refl
to_between (suc n) zero s e = absurd (false_true e)
to_between (suc n) (suc m) s e =
    let low : n ≤ m = elim (to_between n m s (both_right (is_nullable s) (is_nullable (copies_between n m s)) e)) [ inl z ↦ omega (arith, z) | inr h ↦ h.1 ] in
    inr (both_left (is_nullable s) (is_nullable (copies_between n m s)) e, omega (arith, low))

from_between : (n m : ℕ) (s : Shape) → (n ≡ 0) ⊎ (IsTrue (is_nullable s) × (n ≤ m)) → IsTrue (is_nullable (copies_between n m s))
from_between zero zero s h = refl
from_between zero (suc m) s h = refl
from_between (suc n) m s (inl e) = absurd (omega (arith, e))
from_between (suc n) zero s (inr h) = absurd (omega (arith, h.1))
from_between (suc n) (suc m) s (inr h) = both (is_nullable s) (is_nullable (copies_between n m s)) h.0 (from_between n m s (inr (h.0, omega (arith, h.1))))

same_truth : (x y : Bool) → (IsTrue x → IsTrue y) → (IsTrue y → IsTrue x) → x ≡ y
same_truth true y f g = sym (f refl)
same_truth false true f g = g refl
same_truth false false f g = refl

pub none_repeated : {s : Shape} {one r : Position} (least : ℕ) (most : Option ℕ) (b : Bool) → one.classes ≡ [] → r ≡ bare b → (IsTrue b ↔ ((least ≡ 0) ⊎ (IsTrue one.nullable × IsInOrder least most))) → HasLinks s one → HasLinks (as_often least most s) r
none_repeated {s} {one} {r} least most b none is decides a = subst (λ p. HasLinks (as_often least most s) p) (sym is) (by_count most decides)
  where
    no_places : places s ≡ 0
    no_places = sym a.count ∙ ap (λ (x : List (List (ℕ × ℕ))). length x) none

    by_count : (most : Option ℕ) → (IsTrue b ↔ ((least ≡ 0) ⊎ (IsTrue one.nullable × IsInOrder least most))) → HasLinks (as_often least most s) (bare b)
    by_count None d =
        let e = rw a.nullable at d in
        no_place (least_copies least s) b (none_least least s no_places) (same_truth b (is_nullable (least_copies least s)) (λ t. from_least least s (e.0 t)) (λ t. e.1 (to_least least s t)))
    by_count (Some m) d =
        let e = rw a.nullable at d in
        no_place (copies_between least m s) b (none_between least m s no_places) (same_truth b (is_nullable (copies_between least m s)) (λ t. from_between least m s (e.0 t)) (λ t. e.1 (to_between least m s t)))

-- no copy
pub no_copy : (s : Shape) (r : Position) (least : ℕ) (most : Option ℕ) (n : ℕ) → most ≡ Some n → n ≡ 0 → r ≡ bare (nat_eq least 0) → HasLinks (as_often least most s) r
no_copy s r least most n e z is =
    let none : most ≡ Some 0 = e ∙ ap (λ m. Some m) z in
    subst (λ m. HasLinks (as_often least m s) r) (sym none) (by_least least is)
  where
    by_least : (least : ℕ) → r ≡ bare (nat_eq least 0) → HasLinks (copies_between least 0 s) r
    by_least zero is = subst (λ p. HasLinks (bare_of true) p) (sym is) (bare_links true)
    by_least (suc n) is = elim (eqb_tells (suc n) 0) [
      | inl h ↦ absurd (omega (arith, h.1))
      | inr h ↦ subst (λ p. HasLinks (bare_of false) p) (sym (is ∙ ap (λ (b : Bool). bare b) h.0)) (bare_links false)
    ]

-- copies, of the last of which there may be more
pub least_begun : {s : Shape} {one last r : Position} (least : ℕ) → IsWellFormed one → IsRound one last → r ≡ (if nat_eq least 0 then optional last else last) → HasLinks s one → HasLinks (least_copies (min 1 least) s) r
least_begun {s} {one} {last} {r} least f t is a = elim (eqb_tells least 0) [
  | inl h ↦
      let whole : optional last ≡ r = sym (is ∙ ap (λ (b : Bool). if b then optional last else last) h.0) in
      let low : 0 ≡ min 1 least = omega (arith, h.1) in
      subst (λ p. HasLinks (least_copies (min 1 least) s) p) whole (subst (λ n. HasLinks (least_copies n s) (optional last)) low (optional_links (round_links f a t)))
  | inr h ↦
      let whole : last ≡ r = sym (is ∙ ap (λ (b : Bool). if b then optional last else last) h.0) in
      let low : 1 ≡ min 1 least = omega (arith, h.1) in
      subst (λ p. HasLinks (least_copies (min 1 least) s) p) whole (subst (λ n. HasLinks (least_copies n s) last) low (round_links f a t))
]

pub least_next : {s : Shape} {one all r : Position} (least later : ℕ) → later < least → 1 ≤ later → IsWellFormed one → IsThen one all r → HasLinks s one → HasLinks (least_copies (min later least) s) all → HasLinks (least_copies (min (later + 1) least) s) r
least_next least zero l m f t a b = absurd (omega (arith, m))
least_next {s} {one} {all} {r} least (suc k) l m f t a b =
    let low : min (suc k) least ≡ suc k = omega arith in
    let high : suc (suc k) ≡ min (suc k + 1) least = omega arith in
    subst (λ n. HasLinks (least_copies n s) r) high (then_links f a (subst (λ n. HasLinks (least_copies n s) all) low b) t)

pub least_ended : {all : Position} (s : Shape) (least later : ℕ) → least ≤ later → HasLinks (least_copies (min later least) s) all → HasLinks (least_copies least s) all
least_ended {all} s least later l b =
    let low : min later least ≡ least = omega arith in
    subst (λ n. HasLinks (least_copies n s) all) low b

-- copies, each of which that is not needed may be left out with all after it
pub between_begun : {r : Position} (s : Shape) (least most : ℕ) → r ≡ bare (nat_le least most) → HasLinks (copies_between (least - (most - 0)) 0 s) r
between_begun {r} s least most is = by_test (nat_le least most) refl
  where
    by_test : (b : Bool) → nat_le least most ≡ b → HasLinks (copies_between (least - (most - 0)) 0 s) r
    by_test true e =
        let whole : bare true ≡ r = sym (is ∙ ap (λ (b : Bool). bare b) e) in
        let l : least ≤ most = leb-true least most e in
        let low : 0 ≡ least - (most - 0) = omega arith in
        subst (λ p. HasLinks (copies_between (least - (most - 0)) 0 s) p) whole (subst (λ n. HasLinks (copies_between n 0 s) (bare true)) low (bare_links true))
    by_test false e =
        let whole : bare false ≡ r = sym (is ∙ ap (λ (b : Bool). bare b) e) in
        let l : most < least = leb-false least most e in
        let low : suc (least - most - 1) ≡ least - (most - 0) = omega arith in
        subst (λ p. HasLinks (copies_between (least - (most - 0)) 0 s) p) whole (subst (λ n. HasLinks (copies_between n 0 s) (bare false)) low (bare_links false))

pub between_next : {s : Shape} {one all longer r : Position} (least most later : ℕ) → later < most → IsWellFormed one → IsThen one all longer → r ≡ (if nat_lt least (most - later) then optional longer else longer) → HasLinks s one → HasLinks (copies_between (least - (most - later)) later s) all → HasLinks (copies_between (least - (most - (later + 1))) (later + 1) s) r
between_next {s} {one} {all} {longer} {r} least most later l f t is a b = by_test (nat_lt least (most - later)) refl
  where
    next : suc later ≡ later + 1
    next = omega arith

    by_test : (x : Bool) → nat_lt least (most - later) ≡ x → HasLinks (copies_between (least - (most - (later + 1))) (later + 1) s) r
    by_test true e =
        let free : least < most - later = ltb-true least (most - later) e in
        let whole : optional longer ≡ r = sym (is ∙ ap (λ (c : Bool). if c then optional longer else longer) e) in
        let low : 0 ≡ least - (most - (later + 1)) = omega arith in
        let before : least - (most - later) ≡ 0 = omega arith in
        subst (λ p. HasLinks (copies_between (least - (most - (later + 1))) (later + 1) s) p) whole
        (subst (λ n. HasLinks (copies_between n (later + 1) s) (optional longer)) low
        (subst (λ n. HasLinks (copies_between 0 n s) (optional longer)) next
        (optional_links (then_links f a (subst (λ n. HasLinks (copies_between n later s) all) before b) t))))
    by_test false e =
        let full : most - later ≤ least = ltb-false least (most - later) e in
        let whole : longer ≡ r = sym (is ∙ ap (λ (c : Bool). if c then optional longer else longer) e) in
        let low : suc (least - (most - later)) ≡ least - (most - (later + 1)) = omega arith in
        subst (λ p. HasLinks (copies_between (least - (most - (later + 1))) (later + 1) s) p) whole
        (subst (λ n. HasLinks (copies_between n (later + 1) s) longer) low
        (subst (λ n. HasLinks (copies_between (suc (least - (most - later))) n s) longer) next
        (then_links f a b t)))

pub between_ended : {all : Position} (s : Shape) (least most later : ℕ) → later ≡ most → HasLinks (copies_between (least - (most - later)) later s) all → HasLinks (copies_between least most s) all
between_ended {all} s least most later e b =
    let low : least - (most - later) ≡ least = omega arith in
    subst (λ n. HasLinks (copies_between least n s) all) e (subst (λ n. HasLinks (copies_between n later s) all) low b)
