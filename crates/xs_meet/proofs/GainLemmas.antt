-- Lists of steps that grow, and what their growth keeps.
use Rattle.std.proofs.Common.{◌≡◌, ℕ, zero, suc, ◌+◌, ◌*◌, ◌<◌, ◌≤◌, ◌⊎◌, true, false, List, [], ◌∷◌, ◌++◌, length, get_or, take, refl, sym, ap, subst, ◌∙◌, inl, inr, arith, slice_get, append_assoc, append-nil}
use Rattle.std.specs.declared.option.Option.{Option}
use Rattle.std.specs.declared.option.Option.TheVariants.{Some, None}
use Rattle.std.specs.Option.{is_some, IfSome, IfNone}
use Rattle.std.proofs.lemmas.Bool.{cases_eq, true≢false, false≢true}
use Rattle.std.proofs.lemmas.List.{take_more, take_all}
use Rattle.std.proofs.lemmas.List.Elements.{Contains-append_left, Contains-push, Contains-push_cases}
use Rattle.xs_class.specs.Classes.{Has}
use Rattle.xs_class.proofs.Lists.{get_left, get_last, one_cell, get_of_two}
use Rattle.xs_auto.specs.declared.call.Call.{Call}
use Rattle.xs_auto.specs.Edges.{Edge}
use Rattle.xs_meet.specs.declared.reached_pair.ReachedPair.{ReachedPair}
use Rattle.xs_meet.specs.declared.layer.Layer.{Layer}
use Rattle.xs_auto.specs.Marks.{Marks, IsMarked}
use Rattle.xs_meet.specs.Searches.{step, IsFound, Among, Meets, Joins, Gains, KeepsArea, Extends, Fits}

-- a list of one element has no other
pub at_only : {X : Type 0} (x : X) (k : ℕ) (y : X) → slice_get (x ∷ []) k ≡ Some y → (k ≡ 0) × (y ≡ x)
at_only x zero y e = (refl, cc)
at_only x (suc k) y e = cc

pub found_more : {xs : List ReachedPair} {a b : ℕ} (ys : List ReachedPair) → IsFound xs a b → IsFound (xs ++ ys) a b
found_more {xs} {a} {b} ys f = record { place = f.place; from = f.from; at = get_left xs ys f.place (step a b f.from) f.at }

pub gains_then : (R S : ReachedPair → Type 0) {xs ys zs : List ReachedPair} → Gains R xs ys → Gains S ys zs → Gains (λ s. R s ⊎ S s) xs zs
gains_then R S {xs} {ys} {zs} g h = record {
  added = g.added ++ h.added;
  is = h.is ∙ ap (λ us. us ++ h.added) g.is ∙ append_assoc xs g.added h.added;
  each = λ k s e. elim (get_of_two g.added h.added k s e) [ inl f ↦ inl (g.each k s f) | inr f ↦ inr (h.each f.0 s f.2) ];
  there = λ s r. elim r [ inl a ↦ rw h.is (found_more h.added (g.there s a)) | inr b ↦ h.there s b ];
}

pub gains_as : (R S : ReachedPair → Type 0) {xs ys : List ReachedPair} → ((s : ReachedPair) → R s → S s) → ((s : ReachedPair) → S s → R s) → Gains R xs ys → Gains S xs ys
gains_as R S to back g = record {
  added = g.added;
  is = g.is;
  each = λ k s e. to s (g.each k s e);
  there = λ s r. g.there s (back s r);
}

pub gains_none : (R : ReachedPair → Type 0) (xs : List ReachedPair) → ((s : ReachedPair) → R s → ⊥) → Gains R xs xs
gains_none R xs none = record {
  added = [];
  is = sym (append-nil xs);
  each = λ k s e. cc;
  there = λ s r. absurd (none s r);
}

-- one step that is added, or whose pair was found before
pub gains_one : (xs ys : List ReachedPair) (t : ReachedPair) → ys ≡ xs ++ t ∷ [] → Gains (λ s. s ≡ t) xs ys
gains_one xs ys t e = record {
  added = t ∷ [];
  is = e;
  each = λ k s f. (at_only t k s f).1;
  there = λ s f. rw f (record { place = length xs; from = t.from; at = rw e (get_last xs t) });
}

pub gains_known : (xs : List ReachedPair) (t : ReachedPair) → IsFound xs t.first t.second → Gains (λ s. s ≡ t) xs xs
gains_known xs t found = record {
  added = [];
  is = sym (append-nil xs);
  each = λ k s e. cc;
  there = λ s f. rw f found;
}

-- a loop's turn at one more element
pub gains_more : {X : Type 0} (Q : X → ReachedPair → Type 0) {us vs ws : List ReachedPair} (xs : List X) (i : ℕ) (d : X) → i < length xs → Gains (Among (take i xs) Q) us vs → Gains (Q (get_or xs i d)) vs ws → Gains (Among (take (i + 1) xs) Q) us ws
gains_more {X} Q {us} {vs} {ws} xs i d l g h =
    gains_as (λ s. Among (take i xs) Q s ⊎ Q (get_or xs i d) s) (Among (take (i + 1) xs) Q) to back (gains_then (Among (take i xs) Q) (Q (get_or xs i d)) g h)
  where
    more : take (i + 1) xs ≡ take i xs ++ get_or xs i d ∷ []
    more = take_more xs i d l

    to : (s : ReachedPair) → Among (take i xs) Q s ⊎ Q (get_or xs i d) s → Among (take (i + 1) xs) Q s
    to s (inl a) = record { item = a.item; has = rw more (Contains-append_left (take i xs) (get_or xs i d ∷ []) a.item a.has); gives = a.gives }
    to s (inr q) = record { item = get_or xs i d; has = rw more (Contains-push (take i xs) (get_or xs i d)); gives = q }

    back : (s : ReachedPair) → Among (take (i + 1) xs) Q s → Among (take i xs) Q s ⊎ Q (get_or xs i d) s
    back s a = elim (Contains-push_cases (take i xs) (get_or xs i d) a.item (rw more at a.has)) [
      | inl c ↦ inl (record { item = a.item; has = c; gives = a.gives })
      | inr e ↦ inr (rw e a.gives)
    ]

pub area_same : (l : Layer) → KeepsArea l l
area_same l = record { map = refl; height = refl; width = refl }

pub area_then : {l m n : Layer} → KeepsArea l m → KeepsArea m n → KeepsArea l n
area_then a b = record { map = b.map ∙ a.map; height = b.height ∙ a.height; width = b.width ∙ a.width }

pub extends_none : {X : Type 0} (Q : X → ReachedPair → Type 0) (l : Layer) → Extends (Among [] Q) l l
extends_none Q l = record { area = area_same l; seeds = refl; gains = gains_none (Among [] Q) l.steps.items (λ s a. absurd (omega (arith, a.has.1))) }

pub extends_more : {X : Type 0} (Q : X → ReachedPair → Type 0) {l m n : Layer} (xs : List X) (i : ℕ) (d : X) → i < length xs → Extends (Among (take i xs) Q) l m → Extends (Q (get_or xs i d)) m n → Extends (Among (take (i + 1) xs) Q) l n
extends_more Q xs i d l g h = record { area = area_then g.area h.area; seeds = h.seeds ∙ g.seeds; gains = gains_more Q xs i d l g.gains h.gains }

pub extends_read : {X : Type 0} (Q : X → ReachedPair → Type 0) {l m n : Layer} (xs : List X) (i : ℕ) (x : X) → i < length xs → x ≡ get_or xs i x → Extends (Among (take i xs) Q) l m → Extends (Q x) m n → Extends (Among (take (i + 1) xs) Q) l n
extends_read Q {l} {m} {n} xs i x h e g k = extends_more Q xs i x h g (subst (λ y. Extends (Q y) m n) e k)

pub extends_all : {X : Type 0} (Q : X → ReachedPair → Type 0) {l m : Layer} (xs : List X) (i : ℕ) → length xs ≤ i → Extends (Among (take i xs) Q) l m → Extends (Among xs Q) l m
extends_all Q xs i h g = rw (take_all i xs h) at g

pub extends_nothing : (R : ReachedPair → Type 0) (l : Layer) → ((s : ReachedPair) → R s → ⊥) → Extends R l l
extends_nothing R l none = record { area = area_same l; seeds = refl; gains = gains_none R l.steps.items none }

pub extends_then : (R S : ReachedPair → Type 0) {l m n : Layer} → Extends R l m → Extends S m n → Extends (λ s. R s ⊎ S s) l n
extends_then R S g h = record { area = area_then g.area h.area; seeds = h.seeds ∙ g.seeds; gains = gains_then R S g.gains h.gains }

pub extends_as : (R S : ReachedPair → Type 0) {l m : Layer} → ((s : ReachedPair) → R s → S s) → ((s : ReachedPair) → S s → R s) → Extends R l m → Extends S l m
extends_as R S to back g = record { area = g.area; seeds = g.seeds; gains = gains_as R S to back g.gains }

-- a new pair is marked and added
pub fits_new : (l m : Layer) (p q : Marks) (s : ReachedPair) (cell : ℕ) → Fits l p → s.first < l.height → s.second < l.width → cell ≡ s.first * l.width + s.second → IsMarked p q l.map cell → KeepsArea l m → m.steps.items ≡ l.steps.items ++ s ∷ [] → Fits m q
fits_new l m p q s cell f a b c marked area is = record {
  map = rw area.map f.map;
  room = rw (area.height, area.width, marked.cells) f.room;
  in_range = λ k t e. elim (get_of_two l.steps.items (s ∷ []) k t (rw is at e)) [
    | inl h ↦ rw (area.height, area.width) (f.in_range k t h)
    | inr h ↦ rw ((at_only s h.0 t h.2).1, area.height, area.width) (a, b)
  ];
  known = λ x y y_in h. rw is (elim (cases_eq (x * l.width + y) cell) [
    | inl e ↦
        let same = one_cell l.width x y s.first s.second (rw area.width at y_in) b (e ∙ c) in
        rw (same.0, same.1) (record { place = length l.steps.items; from = s.from; at = get_last l.steps.items s })
    | inr ne ↦ found_more (s ∷ []) (f.known x y (rw area.width at y_in) (sym (marked.there (x * l.width + y) ne) ∙ (rw (area.map, area.width) at h)))
  ]);
}

-- two edges that read a common symbol, or none
pub meets_some : (e f : Edge) (from : ℕ) (o : Option ℕ) {l m : Layer} → is_some o ≡ true → IfSome o (Has e.class) → IfSome o (Has f.class) → Extends (λ s. s ≡ step e.to f.to from) l m → Extends (Meets e f from) l m
meets_some e f from None t a b g = absurd (false≢true t)
meets_some e f from (Some x) t a b g = extends_as (λ s. s ≡ step e.to f.to from) (Meets e f from) (λ s h. record { symbol = x; first = a; second = b; is = h }) (λ s h. h.is) g

pub meets_none : (e f : Edge) (from : ℕ) (o : Option ℕ) (l : Layer) → is_some o ≡ false → IfNone o ((s : ℕ) → Has e.class s → Has f.class s → ⊥) → Extends (Meets e f from) l l
meets_none e f from None l t h = extends_nothing (Meets e f from) l (λ s m. h m.symbol m.first m.second)
meets_none e f from (Some x) l t h = absurd (true≢false t)

-- two calls over groups that R relates, or does not
pub joins_some : (R : ℕ → ℕ → Type 0) (h k : Call) (from : ℕ) {l m : Layer} → R h.group k.group → Extends (λ s. s ≡ step h.to k.to from) l m → Extends (Joins R h k from) l m
joins_some R h k from r g = extends_as (λ s. s ≡ step h.to k.to from) (Joins R h k from) (λ s e. record { related = r; is = e }) (λ s j. j.is) g

pub joins_none : (R : ℕ → ℕ → Type 0) (h k : Call) (from : ℕ) (l : Layer) → (R h.group k.group → ⊥) → Extends (Joins R h k from) l l
joins_none R h k from l none = extends_nothing (Joins R h k from) l (λ s j. none j.related)
