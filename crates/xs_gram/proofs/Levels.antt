-- Level stretches: they join, a group's end is found in one way, and what stands in no group.
use Rattle.std.proofs.Common.{◌≡◌, ◌⊎◌, inl, inr, ℕ, suc, ◌+◌, ◌<◌, List, [], ◌∷◌, ◌++◌, length, refl, sym, ap, ◌∙◌, subst, arith, append_assoc, length-append, drop, drop_at, slice_get, Some}
use Rattle.xs_class.proofs.Lists.{cons_parts, cons_same}
use Rattle.xs_gram.specs.declared.parts.GItem.{GItem}
use Rattle.xs_gram.specs.declared.parts.GItem.TheVariants.{Fixed}
use Rattle.xs_gram.specs.Laws.{IsDistinct}
use Rattle.xs_gram.specs.Fences.{fence_symbols, IsFence, IsPlain, grouped, IsLevel, level_none, level_then, level_group, OuterAt, GroupAt}
use Rattle.xs_gram.proofs.Fences.{left_not_plain, right_not_plain, sides_apart}

pub fixed_one : {l m : ℕ} → Fixed (l ∷ []) ≡ Fixed (m ∷ []) → l ≡ m
fixed_one e = cc

-- a group before more items is a group with more after it
pub group_more : (l : ℕ) (inside : List GItem) (r : ℕ) (after more : List GItem) → grouped l inside r after ++ more ≡ grouped l inside r (after ++ more)
group_more l inside r after more = ap (λ (x : List GItem). Fixed (l ∷ []) ∷ x) (append_assoc inside (Fixed (r ∷ []) ∷ after) more)

grouped_same : {l m r s : ℕ} {is js xs ys : List GItem} → l ≡ m → is ≡ js → r ≡ s → xs ≡ ys → grouped l is r xs ≡ grouped m js s ys
grouped_same p q w z = cc

-- what stands before a group, the group, and what stands after it
pub group_split : (before : List GItem) (l : ℕ) (inside : List GItem) (r : ℕ) (after : List GItem) → before ++ grouped l inside r after ≡ (before ++ grouped l inside r []) ++ after
group_split before l inside r after = ap (λ (x : List GItem). before ++ Fixed (l ∷ []) ∷ x) (sym (append_assoc inside (Fixed (r ∷ []) ∷ []) after)) ∙ sym (append_assoc before (grouped l inside r []) after)

pub length_grouped : (before : List GItem) (l : ℕ) (inside : List GItem) (r : ℕ) → length (before ++ grouped l inside r []) ≡ suc (suc (length before + length inside))
length_grouped before l inside r = omega (arith, length-append before (grouped l inside r []), length-append inside (Fixed (r ∷ []) ∷ []))

pub level_append : {fs : List (ℕ × ℕ)} {is js : List GItem} → IsLevel fs is → IsLevel fs js → IsLevel fs (is ++ js)
level_append level_none m = m
level_append (level_then p l) m = level_then p (level_append l m)
level_append {js = js} (level_group {l = left} {r = right} {inside = inside} {after = after} f i t e) m =
    level_group f i (level_append t m) (ap (λ (x : List GItem). x ++ js) e ∙ group_more left inside right after js)

-- a left fence begins no item of a level stretch that is not a group
first_not_left : {fs : List (ℕ × ℕ)} {l r : ℕ} {i : GItem} → IsFence fs l r → IsPlain fs i → Fixed (l ∷ []) ≡ i → ⊥
first_not_left {fs} f plain e = left_not_plain f (subst (λ (x : GItem). IsPlain fs x) (sym e) plain)

first_not_right : {fs : List (ℕ × ℕ)} {l r : ℕ} {i : GItem} → IsFence fs l r → IsPlain fs i → Fixed (r ∷ []) ≡ i → ⊥
first_not_right {fs} f plain e = right_not_plain f (subst (λ (x : GItem). IsPlain fs x) (sym e) plain)

-- a group begins no stretch that is empty, and none that begins with a plain item
pub no_group : {l : ℕ} {rest : List GItem} → [] ≡ Fixed (l ∷ []) ∷ rest → ⊥
no_group e = cc

pub plain_not_group : {fs : List (ℕ × ℕ)} {l r : ℕ} {i : GItem} {is rest : List GItem} → IsFence fs l r → IsPlain fs i → i ∷ is ≡ Fixed (l ∷ []) ∷ rest → ⊥
plain_not_group f plain e = first_not_left f plain (sym (cons_parts e).0)

-- what follows a plain item in a level stretch is level
pub level_tail : {fs : List (ℕ × ℕ)} {i : GItem} {is : List GItem} → IsPlain fs i → IsLevel fs (i ∷ is) → IsLevel fs is
level_tail plain (level_then p l) = l
level_tail plain (level_group f i t e) = absurd (first_not_left f plain (sym (cons_parts e).0))

-- what is found where a level stretch and a right fence are read in two ways
pub record IsOnce (a b : List GItem) (r s : ℕ) (x y : List GItem) : Type 0 where
  pub inside : a ≡ b
  pub right : r ≡ s
  pub after : x ≡ y

module _ (fs : List (ℕ × ℕ)) (once : IsDistinct (fence_symbols fs)) where
  -- a level stretch before a right fence is read in one way
  pub level_once : {a b : List GItem} {l r m s : ℕ} {x y : List GItem} → IsLevel fs a → IsLevel fs b → IsFence fs l r → IsFence fs m s → a ++ Fixed (r ∷ []) ∷ x ≡ b ++ Fixed (s ∷ []) ∷ y → IsOnce a b r s x y
  level_once level_none level_none f h e = record { inside = refl; right = fixed_one (cons_parts e).0; after = (cons_parts e).1 }
  level_once level_none (level_then plain t) f h e = absurd (first_not_right f plain (cons_parts e).0)
  level_once {s = s} {y = y} level_none (level_group {l = left} {r = right} {inside = inside} {after = after} k i t is) f h e =
      let opened = e ∙ ap (λ (z : List GItem). z ++ Fixed (s ∷ []) ∷ y) is in
      absurd (sides_apart once k f (sym (fixed_one (cons_parts opened).0)))
  level_once (level_then plain t) level_none f h e = absurd (first_not_right h plain (sym (cons_parts e).0))
  level_once (level_then plain t) (level_then plain' t') f h e =
      let c = cons_parts e in
      let o = level_once t t' f h c.1 in
      record { inside = cons_same c.0 o.inside; right = o.right; after = o.after }
  level_once {s = s} {y = y} (level_then plain t) (level_group k i t' is) f h e =
      let opened = e ∙ ap (λ (z : List GItem). z ++ Fixed (s ∷ []) ∷ y) is in
      absurd (first_not_left k plain (sym (cons_parts opened).0))
  level_once {r = r} {x = x} (level_group {l = left} {r = right} {inside = inside} {after = after} k i t is) level_none f h e =
      let opened = sym (ap (λ (z : List GItem). z ++ Fixed (r ∷ []) ∷ x) is) ∙ e in
      absurd (sides_apart once k h (fixed_one (cons_parts opened).0))
  level_once {r = r} {x = x} (level_group k i t is) (level_then plain' t') f h e =
      let opened = sym (ap (λ (z : List GItem). z ++ Fixed (r ∷ []) ∷ x) is) ∙ e in
      absurd (first_not_left k plain' (cons_parts opened).0)
  level_once {a} {b} {r = r} {s = s} {x = x} {y = y} (level_group {l = left} {r = right} {inside = inside} {after = after} k i t is) (level_group {l = left'} {r = right'} {inside = inside'} {after = after'} k' i' t' is') f h e =
      let opened : grouped left inside right after ++ Fixed (r ∷ []) ∷ x ≡ grouped left' inside' right' after' ++ Fixed (s ∷ []) ∷ y = sym (ap (λ (z : List GItem). z ++ Fixed (r ∷ []) ∷ x) is) ∙ e ∙ ap (λ (z : List GItem). z ++ Fixed (s ∷ []) ∷ y) is' in
      let c = cons_parts opened in
      let within : inside ++ Fixed (right ∷ []) ∷ (after ++ Fixed (r ∷ []) ∷ x) ≡ inside' ++ Fixed (right' ∷ []) ∷ (after' ++ Fixed (s ∷ []) ∷ y) = sym (append_assoc inside (Fixed (right ∷ []) ∷ after) (Fixed (r ∷ []) ∷ x)) ∙ c.1 ∙ append_assoc inside' (Fixed (right' ∷ []) ∷ after') (Fixed (s ∷ []) ∷ y) in
      let first = level_once i i' k k' within in
      let later = level_once t t' f h first.after in
      record { inside = is ∙ grouped_same (fixed_one c.0) first.inside first.right later.inside ∙ sym is'; right = later.right; after = later.after }

  -- what follows a group in a level stretch is level
  pub after_group : {l r : ℕ} {inside after is : List GItem} → IsFence fs l r → IsLevel fs inside → is ≡ grouped l inside r after → IsLevel fs is → IsLevel fs after
  after_group f i e level_none = absurd cc
  after_group f i e (level_then plain t) = absurd (first_not_left f plain (sym (cons_parts e).0))
  after_group f i e (level_group h j t split) =
      let o = level_once i j f h (cons_parts (sym e ∙ split)).1 in
      subst (λ (x : List GItem). IsLevel fs x) (sym o.after) t

  -- what follows a level stretch in a level stretch is level
  pub level_rest : {a : List GItem} (b : List GItem) → IsLevel fs a → IsLevel fs (a ++ b) → IsLevel fs b
  level_rest b level_none m = m
  level_rest b (level_then plain t) m = level_rest b t (level_tail plain m)
  level_rest b (level_group {l = l} {r = r} {inside = inside} {after = after} f i t e) m =
      level_rest b t (after_group f i (ap (λ (x : List GItem). x ++ b) e ∙ group_more l inside r after b) m)

-- outer items of a stretch that begins with a plain item
pub outer_none : {fs : List (ℕ × ℕ)} {k : ℕ} {j : GItem} → OuterAt fs [] k j → ⊥
outer_none {j = j} o = none j o.after o.before o.split
  where
    none : (j : GItem) (after before : List GItem) → [] ≡ before ++ j ∷ after → ⊥
    none j after [] e = cc
    none j after (x ∷ b) e = cc

pub outer_here : {fs : List (ℕ × ℕ)} {i : GItem} (is : List GItem) → IsPlain fs i → OuterAt fs (i ∷ is) 0 i
outer_here is plain = record { before = []; after = is; split = refl; level = level_none; plain = plain; place = refl }

pub outer_later : {fs : List (ℕ × ℕ)} {i j : GItem} {is : List GItem} {k : ℕ} → IsPlain fs i → OuterAt fs is k j → OuterAt fs (i ∷ is) (suc k) j
outer_later {i = i} plain o = record { before = i ∷ o.before; after = o.after; split = ap (λ (x : List GItem). i ∷ x) o.split; level = level_then plain o.level; plain = o.plain; place = ap suc o.place }

pub outer_then : {fs : List (ℕ × ℕ)} {i j : GItem} {is : List GItem} {k : ℕ} → IsPlain fs i → OuterAt fs (i ∷ is) k j → ((k ≡ 0) × (i ≡ j)) ⊎ ((n : ℕ) × (k ≡ suc n) × OuterAt fs is n j)
outer_then {fs} {i} {j} {is} {k} plain o = by_front o.before o.after o.split o.level o.plain o.place
  where
    by_front : (before after : List GItem) → i ∷ is ≡ before ++ j ∷ after → IsLevel fs before → IsPlain fs j → k ≡ length before → ((k ≡ 0) × (i ≡ j)) ⊎ ((n : ℕ) × (k ≡ suc n) × OuterAt fs is n j)
    by_front [] after e level own place = inl (place, (cons_parts e).0)
    by_front (x ∷ before) after e level own place =
        let c = cons_parts e in
        let tail = level_tail (subst (λ (y : GItem). IsPlain fs y) c.0 plain) level in
        inr (length before, place, record { before = before; after = after; split = c.1; level = tail; plain = own; place = refl })

-- outer items of a stretch that begins with a group
pub outer_after : {fs : List (ℕ × ℕ)} {l r : ℕ} {inside after is : List GItem} {k : ℕ} {j : GItem} → IsFence fs l r → IsLevel fs inside → is ≡ grouped l inside r after → OuterAt fs after k j → OuterAt fs is (suc (suc (length inside + k))) j
outer_after {l = l} {r = r} {inside = inside} {j = j} f i e o = record {
  before = grouped l inside r o.before;
  after = o.after;
  split = e ∙ ap (λ (x : List GItem). grouped l inside r x) o.split ∙ sym (group_more l inside r o.before (j ∷ o.after));
  level = level_group f i o.level refl;
  plain = o.plain;
  place = omega (arith, o.place, length-append inside (Fixed (r ∷ []) ∷ o.before));
}

pub outer_group : {fs : List (ℕ × ℕ)} {l r : ℕ} {inside after is : List GItem} {k : ℕ} {j : GItem} → IsDistinct (fence_symbols fs) → IsFence fs l r → IsLevel fs inside → is ≡ grouped l inside r after → OuterAt fs is k j → (n : ℕ) × (k ≡ suc (suc (length inside + n))) × OuterAt fs after n j
outer_group {fs} {l} {r} {inside} {after} {is} {k} {j} once f i e o = by_front o.before o.after o.level o.split o.plain o.place
  where
    by_front : (before rest : List GItem) → IsLevel fs before → is ≡ before ++ j ∷ rest → IsPlain fs j → k ≡ length before → (n : ℕ) × (k ≡ suc (suc (length inside + n))) × OuterAt fs after n j
    by_front [] rest level_none h own place = absurd (first_not_left f own (cons_parts (sym e ∙ h)).0)
    by_front (x ∷ before) rest (level_then plain t) h own place = absurd (first_not_left f plain (cons_parts (sym e ∙ h)).0)
    by_front before rest (level_group {l = m} {r = s} {inside = inner} {after = later} q u t split) h own place =
        let opened : grouped l inside r after ≡ grouped m inner s (later ++ j ∷ rest) = sym e ∙ h ∙ ap (λ (x : List GItem). x ++ j ∷ rest) split ∙ group_more m inner s later (j ∷ rest) in
        let o = level_once fs once i u f q (cons_parts opened).1 in
        (length later, omega (arith, place, ap length split, ap length o.inside, length-append inner (Fixed (s ∷ []) ∷ later)), record { before = later; after = rest; split = o.after; level = t; plain = own; place = refl })

-- an outer item stands at its place
pub outer_at : {fs : List (ℕ × ℕ)} {is : List GItem} {k : ℕ} {i : GItem} → OuterAt fs is k i → slice_get is k ≡ Some i
outer_at {k = k} {i = i} o = ap (λ (x : List GItem). slice_get x k) o.split ∙ ap (λ (n : ℕ). slice_get (o.before ++ i ∷ o.after) n) o.place ∙ seam o.before i o.after
  where
    seam : (before : List GItem) (i : GItem) (after : List GItem) → slice_get (before ++ i ∷ after) (length before) ≡ Some i
    seam [] i after = refl
    seam (x ∷ xs) i after = seam xs i after

-- what begins a level stretch is a left fence, or plain and followed by a level stretch
pub level_first : {fs : List (ℕ × ℕ)} {i : GItem} {js : List GItem} → ((l r : ℕ) → IsFence fs l r → i ≡ Fixed (l ∷ []) → ⊥) → IsLevel fs (i ∷ js) → IsPlain fs i × IsLevel fs js
level_first other (level_then plain t) = (plain, t)
level_first other (level_group {l = l} {r = r} f j t e) = absurd (other l r f (cons_parts e).0)

-- the stretches from a group's left fence on, and after its right fence, which is in the stretch
pub group_opened : {fs : List (ℕ × ℕ)} {is : List GItem} {k m l : ℕ} {inside : List GItem} {r : ℕ} (a : GroupAt fs is k m l inside r) → (drop k is ≡ grouped l inside r a.after) × (drop (suc m) is ≡ a.after) × (m < length is)
group_opened {is = is} {k = k} {m = m} {l = l} {inside = inside} {r = r} a =
    let long = length_grouped a.before l inside r in
    let split : is ≡ (a.before ++ grouped l inside r []) ++ a.after = a.split ∙ group_split a.before l inside r a.after in (
      ap (λ (x : List GItem). drop k x) a.split ∙ drop_at a.before (grouped l inside r a.after) k (sym a.place),
      ap (λ (x : List GItem). drop (suc m) x) split ∙ drop_at (a.before ++ grouped l inside r []) a.after (suc m) (omega (arith, long, a.partner, a.place)),
      omega (arith, ap length split, length-append (a.before ++ grouped l inside r []) a.after, long, a.partner, a.place),
    )
