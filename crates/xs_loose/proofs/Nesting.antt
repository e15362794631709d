-- The nest of a grammar's groups, one more at a time.
use Rattle.std.proofs.Common.{◌≡◌, ◌⊎◌, ℕ, suc, ◌+◌, ◌-◌, ◌<◌, ◌≤◌, ◌^◌, List, [], ◌∷◌, ◌++◌, length, take, get_or, slice_get, slice_range, refl, sym, ap, subst, ◌∙◌, inl, inr, arith, append_assoc, length-append, Some}
use Rattle.std.proofs.lemmas.Bool.{cases_eq}
use Rattle.std.proofs.lemmas.List.{drop_at, take_at, take_all}
use Rattle.std.proofs.lemmas.Option.{slice_get-get_or, get_or_from_slice_get, same_Some}
use Rattle.xs_class.proofs.Lists.{get_push, get_last, get_left, cons_parts}
use Rattle.xs_auto.specs.Nets.{Graph}
use Rattle.xs_auto.specs.Nests.{Group, IsGroup}
use Rattle.xs_gram.specs.declared.parts.GItem.{GItem}
use Rattle.xs_gram.specs.declared.parts.GItem.TheVariants.{Fixed}
use Rattle.xs_gram.specs.Grammar.{Grammar}
use Rattle.xs_gram.specs.Laws.{IsDistinct}
use Rattle.xs_gram.specs.Fences.{fence_symbols, spread, grouped, IsLevel, GroupAt, IsPartner, IsLeftFence}
use Rattle.xs_gram.specs.Sound.{IsBuilt}
use Rattle.xs_gram.proofs.Fences.{is_left_of}
use Rattle.xs_gram.proofs.Levels.{fixed_one, level_once, group_opened}
use Rattle.xs_check_laws.specs.Acceptance.{IsBefore}
use Rattle.xs_check_laws.specs.Weights.{PartWeighs}
use Rattle.xs_loose.specs.declared.part.Part.{Part}
use Rattle.xs_loose.specs.declared.part.Fenced.{Fenced}
use Rattle.xs_loose.specs.declared.fault.LooseFault.{LooseFault}
use Rattle.xs_loose.specs.declared.fault.LooseFault.TheVariants.{Heavy, Memory}
use Rattle.xs_loose.specs.Groups.{lefts, groups_before, group_number}
use Rattle.xs_loose.specs.Nesting.{HasGroupsBefore, IsNestBefore}
use Rattle.xs_loose.specs.Nets.{IsNumbered, IsNetOf, HasItsWeight, IsGroupOf, IsNestOf, HasInside, IsNestCause}
use Rattle.xs_loose.specs.Parts.{part_items, IsPart, IsFencedAt, AreLight, IsCause}
use Rattle.xs_loose.proofs.Counting.{groups_few}
use Rattle.xs_loose.proofs.Numbering.{item_at, left_counts, other_counts, number_low}

-- the fences of a group, and its inside, by their places
module _ {fs : List (ℕ × ℕ)} {is : List GItem} {k m l r : ℕ} {inside : List GItem} (at : GroupAt fs is k m l inside r) where
  pub left_at : slice_get is k ≡ Some (Fixed (l ∷ []))
  left_at = ap (λ (xs : List GItem). slice_get xs k) at.split ∙ ap (λ (n : ℕ). slice_get (at.before ++ Fixed (l ∷ []) ∷ (inside ++ Fixed (r ∷ []) ∷ at.after)) n) at.place ∙ item_at at.before (inside ++ Fixed (r ∷ []) ∷ at.after) (Fixed (l ∷ []))

  pub left_opens : IsLeftFence fs is k
  unfolding left_at
  left_opens = record { symbol = l; item = left_at; left = is_left_of at.fence }

cut_after : (before xs : List GItem) (i : GItem) → before ++ i ∷ xs ≡ (before ++ i ∷ []) ++ xs
cut_after before xs i = sym (append_assoc before (i ∷ []) xs)

long_cut : (before : List GItem) (i : GItem) → length (before ++ i ∷ []) ≡ suc (length before)
long_cut before i = omega (arith, length-append before (i ∷ []))

pub right_at : (fs : List (ℕ × ℕ)) (is : List GItem) (k m l r : ℕ) (inside : List GItem) → GroupAt fs is k m l inside r → slice_get is m ≡ Some (Fixed (r ∷ []))
right_at fs is k m l r inside at =
    let first : List GItem = at.before ++ Fixed (l ∷ []) ∷ inside in
    let split : is ≡ first ++ Fixed (r ∷ []) ∷ at.after = at.split ∙ sym (append_assoc at.before (Fixed (l ∷ []) ∷ inside) (Fixed (r ∷ []) ∷ at.after)) in
    let place : m ≡ length first = omega (arith, at.partner, at.place, length-append at.before (Fixed (l ∷ []) ∷ inside)) in
    ap (λ (xs : List GItem). slice_get xs m) split ∙ ap (λ (n : ℕ). slice_get (first ++ Fixed (r ∷ []) ∷ at.after) n) place ∙ item_at first at.after (Fixed (r ∷ []))

pub inside_is : (fs : List (ℕ × ℕ)) (is : List GItem) (k m l r : ℕ) (inside : List GItem) → GroupAt fs is k m l inside r → slice_range is (k + 1) m ≡ inside
inside_is fs is k m l r inside at =
    let first : List GItem = at.before ++ Fixed (l ∷ []) ∷ [] in
    let later : List GItem = Fixed (r ∷ []) ∷ at.after in
    let split : is ≡ first ++ (inside ++ later) = at.split ∙ cut_after at.before (inside ++ later) (Fixed (l ∷ [])) in
    let place : length first ≡ k + 1 = omega (arith, at.place, long_cut at.before (Fixed (l ∷ []))) in
    let long : length inside ≡ m - (k + 1) = omega (arith, at.partner) in
    ap (λ (xs : List GItem). slice_range xs (k + 1) m) split ∙ ap (λ (xs : List GItem). take (m - (k + 1)) xs) (drop_at first (inside ++ later) (k + 1) place) ∙ take_at inside later (m - (k + 1)) long

-- two groups at one place have one inside
pub inside_once : (fs : List (ℕ × ℕ)) → IsDistinct (fence_symbols fs) → (is : List GItem) (k m n l r s t : ℕ) (a b : List GItem) → GroupAt fs is k m l a r → GroupAt fs is k n s b t → a ≡ b
inside_once fs once is k m n l r s t a b x y =
    let same : grouped l a r x.after ≡ grouped s b t y.after = sym (group_opened x).0 ∙ (group_opened y).0 in
    (level_once fs once x.within y.within x.fence y.fence (cons_parts same).1).inside

pub partner_low : (fs : List (ℕ × ℕ)) (is : List GItem) (k m l r : ℕ) (inside : List GItem) → GroupAt fs is k m l inside r → (k < m) × (m < length is)
partner_low fs is k m l r inside at = (omega (arith, at.partner), (group_opened at).2)

-- the inside of a group is a part
pub inside_part : (g : Grammar) (p k m : ℕ) (part : Part) → p < length g.rules → IsPartner g.fences (spread g p) k m → part.rule ≡ p → part.start ≡ k + 1 → part.end ≡ m → IsPart g part
inside_part g p k m part rule partner a b c = rw_part (part.rule) part.start part.end a b c
  where
    at : GroupAt g.fences (spread g p) k m partner.left partner.inside partner.right
    at = partner.group

    rw_part : (q s e : ℕ) → q ≡ p → s ≡ k + 1 → e ≡ m → IsPart g (record { rule = q; start = s; end = e })
    rw_part q s e x y z = rw (x, y, z) (record {
      rule = rule;
      order = omega (arith, at.partner);
      within = omega (arith, (group_opened at).2);
      level = subst (λ (xs : List GItem). IsLevel g.fences xs) (sym (inside_is g.fences (spread g p) k m partner.left partner.right partner.inside at)) at.within;
    })

-- what is read at the fences of a group
pub left_read : (fs : List (ℕ × ℕ)) (xs items : List GItem) (k m : ℕ) (i : GItem) → IsPartner fs xs k m → items ≡ xs → i ≡ get_or items k i → (s : ℕ) × (i ≡ Fixed (s ∷ []))
left_read fs xs items k m i p e is =
    let there : slice_get items k ≡ Some (Fixed (p.left ∷ [])) = ap (λ (ys : List GItem). slice_get ys k) e ∙ left_at p.group in
    (p.left, is ∙ get_or_from_slice_get items k (Fixed (p.left ∷ [])) i there)

pub right_read : (fs : List (ℕ × ℕ)) (xs items : List GItem) (k m : ℕ) (i : GItem) → IsPartner fs xs k m → items ≡ xs → i ≡ get_or items m i → (s : ℕ) × (i ≡ Fixed (s ∷ []))
right_read fs xs items k m i p e is =
    let there : slice_get items m ≡ Some (Fixed (p.right ∷ [])) = ap (λ (ys : List GItem). slice_get ys m) e ∙ right_at fs xs k m p.left p.right p.inside p.group in
    (p.right, is ∙ get_or_from_slice_get items m (Fixed (p.right ∷ [])) i there)

item_read : (xs items : List GItem) (k : ℕ) (i : GItem) → items ≡ xs → k < length xs → i ≡ get_or items k i → slice_get xs k ≡ Some i
item_read xs items k i e low is = ap (λ (ys : List GItem). slice_get ys k) (sym e) ∙ slice_get-get_or items k i (omega (arith, ap length e)) ∙ ap (λ (x : GItem). Some x) (sym is)

-- what was read at the fences of a group, and the part between them, are the group
pub fenced_is : (g : Grammar) (p k m left right : ℕ) (items : List GItem) (i j : GItem) → p < length g.rules → IsPartner g.fences (spread g p) k m → items ≡ spread g p → i ≡ get_or items k i → j ≡ get_or items m j → i ≡ Fixed (left ∷ []) → j ≡ Fixed (right ∷ []) → IsFencedAt g p k (record { left = left; right = right; inside = record { rule = p; start = k + 1; end = m } })
fenced_is g p k m left right items i j low partner same first second a b = record {
  at = subst (λ (is : List GItem). GroupAt g.fences (spread g p) k m left is right) (sym (inside_is g.fences (spread g p) k m partner.left partner.right partner.inside partner.group)) (subst (λ (s : ℕ). GroupAt g.fences (spread g p) k m left partner.inside s) rights (subst (λ (s : ℕ). GroupAt g.fences (spread g p) k m s partner.inside partner.right) lefts partner.group));
  rule = refl;
  start = omega arith;
  part = inside_part g p k m (record { rule = p; start = k + 1; end = m }) low partner refl refl refl;
}
  where
    within : (k < m) × (m < length (spread g p))
    within = partner_low g.fences (spread g p) k m partner.left partner.right partner.inside partner.group

    lefts : partner.left ≡ left
    lefts = fixed_one (same_Some _ _ (sym (left_at partner.group) ∙ item_read (spread g p) items k i same (omega (arith, within.0, within.1)) first ∙ ap (λ (x : GItem). Some x) a))

    rights : partner.right ≡ right
    rights = fixed_one (same_Some _ _ (sym (right_at g.fences (spread g p) k m partner.left partner.right partner.inside partner.group) ∙ item_read (spread g p) items m j same within.1 second ∙ ap (λ (x : GItem). Some x) b))

pub partner_of : {g : Grammar} {p k : ℕ} {f : Fenced} → IsFencedAt g p k f → IsPartner g.fences (spread g p) k f.inside.end
partner_of {g} {p} {k} {f} is = record { left = f.left; inside = part_items g f.inside; right = f.right; group = is.at }

-- one more group can be numbered
pub group_low : (g : Grammar) (p k m n : ℕ) → p < length g.rules → IsBuilt g → IsPartner g.fences (spread g p) k m → n ≡ group_number g p k → n < 2 ^ 32 - 1
group_low g p k m n low built partner e = omega (arith, groups_few g built, left_counts g.fences (spread g p) k m partner, number_low g p (k + 1) low)

-- a pair before the next place is before this one, or this one
before_next : (q j p k : ℕ) → IsBefore q j p (k + 1) → IsBefore q j p k ⊎ ((q ≡ p) × (j ≡ k))
before_next q j p k h = elim h [
  | inl low ↦ inl (inl low)
  | inr same ↦ elim (cases_eq j k) [
    | inl e ↦ inr (same.0, e)
    | inr ne ↦ inl (inr (same.0, omega (arith, same.1)))
  ]
]

-- the groups before a place, each of which is as P says of its place
module _ {P : ℕ → ℕ → Group → Type 0} (g : Grammar) where
  pub groups_none : HasGroupsBefore P g 0 0 []
  groups_none = record {
    counted = refl;
    there = λ q j m l r inside before low at. elim before [ inl h ↦ absurd (omega arith) | inr h ↦ absurd (omega (arith, h.1)) ];
    only = λ h group is. absurd cc;
  }

  -- the place has no group
  pub groups_past : (p k : ℕ) (nest : List Group) → k < length (spread g p) → (IsLeftFence g.fences (spread g p) k → ⊥) → HasGroupsBefore P g p k nest → HasGroupsBefore P g p (k + 1) nest
  groups_past p k nest low none was = record {
    counted = omega (arith, was.counted, other_counts g.fences (spread g p) k low none);
    there = λ q j m l r inside before rule at. elim (before_next q j p k before) [
      | inl h ↦ was.there q j m l r inside h rule at
      | inr e ↦ absurd (none (subst (λ (i : ℕ). IsLeftFence g.fences (spread g p) i) e.1 (subst (λ (s : ℕ). IsLeftFence g.fences (spread g s) j) e.0 (left_opens at))))
    ];
    only = was.only;
  }

  -- the place has a group
  pub groups_more : (p k m : ℕ) → IsPartner g.fences (spread g p) k m → (nest new : List Group) (group : Group) → P p k group → new ≡ nest ++ group ∷ [] → HasGroupsBefore P g p k nest → HasGroupsBefore P g p (k + 1) new
  groups_more p k m partner nest new group is e was = subst (λ (xs : List Group). HasGroupsBefore P g p (k + 1) xs) (sym e) (record {
    counted = omega (arith, length-append nest (group ∷ []), was.counted, left_counts g.fences (spread g p) k m partner);
    there = λ q j n l r inside before low at. elim (before_next q j p k before) [
      | inl h ↦ let found = was.there q j n l r inside h low at in (found.0, get_left nest (group ∷ []) (group_number g q j) found.0 found.1, found.2)
      | inr same ↦ here q j same.0 same.1
    ];
    only = λ h other there. elim (get_push nest group other h there) [
      | inl before ↦ was.only h other before
      | inr last ↦ (p, k, last.0 ∙ was.counted, subst (λ (x : Group). P p k x) last.1 is)
    ];
  })
    where
      here : (q j : ℕ) → q ≡ p → j ≡ k → (found : Group) × IsGroup (nest ++ group ∷ []) (group_number g q j) found × P q j found
      here q j a b = rw (a, b) (group, subst (λ (h : ℕ). IsGroup (nest ++ group ∷ []) h group) was.counted (get_last nest group), is)

  -- the groups of a rule are those of its places
  pub groups_next : (p k : ℕ) (nest : List Group) → length (spread g p) ≤ k → HasGroupsBefore P g p k nest → HasGroupsBefore P g (p + 1) 0 nest
  groups_next p k nest end was = subst (λ (q : ℕ). HasGroupsBefore P g q 0 nest) next (record {
    counted = was.counted ∙ ap (λ (xs : List GItem). groups_before g p + lefts g.fences xs) (take_all k (spread g p) end) ∙ omega arith;
    there = λ q j m l r inside before low at. was.there q j m l r inside (of_rule q j m l r inside before at) low at;
    only = was.only;
  })
    where
      next : suc p ≡ p + 1
      next = omega arith

      of_rule : (q j m l r : ℕ) (inside : List GItem) → IsBefore q j (suc p) 0 → GroupAt g.fences (spread g q) j m l inside r → IsBefore q j p k
      of_rule q j m l r inside before at = elim before [
        | inl low ↦ elim (cases_eq q p) [
          | inl e ↦
              let within = partner_low g.fences (spread g q) j m l r inside at in
              let long : length (spread g q) ≡ length (spread g p) = ap (λ (s : ℕ). length (spread g s)) e in
              inr (e, omega (arith, within.0, within.1, long))
          | inr ne ↦ inl (omega arith)
        ]
        | inr none ↦ absurd (omega (arith, none.1))
      ]

-- a group, with the net of its inside
pub group_is : (g : Grammar) (p k : ℕ) (f : Fenced) (n : Graph) → p < length g.rules → IsFencedAt g p k f → IsNetOf g f.inside n → HasItsWeight g (part_items g f.inside) n → IsGroupOf g p k (record { left = f.left; right = f.right; content = n })
group_is g p k f n rule is net weight = record {
  rule = rule;
  inside = part_items g f.inside;
  partner = f.inside.end;
  at = is.at;
  content = subst (λ (s : ℕ). IsNumbered g p s (part_items g f.inside) n) is.start (subst (λ (q : ℕ). IsNumbered g q f.inside.start (part_items g f.inside) n) is.rule net);
  weight = weight;
}

pub nest_all : (g : Grammar) (p : ℕ) (nest : List Group) → p ≡ length g.rules → IsNestBefore g p 0 nest → IsNestOf g nest
nest_all g p nest end was = record {
  counted = was.counted ∙ omega arith ∙ ap (λ (q : ℕ). groups_before g q) end;
  there = λ q j m l r inside low at. was.there q j m l r inside (inl (omega arith)) low at;
  only = was.only;
}

-- the first group whose inside is heavy
pub nest_fault : (g : Grammar) → IsBuilt g → (p k : ℕ) (f : Fenced) → p < length g.rules → IsFencedAt g p k f → (nest : List Group) → IsNestBefore g p k nest → (fault : LooseFault) → IsCause g (part_items g f.inside) fault → IsNestCause g fault
nest_fault g built p k f rule at nest was (Heavy weight) cause = record {
  rule = p;
  place = k;
  inside = part_items g f.inside;
  is = record { rule = rule; partner = f.inside.end; left = f.left; right = f.right; at = at.at };
  weighs = cause.0;
  heavy = cause.1;
  before = λ q j other inside h. light q j other inside h;
}
  where
    light : (q j : ℕ) (other : List GItem) → HasInside g q j other → IsBefore q j p k → AreLight g other
    light q j other inside h =
        let found = was.there q j inside.partner inside.left inside.right other h inside.rule inside.at in
        let group = found.0 in
        let is : IsGroupOf g q j group = found.2 in
        let same : is.inside ≡ other = inside_once g.fences built.proper.once (spread g q) j is.partner inside.partner group.left group.right inside.left inside.right is.inside other is.at inside.at in
        (is.weight.weight, subst (λ (xs : List GItem). PartWeighs g xs is.weight.weight) same is.weight.weighs, is.weight.light)
nest_fault g built p k f rule at nest was Memory cause = tt
