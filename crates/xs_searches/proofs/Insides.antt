-- The greatest of what the groups of a rule count is what its insides weigh.
use Rattle.std.proofs.Common.{◌≡◌, ◌⊎◌, inl, inr, ℕ, zero, suc, ◌+◌, ◌<◌, ◌≤◌, max, List, [], ◌∷◌, ◌++◌, length, refl, sym, ap, subst, ◌∙◌, arith, append_assoc, append-nil, length-append, true, false, Some, slice_get}
use Rattle.std.proofs.lemmas.Bool.{cases_lt}
use Rattle.std.specs.Cmp.{nat_cmp_is}
use Rattle.std.specs.declared.cmp.Ordering.{Ordering}
use Rattle.std.specs.declared.cmp.Ordering.TheVariants.{Less, Equal, Greater}
use Rattle.std.specs.Ordering.{is_lt, nat_cmp, ord_max}
use Rattle.std.specs.Prelude.{cond}
use Rattle.xs_gram.specs.declared.parts.GItem.{GItem}
use Rattle.xs_gram.specs.declared.parts.GItem.TheVariants.{Fixed}
use Rattle.xs_gram.specs.Grammar.{Grammar}
use Rattle.xs_gram.specs.Fences.{is_left, spread, IsFence, IsPlain, IsLevel, level_none, level_then, level_group, grouped, GroupAt, IsPartner, IsLeftFence}
use Rattle.xs_gram.specs.Sound.{IsBuilt}
use Rattle.xs_gram.proofs.Cuts.{slice_middle}
use Rattle.xs_gram.proofs.Fences.{is_left_of, left_not_plain, right_not_left, some_right}
use Rattle.xs_gram.proofs.Levels.{group_opened}
use Rattle.xs_check_laws.specs.Weights.{capped, PartWeighs, InsidesWeigh, no_inside, inside_later, inside_here}
use Rattle.xs_loose.specs.Parts.{IsPart, part_items}
use Rattle.xs_loose.proofs.Finding.{group_once}
use Rattle.xs_searches.specs.Insides.{Counts, greatest, IsGreatest}
use Rattle.xs_searches.proofs.Lightness.{item_at}

-- the greater of two numbers, as std has it
pub greater_is : (a b m : ℕ) → m ≡ ord_max nat_cmp a b → m ≡ max a b
greater_is a b m e =
    elim (cases_lt b a) [
      | inl less ↦
          let r : Less ≡ nat_cmp b a = nat_cmp_is b a Less less in
          let s : m ≡ a = e ∙ sym (ap (λ (o : Ordering). cond (is_lt o) a b) r) in
          omega arith
      | inr other ↦ elim (cases_lt a b) [
        | inl more ↦
            let r : Greater ≡ nat_cmp b a = nat_cmp_is b a Greater more in
            let s : m ≡ b = e ∙ sym (ap (λ (o : Ordering). cond (is_lt o) a b) r) in
            omega arith
        | inr same ↦
            let q : b ≡ a = omega arith in
            let r : Equal ≡ nat_cmp b a = nat_cmp_is b a Equal q in
            let s : m ≡ b = e ∙ sym (ap (λ (o : Ordering). cond (is_lt o) a b) r) in
            omega arith
      ]
    ]

greatest_same : (f h : ℕ → ℕ) (n : ℕ) → ((k : ℕ) → k < n → f k ≡ h k) → greatest f n ≡ greatest h n
greatest_same f h zero e = refl
greatest_same f h (suc n) e =
    let before = greatest_same f h n (λ k lt. e k (omega arith)) in
    let here = e n (omega arith) in
    cc

-- the one number before a place, the other from there on
choose : {k n : ℕ} → (k < n) ⊎ (n ≤ k) → ℕ → ℕ → ℕ
choose (inl lt) a b = a
choose (inr le) a b = b

choose_before : {k n : ℕ} (s : (k < n) ⊎ (n ≤ k)) (a b : ℕ) → k < n → choose s a b ≡ a
unfolding choose
choose_before (inl lt) a b h = refl
choose_before (inr le) a b h = absurd (omega arith)

choose_after : {k n : ℕ} (s : (k < n) ⊎ (n ≤ k)) (a b : ℕ) → n ≤ k → choose s a b ≡ b
unfolding choose
choose_after (inl lt) a b h = absurd (omega arith)
choose_after (inr le) a b h = refl

pub none_counted : (g : Grammar) (p : ℕ) → IsGreatest g p 0 0
none_counted g p = record { counts = λ k. 0; each = λ k lt. absurd (omega arith); is = refl }

pub greatest_more : (g : Grammar) (p end most count new : ℕ) → IsGreatest g p end most → Counts g p end count → new ≡ max most count → IsGreatest g p (end + 1) new
greatest_more g p end most count new h c e = record {
  counts = next;
  each = λ k lt. each k lt;
  is = omega (arith, e, h.is, same, here, ap (λ (n : ℕ). greatest next n) one);
}
  where
    next : ℕ → ℕ
    next k = choose (cases_lt k end) (h.counts k) count

    each : (k : ℕ) → k < end + 1 → Counts g p k (choose (cases_lt k end) (h.counts k) count)
    each k lt = elim (cases_lt k end) [
      | inl before ↦ subst (λ (n : ℕ). Counts g p k n) (sym (choose_before (cases_lt k end) (h.counts k) count before)) (h.each k before)
      | inr after ↦
          let at : end ≡ k = omega arith in
          subst (λ (n : ℕ). Counts g p k n) (sym (choose_after (cases_lt k end) (h.counts k) count after)) (subst (λ (n : ℕ). Counts g p n count) at c)
    ]

    same : greatest next end ≡ greatest h.counts end
    same = greatest_same next h.counts end (λ k lt. choose_before (cases_lt k end) (h.counts k) count lt)

    here : next end ≡ count
    here = choose_after (cases_lt end end) (h.counts end) count (omega arith)

    one : end + 1 ≡ suc end
    one = omega arith

left_fence : {fs : List (ℕ × ℕ)} {is : List GItem} {k m l : ℕ} {inside : List GItem} {r : ℕ} → GroupAt fs is k m l inside r → IsLeftFence fs is k
left_fence {k = k} {l = l} {inside = inside} {r = r} a = record {
  symbol = l;
  item = ap (λ (x : List GItem). slice_get x k) a.split ∙ ap (λ (n : ℕ). slice_get (a.before ++ grouped l inside r a.after) n) a.place ∙ item_at a.before (Fixed (l ∷ [])) (inside ++ Fixed (r ∷ []) ∷ a.after);
  left = is_left_of a.fence;
}

some_one : {x y : GItem} → Some x ≡ Some y → x ≡ y
some_one e = cc

no_true : {b : _} → b ≡ true → b ≡ false → ⊥
no_true e h = cc

same_symbol : {l m : ℕ} → Fixed (l ∷ []) ≡ Fixed (m ∷ []) → l ≡ m
same_symbol e = cc

-- a plain item, a right fence, is no left fence
plain_is_none : (fs : List (ℕ × ℕ)) (is : List GItem) (k : ℕ) (i : GItem) → slice_get is k ≡ Some i → IsPlain fs i → IsLeftFence fs is k → ⊥
plain_is_none fs is k i at plain left =
    let fence = some_right fs left.symbol left.left in
    left_not_plain fence.1 (subst (λ (x : GItem). IsPlain fs x) (some_one (sym at ∙ left.item)) plain)

-- the insides of a stretch weigh the greatest of what its groups count
module _ (g : Grammar) (built : IsBuilt g) (p : ℕ) (counts : ℕ → ℕ) (each : (k : ℕ) → k < length (spread g p) → Counts g p k (counts k)) where
  record Weighed (is : List GItem) (k end : ℕ) : Type 0 where
    weight : ℕ
    weighs : InsidesWeigh g is weight
    top : greatest counts end ≡ max (greatest counts k) weight

  right_is_none : {l r : ℕ} (k : ℕ) → IsFence g.fences l r → slice_get (spread g p) k ≡ Some (Fixed (r ∷ [])) → IsLeftFence g.fences (spread g p) k → ⊥
  right_is_none k f at left = no_true (ap (λ (n : ℕ). is_left g.fences n) (same_symbol (some_one (sym at ∙ left.item))) ∙ left.left) (right_not_left built.proper.once f)

  found : (before : List GItem) (i : GItem) (more : List GItem) (k : ℕ) → spread g p ≡ before ++ i ∷ more → k ≡ length before → (slice_get (spread g p) k ≡ Some i) × (k < length (spread g p))
  found before i more k split at =
      (ap (λ (x : List GItem). slice_get x k) split ∙ ap (λ (n : ℕ). slice_get (before ++ i ∷ more) n) at ∙ item_at before i more, omega (arith, at, ap length split, length-append before (i ∷ more)))

  weighed : {is : List GItem} → IsLevel g.fences is → (before after : List GItem) → spread g p ≡ before ++ (is ++ after) → (k end : ℕ) → k ≡ length before → end ≡ k + length is → Weighed is k end
  weighed level_none before after split k end at long =
      let same : end ≡ k = omega arith in
      record { weight = 0; weighs = no_inside; top = omega (arith, ap (λ (n : ℕ). greatest counts n) same) }
  weighed (level_then {i = i} {is = is} plain t) before after split k end at long =
      let here = found before i (is ++ after) k split at in
      let none : counts k ≡ 0 = (each k here.1).none (λ left. plain_is_none g.fences (spread g p) k i here.0 plain left) in
      let d = weighed t (before ++ i ∷ []) after (split ∙ sym (append_assoc before (i ∷ []) (is ++ after))) (suc k) end (omega (arith, at, length-append before (i ∷ []))) (omega (arith, long)) in
      record { weight = d.weight; weighs = inside_later plain d.weighs; top = omega (arith, d.top, none) }
  weighed {is} (level_group {l = l} {r = r} {inside = inside} {after = later} f i t e) before after split k end at long =
      let opened : spread g p ≡ before ++ grouped l inside r (later ++ after) = split ∙ ap (λ (x : List GItem). before ++ (x ++ after)) e ∙ ap (λ (x : List GItem). before ++ Fixed (l ∷ []) ∷ x) (append_assoc inside (Fixed (r ∷ []) ∷ later) after) in
      let here = found before (Fixed (l ∷ [])) (inside ++ Fixed (r ∷ []) ∷ (later ++ after)) k opened at in
      let group : GroupAt g.fences (spread g p) k (suc (k + length inside)) l inside r = record { before = before; after = later ++ after; split = opened; fence = f; within = i; place = at; partner = refl } in
      let own = (each k here.1).group (suc (k + length inside)) l r inside group in
      let ended : spread g p ≡ (before ++ Fixed (l ∷ []) ∷ inside) ++ Fixed (r ∷ []) ∷ (later ++ after) = opened ∙ sym (append_assoc before (Fixed (l ∷ []) ∷ inside) (Fixed (r ∷ []) ∷ (later ++ after))) in
      let right = found (before ++ Fixed (l ∷ []) ∷ inside) (Fixed (r ∷ [])) (later ++ after) (suc (k + length inside)) ended (omega (arith, at, length-append before (Fixed (l ∷ []) ∷ inside))) in
      let none : counts (suc (k + length inside)) ≡ 0 = (each (suc (k + length inside)) right.1).none (λ left. right_is_none (suc (k + length inside)) f right.0 left) in
      let d = weighed i (before ++ Fixed (l ∷ []) ∷ []) (Fixed (r ∷ []) ∷ (later ++ after)) (opened ∙ sym (append_assoc before (Fixed (l ∷ []) ∷ []) (inside ++ Fixed (r ∷ []) ∷ (later ++ after)))) (suc k) (suc (k + length inside)) (omega (arith, at, length-append before (Fixed (l ∷ []) ∷ []))) (omega arith) in
      let past : spread g p ≡ ((before ++ Fixed (l ∷ []) ∷ inside) ++ Fixed (r ∷ []) ∷ []) ++ (later ++ after) = ended ∙ sym (append_assoc (before ++ Fixed (l ∷ []) ∷ inside) (Fixed (r ∷ []) ∷ []) (later ++ after)) in
      let whole : length is ≡ suc (length inside + suc (length later)) = ap length e ∙ omega (arith, length-append inside (Fixed (r ∷ []) ∷ later)) in
      let u = weighed t ((before ++ Fixed (l ∷ []) ∷ inside) ++ Fixed (r ∷ []) ∷ []) after past (suc (suc (k + length inside))) end (omega (arith, at, length-append before (Fixed (l ∷ []) ∷ inside), length-append (before ++ Fixed (l ∷ []) ∷ inside) (Fixed (r ∷ []) ∷ []))) (omega (arith, long, whole)) in
      record { weight = max (capped (suc own.own)) (max d.weight u.weight); weighs = inside_here f own.weighs d.weighs u.weighs e refl; top = omega (arith, d.top, u.top, own.is, none) }

pub insides_are : (g : Grammar) → IsBuilt g → (p end most : ℕ) → length (spread g p) ≡ end → IsGreatest g p end most → InsidesWeigh g (spread g p) most
insides_are g built p end most long h =
    let d = weighed g built p h.counts (λ k lt. h.each k (omega (arith, lt, long))) (built.proper.level p) [] [] (sym (append-nil (spread g p))) 0 end refl (omega (arith, long)) in
    let same : d.weight ≡ most = omega (arith, d.top, h.is) in
    subst (λ (n : ℕ). InsidesWeigh g (spread g p) n) same d.weighs

-- the inside of a group is a part
inside_items : (g : Grammar) (p k m l : ℕ) (inside : List GItem) (r : ℕ) → GroupAt g.fences (spread g p) k m l inside r → part_items g (record { rule = p; start = k + 1; end = m }) ≡ inside
inside_items g p k m l inside r a = slice_middle (a.before ++ Fixed (l ∷ []) ∷ []) inside (Fixed (r ∷ []) ∷ a.after) (a.split ∙ sym (append_assoc a.before (Fixed (l ∷ []) ∷ []) (inside ++ Fixed (r ∷ []) ∷ a.after))) (omega (arith, a.place, length-append a.before (Fixed (l ∷ []) ∷ []))) (omega (arith, a.partner))

pub inside_part : (g : Grammar) (p k m : ℕ) → p < length g.rules → IsPartner g.fences (spread g p) k m → IsPart g (record { rule = p; start = k + 1; end = m })
inside_part g p k m lt h =
    let a = h.group in
    record {
      rule = lt;
      order = omega (arith, a.partner);
      within = omega (arith, (group_opened a).2);
      level = subst (λ (x : List GItem). IsLevel g.fences x) (sym (inside_items g p k m h.left h.inside h.right a)) a.within;
    }

-- what a group counts, by the weight of that part
pub group_counts : (g : Grammar) → IsBuilt g → (p k m weight count : ℕ) → IsPartner g.fences (spread g p) k m → PartWeighs g (part_items g (record { rule = p; start = k + 1; end = m })) weight → count ≡ capped (suc weight) → Counts g p k count
group_counts g built p k m weight count h w e = record {
  group = λ n l r inside a.
      (let same : h.inside ≡ inside = (group_once built.proper.once h.group a).inside in
      record { own = weight; weighs = subst (λ (x : List GItem). PartWeighs g x weight) (inside_items g p k m h.left h.inside h.right h.group ∙ same) w; is = e });
  none = λ not. absurd (not (left_fence h.group));
}

pub nothing_counts : (g : Grammar) (p k : ℕ) → (IsLeftFence g.fences (spread g p) k → ⊥) → Counts g p k 0
nothing_counts g p k not = record { group = λ n l r inside a. absurd (not (left_fence a)); none = λ h. refl }
