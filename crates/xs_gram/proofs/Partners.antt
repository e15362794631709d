-- The partners that are found are the right fences that close the left ones.
use Rattle.std.proofs.Common.{◌≡◌, inl, inr, ◌↔◌, ℕ, zero, suc, ◌+◌, ◌<◌, ◌≤◌, List, [], ◌∷◌, ◌++◌, length, refl, sym, ap, subst, ◌∙◌, arith, append_assoc, append-nil, length-append, get_or, true, false, Bool, None, Some, IfSome, slice_get, slice_index_or}
use Rattle.std.specs.declared.option.Option.{Option}
use Rattle.std.proofs.lemmas.Option.{slice_get-get_or, slice_get_within, get_or_from_slice_get}
use Rattle.xs_class.proofs.Lists.{get_of_two}
use Rattle.xs_class.proofs.Truth.{or_false, if_true, if_false}
use Rattle.xs_gram.specs.declared.parts.GItem.{GItem}
use Rattle.xs_gram.specs.declared.parts.GItem.TheVariants.{Fixed, Term, Non, Skip}
use Rattle.xs_gram.specs.Grammar.{Grammar}
use Rattle.xs_gram.specs.Laws.{IsDistinct}
use Rattle.xs_gram.specs.Sound.{IsProper}
use Rattle.xs_gram.specs.Fences.{fence_symbols, is_left, is_right, spread, IsPlain, grouped, IsLevel, level_none, level_then, level_group, GroupAt, IsPartner, IsLeftFence}
use Rattle.xs_gram.specs.Spreading.{opens, closes, first_of, after_first, waiting, waiting_from, partner_from, partners}
use Rattle.xs_gram.proofs.Fences.{is_left_of, is_right_of, left_not_right, right_not_left}
use Rattle.xs_gram.proofs.Levels.{group_more, group_opened}

-- a plain item is no fence
plain_neither : (fs : List (ℕ × ℕ)) (i : GItem) → IsPlain fs i → (opens fs i ≡ false) × (closes fs i ≡ false)
plain_neither fs (Fixed []) plain = (refl, refl)
plain_neither fs (Fixed (s ∷ [])) plain = or_false (is_left fs s) (is_right fs s) (plain s (0, omega arith, refl))
plain_neither fs (Fixed (s ∷ t ∷ w)) plain = (refl, refl)
plain_neither fs (Term t s) plain = (refl, refl)
plain_neither fs (Non n s) plain = (refl, refl)
plain_neither fs (Skip k) plain = (refl, refl)

waiting_plain : (fs : List (ℕ × ℕ)) (place : ℕ) (i : GItem) (later : List ℕ) → closes fs i ≡ false → opens fs i ≡ false → waiting_from fs place i later ≡ later
waiting_plain fs place i later c o = if_false (closes fs i) (place ∷ later) _ c ∙ if_false (opens fs i) (after_first later) later o

waiting_right : (fs : List (ℕ × ℕ)) (place : ℕ) (i : GItem) (later : List ℕ) → closes fs i ≡ true → waiting_from fs place i later ≡ place ∷ later
waiting_right fs place i later c = if_true (closes fs i) (place ∷ later) _ c

waiting_left : (fs : List (ℕ × ℕ)) (place : ℕ) (i : GItem) (later : List ℕ) → closes fs i ≡ false → opens fs i ≡ true → waiting_from fs place i later ≡ after_first later
waiting_left fs place i later c o = if_false (closes fs i) (place ∷ later) _ c ∙ if_true (opens fs i) (after_first later) later o

module _ (fs : List (ℕ × ℕ)) (once : IsDistinct (fence_symbols fs)) where
  -- in a level stretch no right fence waits
  waiting_level : {is : List GItem} → IsLevel fs is → (place : ℕ) (rest : List GItem) → waiting fs place (is ++ rest) ≡ waiting fs (place + length is) rest
  waiting_level level_none place rest = ap (λ (k : ℕ). waiting fs k rest) (omega arith)
  waiting_level (level_then {i = i} {is = js} plain l) place rest =
      waiting_plain fs place i (waiting fs (place + 1) (js ++ rest)) (plain_neither fs i plain).1 (plain_neither fs i plain).0 ∙ waiting_level l (place + 1) rest ∙ ap (λ (k : ℕ). waiting fs k rest) (omega arith)
  waiting_level {is} (level_group {l = l} {r = r} {inside = inside} {after = after} f i t e) place rest =
      let opened : is ++ rest ≡ grouped l inside r (after ++ rest) = ap (λ (x : List GItem). x ++ rest) e ∙ group_more l inside r after rest in
      let more = waiting_level t (place + 1 + length inside + 1) rest in
      let within : waiting fs (place + 1) (inside ++ Fixed (r ∷ []) ∷ (after ++ rest)) ≡ (place + 1 + length inside) ∷ waiting fs (place + 1 + length inside + 1) (after ++ rest) = waiting_level i (place + 1) (Fixed (r ∷ []) ∷ (after ++ rest)) ∙ waiting_right fs (place + 1 + length inside) (Fixed (r ∷ [])) (waiting fs (place + 1 + length inside + 1) (after ++ rest)) (is_right_of f) in
      let long : place + 1 + length inside + 1 + length after ≡ place + length is = omega (arith, ap length e, length-append inside (Fixed (r ∷ []) ∷ after)) in
      ap (λ (x : List GItem). waiting fs place x) opened ∙ waiting_left fs place (Fixed (l ∷ [])) (waiting fs (place + 1) (inside ++ Fixed (r ∷ []) ∷ (after ++ rest))) (left_not_right once f) (is_left_of f) ∙ ap after_first within ∙ more ∙ ap (λ (k : ℕ). waiting fs k rest) long

  partner_at : (place : ℕ) (before : List GItem) (i : GItem) (after : List GItem) → slice_get (partners fs place (before ++ i ∷ after)) (length before) ≡ Some (partner_from fs i (waiting fs (place + length before + 1) after))
  partner_at place [] i after = ap (λ (k : ℕ). Some (partner_from fs i (waiting fs k after))) (omega arith)
  partner_at place (x ∷ before) i after = partner_at (place + 1) before i after ∙ ap (λ (k : ℕ). Some (partner_from fs i (waiting fs k after))) (omega arith)

  partner_left : (i : GItem) (later : List ℕ) → closes fs i ≡ false → opens fs i ≡ true → partner_from fs i later ≡ first_of later
  partner_left i later c o = if_false (closes fs i) None _ c ∙ if_true (opens fs i) (first_of later) None o

  partner_other : (i : GItem) (later : List ℕ) → opens fs i ≡ false → partner_from fs i later ≡ None
  partner_other i later o = by_case (closes fs i) refl
    where
      by_case : (b : Bool) → closes fs i ≡ b → partner_from fs i later ≡ None
      by_case true c = if_true (closes fs i) None _ c
      by_case false c = if_false (closes fs i) None _ c ∙ if_false (opens fs i) (first_of later) None o

  -- the left fence of a group has the partner of the group
  group_partner : {is : List GItem} {k m l : ℕ} {inside : List GItem} {r : ℕ} → GroupAt fs is k m l inside r → slice_get (partners fs 0 is) k ≡ Some (Some m)
  group_partner {is} {k} {m} {l} {inside} {r} a =
      let from : ℕ = 0 + length a.before + 1 in
      let within : waiting fs from (inside ++ Fixed (r ∷ []) ∷ a.after) ≡ (from + length inside) ∷ waiting fs (from + length inside + 1) a.after = waiting_level a.within from (Fixed (r ∷ []) ∷ a.after) ∙ waiting_right fs (from + length inside) (Fixed (r ∷ [])) (waiting fs (from + length inside + 1) a.after) (is_right_of a.fence) in
      let here = partner_at 0 a.before (Fixed (l ∷ [])) (inside ++ Fixed (r ∷ []) ∷ a.after) in
      let found = partner_left (Fixed (l ∷ [])) (waiting fs from (inside ++ Fixed (r ∷ []) ∷ a.after)) (left_not_right once a.fence) (is_left_of a.fence) in
      ap (λ (x : List GItem). slice_get (partners fs 0 x) k) a.split ∙ ap (λ (n : ℕ). slice_get (partners fs 0 (a.before ++ grouped l inside r a.after)) n) a.place ∙ here ∙ ap (λ (o : Option ℕ). Some o) (found ∙ ap first_of within ∙ ap (λ (n : ℕ). Some n) (omega (arith, a.partner, a.place)))

some_one : {A : Type 0} {x y : A} → Some x ≡ Some y → x ≡ y
some_one e = cc

-- what stands in front of a place, the item there, and what follows
pub split_at : {A : Type 0} (xs : List A) (k : ℕ) (x : A) → slice_get xs k ≡ Some x → (before : List A) × (after : List A) × (xs ≡ before ++ x ∷ after) × (k ≡ length before)
split_at [] k x e = absurd cc
split_at (y ∷ xs) zero x e = ([], xs, ap (λ z. z ∷ xs) (some_one e), refl)
split_at (y ∷ xs) (suc k) x e = let h = split_at xs k x e in (y ∷ h.0, h.1, ap (λ z. y ∷ z) h.2, ap suc h.3)

-- a partner stays one inside a longer stretch
pub group_within : {fs : List (ℕ × ℕ)} {is : List GItem} {k m l : ℕ} {inside : List GItem} {r : ℕ} (front back : List GItem) → GroupAt fs is k m l inside r → GroupAt fs (front ++ (is ++ back)) (length front + k) (length front + m) l inside r
group_within {l = l} {inside = inside} {r = r} front back a = record {
  before = front ++ a.before;
  after = a.after ++ back;
  split = ap (λ (x : List GItem). front ++ (x ++ back)) a.split ∙ ap (λ (x : List GItem). front ++ x) (append_assoc a.before (grouped l inside r a.after) back ∙ ap (λ (x : List GItem). a.before ++ x) (group_more l inside r a.after back)) ∙ sym (append_assoc front a.before (grouped l inside r (a.after ++ back)));
  fence = a.fence;
  within = a.within;
  place = omega (arith, a.place, length-append front a.before);
  partner = omega (arith, a.partner);
}

partner_within : {fs : List (ℕ × ℕ)} {is : List GItem} {k m : ℕ} (front back : List GItem) → IsPartner fs is k m → IsPartner fs (front ++ (is ++ back)) (length front + k) (length front + m)
partner_within front back h = record { left = h.left; inside = h.inside; right = h.right; group = group_within front back h.group }

partner_moved : {fs : List (ℕ × ℕ)} {is js : List GItem} {k n m : ℕ} → is ≡ js → k ≡ n → IsPartner fs js n m → IsPartner fs is k m
partner_moved {fs} {js = js} {k = k} {m = m} e h p = subst (λ (x : List GItem). IsPartner fs x k m) (sym e) (subst (λ (x : ℕ). IsPartner fs js x m) (sym h) p)

not_left : (fs : List (ℕ × ℕ)) (i : GItem) (s : ℕ) → i ≡ Fixed (s ∷ []) → opens fs i ≡ false → is_left fs s ≡ true → ⊥
not_left fs i s e o l = let q = ap (λ (x : GItem). opens fs x) e in cc

no_some : {m : ℕ} → ◌≡◌ {A = Option ℕ} None (Some m) → ⊥
no_some e = cc

pub opens_item : (fs : List (ℕ × ℕ)) (i : GItem) → opens fs i ≡ true → (s : ℕ) × (i ≡ Fixed (s ∷ [])) × (is_left fs s ≡ true)
opens_item fs (Fixed []) e = absurd cc
opens_item fs (Fixed (s ∷ [])) e = (s, refl, e)
opens_item fs (Fixed (s ∷ t ∷ w)) e = absurd cc
opens_item fs (Term t s) e = absurd cc
opens_item fs (Non n s) e = absurd cc
opens_item fs (Skip k) e = absurd cc

module _ (fs : List (ℕ × ℕ)) (once : IsDistinct (fence_symbols fs)) where
  -- each left fence of a level stretch has a partner
  pub has_partner : {is : List GItem} → IsLevel fs is → (k : ℕ) (i : GItem) → slice_get is k ≡ Some i → opens fs i ≡ true → (m : ℕ) × IsPartner fs is k m
  has_partner level_none k i at o = absurd cc
  has_partner (level_then {i = j} plain l) zero i at o = absurd (no_left j i plain (some_one at) o)
    where
      no_left : (j i : GItem) → IsPlain fs j → j ≡ i → opens fs i ≡ true → ⊥
      no_left j i plain e o = let p = (plain_neither fs j plain).0 in let q = ap (λ (x : GItem). opens fs x) e in cc
  has_partner (level_then {i = j} {is = js} plain l) (suc k) i at o =
      let h = has_partner l k i at o in
      (suc h.0, record { left = h.1.left; inside = h.1.inside; right = h.1.right; group = group_after j h.1.group })
    where
      group_after : {js : List GItem} {k m l : ℕ} {inside : List GItem} {r : ℕ} (j : GItem) → GroupAt fs js k m l inside r → GroupAt fs (j ∷ js) (suc k) (suc m) l inside r
      group_after j a = record { before = j ∷ a.before; after = a.after; split = ap (λ (x : List GItem). j ∷ x) a.split; fence = a.fence; within = a.within; place = ap suc a.place; partner = omega (arith, a.partner) }
  has_partner {is} (level_group {l = l} {r = r} {inside = inside} {after = after} f i t e) k item at o =
      by_place k (sym (ap (λ (x : List GItem). slice_get x k) e) ∙ at) (λ j h. has_partner i j item h o) (λ j h. has_partner t j item h o)
    where
      by_place : (k : ℕ) → slice_get (grouped l inside r after) k ≡ Some item → ((j : ℕ) → slice_get inside j ≡ Some item → (m : ℕ) × IsPartner fs inside j m) → ((j : ℕ) → slice_get after j ≡ Some item → (m : ℕ) × IsPartner fs after j m) → (m : ℕ) × IsPartner fs is k m
      by_place zero at deeper later = (suc (length inside), record { left = l; inside = inside; right = r; group = record { before = []; after = after; split = e; fence = f; within = i; place = refl; partner = omega arith } })
      by_place (suc k) at deeper later =
          elim (get_of_two inside (Fixed (r ∷ []) ∷ after) k item at) [
            | inl h ↦ let p = deeper k h in (_, partner_moved e (omega arith) (partner_within (Fixed (l ∷ []) ∷ []) (Fixed (r ∷ []) ∷ after) p.1))
            | inr h ↦ past h.0 h.1 h.2 later
          ]
        where
          past : (j : ℕ) → k ≡ length inside + j → slice_get (Fixed (r ∷ []) ∷ after) j ≡ Some item → ((j : ℕ) → slice_get after j ≡ Some item → (m : ℕ) × IsPartner fs after j m) → (m : ℕ) × IsPartner fs is (suc k) m
          past zero place at later = absurd (let h = right_not_left once f in let q = ap (λ (x : GItem). opens fs x) (some_one at) in cc (h, q, o))
          past (suc j) place at later = let p = later j at in (_, partner_moved (e ∙ whole) (omega (arith, place, length-append inside (Fixed (r ∷ []) ∷ []))) (partner_within (grouped l inside r []) [] p.1))
            where
              whole : grouped l inside r after ≡ grouped l inside r [] ++ (after ++ [])
              whole = ap (λ (x : List GItem). grouped l inside r x) (sym (append-nil after)) ∙ sym (group_more l inside r [] (after ++ []))

  -- what the list of partners says of an item
  pub partner_found : {is : List GItem} → IsLevel fs is → (k : ℕ) (o : Option ℕ) → k < length is → slice_get (partners fs 0 is) k ≡ Some o → IfSome o (IsPartner fs is k) × ((o ≡ None) ↔ ¬ IsLeftFence fs is k)
  partner_found {is} level k o lt found = by_case (get_or is k (Non 0 0)) (slice_get-get_or is k (Non 0 0) lt) (opens fs (get_or is k (Non 0 0))) refl
    where
      by_case : (i : GItem) → slice_get is k ≡ Some i → (b : Bool) → opens fs i ≡ b → IfSome o (IsPartner fs is k) × ((o ≡ None) ↔ ¬ IsLeftFence fs is k)
      by_case i at true left =
          let p = has_partner level k i at left in
          let e : o ≡ Some p.0 = some_one (sym found ∙ group_partner fs once p.1.group) in
          let s = opens_item fs i left in
          let is_one : IsLeftFence fs is k = record { symbol = s.0; item = at ∙ ap (λ (x : GItem). Some x) s.1; left = s.2 } in
          (subst (λ (x : Option ℕ). IfSome x (IsPartner fs is k)) (sym e) p.1, (λ n. absurd (no_some (sym n ∙ e)), λ none. absurd (none is_one)))
      by_case i at false other =
          let h = split_at is k i at in
          let none : slice_get (partners fs 0 is) k ≡ Some None = ap (λ (x : List GItem). slice_get (partners fs 0 x) k) h.2 ∙ ap (λ (n : ℕ). slice_get (partners fs 0 (h.0 ++ i ∷ h.1)) n) h.3 ∙ partner_at fs once 0 h.0 i h.1 ∙ ap (λ (x : Option ℕ). Some x) (partner_other fs once i (waiting fs (0 + length h.0 + 1) h.1) other) in
          let e : o ≡ None = some_one (sym found ∙ none) in
          (subst (λ (x : Option ℕ). IfSome x (IsPartner fs is k)) (sym e) tt, (λ n left. not_left fs i left.symbol (some_one (sym at ∙ left.item)) other left.left, λ none. e))

pub partners_long : (fs : List (ℕ × ℕ)) (place : ℕ) (is : List GItem) → length (partners fs place is) ≡ length is
partners_long fs place [] = refl
partners_long fs place (i ∷ is) = ap suc (partners_long fs (place + 1) is)

-- the same of a list that is kept
pub partner_kept : (g : Grammar) (p k : ℕ) (list : List (Option ℕ)) → IsProper g → list ≡ partners g.fences 0 (spread g p) → k < length (spread g p) → (k < length list) × IfSome (slice_index_or list k None) (IsPartner g.fences (spread g p) k) × ((slice_index_or list k None ≡ None) ↔ ¬ IsLeftFence g.fences (spread g p) k)
partner_kept g p k list proper is lt =
    let long : k < length list = omega (arith, ap length is, partners_long g.fences 0 (spread g p), lt) in
    let here : slice_get (partners g.fences 0 (spread g p)) k ≡ Some (slice_index_or list k None) = ap (λ (l : List (Option ℕ)). slice_get l k) (sym is) ∙ slice_get-get_or list k None long in
    let found = partner_found g.fences proper.once (proper.level p) k (slice_index_or list k None) lt here in
    (long, found.0, found.1)

seam_at : (before : List GItem) (i : GItem) (after : List GItem) → slice_get (before ++ i ∷ after) (length before) ≡ Some i
seam_at [] i after = refl
seam_at (x ∷ xs) i after = seam_at xs i after

-- the item at a group's beginning is its left fence
left_at : {fs : List (ℕ × ℕ)} {is : List GItem} {k m l : ℕ} {inside : List GItem} {r : ℕ} → GroupAt fs is k m l inside r → slice_get is k ≡ Some (Fixed (l ∷ []))
left_at {k = k} {l = l} {inside = inside} {r = r} a = ap (λ (x : List GItem). slice_get x k) a.split ∙ ap (λ (n : ℕ). slice_get (a.before ++ grouped l inside r a.after) n) a.place ∙ seam_at a.before (Fixed (l ∷ [])) (inside ++ Fixed (r ∷ []) ∷ a.after)

-- what stands in the middle of three lists
at_middle : {A : Type 0} (xs ys zs : List A) (k : ℕ) (x : A) → slice_get (xs ++ (ys ++ zs)) k ≡ Some x → length xs ≤ k → k < length xs + length ys → (j : ℕ) × (k ≡ length xs + j) × (slice_get ys j ≡ Some x)
at_middle xs ys zs k x at low high =
    elim (get_of_two xs (ys ++ zs) k x at) [
      | inl early ↦ let lt = slice_get_within xs k x early in absurd (omega arith)
      | inr h ↦ elim (get_of_two ys zs h.0 x h.2) [
        | inl here ↦ (h.0, h.1, here)
        | inr late ↦ absurd (omega (arith, h.1, late.1))
      ]
    ]

module _ (fs : List (ℕ × ℕ)) (once : IsDistinct (fence_symbols fs)) where
  -- a left fence has one partner
  pub partner_once : {is : List GItem} {k m n : ℕ} → IsPartner fs is k m → IsPartner fs is k n → m ≡ n
  partner_once p q = some_one (some_one (sym (group_partner fs once p.group) ∙ group_partner fs once q.group))

  -- it is listed
  pub partner_listed : {is : List GItem} {k m : ℕ} (list : List (Option ℕ)) → list ≡ partners fs 0 is → IsPartner fs is k m → slice_index_or list k None ≡ Some m
  partner_listed {is} {k} {m} list e p = ap (λ (l : List (Option ℕ)). slice_index_or l k None) e ∙ get_or_from_slice_get (partners fs 0 is) k (Some m) None (group_partner fs once p.group)

  -- a left fence in a level part of a stretch has its partner in that part
  pub partner_in : {is : List GItem} (head part more : List GItem) {k m : ℕ} → is ≡ head ++ (part ++ more) → IsLevel fs part → IsPartner fs is k m → length head ≤ k → k < length head + length part → (n : ℕ) × IsPartner fs is k n × (n < length head + length part)
  partner_in {is} head part more {k} split level p low high =
      let at : slice_get (head ++ (part ++ more)) k ≡ Some (Fixed (p.left ∷ [])) = sym (ap (λ (x : List GItem). slice_get x k) split) ∙ left_at p.group in
      let place = at_middle head part more k (Fixed (p.left ∷ [])) at low high in
      let h = has_partner fs once level place.0 (Fixed (p.left ∷ [])) place.2 (is_left_of p.group.fence) in
      let within = (group_opened h.1.group).2 in
      (length head + h.0, partner_moved split place.1 (partner_within head more h.1), omega (arith, within))
