-- Where the items and groups of rules are found in how a component is laid.
use Rattle.std.proofs.Common.{◌≡◌, ◌⊎◌, ℕ, zero, suc, ◌+◌, ◌-◌, ◌<◌, ◌≤◌, ◌==◌, eqb-true, Bool, true, false, if◌then◌else◌, List, [], ◌∷◌, ◌++◌, length, refl, sym, ap, subst, ◌∙◌, inl, inr, arith, length-append}
use Rattle.std.proofs.lemmas.Bool.{cases_lt}
use Rattle.xs_class.proofs.Lists.{cons_parts}
use Rattle.xs_class.proofs.Truth.{false_true, eq_self, if_true, if_false}
use Rattle.xs_loose.proofs.Among.{Among}
use Rattle.xs_gram.specs.declared.parts.GItem.{GItem}
use Rattle.xs_gram.specs.declared.parts.GItem.TheVariants.{Fixed, Non}
use Rattle.xs_gram.specs.Grammar.{Grammar, rule_of}
use Rattle.xs_gram.specs.Laws.{IsDistinct}
use Rattle.xs_gram.specs.Fences.{fence_symbols, spread, IsFence, IsPlain, IsLevel, level_none, level_then, level_group, grouped, OuterAt, GroupAt, OuterGroupAt}
use Rattle.xs_gram.specs.Loose.{AreOne, IsMember}
use Rattle.xs_gram.proofs.Levels.{no_group, plain_not_group, group_more, level_tail, level_once, outer_none, outer_then, outer_group, group_opened}
use Rattle.xs_check_laws.specs.Weights.{Members, no_member, member_next, other_next}
use Rattle.xs_loose.specs.Arcs.{Arc, pass, call}
use Rattle.xs_loose.specs.Groups.{group_number}
use Rattle.xs_loose.specs.Laying.{entry_state, exit_state, LaysItem, LaysRules, lays_no_rule, lays_rule, lays_other_rule, LaysBody, lays_no_body, lays_member, lays_other, lays_group}
use Rattle.xs_loose.proofs.Along.{Within, within_all, within_as, within_on, within_left, within_right, within_first, within_rest}

-- members are also counted below each smaller bound
pub members_below : {g : Grammar} {c bound count : ℕ} → Members g c bound count → (n : ℕ) → n ≤ bound → (k : ℕ) × Members g c n k
members_below {g} {c} no_member n lt = let e : 0 ≡ n = omega arith in (0, subst (λ (m : ℕ). Members g c m 0) e no_member)
members_below {g} {c} (member_next {n = b} {k = j} a m) n lt = by_case (cases_lt n (suc b)) (λ low. members_below m n low)
  where
    by_case : (n < suc b) ⊎ (suc b ≤ n) → (n ≤ b → (k : ℕ) × Members g c n k) → (k : ℕ) × Members g c n k
    by_case (inl low) deeper = deeper (omega arith)
    by_case (inr high) deeper = let e : suc b ≡ n = omega arith in (suc j, subst (λ (x : ℕ). Members g c x (suc j)) e (member_next a m))
members_below {g} {c} (other_next {n = b} {k = j} a m) n lt = by_case (cases_lt n (suc b)) (λ low. members_below m n low)
  where
    by_case : (n < suc b) ⊎ (suc b ≤ n) → (n ≤ b → (k : ℕ) × Members g c n k) → (k : ℕ) × Members g c n k
    by_case (inl low) deeper = deeper (omega arith)
    by_case (inr high) deeper = let e : suc b ≡ n = omega arith in (j, subst (λ (x : ℕ). Members g c x j) e (other_next a m))

-- outer groups of a stretch that begins with a plain item
pub outer_group_none : {fs : List (ℕ × ℕ)} {j m l : ℕ} {inside : List GItem} {r : ℕ} → OuterGroupAt fs [] j m l inside r → ⊥
outer_group_none {l = l} {inside = inside} {r = r} o = none o.group.before o.group.split
  where
    none : (before : List GItem) → [] ≡ before ++ grouped l inside r o.group.after → ⊥
    none [] e = cc
    none (x ∷ b) e = cc

-- an outer group, later in a stretch
pub record LaterGroup (fs : List (ℕ × ℕ)) (is : List GItem) (skipped j m l : ℕ) (inside : List GItem) (r : ℕ) : Type 0 where
  pub place : ℕ
  pub partner : ℕ
  pub is_place : j ≡ skipped + place
  pub is_partner : m ≡ skipped + partner
  pub group : OuterGroupAt fs is place partner l inside r

pub outer_group_then : {fs : List (ℕ × ℕ)} {i : GItem} {is : List GItem} {j m l : ℕ} {inside : List GItem} {r : ℕ} → IsPlain fs i → OuterGroupAt fs (i ∷ is) j m l inside r → LaterGroup fs is 1 j m l inside r
outer_group_then {fs} {i} {is} {j} {m} {l} {inside} {r} plain o = by_front o.group.before o.group.after o.group.split o.level o.group.place
  where
    by_front : (before after : List GItem) → i ∷ is ≡ before ++ grouped l inside r after → IsLevel fs before → j ≡ length before → LaterGroup fs is 1 j m l inside r
    by_front [] after e level place = absurd (plain_not_group o.group.fence plain e)
    by_front (x ∷ before) after e level place =
        let c = cons_parts e in
        let tail = level_tail (subst (λ (y : GItem). IsPlain fs y) c.0 plain) level in
        record { place = length before; partner = suc (length before + length inside); is_place = omega (arith, place); is_partner = omega (arith, place, o.group.partner); group = record { group = record { before = before; after = after; split = c.1; fence = o.group.fence; within = o.group.within; place = refl; partner = refl }; level = tail } }

-- of a stretch that begins with a group an outer group is that one, or a later one
pub outer_group_after : {fs : List (ℕ × ℕ)} {a b : ℕ} {first later is : List GItem} {j m l : ℕ} {inside : List GItem} {r : ℕ} → IsDistinct (fence_symbols fs) → IsFence fs a b → IsLevel fs first → is ≡ grouped a first b later → OuterGroupAt fs is j m l inside r → ((j ≡ 0) × (m ≡ suc (length first))) ⊎ LaterGroup fs later (suc (suc (length first))) j m l inside r
outer_group_after {fs} {a} {b} {first} {later} {is} {j} {m} {l} {inside} {r} once f level e o = by_front o.group.before o.group.after o.level o.group.split o.group.place
  where
    by_front : (before after : List GItem) → IsLevel fs before → is ≡ before ++ grouped l inside r after → j ≡ length before → ((j ≡ 0) × (m ≡ suc (length first))) ⊎ LaterGroup fs later (suc (suc (length first))) j m l inside r
    by_front [] after level_none h place =
        let same = level_once fs once o.group.within level o.group.fence f (cons_parts (sym h ∙ e)).1 in
        inl (place, omega (arith, place, o.group.partner, ap length same.inside))
    by_front [] after (level_group q u t split) h place = absurd (no_group split)
    by_front (x ∷ before) after (level_then plain t) h place = absurd (plain_not_group f plain (sym h ∙ e))
    by_front (x ∷ before) after (level_group {l = d} {r = s} {inside = inner} {after = rest} q u t split) h place =
        let opened : grouped a first b later ≡ grouped d inner s (rest ++ grouped l inside r after) = sym e ∙ h ∙ ap (λ (y : List GItem). y ++ grouped l inside r after) split ∙ group_more d inner s rest (grouped l inside r after) in
        let same = level_once fs once level u f q (cons_parts opened).1 in
        let long : length (x ∷ before) ≡ suc (suc (length first + length rest)) = ap length split ∙ omega (arith, length-append inner (Fixed (s ∷ []) ∷ rest), ap length same.inside) in
        inr record { place = length rest; partner = suc (length rest + length inside); is_place = omega (arith, place, long); is_partner = omega (arith, place, long, o.group.partner); group = record { group = record { before = rest; after = after; split = same.after; fence = o.group.fence; within = o.group.within; place = refl; partner = refl }; level = t } }

-- two groups that begin at one place are the same
pub record SameGroup (l m : ℕ) (a b : List GItem) (r s : ℕ) : Type 0 where
  pub left : l ≡ m
  pub inside : a ≡ b
  pub right : r ≡ s

left_same : {l m : ℕ} {x y : List GItem} → Fixed (l ∷ []) ∷ x ≡ Fixed (m ∷ []) ∷ y → l ≡ m
left_same e = cc

pub group_once : {fs : List (ℕ × ℕ)} {is : List GItem} {k n q l m : ℕ} {a b : List GItem} {r s : ℕ} → IsDistinct (fence_symbols fs) → GroupAt fs is k n l a r → GroupAt fs is k q m b s → SameGroup l m a b r s
group_once {fs} once x y =
    let e = sym (group_opened x).0 ∙ (group_opened y).0 in
    let same = level_once fs once x.within y.within x.fence y.fence (cons_parts e).1 in
    record { left = left_same e; inside = same.inside; right = same.right }

-- The states of the places of a body, by their distance from its first item: before an outer item or
-- a group, or at the end.
abbrev pub body_state : {g : Grammar} {c first p k before at after next : ℕ} {is : List GItem} {arcs : List Arc} → LaysBody g c first p k is before at arcs after next → ℕ → ℕ
body_state (lays_no_body {before = b}) j = b
body_state (lays_member {before = b} o m rest e) zero = b
body_state (lays_member o m rest e) (suc j) = body_state rest j
body_state (lays_other {before = b} p a i rest e) zero = b
body_state (lays_other p a i rest e) (suc j) = body_state rest j
body_state (lays_group {before = b} f l rest s e) zero = b
body_state (lays_group {inside = inside} f l rest s e) (suc j) = body_state rest (j - suc (length inside))

pub body_first : {g : Grammar} {c first p k before at after next : ℕ} {is : List GItem} {arcs : List Arc} (d : LaysBody g c first p k is before at arcs after next) → body_state d 0 ≡ before
body_first lays_no_body = refl
body_first (lays_member o m rest e) = refl
body_first (lays_other p a i rest e) = refl
body_first (lays_group f l rest s e) = refl

pub body_last : {g : Grammar} {c first p k before at after next : ℕ} {is : List GItem} {arcs : List Arc} (d : LaysBody g c first p k is before at arcs after next) → body_state d (length is) ≡ after
body_last lays_no_body = refl
body_last (lays_member o m rest e) = body_last rest
body_last (lays_other p a i rest e) = body_last rest
body_last {is = is} (lays_group {l = l} {r = r} {inside = inside} {later = later} f v rest s e) =
    let long : length is ≡ suc (suc (length inside + length later)) = ap length s ∙ omega (arith, length-append inside (Fixed (r ∷ []) ∷ later)) in
    let past : suc (length inside + length later) - suc (length inside) ≡ length later = omega arith in
    ap (λ (n : ℕ). body_state (lays_group {inside = inside} f v rest s e) n) long ∙ ap (λ (n : ℕ). body_state rest n) past ∙ body_last rest

-- An outer item that is found in a body, between two states: a member, with the moves to its entry and
-- from its exit, or another item that is laid whole.
pub data ItemFound (g : Grammar) (c first : ℕ) (arcs : List Arc) (i : GItem) (s t : ℕ) : Type 0 where
  found_member : {n slot j : ℕ} → i ≡ Non n slot → AreOne g c n → Members g c n j → Among arcs (pass s (entry_state first j)) → Among arcs (pass (exit_state first j) t) → ItemFound g c first arcs i s t
  found_other : {at next : ℕ} {own : List Arc} → (IsMember g c i → ⊥) → LaysItem g i s at own t next → Within own arcs → ItemFound g c first arcs i s t

pub found_moved : {g : Grammar} {c first : ℕ} {own arcs : List Arc} {i : GItem} {s t a b : ℕ} → Within own arcs → s ≡ a → t ≡ b → ItemFound g c first own i s t → ItemFound g c first arcs i a b
found_moved {g} {c} {first} {own} {arcs} {i} {s} {t} {a} {b} h p q f = subst (λ (n : ℕ). ItemFound g c first arcs i n b) p (subst (λ (n : ℕ). ItemFound g c first arcs i s n) q (wider f))
  where
    wider : ItemFound g c first own i s t → ItemFound g c first arcs i s t
    wider (found_member e o m x y) = found_member e o m (h.each _ x) (h.each _ y)
    wider (found_other a l w) = found_other a l (within_on w h)

-- a group that is found in a body, between two states
pub record GroupFound (arcs : List Arc) (h s t : ℕ) : Type 0 where
  pub middle : ℕ
  pub enter : Among arcs (call s h middle)
  pub leave : Among arcs (pass middle t)

pub group_moved : {own arcs : List Arc} {h k s t a b : ℕ} → Within own arcs → h ≡ k → s ≡ a → t ≡ b → GroupFound own h s t → GroupFound arcs k a b
group_moved {own} {arcs} {h} {k} {s} {t} {a} {b} w e p q f = record {
  middle = f.middle;
  enter = w.each _ (subst (λ (n : ℕ). Among own (call n k f.middle)) p (subst (λ (n : ℕ). Among own (call s n f.middle)) e f.enter));
  leave = w.each _ (subst (λ (n : ℕ). Among own (pass f.middle n)) q f.leave);
}

own_arcs : {own arcs : List Arc} → arcs ≡ own → Within own arcs
own_arcs e = within_as e within_all

module _ (g : Grammar) (once : IsDistinct (fence_symbols g.fences)) where
  pub item_found : {c first p k before at after next j : ℕ} {is : List GItem} {arcs : List Arc} {i : GItem} (d : LaysBody g c first p k is before at arcs after next) → OuterAt g.fences is j i → ItemFound g c first arcs i (body_state d j) (body_state d (suc j))
  item_found lays_no_body o = absurd (outer_none o)
  item_found {c = c} {first = first} {at = at} {j = j} {arcs = arcs} {i = i} (lays_member {n = n} {s = s} {j = count} {before = b} {is = js} {rest = more} one m rest e) o =
      elim (outer_then {i = Non n s} tt o) [
        | inl h ↦
            let own : Within (pass b (entry_state first count) ∷ pass (exit_state first count) at ∷ more) arcs = own_arcs e in
            let here : ItemFound g c first arcs i b at = found_member (sym h.1) one m (within_first own) (within_first (within_rest own)) in
            subst (λ (x : ℕ). ItemFound g c first arcs i (body_state (lays_member {s = s} one m rest e) x) (body_state (lays_member {s = s} one m rest e) (suc x))) (sym h.0) (found_moved within_all refl (sym (body_first rest)) here)
        | inr h ↦
            let deeper = item_found rest h.2 in
            subst (λ (x : ℕ). ItemFound g c first arcs i (body_state (lays_member {s = s} one m rest e) x) (body_state (lays_member {s = s} one m rest e) (suc x))) (sym h.1) (found_moved (within_rest (within_rest (own_arcs e))) refl refl deeper)
      ]
  item_found {c = c} {first = first} {arcs = arcs} {i = i} (lays_other {before = b} {between = between} {i = x} {own = own} {rest = more} plain apart lays rest e) o =
      elim (outer_then plain o) [
        | inl h ↦
            let here : ItemFound g c first arcs x b between = found_other apart lays (within_left own more (own_arcs e)) in
            subst (λ (y : ℕ). ItemFound g c first arcs i (body_state (lays_other plain apart lays rest e) y) (body_state (lays_other plain apart lays rest e) (suc y))) (sym h.0) (found_moved within_all refl (sym (body_first rest)) (subst (λ (y : GItem). ItemFound g c first arcs y b between) h.1 here))
        | inr h ↦
            let deeper = item_found rest h.2 in
            subst (λ (y : ℕ). ItemFound g c first arcs i (body_state (lays_other plain apart lays rest e) y) (body_state (lays_other plain apart lays rest e) (suc y))) (sym h.1) (found_moved (within_right own (own_arcs e)) refl refl deeper)
      ]
  item_found {c = c} {first = first} {p = p} {k = k} {at = at} {arcs = arcs} {i = i} (lays_group {before = b} {inside = inside} {rest = more} f level rest s e) o =
      let h = outer_group once f level s o in
      let deeper = item_found rest h.2 in
      let here : suc (length inside + h.0) - suc (length inside) ≡ h.0 = omega arith in
      let onward : suc (suc (length inside + h.0)) - suc (length inside) ≡ suc h.0 = omega arith in
      subst (λ (y : ℕ). ItemFound g c first arcs i (body_state (lays_group f level rest s e) y) (body_state (lays_group f level rest s e) (suc y))) (sym h.1) (found_moved (within_rest (within_rest (own_arcs e))) (ap (λ (n : ℕ). body_state rest n) (sym here)) (ap (λ (n : ℕ). body_state rest n) (sym onward)) deeper)

  pub group_found : {c first p k before at after next j m l r : ℕ} {is inside : List GItem} {arcs : List Arc} (d : LaysBody g c first p k is before at arcs after next) → OuterGroupAt g.fences is j m l inside r → GroupFound arcs (group_number g p (k + j)) (body_state d j) (body_state d (suc m))
  group_found lays_no_body o = absurd (outer_group_none o)
  group_found {first = first} {p = p} {k = k} {at = at} {j = j} {m = m} {arcs = arcs} (lays_member {n = n} {s = s} {j = count} {before = b} {rest = more} one v rest e) o =
      let h = outer_group_then {i = Non n s} tt o in
      let deeper = group_found rest h.group in
      let d : ℕ → ℕ = body_state (lays_member {s = s} one v rest e) in
      let from : j ≡ suc h.place = omega (arith, h.is_place) in
      let to : m ≡ suc h.partner = omega (arith, h.is_partner) in
      group_moved (within_rest (within_rest (own_arcs e))) (ap (λ (x : ℕ). group_number g p x) (omega (arith, h.is_place))) (ap d (sym from)) (ap (λ (x : ℕ). d (suc x)) (sym to)) deeper
  group_found {p = p} {j = j} {m = m} {arcs = arcs} (lays_other {own = own} {rest = more} plain apart lays rest e) o =
      let h = outer_group_then plain o in
      let deeper = group_found rest h.group in
      let d : ℕ → ℕ = body_state (lays_other plain apart lays rest e) in
      let from : j ≡ suc h.place = omega (arith, h.is_place) in
      let to : m ≡ suc h.partner = omega (arith, h.is_partner) in
      group_moved (within_right own (own_arcs e)) (ap (λ (x : ℕ). group_number g p x) (omega (arith, h.is_place))) (ap d (sym from)) (ap (λ (x : ℕ). d (suc x)) (sym to)) deeper
  group_found {p = p} {k = k} {at = at} {j = j} {m = m} {arcs = arcs} (lays_group {before = b} {inside = inner} {rest = more} f level rest s e) o =
      elim (outer_group_after once f level s o) [
        | inl h ↦
            let d : ℕ → ℕ = body_state (lays_group f level rest s e) in
            let own : Within (call b (group_number g p k) at ∷ pass at (suc at) ∷ more) arcs = own_arcs e in
            let same : k ≡ k + j = omega (arith, h.0) in
            let out : suc at ≡ d (suc (suc (length inner))) = sym (ap (λ (n : ℕ). body_state rest n) (end (length inner)) ∙ body_first rest) in
            let here : GroupFound arcs (group_number g p k) b (suc at) = record { middle = at; enter = within_first own; leave = within_first (within_rest own) } in
            group_moved within_all (ap (λ (x : ℕ). group_number g p x) same) (ap d (sym h.0)) (out ∙ ap (λ (x : ℕ). d (suc x)) (sym h.1)) here
        | inr h ↦
            let d : ℕ → ℕ = body_state (lays_group f level rest s e) in
            let deeper = group_found rest h.group in
            let start : suc (length inner + h.place) - suc (length inner) ≡ h.place = omega arith in
            let from : j ≡ suc (suc (length inner + h.place)) = omega (arith, h.is_place) in
            let to : m ≡ suc (suc (length inner + h.partner)) = omega (arith, h.is_partner) in
            let stop : suc (suc (length inner + h.partner)) - suc (length inner) ≡ suc h.partner = omega arith in
            group_moved (within_rest (within_rest (own_arcs e))) (ap (λ (x : ℕ). group_number g p x) (omega (arith, h.is_place))) (ap (λ (n : ℕ). body_state rest n) (sym start) ∙ ap d (sym from)) (ap (λ (n : ℕ). body_state rest n) (sym stop) ∙ ap (λ (x : ℕ). d (suc x)) (sym to)) deeper
      ]
    where
      end : (n : ℕ) → suc n - suc n ≡ 0
      end n = omega arith

-- the states of the places of the rules, by the rule
abbrev pub rule_state : {g : Grammar} {c first bound at next : ℕ} {arcs : List Arc} → LaysRules g c first bound at arcs next → ℕ → ℕ → ℕ
rule_state lays_no_rule q k = 0
rule_state (lays_rule {p = p} one m rest body e) q k = if q == p then body_state body k else rule_state rest q k
rule_state (lays_other_rule a rest) q k = rule_state rest q k

-- a rule that is found
pub record RuleFound (g : Grammar) (c first : ℕ) (arcs : List Arc) (q : ℕ) (state : ℕ → ℕ) : Type 0 where
  pub count : ℕ
  pub place : ℕ
  pub last : ℕ
  pub next : ℕ
  pub own : List Arc
  pub members : Members g c (rule_of g q).non count
  pub body : LaysBody g c first q 0 (spread g q) place (suc place) own last next
  pub same : (k : ℕ) → state k ≡ body_state body k
  pub start : Among arcs (pass (entry_state first count) place)
  pub within : Within own arcs
  pub end : Among arcs (pass last (exit_state first count))

rule_moved : {g : Grammar} {c first q : ℕ} {own arcs : List Arc} {a b : ℕ → ℕ} → Within own arcs → ((k : ℕ) → b k ≡ a k) → RuleFound g c first own q a → RuleFound g c first arcs q b
rule_moved w e f = record { count = f.count; place = f.place; last = f.last; next = f.next; own = f.own; members = f.members; body = f.body; same = λ k. e k ∙ f.same k; start = w.each _ f.start; within = within_on f.within w; end = w.each _ f.end }

pub rule_found : {g : Grammar} {c first bound at next : ℕ} {arcs : List Arc} (d : LaysRules g c first bound at arcs next) → (q : ℕ) → q < bound → AreOne g c (rule_of g q).non → RuleFound g c first arcs q (rule_state d q)
rule_found lays_no_rule q lt own = absurd (omega arith)
rule_found {g} {c} {first} {arcs = arcs} (lays_rule {p = p} {k = count} {place = place} {last = last} {next = next} {before = before} {own = within} one m rest body e) q lt is = rule_moved within_all (λ k. refl) (by_case (q == p) refl (λ low. rule_found rest q low is))
  where
    later : Within (pass (entry_state first count) place ∷ (within ++ pass last (exit_state first count) ∷ [])) arcs
    later = within_right before (own_arcs e)

    ending : Within (within ++ pass last (exit_state first count) ∷ []) arcs
    ending = within_rest later

    here : RuleFound g c first arcs p (λ k. if p == p then body_state body k else rule_state rest p k)
    here = record { count = count; place = place; last = last; next = next; own = within; members = m; body = body; same = λ k. if_true (p == p) (body_state body k) (rule_state rest p k) (eq_self p); start = within_first later; within = within_left within (pass last (exit_state first count) ∷ []) ending; end = within_first (within_right within ending) }

    by_case : (b : Bool) → (q == p) ≡ b → (q < p → RuleFound g c first (before) q (rule_state rest q)) → RuleFound g c first arcs q (λ k. if q == p then body_state body k else rule_state rest q k)
    by_case true same deeper = subst (λ (n : ℕ). RuleFound g c first arcs n (λ k. if n == p then body_state body k else rule_state rest n k)) (sym (eqb-true q p same)) here
    by_case false other deeper = rule_moved (within_left before (pass (entry_state first count) place ∷ (within ++ pass last (exit_state first count) ∷ [])) (own_arcs e)) (λ k. if_false (q == p) (body_state body k) (rule_state rest q k) other) (deeper (below other))
      where
        below : (q == p) ≡ false → q < p
        below unequal = elim (cases_lt q p) [ inl low ↦ low | inr high ↦ absurd (let same : q ≡ p = omega arith in false_true (sym unequal ∙ ap (λ (n : ℕ). q == n) (sym same) ∙ eq_self q)) ]
rule_found {g} {c} (lays_other_rule {p = p} a rest) q lt is =
    elim (cases_lt q p) [
      | inl low ↦ rule_found rest q low is
      | inr high ↦ let e : q ≡ p = omega arith in absurd (a (subst (λ (n : ℕ). AreOne g c (rule_of g n).non) e is))
    ]
