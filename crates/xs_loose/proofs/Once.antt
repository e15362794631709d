-- A stretch is laid in one way: the arcs, the state after it and the next free one are fixed.
use Rattle.std.proofs.Common.{◌≡◌, ℕ, suc, ◌+◌, ◌*◌, List, [], ◌∷◌, ◌++◌, length, refl, sym, ap, subst, ◌∙◌}
use Rattle.xs_class.proofs.Lists.{cons_parts}
use Rattle.xs_gram.specs.declared.parts.GItem.{GItem}
use Rattle.xs_gram.specs.declared.parts.GItem.TheVariants.{Fixed, Non}
use Rattle.xs_gram.specs.Grammar.{Grammar}
use Rattle.xs_gram.specs.Laws.{IsDistinct}
use Rattle.xs_gram.specs.Fences.{fence_symbols, spread}
use Rattle.xs_gram.specs.Loose.{IsMember}
use Rattle.xs_gram.proofs.Levels.{no_group, plain_not_group}
use Rattle.xs_check_laws.specs.Weights.{Members}
use Rattle.xs_check_laws.proofs.Weights.{members_once, groups_once}
use Rattle.xs_loose.specs.Arcs.{Arc, pass, call}
use Rattle.xs_loose.specs.Laying.{entry_state, exit_state, LaysItem, lays_fixed, lays_term, lays_skip, lays_non, LaysComponent, lays_component, LaysRules, lays_no_rule, lays_rule, lays_other_rule, LaysBody, lays_no_body, lays_member, lays_other, lays_group, LaysPart, part_none, part_then, part_group}

-- the same arcs, state after and next state
pub record AreSame (xs ys : List Arc) (s t m n : ℕ) : Type 0 where
  pub arcs : xs ≡ ys
  pub after : s ≡ t
  pub next : m ≡ n

pub non_fixed : {n s l : ℕ} → Non n s ≡ Fixed (l ∷ []) → ⊥
non_fixed e = cc

pub non_named : {m n s t : ℕ} → Non m s ≡ Non n t → m ≡ n
non_named e = cc

join : {xs ys us vs zs ws : List Arc} → zs ≡ xs ++ ys → ws ≡ us ++ vs → xs ≡ us → ys ≡ vs → zs ≡ ws
join e h p q = cc

called : {b s h : ℕ} {xs ys zs ws : List Arc} → zs ≡ call b h s ∷ pass s (suc s) ∷ xs → ws ≡ call b h s ∷ pass s (suc s) ∷ ys → xs ≡ ys → zs ≡ ws
called e h p = cc

entered : (first : ℕ) {b j k s : ℕ} {xs ys zs ws : List Arc} → zs ≡ pass b (entry_state first j) ∷ pass (exit_state first j) s ∷ xs → ws ≡ pass b (entry_state first k) ∷ pass (exit_state first k) s ∷ ys → j ≡ k → xs ≡ ys → zs ≡ ws
entered first e h p q = cc

begun : (first : ℕ) {b j k : ℕ} {xs ys zs ws : List Arc} → zs ≡ pass b (entry_state first j) ∷ xs → ws ≡ pass b (entry_state first k) ∷ ys → j ≡ k → xs ≡ ys → zs ≡ ws
begun first e h p q = cc

ruled : (first : ℕ) {j k s t l m : ℕ} {xs ys us vs zs ws : List Arc} → zs ≡ xs ++ pass (entry_state first j) s ∷ (us ++ pass l (exit_state first j) ∷ []) → ws ≡ ys ++ pass (entry_state first k) t ∷ (vs ++ pass m (exit_state first k) ∷ []) → xs ≡ ys → us ≡ vs → j ≡ k → s ≡ t → l ≡ m → zs ≡ ws
ruled first e h p q r u v = cc

exits : (first : ℕ) {j k s t : ℕ} → s ≡ exit_state first j → t ≡ exit_state first k → j ≡ k → s ≡ t
exits first e h p = cc

module _ (g : Grammar) (once : IsDistinct (fence_symbols g.fences)) where
  mutual
    pub item_once : {i : GItem} {b at t u m n : ℕ} {xs ys : List Arc} → LaysItem g i b at xs t m → LaysItem g i b at ys u n → AreSame xs ys t u m n
    item_once (lays_fixed e p q) (lays_fixed h r s) = record { arcs = e ∙ sym h; after = p ∙ sym r; next = q ∙ sym s }
    item_once (lays_term e p q) (lays_term h r s) = record { arcs = e ∙ sym h; after = p ∙ sym r; next = q ∙ ap suc (p ∙ sym r) ∙ sym s }
    item_once (lays_skip e p q) (lays_skip h r s) = record { arcs = e ∙ sym h; after = p ∙ sym r; next = q ∙ ap suc (p ∙ sym r) ∙ sym s }
    item_once {at = at} (lays_non k own e p) (lays_non j other h q) =
        let rank = members_once k j in
        let inner = component_once own other in
        record { arcs = begun at e h rank inner.0; after = exits at p q rank; next = inner.1 }

    pub component_once : {c first m n : ℕ} {xs ys : List Arc} → LaysComponent g c first xs m → LaysComponent g c first ys n → (xs ≡ ys) × (m ≡ n)
    component_once {c} {first} {n = n} {ys = ys} (lays_component ms own) (lays_component ls other) =
        let at = ap (λ (k : ℕ). first + 2 * k) (members_once ms ls) in
        rules_once own (subst (λ (s : ℕ). LaysRules g c first (length g.rules) s ys n) (sym at) other)

    pub rules_once : {c first p at m n : ℕ} {xs ys : List Arc} → LaysRules g c first p at xs m → LaysRules g c first p at ys n → (xs ≡ ys) × (m ≡ n)
    rules_once lays_no_rule lays_no_rule = (refl, refl)
    rules_once {c} {first} {n = n} (lays_rule {p = p} {place = place} one k prev own e) (lays_rule {place = place'} {last = last'} {own = arcs'} one' k' prev' own' e') =
        let before = rules_once prev prev' in
        let body = body_once own (subst (λ (s : ℕ). LaysBody g c first p 0 (spread g p) s (suc s) arcs' last' n) (sym before.1) own') refl in
        (ruled first e e' before.0 body.arcs (members_once k k') before.1 body.after, body.next)
    rules_once (lays_rule one k prev own e) (lays_other_rule out prev') = absurd (out one)
    rules_once (lays_other_rule out prev) (lays_rule one k prev' own e) = absurd (out one)
    rules_once (lays_other_rule out prev) (lays_other_rule out' prev') = rules_once prev prev'

    body_once : {c first p k b at t u m n : ℕ} {is js : List GItem} {xs ys : List Arc} → LaysBody g c first p k is b at xs t m → LaysBody g c first p k js b at ys u n → is ≡ js → AreSame xs ys t u m n
    body_once lays_no_body lays_no_body s = record { arcs = refl; after = refl; next = refl }
    body_once lays_no_body (lays_member o j y h) s = absurd cc
    body_once lays_no_body (lays_other p x i y h) s = absurd cc
    body_once lays_no_body (lays_group f i b split e) s = absurd (no_group (s ∙ split))
    body_once (lays_member o j y h) lays_no_body s = absurd cc
    body_once {c} {first} (lays_member {n = n} o j y h) (lays_member {j = rank'} o' j' y' h') s =
        let named = non_named (cons_parts s).0 in
        let own = body_once y y' (cons_parts s).1 in
        record { arcs = entered first h h' (members_once j (subst (λ (x : ℕ). Members g c x rank') (sym named) j')) own.arcs; after = own.after; next = own.next }
    body_once {c} (lays_member o j y h) (lays_other p x i y' h') s = absurd (x (subst (λ (z : GItem). IsMember g c z) (cons_parts s).0 o))
    body_once (lays_member o j y h) (lays_group f l y' split h') s = absurd (non_fixed (cons_parts (s ∙ split)).0)
    body_once (lays_other p x i y h) lays_no_body s = absurd cc
    body_once {c} (lays_other p x i y h) (lays_member o j y' h') s = absurd (x (subst (λ (z : GItem). IsMember g c z) (sym (cons_parts s).0) o))
    body_once {c} {first} {p} {k} {b} {at} {u = u} {n = n} {js = js} (lays_other {then = then1} q x i y h) (lays_other {between = between'} {then = then'} {is = tail'} {own = own'} {rest = rest'} q' x' i' y' h') s =
        let item = item_once i (subst (λ (z : GItem). LaysItem g z b at own' between' then') (sym (cons_parts s).0) i') in
        let rest = body_once y (subst (λ (z : ℕ). LaysBody g c first p (suc k) tail' z then1 rest' u n) (sym item.after) (subst (λ (z : ℕ). LaysBody g c first p (suc k) tail' between' z rest' u n) (sym item.next) y')) (cons_parts s).1 in
        record { arcs = join h h' item.arcs rest.arcs; after = rest.after; next = rest.next }
    body_once (lays_other p x i y h) (lays_group f l y' split h') s = absurd (plain_not_group f p (s ∙ split))
    body_once (lays_group f l y split h) lays_no_body s = absurd (no_group (sym s ∙ split))
    body_once (lays_group f l y split h) (lays_member o j y' h') s = absurd (non_fixed (cons_parts (sym s ∙ split)).0)
    body_once (lays_group f l y split h) (lays_other p x i y' h') s = absurd (plain_not_group f p (sym s ∙ split))
    body_once {c} {first} {p} {k} {at = at} {u = u} {n = n} (lays_group f l y split h) (lays_group {inside = inside'} {later = later'} {rest = rest'} f' l' y' split' h') s =
        let o = groups_once once f f' l l' split (s ∙ split') in
        let rest = body_once y (subst (λ (z : List GItem). LaysBody g c first p (suc (suc (k + length z))) later' (suc at) (suc (suc at)) rest' u n) (sym o.inside) y') o.after in
        record { arcs = called h h' rest.arcs; after = rest.after; next = rest.next }

  pub part_once : {p k b at t u m n : ℕ} {is js : List GItem} {xs ys : List Arc} → LaysPart g p k is b at xs t m → LaysPart g p k js b at ys u n → is ≡ js → AreSame xs ys t u m n
  part_once part_none part_none s = record { arcs = refl; after = refl; next = refl }
  part_once part_none (part_then p i y h) s = absurd cc
  part_once part_none (part_group f i b split e) s = absurd (no_group (s ∙ split))
  part_once (part_then q i y h) part_none s = absurd cc
  part_once {p} {k} {b} {at} {u = u} {n = n} (part_then {then = then1} q i y h) (part_then {between = between'} {then = then'} {is = tail'} {own = own'} {rest = rest'} q' i' y' h') s =
      let item = item_once i (subst (λ (z : GItem). LaysItem g z b at own' between' then') (sym (cons_parts s).0) i') in
      let rest = part_once y (subst (λ (z : ℕ). LaysPart g p (suc k) tail' z then1 rest' u n) (sym item.after) (subst (λ (z : ℕ). LaysPart g p (suc k) tail' between' z rest' u n) (sym item.next) y')) (cons_parts s).1 in
      record { arcs = join h h' item.arcs rest.arcs; after = rest.after; next = rest.next }
  part_once (part_then p i y h) (part_group f l y' split h') s = absurd (plain_not_group f p (s ∙ split))
  part_once (part_group f l y split h) part_none s = absurd (no_group (sym s ∙ split))
  part_once (part_group f l y split h) (part_then p i y' h') s = absurd (plain_not_group f p (sym s ∙ split))
  part_once {p} {k} {at = at} {u = u} {n = n} (part_group f l y split h) (part_group {inside = inside'} {later = later'} {rest = rest'} f' l' y' split' h') s =
      let o = groups_once once f f' l l' split (s ∙ split') in
      let rest = part_once y (subst (λ (z : List GItem). LaysPart g p (suc (suc (k + length z))) later' (suc at) (suc (suc at)) rest' u n) (sym o.inside) y') o.after in
      record { arcs = called h h' rest.arcs; after = rest.after; next = rest.next }
