-- Laid items, taken apart at their front.
use Rattle.std.proofs.Common.{◌≡◌, ℕ, suc, ◌+◌, List, ◌∷◌, ◌++◌, length, refl, sym, subst, ◌∙◌, None, Some, Option}
use Rattle.xs_class.proofs.Lists.{cons_parts}
use Rattle.xs_gram.specs.declared.parts.GItem.{GItem}
use Rattle.xs_gram.specs.declared.parts.GItem.TheVariants.{Non}
use Rattle.xs_gram.specs.Grammar.{Grammar}
use Rattle.xs_gram.specs.Laws.{IsDistinct}
use Rattle.xs_gram.specs.Fences.{fence_symbols, IsFence, IsPlain, IsLevel, grouped}
use Rattle.xs_gram.specs.Loose.{AreOne, IsMember}
use Rattle.xs_gram.proofs.Levels.{no_group, plain_not_group}
use Rattle.xs_check_laws.specs.Weights.{Members}
use Rattle.xs_loose.specs.declared.site.Home.{Home}
use Rattle.xs_loose.specs.declared.site.Spot.{Spot}
use Rattle.xs_loose.specs.Arcs.{Arc, pass, call}
use Rattle.xs_loose.specs.Groups.{group_number}
use Rattle.xs_loose.specs.Laying.{entry_state, exit_state, LaysItem, LaysBody, lays_no_body, lays_member, lays_other, lays_group, LaysPart, part_none, part_then, part_group}
use Rattle.xs_loose.specs.Walking.{Lays}
use Rattle.xs_check_laws.proofs.Weights.{groups_once}
use Rattle.xs_loose.proofs.Once.{non_fixed, non_named}

-- the item is a member of its home's component
abbrev pub IsOwn : Grammar → Option Home → GItem → Type 0
IsOwn g None i = ⊥
IsOwn g (Some h) i = IsMember g h.non i

-- the first item is laid whole, and then the others
pub record ItemOff (g : Grammar) (home : Option Home) (p k : ℕ) (i : GItem) (is : List GItem) (s : Spot) (all : List Arc) (after end : ℕ) : Type 0 where
  pub own : List Arc
  pub rest : List Arc
  pub next : Spot
  pub item : LaysItem g i s.before s.at own next.before next.at
  pub later : Lays g home p (suc k) is next rest after end
  pub split : all ≡ own ++ rest

-- the first item is a member
pub record MemberOff (g : Grammar) (h : Home) (p k n : ℕ) (is : List GItem) (s : Spot) (all : List Arc) (after end : ℕ) : Type 0 where
  pub rank : ℕ
  pub members : Members g h.non n rank
  pub rest : List Arc
  pub later : LaysBody g h.non h.first p (suc k) is s.at (suc s.at) rest after end
  pub split : all ≡ pass s.before (entry_state h.first rank) ∷ pass (exit_state h.first rank) s.at ∷ rest

-- a group comes first
pub record GroupOff (g : Grammar) (home : Option Home) (p k : ℕ) (inside later : List GItem) (s : Spot) (all : List Arc) (after end : ℕ) : Type 0 where
  pub rest : List Arc
  pub lays : Lays g home p (suc (suc (k + length inside))) later (record { before = suc s.at; at = suc (suc s.at) }) rest after end
  pub split : all ≡ call s.before (group_number g p k) s.at ∷ pass s.at (suc s.at) ∷ rest

module _ (g : Grammar) where
  first_off : (home : Option Home) (p k : ℕ) (i j : GItem) (is js : List GItem) (s next : Spot) (all own rest : List Arc) (after end : ℕ) → j ∷ js ≡ i ∷ is → LaysItem g j s.before s.at own next.before next.at → Lays g home p (suc k) js next rest after end → all ≡ own ++ rest → ItemOff g home p k i is s all after end
  first_off home p k i j is js s next all own rest after end e item later h = record {
    own = own;
    rest = rest;
    next = next;
    item = subst (λ (x : GItem). LaysItem g x s.before s.at own next.before next.at) (cons_parts e).0 item;
    later = subst (λ (xs : List GItem). Lays g home p (suc k) xs next rest after end) (cons_parts e).1 later;
    split = h;
  }

  part_item : {p k : ℕ} {i : GItem} {is js : List GItem} {b at t n : ℕ} {xs : List Arc} → LaysPart g p k js b at xs t n → js ≡ i ∷ is → IsPlain g.fences i → ItemOff g None p k i is (record { before = b; at = at }) xs t n
  part_item part_none e plain = absurd cc
  part_item {p} {k} {i} {is} {b = b} {at = at} {t = t} {n = n} {xs = xs} (part_then {between = between} {then = then} {i = j} {is = js} {own = own} {rest = rest} q item later h) e plain =
      first_off None p k i j is js (record { before = b; at = at }) (record { before = between; at = then }) xs own rest t n e item later h
  part_item (part_group f l later split h) e plain = absurd (plain_not_group f plain (sym e ∙ split))

  body_item : {c first p k : ℕ} {i : GItem} {is js : List GItem} {b at t n : ℕ} {xs : List Arc} → LaysBody g c first p k js b at xs t n → js ≡ i ∷ is → IsPlain g.fences i → (IsMember g c i → ⊥) → ItemOff g (Some (record { non = c; first = first })) p k i is (record { before = b; at = at }) xs t n
  body_item lays_no_body e plain out = absurd cc
  body_item {c} (lays_member one j later h) e plain out = absurd (out (subst (λ (x : GItem). IsMember g c x) (cons_parts e).0 one))
  body_item {c} {first} {p} {k} {i} {is} {b = b} {at = at} {t = t} {n = n} {xs = xs} (lays_other {between = between} {then = then} {i = j} {is = js} {own = own} {rest = rest} q x item later h) e plain out =
      first_off (Some (record { non = c; first = first })) p k i j is js (record { before = b; at = at }) (record { before = between; at = then }) xs own rest t n e item later h
  body_item (lays_group f l later split h) e plain out = absurd (plain_not_group f plain (sym e ∙ split))

  pub item_off : (home : Option Home) (p k : ℕ) (i : GItem) (is : List GItem) (s : Spot) (all : List Arc) (after end : ℕ) → Lays g home p k (i ∷ is) s all after end → IsPlain g.fences i → (IsOwn g home i → ⊥) → ItemOff g home p k i is s all after end
  item_off None p k i is s all after end lays plain out = part_item lays refl plain
  item_off (Some h) p k i is s all after end lays plain out = body_item lays refl plain out

  body_member : {c first p k m s : ℕ} {is js : List GItem} {b at t n : ℕ} {xs : List Arc} → LaysBody g c first p k js b at xs t n → js ≡ Non m s ∷ is → AreOne g c m → MemberOff g (record { non = c; first = first }) p k m is (record { before = b; at = at }) xs t n
  body_member lays_no_body e one = absurd cc
  body_member {c} {first} {p} {k} {at = at} {t = t} {n = n} (lays_member {j = j} {rest = rest} other rank later h) e one =
      let parts = cons_parts e in
      record {
        rank = j;
        members = subst (λ (x : ℕ). Members g c x j) (non_named parts.0) rank;
        rest = rest;
        later = subst (λ (xs : List GItem). LaysBody g c first p (suc k) xs at (suc at) rest t n) parts.1 later;
        split = h;
      }
  body_member {c} (lays_other q x item later h) e one = absurd (x (subst (λ (y : GItem). IsMember g c y) (sym (cons_parts e).0) one))
  body_member (lays_group f l later split h) e one = absurd (non_fixed (cons_parts (sym e ∙ split)).0)

  pub member_off : (h : Home) (p k m slot : ℕ) (is : List GItem) (s : Spot) (all : List Arc) (after end : ℕ) → LaysBody g h.non h.first p k (Non m slot ∷ is) s.before s.at all after end → AreOne g h.non m → MemberOff g h p k m is s all after end
  member_off h p k m slot is s all after end lays one = body_member lays refl one

  module _ (once : IsDistinct (fence_symbols g.fences)) where
    part_group_off : {p k l r : ℕ} {inside later js : List GItem} {b at t n : ℕ} {xs : List Arc} → LaysPart g p k js b at xs t n → IsFence g.fences l r → IsLevel g.fences inside → js ≡ grouped l inside r later → GroupOff g None p k inside later (record { before = b; at = at }) xs t n
    part_group_off part_none f i e = absurd (no_group e)
    part_group_off (part_then q item later h) f i e = absurd (plain_not_group f q e)
    part_group_off {p} {k} {inside = inside} {later = later} {at = at} {t = t} {n = n} (part_group {inside = inner} {later = outer} {rest = rest} f' i' lays split h) f i e =
        let o = groups_once once f' f i' i split e in
        record {
          rest = rest;
          lays = subst (λ (x : List GItem). LaysPart g p (suc (suc (k + length x))) later (suc at) (suc (suc at)) rest t n) o.inside (subst (λ (x : List GItem). LaysPart g p (suc (suc (k + length inner))) x (suc at) (suc (suc at)) rest t n) o.after lays);
          split = h;
        }

    body_group_off : {c first p k l r : ℕ} {inside later js : List GItem} {b at t n : ℕ} {xs : List Arc} → LaysBody g c first p k js b at xs t n → IsFence g.fences l r → IsLevel g.fences inside → js ≡ grouped l inside r later → GroupOff g (Some (record { non = c; first = first })) p k inside later (record { before = b; at = at }) xs t n
    body_group_off lays_no_body f i e = absurd (no_group e)
    body_group_off (lays_member o j later h) f i e = absurd (non_fixed (cons_parts e).0)
    body_group_off (lays_other q x item later h) f i e = absurd (plain_not_group f q e)
    body_group_off {c} {first} {p} {k} {inside = inside} {later = later} {at = at} {t = t} {n = n} (lays_group {inside = inner} {later = outer} {rest = rest} f' i' lays split h) f i e =
        let o = groups_once once f' f i' i split e in
        record {
          rest = rest;
          lays = subst (λ (x : List GItem). LaysBody g c first p (suc (suc (k + length x))) later (suc at) (suc (suc at)) rest t n) o.inside (subst (λ (x : List GItem). LaysBody g c first p (suc (suc (k + length inner))) x (suc at) (suc (suc at)) rest t n) o.after lays);
          split = h;
        }

    pub group_off : (home : Option Home) (p k l r : ℕ) (inside later js : List GItem) (s : Spot) (all : List Arc) (after end : ℕ) → Lays g home p k js s all after end → IsFence g.fences l r → IsLevel g.fences inside → js ≡ grouped l inside r later → GroupOff g home p k inside later s all after end
    group_off None p k l r inside later js s all after end lays f i e = part_group_off lays f i e
    group_off (Some h) p k l r inside later js s all after end lays f i e = body_group_off lays f i e
