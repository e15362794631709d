-- Nets of one stretch, and nests of one grammar, differ in the order of edges alone, so sets that
-- are right for one are right for the other.
use Rattle.std.proofs.Common.{◌≡◌, inl, inr, ℕ, suc, ◌-◌, ◌≤◌, ◌<◌, true, List, length, refl, sym, ap, subst, ◌∙◌, arith, drop, length-drop, Some}
use Rattle.std.specs.List.{Contains, slice_range}
use Rattle.std.proofs.lemmas.List.{length-take, get_or_past}
use Rattle.std.proofs.lemmas.Bool.{cases_lt}
use Rattle.std.proofs.lemmas.Option.{slice_get-get_or, get_or_from_slice_get}
use Rattle.xs_auto.specs.declared.call.Call.{Call}
use Rattle.xs_auto.specs.Edges.{Edge}
use Rattle.xs_auto.specs.Nets.{Graph, states, final_at, edges_of, moves_of, calls_of}
use Rattle.xs_auto.specs.Nests.{Group, group_at, no_group}
use Rattle.xs_gram.specs.declared.parts.GItem.{GItem}
use Rattle.xs_gram.specs.Grammar.{Grammar}
use Rattle.xs_gram.specs.Sound.{IsBuilt}
use Rattle.xs_gram.specs.Fences.{spread}
use Rattle.xs_gram.specs.Cuts.{CutsAt, CutsAreOne}
use Rattle.xs_meet.specs.Closed.{Drifts, Strides, Leads}
use Rattle.xs_loose.specs.Arcs.{Arc, read, pass, call}
use Rattle.xs_loose.specs.Groups.{group_number}
use Rattle.xs_loose.specs.Nets.{IsNumbered, IsGroupOf, IsNestOf}
use Rattle.xs_loose.specs.Laws.{IsLaidOnce}
use Rattle.xs_closed.specs.Rows.{Row, IsSet}
use Rattle.xs_cert_laws.specs.Blocks.{ShowsApart, ShowsClear, AreRuleNets, AreCutNets}
use Rattle.xs_loose.proofs.Finding.{group_once}

-- where the new net leads, the old one does, and it has as many states
pub record Follows (old new : Graph) : Type 0 where
  pub states : states new ≡ states old
  pub start : (a : ℕ) → new.start ≡ Some a → old.start ≡ Some a
  pub finals : (a : ℕ) → final_at new a ≡ true → final_at old a ≡ true
  pub edges : (a : ℕ) (e : Edge) → Contains (edges_of new a) e → Contains (edges_of old a) e
  pub moves : (a b : ℕ) → Contains (moves_of new a) b → Contains (moves_of old a) b
  pub calls : (a : ℕ) (k : Call) → Contains (calls_of new a) k → Contains (calls_of old a) k

pub follows_itself : (n : Graph) → Follows n n
follows_itself n = record { states = refl; start = λ a h. h; finals = λ a h. h; edges = λ a e h. h; moves = λ a b h. h; calls = λ a k h. h }

module _ {m m' n n' : Graph} (f : Follows m m') (k : Follows n n') where
  drifts_as : {a b c d : ℕ} → Drifts m' n' a b c d → Drifts m n a b c d
  drifts_as {a} {b} {c} {d} (inl x) = inl (record { move = f.moves a c x.move; still = x.still })
  drifts_as {a} {b} {c} {d} (inr x) = inr (record { move = k.moves b d x.move; still = x.still })

module _ {R : ℕ → ℕ → Type 0} {m m' n n' : Graph} (f : Follows m m') (k : Follows n n') where
  strides_as : {a b c d : ℕ} → Strides R m' n' a b c d → Strides R m n a b c d
  strides_as {a} {b} (inl (x, r)) = inl (
    x,
    record {
      first = r.first;
      second = r.second;
      of_first = f.edges a r.first r.of_first;
      of_second = k.edges b r.second r.of_second;
      takes_first = r.takes_first;
      takes_second = r.takes_second;
      to_first = r.to_first;
      to_second = r.to_second;
    },
  )
  strides_as {a} {b} (inr (g, h, r)) = inr (
    g,
    h,
    record {
      first = r.first;
      second = r.second;
      of_first = f.calls a r.first r.of_first;
      of_second = k.calls b r.second r.of_second;
      over_first = r.over_first;
      over_second = r.over_second;
      related = r.related;
      to_first = r.to_first;
      to_second = r.to_second;
    },
  )

  leads_as : {a b c d : ℕ} → Leads R m' n' a b c d → Leads R m n a b c d
  leads_as (inl x) = inl (drifts_as f k x)
  leads_as (inr x) = inr (strides_as x)

  pub apart_as : {z : List Row} → ShowsApart R m n z → ShowsApart R m' n' z
  apart_as {z} h = record {
    set = subst (λ (s : ℕ). IsSet s (states n') z) (sym f.states) (subst (λ (s : ℕ). IsSet (states m) s z) (sym k.states) h.set);
    apart = record {
      starts = λ a b x y. h.apart.starts a b (f.start a x) (k.start b y);
      closed = λ a b c d i l. h.apart.closed a b c d i (leads_as l);
      none = λ a b i x y. h.apart.none a b i (f.finals a x) (k.finals b y);
    };
  }

pub clear_as : {R : ℕ → ℕ → Type 0} {f f' e e' : Graph} → Follows f f' → Follows e e' → {z1 z0 z2 z3 : List Row} → ShowsClear R f e z1 z0 z2 z3 → ShowsClear R f' e' z1 z0 z2 z3
clear_as {R} {f} {f'} {e} {e'} x y {z1} {z0} {z2} {z3} h = record {
  set1 = sized z1 x x h.set1;
  set0 = sized z0 x y h.set0;
  set2 = sized z2 x y h.set2;
  set3 = sized z3 y y h.set3;
  clear = record {
    starts = λ a b s t. h.clear.starts a b (x.start a s) (x.start b t);
    closed1 = λ a b c d i l. h.clear.closed1 a b c d i (leads_as x x l);
    to0 = λ a b r i s t. h.clear.to0 a b r i (x.finals a s) (y.start r t);
    drifts0 = λ a b c d i l. h.clear.drifts0 a b c d i (drifts_as x y l);
    to2 = λ a b c d i l. h.clear.to2 a b c d i (strides_as x y l);
    closed2 = λ a b c d i l. h.clear.closed2 a b c d i (leads_as x y l);
    to3 = λ b r s i t u. h.clear.to3 b r s i (x.finals b t) (y.start s u);
    closed3 = λ a b c d i l. h.clear.closed3 a b c d i (leads_as y y l);
    none = λ a b i s t. h.clear.none a b i (y.finals a s) (y.finals b t);
  };
}
  where
    sized : {m m' n n' : Graph} (z : List Row) → Follows m m' → Follows n n' → IsSet (states m) (states n) z → IsSet (states m') (states n') z
    sized {m} {m'} {n} {n'} z s t i = subst (λ (k : ℕ). IsSet k (states n') z) (sym s.states) (subst (λ (k : ℕ). IsSet (states m) k z) (sym t.states) i)

-- groups of one number have one fence, and one content but for the order of edges
pub record SameGroups (a b : Group) : Type 0 where
  pub left : a.left ≡ b.left
  pub right : a.right ≡ b.right
  pub content : Follows a.content b.content

pub record SameNests (a b : List Group) : Type 0 where
  pub counted : length a ≡ length b
  pub each : (h : ℕ) → SameGroups (group_at a h) (group_at b h)

module _ (once : IsLaidOnce) {g : Grammar} (built : IsBuilt g) where
  pub numbered_follows : {p k : ℕ} {is : List GItem} {m n : Graph} → IsNumbered g p k is m → IsNumbered g p k is n → Follows m n
  numbered_follows {p} {k} {is} {m} {n} a b =
      let same = once g built p k is a.arcs b.arcs a.last b.last (states m) (states n) a.lays b.lays in
      let arc = λ (x : Arc) (h : Contains b.arcs x). subst (λ (xs : List Arc). Contains xs x) (sym same.0) h in
      record {
        states = sym same.2;
        start = λ s h. a.start ∙ sym b.start ∙ h;
        finals = λ s h. (a.finals s).1 ((b.finals s).0 h ∙ sym same.1);
        edges = λ s e h. (a.edges s e).1 (arc (read s e.class e.to) ((b.edges s e).0 h));
        moves = λ s t h. (a.moves s t).1 (arc (pass s t) ((b.moves s t).0 h));
        calls = λ s c h. (a.calls s c).1 (arc (call s c.group c.to) ((b.calls s c).0 h));
      }

  pub rule_follows : {p q : ℕ} {m n m' n' : Graph} → AreRuleNets g p q m n → AreRuleNets g p q m' n' → Follows m m' × Follows n n'
  rule_follows a b = (numbered_follows a.first b.first, numbered_follows a.second b.second)

  long_range : {A : Type 0} (xs : List A) (a b : ℕ) → a ≤ b → b ≤ length xs → length (slice_range xs a b) ≡ b - a
  long_range xs a b h k = omega (arith, length-take (b - a) (drop a xs), length-drop a xs)

  -- a cut has one front and one rest, which begin and end at one place
  cut_bounds : CutsAreOne → (p c s e t u : ℕ) → CutsAt g.fences (spread g p) c s e → CutsAt g.fences (spread g p) c t u → (s ≡ t) × (e ≡ u)
  cut_bounds law p c s e t u a b =
      let one = law g built.proper p c (omega (arith, a.middle, a.high)) in
      let first = one.only (slice_range (spread g p) s c) (slice_range (spread g p) c e) a.cut in
      let second = one.only (slice_range (spread g p) t c) (slice_range (spread g p) c u) b.cut in
      let fronts : length (slice_range (spread g p) s c) ≡ length (slice_range (spread g p) t c) = ap length (first.0 ∙ sym second.0) in
      let rests : length (slice_range (spread g p) c e) ≡ length (slice_range (spread g p) c u) = ap length (first.1 ∙ sym second.1) in (
        omega (arith, fronts, long_range (spread g p) s c a.low (omega (arith, a.middle, a.high)), long_range (spread g p) t c b.low (omega (arith, a.middle, a.high)), a.low, b.low),
        omega (arith, rests, long_range (spread g p) c e a.middle a.high, long_range (spread g p) c u b.middle b.high, a.middle, b.middle),
      )

  pub cut_follows : CutsAreOne → {p c : ℕ} {f e f' e' : Graph} → AreCutNets g p c f e → AreCutNets g p c f' e' → Follows f f' × Follows e e'
  cut_follows law {p} {c} {f} {e} {f'} {e'} a b =
      let same = cut_bounds law p c a.start a.end b.start b.end a.at b.at in (
        numbered_follows a.front (subst (λ (s : ℕ). IsNumbered g p s (slice_range (spread g p) s c) f') (sym same.0) b.front),
        numbered_follows a.rest (subst (λ (s : ℕ). IsNumbered g p c (slice_range (spread g p) c s) e') (sym same.1) b.rest),
      )

  groups_same : {p k : ℕ} {a b : Group} → IsGroupOf g p k a → IsGroupOf g p k b → SameGroups a b
  groups_same {p} {k} {a} {b} x y =
      let same = group_once built.proper.once x.at y.at in
      record { left = same.left; right = same.right; content = numbered_follows x.content (subst (λ (is : List GItem). IsNumbered g p (suc k) is b.content) (sym same.inside) y.content) }

  pub nests_same : {a b : List Group} → IsNestOf g a → IsNestOf g b → SameNests a b
  nests_same {a} {b} x y = record { counted = x.counted ∙ sym y.counted; each = λ h. elim (cases_lt h (length a)) [ inl lt ↦ within h lt | inr le ↦ past h le ] }
    where
      past : (h : ℕ) → length a ≤ h → SameGroups (group_at a h) (group_at b h)
      past h le =
          let none_a : group_at a h ≡ no_group = get_or_past a h no_group le in
          let none_b : group_at b h ≡ no_group = get_or_past b h no_group (omega (arith, x.counted, y.counted)) in
          subst (λ (z : Group). SameGroups z (group_at b h)) (sym none_a) (subst (λ (z : Group). SameGroups no_group z) (sym none_b) (record { left = refl; right = refl; content = follows_itself no_group.content }))

      within : (h : ℕ) → h < length a → SameGroups (group_at a h) (group_at b h)
      within h lt =
          let own = x.only h (group_at a h) (slice_get-get_or a h no_group lt) in
          let there = y.there own.0 own.1 own.3.partner (group_at a h).left (group_at a h).right own.3.inside own.3.rule own.3.at in
          let at : group_at b h ≡ there.0 = ap (λ (n : ℕ). group_at b n) own.2 ∙ get_or_from_slice_get b (group_number g own.0 own.1) there.0 no_group there.1 in
          subst (λ (z : Group). SameGroups (group_at a h) z) (sym at) (groups_same own.3 there.2)
