-- Items that are laid one after another: the next one, and how far they were laid.
use Rattle.std.proofs.Common.{◌≡◌, ℕ, suc, ◌+◌, ◌<◌, ◌≤◌, List, [], ◌∷◌, ◌++◌, length, take, drop, get_or, refl, sym, ap, subst, ◌∙◌, arith, append_assoc, append-nil, length-append, None, Some, Option}
use Rattle.std.specs.List.{Contains}
use Rattle.std.proofs.lemmas.List.{take-append-drop}
use Rattle.std.proofs.lemmas.List.Elements.{Contains-append_left, Contains-append_right}
use Rattle.xs_auto.specs.Nets.{Graph, states}
use Rattle.xs_gram.specs.declared.parts.GItem.{GItem}
use Rattle.xs_gram.specs.Grammar.{Grammar}
use Rattle.xs_gram.specs.Fences.{spread, grouped, IsPlain, IsLevel, IsPartner, IsLeftFence}
use Rattle.xs_gram.specs.Sound.{IsInRange, IsBuilt}
use Rattle.xs_gram.proofs.Levels.{no_group}
use Rattle.xs_loose.specs.declared.site.Home.{Home}
use Rattle.xs_loose.specs.declared.site.Spot.{Spot}
use Rattle.xs_loose.specs.declared.site.Next.{Next}
use Rattle.xs_loose.specs.declared.site.Task.{Task}
use Rattle.xs_loose.specs.Arcs.{Arc, pass, call}
use Rattle.xs_loose.specs.Groups.{group_number}
use Rattle.xs_loose.specs.Growth.{NetGrows}
use Rattle.xs_loose.specs.Laying.{LaysBody, lays_no_body, lays_member, lays_other, lays_group, LaysPart, part_none, part_then, part_group}
use Rattle.xs_loose.specs.Parts.{IsStretch}
use Rattle.xs_loose.specs.Steps.{StandsAt}
use Rattle.xs_loose.specs.Walking.{AreNamed, Lays, HasRoom, IsOnward, IsStepped, AreAllLaid}
use Rattle.xs_loose.specs.Work.{IsDone}
use Rattle.xs_loose.proofs.Gaining.{done_grows, done_then}
use Rattle.xs_loose.proofs.Growing.{grows_none}
use Rattle.xs_loose.proofs.Inverting.{group_off}
use Rattle.xs_loose.proofs.Laid.{rule_named, later_named, after_named}
use Rattle.xs_loose.proofs.Opening.{GroupFirst, ItemFirst, group_first, item_first}
use Rattle.xs_loose.proofs.Spans.{lays_rises}
use Rattle.xs_loose.proofs.Stepping.{group_piece, item_piece}
use Rattle.xs_loose.proofs.Stretches.{stretch_rest}

-- what items that stand in a rule name is there
pub stands_named : (g : Grammar) → IsInRange g → (p k : ℕ) (items : List GItem) → StandsAt g p k items → AreNamed g items
stands_named g range p k items at i h =
    let later : Contains (drop k (spread g p)) i = subst (λ (xs : List GItem). Contains xs i) (sym at.split) (Contains-append_left items at.post i h) in
    rule_named g range p i (subst (λ (xs : List GItem). Contains xs i) (take-append-drop k (spread g p)) (Contains-append_right (take k (spread g p)) (drop k (spread g p)) i later))

module _ (g : Grammar) (built : IsBuilt g) where
  group_of : (p k m : ℕ) (items : List GItem) → IsPartner g.fences (spread g p) k m → StandsAt g p k items → GroupFirst g.fences items k m
  group_of p k m items partner at = group_first g.fences built.proper.once (spread g p) items at.post k m partner at.split at.level at.some

  -- a group has room for its two states
  pub group_room : (home : Option Home) (bound p k m : ℕ) (items : List GItem) (s : Spot) → IsPartner g.fences (spread g p) k m → StandsAt g p k items → HasRoom g bound home p k items s → suc s.at < bound
  group_room home bound p k m items s partner at room =
      let f = group_of p k m items partner at in
      let off = group_off g built.proper.once home p k f.left f.right f.inside f.later items s room.arcs room.after room.next room.lays f.fence f.within f.split in
      let named = after_named g items f.left f.inside f.right f.later f.split (stands_named g built.range p k items at) in
      omega (arith, lays_rises g built home p (suc (suc (k + length f.inside))) f.later (record { before = suc s.at; at = suc (suc s.at) }) off.rest room.after room.next off.lays named, room.within)

  pub group_stepped : (weights : List ℕ) (home : Option Home) (p k m number : ℕ) (items : List GItem) (s t : Spot) (all : List Arc) (after end : ℕ) (old new : Graph) (ts : List Task) → IsPartner g.fences (spread g p) k m → number ≡ group_number g p k → t.before ≡ suc s.at → t.at ≡ suc (suc s.at) → NetGrows (call s.before number s.at ∷ pass s.at (suc s.at) ∷ []) old new → StandsAt g p k items → Lays g home p k items s all after end → IsStepped g weights home p k items s all after end old ts new ts (record { spot = t; place = m + 1 })
  group_stepped weights home p k m number items s t all after end old new ts partner e before at grows stands lays =
      let f = group_of p k m items partner stands in
      let off = group_off g built.proper.once home p k f.left f.right f.inside f.later items s all after end lays f.fence f.within f.split in
      let place : suc (suc (k + length f.inside)) ≡ m + 1 = omega (arith, f.partner) in
      let at_place : Lays g home p (m + 1) f.later (record { before = suc s.at; at = suc (suc s.at) }) off.rest after end = subst (λ (x : ℕ). Lays g home p x f.later (record { before = suc s.at; at = suc (suc s.at) }) off.rest after end) place off.lays in
      let at_before : Lays g home p (m + 1) f.later (record { before = t.before; at = suc (suc s.at) }) off.rest after end = subst (λ (x : ℕ). Lays g home p (m + 1) f.later (record { before = x; at = suc (suc s.at) }) off.rest after end) (sym before) at_place in
      record {
        piece = grouped f.left f.inside f.right [];
        later = f.later;
        is = group_piece g k m items f;
        onward = record {
          own = call s.before (group_number g p k) s.at ∷ pass s.at (suc s.at) ∷ [];
          rest = off.rest;
          split = off.split;
          lays = subst (λ (x : ℕ). Lays g home p (m + 1) f.later (record { before = t.before; at = x }) off.rest after end) (sym at) at_before;
          done = done_grows g weights ts (omega (arith, at)) (subst (λ (x : ℕ). NetGrows (call s.before x s.at ∷ pass s.at (suc s.at) ∷ []) old new) e grows);
        };
      }

  item_of : (p k : ℕ) (items : List GItem) (i : GItem) → k < length (spread g p) → i ≡ get_or (spread g p) k i → (IsLeftFence g.fences (spread g p) k → ⊥) → StandsAt g p k items → ItemFirst g.fences items i
  item_of p k items i low is other at = item_first g.fences (spread g p) items at.post k i low is other at.split at.level at.some

  -- a plain item comes first, with room for it
  pub item_room : (home : Option Home) (bound p k : ℕ) (items : List GItem) (i : GItem) (s : Spot) → k < length (spread g p) → i ≡ get_or (spread g p) k i → (IsLeftFence g.fences (spread g p) k → ⊥) → StandsAt g p k items → HasRoom g bound home p k items s → IsPlain g.fences i × ((q j : ℕ) × (later : List GItem) × AreNamed g later × HasRoom g bound home q j (i ∷ later) s)
  item_room home bound p k items i s low is other at room =
      let f = item_of p k items i low is other at in
      let named : AreNamed g (i ∷ f.later) = subst (λ (xs : List GItem). AreNamed g xs) f.split (stands_named g built.range p k items at) in
      (f.plain, (p, k, f.later, later_named g i f.later named, subst (λ (xs : List GItem). HasRoom g bound home p k xs s) f.split room))

  pub item_stepped : (weights : List ℕ) (home : Option Home) (p k : ℕ) (items : List GItem) (i : GItem) (s t : Spot) (all : List Arc) (after end : ℕ) (old new : Graph) (ts us : List Task) → k < length (spread g p) → i ≡ get_or (spread g p) k i → (IsLeftFence g.fences (spread g p) k → ⊥) → ((q j : ℕ) (later : List GItem) (all : List Arc) (after end : ℕ) → Lays g home q j (i ∷ later) s all after end → IsOnward g weights home q later s all after end old ts new us (suc j) t) → StandsAt g p k items → Lays g home p k items s all after end → IsStepped g weights home p k items s all after end old ts new us (record { spot = t; place = k + 1 })
  item_stepped weights home p k items i s t all after end old new ts us low is other onward stands lays =
      let f = item_of p k items i low is other stands in
      let place : suc k ≡ k + 1 = omega arith in
      let own : IsOnward g weights home p f.later s all after end old ts new us (suc k) t = onward p k f.later all after end (subst (λ (xs : List GItem). Lays g home p k xs s all after end) f.split lays) in
      record {
        piece = i ∷ [];
        later = f.later;
        is = item_piece g k items i f;
        onward = subst (λ (x : ℕ). IsOnward g weights home p f.later s all after end old ts new us x t) place own;
      }

-- of items that can be laid below the bound those before an item were, up to a spot
pub record Gone (g : Grammar) (weights : List ℕ) (home : Option Home) (p start : ℕ) (items : List GItem) (s : Spot) (bound place : ℕ) (t : Spot) (old : Graph) (olds : List Task) (new : Graph) (news : List Task) : Type 0 where
  pub room : HasRoom g bound home p start items s
  pub front : List GItem
  pub rest : List GItem
  pub split : items ≡ front ++ rest
  pub at : place ≡ start + length front
  pub level : IsLevel g.fences rest
  pub first : List Arc
  pub todo : List Arc
  pub arcs : room.arcs ≡ first ++ todo
  pub lays : Lays g home p place rest t todo room.after room.next
  pub done : IsDone g weights first s.at t.at old olds new news

pub gone_none : (g : Grammar) (weights : List ℕ) (home : Option Home) (p start : ℕ) (items : List GItem) (s : Spot) (bound : ℕ) (n : Graph) (ts : List Task) → IsLevel g.fences items → HasRoom g bound home p start items s → Gone g weights home p start items s bound start s n ts n ts
gone_none g weights home p start items s bound n ts level room = record {
  room = room;
  front = [];
  rest = items;
  split = refl;
  at = omega arith;
  level = level;
  first = [];
  todo = room.arcs;
  arcs = refl;
  lays = room.lays;
  done = done_grows g weights ts (omega arith) (grows_none n);
}

module _ (g : Grammar) (weights : List ℕ) (home : Option Home) (p start : ℕ) (items : List GItem) (s : Spot) (bound : ℕ) (old : Graph) (olds : List Task) where
  gone_long : (place : ℕ) (t : Spot) (new : Graph) (news : List Task) (h : Gone g weights home p start items s bound place t old olds new news) → length items ≡ length h.front + length h.rest
  gone_long place t new news h = ap length h.split ∙ length-append h.front h.rest

  -- what is left stands in the rule, with room for it
  pub gone_room : (place : ℕ) (t : Spot) (new : Graph) (news : List Task) → IsStretch g p start items → place < start + length items → Gone g weights home p start items s bound place t old olds new news → (rest : List GItem) × StandsAt g p place rest × HasRoom g bound home p place rest t
  gone_room place t new news stretch low h = (h.rest, stretch_rest g p start place items h.front h.rest stretch h.split h.at h.level (omega (arith, gone_long place t new news h, h.at)), record { arcs = h.todo; after = h.room.after; next = h.room.next; lays = h.lays; within = h.room.within })

  pub gone_more : (place : ℕ) (t : Spot) (new newer : Graph) (news newers : List Task) (n : Next) → IsStretch g p start items → place < start + length items → Gone g weights home p start items s bound place t old olds new news → ((rest : List GItem) (all : List Arc) (after end : ℕ) → StandsAt g p place rest → Lays g home p place rest t all after end → IsStepped g weights home p place rest t all after end new news newer newers n) → Gone g weights home p start items s bound n.place n.spot old olds newer newers × (place < n.place) × (n.place ≤ start + length items)
  unfolding gone_room
  gone_more place t new newer news newers n stretch low h step =
      let own = step h.rest h.todo h.room.after h.room.next (gone_room place t new news stretch low h).1 h.lays in
      let piece : length h.rest ≡ length own.piece + length own.later = ap length own.is.split ∙ length-append own.piece own.later in (
        record {
          room = h.room;
          front = h.front ++ own.piece;
          rest = own.later;
          split = h.split ∙ ap (λ (xs : List GItem). h.front ++ xs) own.is.split ∙ sym (append_assoc h.front own.piece own.later);
          at = omega (arith, h.at, own.is.place, length-append h.front own.piece);
          level = own.is.level_after;
          first = h.first ++ own.onward.own;
          todo = own.onward.rest;
          arcs = h.arcs ∙ ap (λ (xs : List Arc). h.first ++ xs) own.onward.split ∙ sym (append_assoc h.first own.onward.own own.onward.rest);
          lays = own.onward.lays;
          done = done_then h.done own.onward.done;
        },
        omega (arith, own.is.place, own.is.some),
        omega (arith, own.is.place, piece, gone_long place t new news h, h.at),
      )

  no_part : {k b at t n : ℕ} {js : List GItem} {xs : List Arc} → LaysPart g p k js b at xs t n → js ≡ [] → (xs ≡ []) × (t ≡ b) × (n ≡ at)
  no_part part_none e = (refl, refl, refl)
  no_part (part_then q item later h) e = absurd cc
  no_part (part_group f i later split h) e = absurd (no_group (sym e ∙ split))

  no_body : {c first k b at t n : ℕ} {js : List GItem} {xs : List Arc} → LaysBody g c first p k js b at xs t n → js ≡ [] → (xs ≡ []) × (t ≡ b) × (n ≡ at)
  no_body lays_no_body e = (refl, refl, refl)
  no_body (lays_member o j later h) e = absurd cc
  no_body (lays_other q x item later h) e = absurd cc
  no_body (lays_group f i later split h) e = absurd (no_group (sym e ∙ split))

  none_left : (home : Option Home) (k : ℕ) (rest : List GItem) (t : Spot) (xs : List Arc) (after end : ℕ) → Lays g home p k rest t xs after end → length rest ≡ 0 → (xs ≡ []) × (after ≡ t.before) × (end ≡ t.at)
  none_left None k [] t xs after end lays none = no_part lays refl
  none_left None k (i ∷ rest) t xs after end lays none = absurd (omega (arith, none))
  none_left (Some h) k [] t xs after end lays none = no_body lays refl
  none_left (Some h) k (i ∷ rest) t xs after end lays none = absurd (omega (arith, none))

  pub gone_done : (place : ℕ) (t : Spot) (new : Graph) (news : List Task) → t.before < states old → start + length items ≤ place → Gone g weights home p start items s bound place t old olds new news → AreAllLaid g weights home p start items s old olds new news t
  gone_done place t new news low ends h =
      let none = none_left home place h.rest t h.todo h.room.after h.room.next h.lays (omega (arith, gone_long place t new news h, h.at)) in
      let arcs : h.room.arcs ≡ h.first = h.arcs ∙ ap (λ (xs : List Arc). h.first ++ xs) none.0 ∙ append-nil h.first in
      let at_arcs : Lays g home p start items s h.first h.room.after h.room.next = subst (λ (xs : List Arc). Lays g home p start items s xs h.room.after h.room.next) arcs h.room.lays in
      let at_after : Lays g home p start items s h.first t.before h.room.next = subst (λ (x : ℕ). Lays g home p start items s h.first x h.room.next) none.1 at_arcs in
      record {
        arcs = h.first;
        lays = subst (λ (x : ℕ). Lays g home p start items s h.first t.before x) none.2 at_after;
        low = low;
        done = h.done;
      }

-- the same for the net as it is then
pub gone_at : (g : Grammar) (weights : List ℕ) (home : Option Home) (p start : ℕ) (items : List GItem) (s : Spot) (old : Graph) (olds : List Task) (place next : ℕ) (t : Spot) (new : Graph) (news : List Task) → next ≡ place → IsStretch g p start items → place < start + length items → Gone g weights home p start items s (states old) next t old olds new news → (rest : List GItem) × StandsAt g p place rest × HasRoom g (states new) home p place rest t
gone_at g weights home p start items s old olds place next t new news e stretch low h =
    let own : Gone g weights home p start items s (states old) place t old olds new news = subst (λ (x : ℕ). Gone g weights home p start items s (states old) x t old olds new news) e h in
    let room = gone_room g weights home p start items s (states old) old olds place t new news stretch low own in
    (room.0, room.1, subst (λ (x : ℕ). HasRoom g x home p place room.0 t) (sym h.done.gains.states) room.2)
