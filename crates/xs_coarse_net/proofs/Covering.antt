-- Covers of items: in a net that went on, one after another, and cut at their places.
use Rattle.std.proofs.Common.{◌≡◌, ℕ, zero, suc, ◌+◌, ◌-◌, ◌<◌, ◌≤◌, List, [], ◌∷◌, ◌++◌, length, take, drop, slice_range, map, refl, sym, ap, subst, ◌∙◌, arith, append_assoc, append-nil, length-append, drop_at}
use Rattle.std.proofs.lemmas.List.{take_at}
use Rattle.std.specs.List.{All, Contains}
use Rattle.std.proofs.lemmas.List.Elements.{Contains-append_left, Contains-append_right, All-nil, All-push, All-weaker}
use Rattle.xs_class.proofs.Lists.{rest_in}
use Rattle.xs_auto.specs.Nets.{Graph}
use Rattle.xs_gram.specs.declared.parts.GItem.{GItem}
use Rattle.xs_gram.specs.declared.parts.GItem.TheVariants.{Fixed, Term, Non, Skip}
use Rattle.xs_gram.specs.Grammar.{Grammar}
use Rattle.xs_gram.specs.Fences.{spread, IsLevel}
use Rattle.xs_gram.proofs.Levels.{group_more}
use Rattle.xs_loose.specs.Groups.{group_number}
use Rattle.xs_loose.specs.Steps.{StandsAt}
use Rattle.xs_loose.specs.declared.part.Part.{Part}
use Rattle.xs_loose.specs.Parts.{part_items, IsPart, IsStretch}
use Rattle.xs_loose.proofs.Stretches.{part_stretch, part_long, stretch_rest, nothing_left}
use Rattle.xs_coarse.specs.declared.arc.Arc.{Arc}
use Rattle.xs_coarse.specs.Coarse.{Table, Net, IsWithin, shifted, joined, view}
use Rattle.xs_coarse.specs.Covers.{CoversItem, CoversPart, covers_none, covers_then, covers_group, CoversCut}
use Rattle.xs_coarse_net.specs.declared.cover.Outer.{Outer}
use Rattle.xs_coarse_net.specs.declared.cover.Cover.{Cover}
use Rattle.xs_coarse_net.specs.Covers.{IsCoverOf}
use Rattle.xs_coarse_net.specs.Placing.{Placed}
use Rattle.xs_coarse_net.specs.Stretches.{open_view, last_state, IsPlaced, IsCovered, Extends}
use Rattle.xs_coarse_net.proofs.Viewing.{placed_walks, placed_crossing, placed_call}

-- what covers an item does so where the net stands in another
module _ (g : Grammar) (t : Table) {m n : Net} {f : ℕ → ℕ} (h : Placed m n f) (s e i j : ℕ) where
  pub placed_item : (x : GItem) (a b : ℕ) → CoversItem g (view t m s e) x a b → CoversItem g (view t n i j) x (f a) (f b)
  placed_item (Fixed w) a b c = placed_walks t h s e i j c
  placed_item (Term k q) a b c = λ w word. placed_walks t h s e i j (c w word)
  placed_item (Non k q) a b c = record { block = c.block; state = c.state; has = c.has; covers = c.covers; follows = λ nest w p. placed_crossing t h s e i j (c.follows nest w p) }
  placed_item (Skip k) a b c = λ w word. placed_walks t h s e i j (c w word)

  pub placed_part : {p k a b : ℕ} {is : List GItem} → CoversPart g (view t m s e) p k is a b → CoversPart g (view t n i j) p k is (f a) (f b)
  placed_part covers_none = covers_none
  placed_part (covers_then {a = a} {b = b} {i = x} plain c rest) = covers_then plain (placed_item x a b c) (placed_part rest)
  placed_part {p = p} {k = k} (covers_group {a = a} {b = b} fence level call rest split) = covers_group fence level (placed_call t h s e i j a (group_number g p k) b call) (placed_part rest) split

part_from : {g : Grammar} {n : Graph} {p k j a b : ℕ} {is : List GItem} → j ≡ k → CoversPart g n p j is a b → CoversPart g n p k is a b
part_from {g} {n} {p} {k} {j} {a} {b} {is} e d = subst (λ (x : ℕ). CoversPart g n p x is a b) e d

-- covers one after another
pub part_append : {g : Grammar} {n : Graph} {p k j a b c : ℕ} {xs ys : List GItem} → CoversPart g n p k xs a b → CoversPart g n p j ys b c → j ≡ k + length xs → CoversPart g n p k (xs ++ ys) a c
part_append covers_none d at = part_from (omega (arith, at)) d
part_append (covers_then plain h rest) d at = covers_then plain h (part_append rest d (omega (arith, at)))
part_append {k = k} {j = j} {ys = ys} (covers_group {l = l} {r = r} {inside = inside} {after = after} fence level call rest split) d at =
    covers_group fence level call (part_append rest d (omega (arith, at, ap length split, length-append inside (Fixed (r ∷ []) ∷ after)))) (ap (λ (x : List GItem). x ++ ys) split ∙ group_more l inside r after ys)

mapped_in : (by : ℕ) (xs : List Arc) (x : Arc) → Contains xs x → Contains (map (shifted by) xs) (shifted by x)
mapped_in by [] x (n, lt, e) = absurd (omega arith)
mapped_in by (y ∷ ys) x (zero, lt, e) = (0, omega arith, ap (shifted by) e)
mapped_in by (y ∷ ys) x (suc n, lt, e) = rest_in (shifted by y) (map (shifted by) ys) (shifted by x) (mapped_in by ys x (n, omega arith, e))

-- the parts of a joined net
pub joined_first : (m n : Net) → All (IsWithin (joined m n).states) (joined m n).arcs → Placed m (joined m n) (λ x. x)
joined_first m n within = record { within = within; arc = λ x l y h. Contains-append_left m.arcs (map (shifted (m.states - 1)) n.arcs) _ h }

pub joined_second : (m n : Net) → All (IsWithin (joined m n).states) (joined m n).arcs → Placed n (joined m n) (λ x. last_state m + x)
joined_second m n within = record { within = within; arc = λ x l y h. Contains-append_right m.arcs (map (shifted (m.states - 1)) n.arcs) _ (mapped_in (m.states - 1) n.arcs _ h) }

-- an item that a net covers from its first to its last state is covered after the net that it is joined to
pub joined_item : (g : Grammar) (t : Table) (m n o : Net) (s e : ℕ) (x : GItem) → o ≡ joined m n → 0 < m.states → 0 < n.states → All (IsWithin o.states) o.arcs → CoversItem g (view t n s e) x 0 (last_state n) → CoversItem g (open_view t o) x (last_state m) (last_state o)
joined_item g t m n o s e x is some more within c = at_joined o is within
  where
    at_joined : (o : Net) → o ≡ joined m n → All (IsWithin o.states) o.arcs → CoversItem g (open_view t o) x (last_state m) (last_state o)
    at_joined o is within =
        let inside = subst (λ (z : Net). All (IsWithin z.states) z.arcs) is within in
        let there = placed_item g t (joined_second m n inside) s e 0 0 x 0 (last_state n) c in
        let from : last_state m + 0 ≡ last_state m = omega arith in
        let to : last_state m + last_state n ≡ last_state (joined m n) = omega (arith, some, more) in
        subst (λ (z : Net). CoversItem g (open_view t z) x (last_state m) (last_state z)) (sym is) (subst (λ (a : ℕ). CoversItem g (open_view t (joined m n)) x a (last_state (joined m n))) from (subst (λ (b : ℕ). CoversItem g (open_view t (joined m n)) x (last_state m + 0) b) to there))

pub joined_kept : (m n o : Net) → o ≡ joined m n → All (IsWithin o.states) o.arcs → Placed m o (λ x. x)
joined_kept m n o is within = subst (λ (z : Net). Placed m z (λ x. x)) (sym is) (joined_first m n (subst (λ (z : Net). All (IsWithin z.states) z.arcs) is within))

-- nothing is covered yet
pub covered_none : (g : Grammar) (t : Table) (n : Net) (p start : ℕ) (is : List GItem) → n.states ≡ 1 → IsLevel g.fences is → IsCovered g t n p start is start []
covered_none g t n p start is one level = record {
  front = [];
  rest = is;
  split = refl;
  place = omega arith;
  level = level;
  covers = subst (λ (b : ℕ). CoversPart g (open_view t n) p start [] 0 b) (omega (arith, one)) covers_none;
  told = All-nil (IsPlaced g t n p start []);
}

-- the place that was come to is one
pub here_placed : (g : Grammar) (t : Table) (n : Net) (p start : ℕ) (is : List GItem) (next : ℕ) (places : List Outer) (o : Outer) → o.place ≡ next → o.state ≡ last_state n → (c : IsCovered g t n p start is next places) → IsPlaced g t n p start c.front o
here_placed g t n p start is next places o at there c = record {
  before = c.front;
  after = [];
  split = sym (append-nil c.front);
  place = at ∙ c.place;
  first = subst (λ (b : ℕ). CoversPart g (open_view t n) p start c.front 0 b) (sym there) c.covers;
  second = subst (λ (b : ℕ). CoversPart g (open_view t n) p o.place [] o.state b) there covers_none;
}

-- one more piece
module _ (g : Grammar) (t : Table) (old new : Net) (p start : ℕ) (front : List GItem) (k next : ℕ) (rest : List GItem) (x : Extends g t p k rest next old new) (at : k ≡ start + length front) where
  placed_more : (o : Outer) → IsPlaced g t old p start front o → IsPlaced g t new p start (front ++ x.piece) o
  placed_more o h = record {
    before = h.before;
    after = h.after ++ x.piece;
    split = ap (λ (l : List GItem). l ++ x.piece) h.split ∙ append_assoc h.before h.after x.piece;
    place = h.place;
    first = placed_part g t x.placed 0 0 0 0 h.first;
    second = part_append (placed_part g t x.placed 0 0 0 0 h.second) x.covers (omega (arith, at, h.place, ap length h.split, length-append h.before h.after));
  }

  pub covers_more : CoversPart g (open_view t old) p start front 0 (last_state old) → CoversPart g (open_view t new) p start (front ++ x.piece) 0 (last_state new)
  covers_more c = part_append (placed_part g t x.placed 0 0 0 0 c) x.covers at

pub covered_more : (g : Grammar) (t : Table) (old new : Net) (p start k next : ℕ) (is : List GItem) (places : List Outer) (o : Outer) → o.place ≡ k → o.state ≡ last_state old → (c : IsCovered g t old p start is k places) → Extends g t p k c.rest next old new → IsCovered g t new p start is next (places ++ o ∷ [])
covered_more g t old new p start k next is places o at there c x = record {
  front = c.front ++ x.piece;
  rest = x.later;
  split = c.split ∙ ap (λ (l : List GItem). c.front ++ l) x.is.split ∙ sym (append_assoc c.front x.piece x.later);
  place = omega (arith, x.is.place, c.place, length-append c.front x.piece);
  level = x.is.level_after;
  covers = covers_more g t old new p start c.front k next c.rest x c.place c.covers;
  told = All-weaker (IsPlaced g t old p start c.front) (IsPlaced g t new p start (c.front ++ x.piece)) (placed_more g t old new p start c.front k next c.rest x c.place) (places ++ o ∷ []) (All-push (IsPlaced g t old p start c.front) places o c.told (here_placed g t old p start is k places o at there c));
}

-- what is left stands in the rule
pub covered_stands : (g : Grammar) (t : Table) (n : Net) (p start k : ℕ) (is : List GItem) (places : List Outer) → IsStretch g p start is → k < start + length is → (c : IsCovered g t n p start is k places) → StandsAt g p k c.rest
covered_stands g t n p start k is places s low c = stretch_rest g p start k is c.front c.rest s c.split c.place c.level (omega (arith, low, c.place, ap length c.split, length-append c.front c.rest))

-- the halves of a stretch as slices of the rule
module _ (g : Grammar) (p start : ℕ) (is before after : List GItem) (place end : ℕ) (s : IsStretch g p start is) (split : is ≡ before ++ after) (at : place ≡ start + length before) (last : end ≡ start + length is) where
  pub front_slice : slice_range (spread g p) start place ≡ before
  front_slice =
      ap (λ (xs : List GItem). take (place - start) xs) (ap (λ (xs : List GItem). drop start xs) s.split ∙ drop_at s.before (is ++ s.after) start (sym s.place) ∙ ap (λ (xs : List GItem). xs ++ s.after) split ∙ append_assoc before after s.after)
      ∙ take_at before (after ++ s.after) (place - start) (omega (arith, at))

  pub rest_slice : slice_range (spread g p) place end ≡ after
  rest_slice =
      let opened : spread g p ≡ (s.before ++ before) ++ (after ++ s.after) = s.split ∙ ap (λ (xs : List GItem). s.before ++ (xs ++ s.after)) split ∙ ap (λ (xs : List GItem). s.before ++ xs) (append_assoc before after s.after) ∙ sym (append_assoc s.before before (after ++ s.after)) in
      ap (λ (xs : List GItem). take (end - place) xs) (ap (λ (xs : List GItem). drop place xs) opened ∙ drop_at (s.before ++ before) (after ++ s.after) place (omega (arith, at, s.place, length-append s.before before)))
      ∙ take_at after s.after (end - place) (omega (arith, at, last, ap length split, length-append before after))

-- all is covered
module _ (g : Grammar) (t : Table) (n : Net) (part : Part) (is : IsPart g part) (within : All (IsWithin n.states) n.arcs) (some : 0 < n.states) where
  same : Placed n n (λ x. x)
  same = record { within = within; arc = λ x l y h. h }

  cut_done : (front : List GItem) (last : ℕ) → part_items g part ≡ front → last ≡ last_state n → (o : Outer) → IsPlaced g t n part.rule part.start front o → CoversCut g (view t n 0 last) part.rule part.start o.place part.end o.state last
  cut_done front last all e o h =
      let stretch = part_stretch g part is in
      let long = part_long g part is in
      let split = all ∙ h.split in
      record {
        low = omega (arith, h.place);
        high = omega (arith, h.place, long, ap length split, length-append h.before h.after);
        front = subst (λ (xs : List GItem). CoversPart g (view t n 0 last) part.rule part.start xs 0 o.state) (sym (front_slice g part.rule part.start (part_items g part) h.before h.after o.place part.end stretch split h.place (sym long))) (placed_part g t same 0 0 0 last h.first);
        rest = subst (λ (xs : List GItem). CoversPart g (view t n 0 last) part.rule o.place xs o.state last) (sym (rest_slice g part.rule part.start (part_items g part) h.before h.after o.place part.end stretch split h.place (sym long))) (subst (λ (b : ℕ). CoversPart g (view t n 0 last) part.rule o.place h.after o.state b) (sym e) (placed_part g t same 0 0 0 last h.second));
      }

  pub covered_done : (next : ℕ) (places : List Outer) (o : Outer) (cover : Cover) → part.end ≤ next → o.place ≡ next → o.state ≡ last_state n → cover.net ≡ n → cover.last ≡ last_state n → cover.places.items ≡ places ++ o ∷ [] → IsCovered g t n part.rule part.start (part_items g part) next places → IsCoverOf g t part cover
  covered_done next places o cover end at there net last all c = record {
    last = omega (arith, last, some, ap (λ (m : Net). m.states) net);
    covers = subst (λ (m : Net). CoversPart g (view t m 0 cover.last) part.rule part.start (part_items g part) 0 cover.last) (sym net) (subst (λ (l : ℕ). CoversPart g (view t n 0 cover.last) part.rule part.start (part_items g part) 0 l) (sym last) (subst (λ (xs : List GItem). CoversPart g (view t n 0 cover.last) part.rule part.start xs 0 (last_state n)) (sym whole_front) (placed_part g t same 0 0 0 cover.last c.covers)));
    cuts = subst (λ (m : Net). All (λ q. CoversCut g (view t m 0 cover.last) part.rule part.start q.place part.end q.state cover.last) cover.places.items) (sym net) (subst (λ (xs : List Outer). All (λ q. CoversCut g (view t n 0 cover.last) part.rule part.start q.place part.end q.state cover.last) xs) (sym all) cuts);
  }
    where
      long : part.start + length (part_items g part) ≡ part.end
      long = part_long g part is

      whole_front : part_items g part ≡ c.front
      whole_front = nothing_left (part_items g part) c.front c.rest c.split (omega (arith, end, c.place, long, ap length c.split, length-append c.front c.rest))

      cuts : All (λ q. CoversCut g (view t n 0 cover.last) part.rule part.start q.place part.end q.state cover.last) (places ++ o ∷ [])
      cuts = All-weaker (IsPlaced g t n part.rule part.start c.front) (λ q. CoversCut g (view t n 0 cover.last) part.rule part.start q.place part.end q.state cover.last) (cut_done c.front cover.last whole_front last) (places ++ o ∷ []) (All-push (IsPlaced g t n part.rule part.start c.front) places o c.told (here_placed g t n part.rule part.start (part_items g part) next places o at there c))
