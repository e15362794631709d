-- Each cut of a level stretch has one front and one rest, and the group round it is the last one that
-- is open there.
use Rattle.std.proofs.Common.{◌≡◌, ◌⊎◌, inl, inr, ℕ, zero, suc, ◌+◌, ◌-◌, ◌<◌, ◌≤◌, List, [], ◌∷◌, ◌++◌, length, take, drop, refl, sym, ap, subst, ◌∙◌, arith, append_assoc, append-nil, length-append, None, Some, IfSome, slice_index_or}
use Rattle.std.proofs.lemmas.Bool.{cases_lt}
use Rattle.std.specs.declared.option.Option.{Option}
use Rattle.std.specs.List.{slice_range}
use Rattle.std.proofs.Math.Seq.{take-append_seam, drop-append_seam}
use Rattle.xs_class.proofs.Lists.{cons_parts, cons_same}
use Rattle.xs_gram.specs.declared.parts.GItem.{GItem}
use Rattle.xs_gram.specs.declared.parts.GItem.TheVariants.{Fixed}
use Rattle.xs_gram.specs.Grammar.{Grammar}
use Rattle.xs_gram.specs.Laws.{IsDistinct}
use Rattle.xs_gram.specs.Sound.{IsProper}
use Rattle.xs_gram.specs.Fences.{fence_symbols, spread, IsFence, grouped, IsLevel, level_none, level_then, level_group, IsPartner, IsCut, cut_here, cut_inside}
use Rattle.xs_gram.specs.Spreading.{partners}
use Rattle.xs_gram.specs.Cuts.{ReachesTo, IsRound, HasNoRound, CutsAt, HasOneCut, CutsAreOne}
use Rattle.xs_gram.proofs.Levels.{group_split, level_append}
use Rattle.xs_gram.proofs.Partners.{partner_once, partner_listed, partner_in, partner_kept, partners_long}

-- what stands before the front and after the rest: nothing, or all up to a left fence and all from
-- its partner on
data IsEdge (fs : List (ℕ × ℕ)) : List GItem → List GItem → Type 0 where
  no_edge : IsEdge fs [] []
  edge : {l r : ℕ} (before after : List GItem) {head tail : List GItem} → IsFence fs l r → head ≡ before ++ Fixed (l ∷ []) ∷ [] → tail ≡ Fixed (r ∷ []) ∷ after → IsEdge fs head tail

-- where a cut lies in its stretch
record Lies (fs : List (ℕ × ℕ)) (is : List GItem) (c : ℕ) (front rest : List GItem) : Type 0 where
  head : List GItem
  tail : List GItem
  split : is ≡ head ++ (front ++ (rest ++ tail))
  place : c ≡ length head + length front
  edges : IsEdge fs head tail

nested : (before : List GItem) (x : GItem) (head front rest tail after : List GItem) → before ++ x ∷ ((head ++ (front ++ (rest ++ tail))) ++ after) ≡ (before ++ x ∷ head) ++ (front ++ (rest ++ (tail ++ after)))
nested before x head front rest tail after = simp (append_assoc)

edge_deeper : {fs : List (ℕ × ℕ)} {l r : ℕ} (before after : List GItem) {head tail : List GItem} → IsFence fs l r → IsEdge fs head tail → IsEdge fs (before ++ Fixed (l ∷ []) ∷ head) (tail ++ Fixed (r ∷ []) ∷ after)
edge_deeper before after f no_edge = edge before after f refl refl
edge_deeper {l = l} {r = r} before after f (edge {l = m} {r = s} front back h p q) =
    edge (before ++ Fixed (l ∷ []) ∷ front) (back ++ Fixed (r ∷ []) ∷ after) h (ap (λ (x : List GItem). before ++ Fixed (l ∷ []) ∷ x) p ∙ sym (append_assoc before (Fixed (l ∷ []) ∷ front) (Fixed (m ∷ []) ∷ []))) (ap (λ (x : List GItem). x ++ Fixed (r ∷ []) ∷ after) q)

lies : {fs : List (ℕ × ℕ)} {is front rest : List GItem} {c : ℕ} → IsCut fs is c front rest → Lies fs is c front rest
lies (cut_here {front = front} {rest = rest} a b e h) = record { head = []; tail = []; split = e ∙ ap (λ (x : List GItem). front ++ x) (sym (append-nil rest)); place = omega (arith, h); edges = no_edge }
lies (cut_inside {before = before} {front = front} {rest = rest} {l = l} {r = r} after level f k e h) =
    let d = lies k in
    record {
      head = before ++ Fixed (l ∷ []) ∷ d.head;
      tail = d.tail ++ Fixed (r ∷ []) ∷ after;
      split = e ∙ ap (λ (x : List GItem). before ++ Fixed (l ∷ []) ∷ (x ++ Fixed (r ∷ []) ∷ after)) d.split ∙ nested before (Fixed (l ∷ [])) d.head front rest d.tail (Fixed (r ∷ []) ∷ after);
      place = omega (arith, h, d.place, length-append before (Fixed (l ∷ []) ∷ d.head));
      edges = edge_deeper before after f d.edges;
    }

pub cut_level : {fs : List (ℕ × ℕ)} {is front rest : List GItem} {c : ℕ} → IsCut fs is c front rest → IsLevel fs front × IsLevel fs rest
cut_level (cut_here a b e h) = (a, b)
cut_level (cut_inside after level f k e h) = cut_level k

-- a cut of what follows a level stretch is one of the two together
record SomeCut (fs : List (ℕ × ℕ)) (is : List GItem) (c : ℕ) : Type 0 where
  front : List GItem
  rest : List GItem
  cut : IsCut fs is c front rest

cut_later : {fs : List (ℕ × ℕ)} {a is js front rest : List GItem} {c n : ℕ} → IsLevel fs a → is ≡ a ++ js → n ≡ length a + c → IsCut fs js c front rest → SomeCut fs is n
cut_later {a = a} {n = n} level e place (cut_here {front = front} {rest = rest} p q h d) = record { front = a ++ front; rest = rest; cut = cut_here (level_append level p) q (e ∙ ap (λ (x : List GItem). a ++ x) h ∙ sym (append_assoc a front rest)) (omega (arith, place, d, length-append a front)) }
cut_later {a = a} {front = front} {rest = rest} level e place (cut_inside {before = before} {inside = inside} {l = l} {r = r} after p f k h d) =
    record { front = front; rest = rest; cut = cut_inside after (level_append level p) f k (e ∙ ap (λ (x : List GItem). a ++ x) h ∙ sym (append_assoc a before (grouped l inside r after))) (omega (arith, place, d, length-append a before)) }

-- each place of a level stretch is one of its cuts
cut_there : {fs : List (ℕ × ℕ)} {is : List GItem} → IsLevel fs is → (c : ℕ) → c ≤ length is → SomeCut fs is c
cut_there level_none c lt = record { front = []; rest = []; cut = cut_here level_none level_none refl (omega arith) }
cut_there {is = is} (level_then plain l) zero lt = record { front = []; rest = is; cut = cut_here level_none (level_then plain l) refl refl }
cut_there (level_then {i = i} {is = js} plain l) (suc c) lt =
    let h = cut_there l c (omega arith) in
    cut_later {a = i ∷ []} {js = js} (level_then plain level_none) refl (omega arith) h.cut
cut_there {is = is} (level_group f i t e) zero lt = record { front = []; rest = is; cut = cut_here level_none (level_group f i t e) refl refl }
cut_there {is = is} (level_group {l = l} {r = r} {inside = inside} {after = after} f i t e) (suc c) lt =
    let long : length is ≡ suc (length inside + suc (length after)) = ap length e ∙ ap suc (length-append inside (Fixed (r ∷ []) ∷ after)) in
    elim (cases_lt (length inside) c) [
      | inl later ↦
          let h = cut_there t (c - suc (length inside)) (omega arith) in
          cut_later {a = grouped l inside r []} {js = after} (level_group f i level_none refl) (e ∙ group_split [] l inside r after) (omega (arith, length-append inside (Fixed (r ∷ []) ∷ []))) h.cut
      | inr here ↦
          let h = cut_there i c here in
          record { front = h.front; rest = h.rest; cut = cut_inside {before = []} after level_none f h.cut e (omega arith) }
    ]

-- lists in two parts, of which the first ones are of one length
same_parts : {A : Type 0} (u v x y : List A) → length u ≡ length x → u ++ v ≡ x ++ y → (u ≡ x) × (v ≡ y)
same_parts [] v [] y e h = (refl, h)
same_parts [] v (t ∷ x) y e h = absurd (omega (arith, e))
same_parts (s ∷ u) v [] y e h = absurd (omega (arith, e))
same_parts (s ∷ u) v (t ∷ x) y e h =
    let c = cons_parts h in
    let r = same_parts u v x y (omega (arith, e)) c.1 in
    (cons_same c.0 r.0, r.1)

pub slice_middle : {A : Type 0} {is : List A} (head middle tail : List A) {a b : ℕ} → is ≡ head ++ (middle ++ tail) → a ≡ length head → b ≡ a + length middle → slice_range is a b ≡ middle
slice_middle {A} head middle tail {a} {b} e p q =
    let n : b - a ≡ length middle = omega arith in
    ap (λ (x : List A). slice_range x a b) e ∙ ap (λ (k : ℕ). take (b - a) (drop k (head ++ (middle ++ tail)))) p ∙ ap (λ (x : List A). take (b - a) x) (drop-append_seam head (middle ++ tail)) ∙ ap (λ (k : ℕ). take k (middle ++ tail)) n ∙ take-append_seam middle tail

-- the group whose fences are the edges
record Pair (fs : List (ℕ × ℕ)) (is head front rest : List GItem) : Type 0 where
  k : ℕ
  m : ℕ
  partner : IsPartner fs is k m
  left : length head ≡ suc k
  right : m ≡ length head + (length front + length rest)

paired : (before : List GItem) (x : GItem) (front rest : List GItem) (y : GItem) (after : List GItem) → (before ++ x ∷ []) ++ (front ++ (rest ++ y ∷ after)) ≡ before ++ x ∷ ((front ++ rest) ++ y ∷ after)
paired before x front rest y after = simp (append_assoc)

pair_of : {fs : List (ℕ × ℕ)} {is front rest head tail : List GItem} → is ≡ head ++ (front ++ (rest ++ tail)) → IsLevel fs front → IsLevel fs rest → IsEdge fs head tail → ((head ≡ []) × (tail ≡ [])) ⊎ Pair fs is head front rest
pair_of split lf lr no_edge = inl (refl, refl)
pair_of {is = is} {front = front} {rest = rest} {head = head} {tail = tail} split lf lr (edge {l = l} {r = r} before after f p q) =
    let whole : is ≡ before ++ grouped l (front ++ rest) r after = split ∙ ap (λ (x : List GItem). x ++ (front ++ (rest ++ tail))) p ∙ ap (λ (x : List GItem). (before ++ Fixed (l ∷ []) ∷ []) ++ (front ++ (rest ++ x))) q ∙ paired before (Fixed (l ∷ [])) front rest (Fixed (r ∷ [])) after in
    let first : length head ≡ suc (length before) = ap length p ∙ (omega (arith, length-append before (Fixed (l ∷ []) ∷ []))) in
    inr record {
      k = length before;
      m = suc (length before + length (front ++ rest));
      partner = record { left = l; inside = front ++ rest; right = r; group = record { before = before; after = after; split = whole; fence = f; within = level_append lf lr; place = refl; partner = refl } };
      left = first;
      right = omega (arith, first, length-append front rest);
    }

module _ (fs : List (ℕ × ℕ)) (once : IsDistinct (fence_symbols fs)) where
  -- a group that begins in a level front ends there
  in_front : {is : List GItem} (head front more : List GItem) {k m : ℕ} → is ≡ head ++ (front ++ more) → IsLevel fs front → IsPartner fs is k m → length head ≤ k → k < length head + length front → m < length head + length front
  in_front head front more {k} {m} split level p low high =
      let h = partner_in fs once head front more split level p low high in
      omega (arith, partner_once fs once p h.1, h.2)

  same_ends : {is front rest x y : List GItem} {c : ℕ} → IsLevel fs front → IsLevel fs rest → IsLevel fs x → IsLevel fs y → (a : Lies fs is c front rest) → (b : Lies fs is c x y) → (length a.head ≡ length b.head) × (length rest ≡ length y)
  same_ends {is} {front} {rest} {x} {y} {c} lf lr lx ly a b = by_pairs (pair_of a.split lf lr a.edges) (pair_of b.split lx ly b.edges)
    where
      long_a : length is ≡ length a.head + (length front + (length rest + length a.tail))
      long_a = omega (arith, ap length a.split, length-append a.head (front ++ (rest ++ a.tail)), length-append front (rest ++ a.tail), length-append rest a.tail)

      long_b : length is ≡ length b.head + (length x + (length y + length b.tail))
      long_b = omega (arith, ap length b.split, length-append b.head (x ++ (y ++ b.tail)), length-append x (y ++ b.tail), length-append y b.tail)

      by_pairs : ((a.head ≡ []) × (a.tail ≡ [])) ⊎ Pair fs is a.head front rest → ((b.head ≡ []) × (b.tail ≡ [])) ⊎ Pair fs is b.head x y → (length a.head ≡ length b.head) × (length rest ≡ length y)
      by_pairs (inl p) (inl q) =
          let heads : length a.head ≡ length b.head = ap length (p.0 ∙ sym q.0) in
          let tails : length a.tail ≡ length b.tail = ap length (p.1 ∙ sym q.1) in
          (heads, omega (arith, heads, tails, long_a, long_b, a.place, b.place))
      by_pairs (inl p) (inr q) =
          let none : length a.head ≡ 0 = ap length p.0 in
          let early = in_front a.head front (rest ++ a.tail) a.split lf q.partner (omega (arith, none)) (omega (arith, none, q.left, a.place, b.place)) in
          absurd (omega (arith, early, q.right, q.left, a.place, b.place))
      by_pairs (inr p) (inl q) =
          let none : length b.head ≡ 0 = ap length q.0 in
          let early = in_front b.head x (y ++ b.tail) b.split lx p.partner (omega (arith, none)) (omega (arith, none, p.left, a.place, b.place)) in
          absurd (omega (arith, early, p.right, p.left, a.place, b.place))
      by_pairs (inr p) (inr q) = by_order (cases_lt p.k q.k) (cases_lt q.k p.k)
        where
          by_order : (p.k < q.k) ⊎ (q.k ≤ p.k) → (q.k < p.k) ⊎ (p.k ≤ q.k) → (length a.head ≡ length b.head) × (length rest ≡ length y)
          by_order (inl less) other =
              let early = in_front a.head front (rest ++ a.tail) a.split lf q.partner (omega (arith, p.left)) (omega (arith, q.left, a.place, b.place)) in
              absurd (omega (arith, early, q.right, q.left, a.place, b.place))
          by_order (inr least) (inl more) =
              let early = in_front b.head x (y ++ b.tail) b.split lx p.partner (omega (arith, q.left)) (omega (arith, p.left, a.place, b.place)) in
              absurd (omega (arith, early, p.right, p.left, a.place, b.place))
          by_order (inr least) (inr most) =
              let e : p.k ≡ q.k = omega arith in
              let same : p.m ≡ q.m = partner_once fs once p.partner (subst (λ (n : ℕ). IsPartner fs is n q.m) (sym e) q.partner) in
              (omega (arith, p.left, q.left, e), omega (arith, p.left, q.left, e, same, p.right, q.right, a.place, b.place))

  -- so there is one front and one rest
  pub cut_once : {is front rest x y : List GItem} {c : ℕ} → IsCut fs is c front rest → IsCut fs is c x y → (front ≡ x) × (rest ≡ y)
  cut_once {front = front} {rest = rest} {x = x} {y = y} p q =
      let a = lies p in
      let b = lies q in
      let l = cut_level p in
      let m = cut_level q in
      let ends = same_ends l.0 l.1 m.0 m.1 a b in
      let one = same_parts a.head (front ++ (rest ++ a.tail)) b.head (x ++ (y ++ b.tail)) ends.0 (sym a.split ∙ b.split) in
      let two = same_parts front (rest ++ a.tail) x (y ++ b.tail) (omega (arith, a.place, b.place, ends.0)) one.1 in
      let three = same_parts rest a.tail y b.tail ends.1 two.1 in
      (two.0, three.0)

-- the places at which front and rest stand
front_at : {fs : List (ℕ × ℕ)} {is front rest : List GItem} {c : ℕ} (a : Lies fs is c front rest) → slice_range is (length a.head) c ≡ front
front_at {front = front} {rest = rest} a = slice_middle a.head front (rest ++ a.tail) a.split refl (omega (arith, a.place))

rest_at : {fs : List (ℕ × ℕ)} {is front rest : List GItem} {c : ℕ} (a : Lies fs is c front rest) → slice_range is c (c + length rest) ≡ rest
rest_at {front = front} {rest = rest} a = slice_middle (a.head ++ front) rest a.tail (a.split ∙ sym (append_assoc a.head front (rest ++ a.tail))) (omega (arith, a.place, length-append a.head front)) refl

cuts_at : {fs : List (ℕ × ℕ)} {is front rest : List GItem} {c : ℕ} → IsCut fs is c front rest → (a : Lies fs is c front rest) → CutsAt fs is c (length a.head) (c + length rest)
cuts_at {fs} {is} {front} {rest} {c} cut a = record {
  low = omega (arith, a.place);
  middle = omega arith;
  high = omega (arith, a.place, ap length a.split, length-append a.head (front ++ (rest ++ a.tail)), length-append front (rest ++ a.tail), length-append rest a.tail);
  cut = subst (λ (x : List GItem). IsCut fs is c x (slice_range is c (c + length rest))) (sym (front_at a)) (subst (λ (x : List GItem). IsCut fs is c front x) (sym (rest_at a)) cut);
}

one_cut : {fs : List (ℕ × ℕ)} {is : List GItem} {c : ℕ} → IsDistinct (fence_symbols fs) → SomeCut fs is c → HasOneCut fs is c
one_cut {fs} {is} {c} once h =
    let a = lies h.cut in
    let at = cuts_at h.cut a in
    let level = cut_level at.cut in
    record { start = length a.head; end = c + length h.rest; at = at; front_level = level.0; rest_level = level.1; only = λ front rest k. cut_once fs once k at.cut }

pub cuts_are_one : CutsAreOne
cuts_are_one g proper p c lt = one_cut proper.once (cut_there (proper.level p) c lt)

-- what the list of partners says of the group round a cut
module _ (g : Grammar) (proper : IsProper g) (p : ℕ) (list : List (Option ℕ)) (e : list ≡ partners g.fences 0 (spread g p)) (c : ℕ) (within : c ≤ length (spread g p)) where
  listed : (k m : ℕ) → k < c → slice_index_or list k None ≡ Some m → IsPartner g.fences (spread g p) k m
  listed k m lt is = subst (λ (o : Option ℕ). IfSome o (IsPartner g.fences (spread g p) k)) is (partner_kept g p k list proper e (omega arith)).1

  moved : {front rest : List GItem} → IsCut g.fences (spread g p) c front rest → (a : Lies g.fences (spread g p) c front rest) → (start end : ℕ) → length a.head ≡ start → c + length rest ≡ end → CutsAt g.fences (spread g p) c start end
  moved {rest = rest} cut a start end q r = subst (λ (n : ℕ). CutsAt g.fences (spread g p) c start n) r (subst (λ (n : ℕ). CutsAt g.fences (spread g p) c n (c + length rest)) q (cuts_at cut a))

  pub cut_of_none : HasNoRound list c → CutsAt g.fences (spread g p) c 0 (length (spread g p))
  cut_of_none none = by_pair (cut_there (proper.level p) c within)
    where
      by_pair : SomeCut g.fences (spread g p) c → CutsAt g.fences (spread g p) c 0 (length (spread g p))
      by_pair h = by_edge (lies h.cut) (cut_level h.cut)
        where
          by_edge : Lies g.fences (spread g p) c h.front h.rest → IsLevel g.fences h.front × IsLevel g.fences h.rest → CutsAt g.fences (spread g p) c 0 (length (spread g p))
          by_edge a l = elim (pair_of a.split l.0 l.1 a.edges) [
            | inl q ↦ moved h.cut a 0 (length (spread g p)) (ap length q.0) (omega (arith, a.place, ap length q.0, ap length q.1, ap length a.split, length-append a.head (h.front ++ (h.rest ++ a.tail)), length-append h.front (h.rest ++ a.tail), length-append h.rest a.tail))
            | inr q ↦ absurd (none q.k (omega (arith, q.left, a.place)) record { partner = q.m; is = partner_listed g.fences proper.once list e q.partner; far = omega (arith, q.right, a.place) })
          ]

  pub cut_of_round : (k m : ℕ) → IsRound list c k m → CutsAt g.fences (spread g p) c (suc k) m
  cut_of_round k m round = by_pair (cut_there (proper.level p) c within)
    where
      pair : IsPartner g.fences (spread g p) k m
      pair = listed k m round.before round.is

      by_pair : SomeCut g.fences (spread g p) c → CutsAt g.fences (spread g p) c (suc k) m
      by_pair h = by_edge (lies h.cut) (cut_level h.cut)
        where
          by_edge : (a : Lies g.fences (spread g p) c h.front h.rest) → IsLevel g.fences h.front × IsLevel g.fences h.rest → CutsAt g.fences (spread g p) c (suc k) m
          by_edge a l = elim (pair_of a.split l.0 l.1 a.edges) [
            | inl q ↦
                let none : length a.head ≡ 0 = ap length q.0 in
                let early = early_end (omega (arith, none)) in
                absurd (omega (arith, early, round.far))
            | inr q ↦ by_order q (cases_lt k q.k) (cases_lt q.k k)
          ]
            where
              early_end : length a.head ≤ k → m < c
              early_end low =
                  let h' = in_front g.fences proper.once a.head h.front (h.rest ++ a.tail) a.split l.0 pair low (omega (arith, round.before, a.place)) in
                  omega (arith, h', a.place)

              by_order : (q : Pair g.fences (spread g p) a.head h.front h.rest) → (k < q.k) ⊎ (q.k ≤ k) → (q.k < k) ⊎ (k ≤ q.k) → CutsAt g.fences (spread g p) c (suc k) m
              by_order q (inl less) other = absurd (round.last q.k less (omega (arith, q.left, a.place)) record { partner = q.m; is = partner_listed g.fences proper.once list e q.partner; far = omega (arith, q.right, a.place) })
              by_order q (inr least) (inl more) = let early = early_end (omega (arith, q.left)) in absurd (omega (arith, early, round.far))
              by_order q (inr least) (inr most) =
                  let same : q.k ≡ k = omega arith in
                  let ends : m ≡ q.m = partner_once g.fences proper.once pair (subst (λ (n : ℕ). IsPartner g.fences (spread g p) n q.m) same q.partner) in
                  moved h.cut a (suc k) m (omega (arith, q.left, same)) (omega (arith, ends, q.right, a.place))

-- how the group round a cut is found, from the last item before the cut on
none_far : (list : List (Option ℕ)) (c left : ℕ) → ((x : ℕ) → slice_index_or list left None ≡ Some x → ⊥) → ¬ ReachesTo list c left
none_far list c left none r = none r.partner r.is

near_far : (list : List (Option ℕ)) (c left right : ℕ) → slice_index_or list left None ≡ Some right → right < c → ¬ ReachesTo list c left
near_far list c left right e near r = let same : right ≡ r.partner = some_one (sym e ∙ r.is) in omega (arith, same, near, r.far)
  where
    some_one : {m n : ℕ} → Some m ≡ Some n → m ≡ n
    some_one h = cc

one_less : (list : List (Option ℕ)) (c done left : ℕ) → left ≡ c - 1 - done → done < c → ((j : ℕ) → c - done ≤ j → j < c → ¬ ReachesTo list c j) → ¬ ReachesTo list c left → (j : ℕ) → c - (done + 1) ≤ j → j < c → ¬ ReachesTo list c j
one_less list c done left at lt later here j low high =
    elim (cases_lt j (c - done)) [
      | inl before ↦ let same : left ≡ j = omega arith in subst (λ (n : ℕ). ¬ ReachesTo list c n) same here
      | inr after ↦ later j after high
    ]

pub none_step : (list : List (Option ℕ)) (c done left : ℕ) → left ≡ c - 1 - done → done < c → ((j : ℕ) → c - done ≤ j → j < c → ¬ ReachesTo list c j) → ((x : ℕ) → slice_index_or list left None ≡ Some x → ⊥) → (j : ℕ) → c - (done + 1) ≤ j → j < c → ¬ ReachesTo list c j
none_step list c done left at lt later e = one_less list c done left at lt later (none_far list c left e)

pub near_step : (list : List (Option ℕ)) (c done left right : ℕ) → left ≡ c - 1 - done → done < c → ((j : ℕ) → c - done ≤ j → j < c → ¬ ReachesTo list c j) → slice_index_or list left None ≡ Some right → right < c → (j : ℕ) → c - (done + 1) ≤ j → j < c → ¬ ReachesTo list c j
near_step list c done left right at lt later e near = one_less list c done left at lt later (near_far list c left right e near)

-- the same, as they are used
pub round_cut : (g : Grammar) → IsProper g → (p : ℕ) (list : List (Option ℕ)) → list ≡ partners g.fences 0 (spread g p) → (c : ℕ) → c ≤ length (spread g p) → (k m : ℕ) → IsRound list c k m → CutsAt g.fences (spread g p) c (k + 1) m
round_cut g proper p list e c within k m round = let same : suc k ≡ k + 1 = omega arith in subst (λ (n : ℕ). CutsAt g.fences (spread g p) c n m) same (cut_of_round g proper p list e c within k m round)

pub whole_cut : (g : Grammar) → IsProper g → (p : ℕ) (list : List (Option ℕ)) → list ≡ partners g.fences 0 (spread g p) → (c : ℕ) → c ≤ length (spread g p) → HasNoRound list c → (items : List GItem) → items ≡ spread g p → CutsAt g.fences (spread g p) c 0 (length items)
whole_cut g proper p list e c within none items same = subst (λ (x : List GItem). CutsAt g.fences (spread g p) c 0 (length x)) (sym same) (cut_of_none g proper p list e c within none)

pub partners_within : (g : Grammar) (p c : ℕ) (list : List (Option ℕ)) → list ≡ partners g.fences 0 (spread g p) → c ≤ length (spread g p) → c ≤ length list
partners_within g p c list e within = omega (arith, ap length e, partners_long g.fences 0 (spread g p), within)
