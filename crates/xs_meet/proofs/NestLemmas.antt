-- A set of pairs that is closed holds every pair of paths that read one word, calls included.
use Rattle.std.proofs.Common.{◌≡◌, ℕ, ◌<◌, List, [], ◌∷◌, ◌++◌, length, refl, sym, ap, ◌∙◌, append_assoc, inl, inr, arith, true}
use Rattle.std.specs.List.{Contains}
use Rattle.std.specs.declared.option.Option.TheVariants.{Some}
use Rattle.xs_class.proofs.Lists.{cons_parts, cons_same}
use Rattle.xs_class.specs.Classes.{Has}
use Rattle.xs_auto.specs.declared.call.Call.{Call}
use Rattle.xs_auto.specs.Edges.{Edge}
use Rattle.xs_auto.specs.Nets.{Graph, edges_of, calls_of, final_at}
use Rattle.xs_auto.specs.Nests.{Group, IsGroup, Crossing, stands, drifts, takes, enters, IsPlain, IsTame, IsFenced, HaveOneFence}
use Rattle.xs_meet.specs.Closed.{Drifts, Strides, Leads, IsClosed, LeadsInto, IsApart, IsClear, Marked, IsSettled}
use Rattle.xs_meet.specs.Shared.{IsSharedOver, AreOverlapOver}

group_same : {l m r s : ℕ} {u v x y : List ℕ} → l ≡ m → u ≡ v → r ≡ s → x ≡ y → l ∷ (u ++ r ∷ x) ≡ m ∷ (v ++ s ∷ y)
group_same p q r s = cc

-- words whose fence symbols are balanced
data Balanced (nest : List Group) : List ℕ → Type 0 where
  bal_none : Balanced nest []
  bal_plain : {s : ℕ} {w : List ℕ} → IsPlain nest s → Balanced nest w → Balanced nest (s ∷ w)
  bal_group : {w : List ℕ} (h : ℕ) (group : Group) (u v : List ℕ) → IsGroup nest h group → Balanced nest u → Balanced nest v → w ≡ group.left ∷ (u ++ group.right ∷ v) → Balanced nest w

-- the symbol closes a group
record Ends (nest : List Group) (r : ℕ) : Type 0 where
  h : ℕ
  group : Group
  is : IsGroup nest h group
  right : r ≡ group.right

record IsSameCut (u v : List ℕ) (r s : ℕ) (x y : List ℕ) : Type 0 where
  words : u ≡ v
  ends : r ≡ s
  rests : x ≡ y

-- a balanced word before a right fence is cut off at one place
one_cut : {nest : List Group} → IsFenced nest → {u : List ℕ} → Balanced nest u → {v : List ℕ} → Balanced nest v → (r s : ℕ) → Ends nest r → Ends nest s → (x y : List ℕ) → u ++ r ∷ x ≡ v ++ s ∷ y → IsSameCut u v r s x y
one_cut fenced bal_none bal_none r s cr cs x y e = let p = cons_parts e in record { words = refl; ends = p.0; rests = p.1 }
one_cut fenced bal_none (bal_plain plain b) r s cr cs x y e = let p = cons_parts e in absurd ((plain cr.h cr.group cr.is).1 (sym p.0 ∙ cr.right))
one_cut fenced bal_none (bal_group h group u v is b b' split) r s cr cs x y e = let p = cons_parts (rw split at e) in absurd (fenced.sides _ _ _ _ is cr.is (sym p.0 ∙ cr.right))
one_cut fenced (bal_plain plain b) bal_none r s cr cs x y e = let p = cons_parts e in absurd ((plain cs.h cs.group cs.is).1 (p.0 ∙ cs.right))
one_cut fenced (bal_plain {s = t} plain b) (bal_plain q c) r s cr cs x y e =
    let p = cons_parts e in
    let k = one_cut fenced b c r s cr cs x y p.1 in
    record { words = cons_same p.0 k.words; ends = k.ends; rests = k.rests }
one_cut fenced (bal_plain plain b) (bal_group h group u v is c c' split) r s cr cs x y e = let p = cons_parts (rw split at e) in absurd ((plain _ _ is).0 p.0)
one_cut fenced (bal_group h group u v is b b' split) bal_none r s cr cs x y e = let p = cons_parts (rw split at e) in absurd (fenced.sides _ _ _ _ is cs.is (p.0 ∙ cs.right))
one_cut fenced (bal_group h group u v is b b' split) (bal_plain plain c) r s cr cs x y e = let p = cons_parts (rw split at e) in absurd ((plain _ _ is).0 (sym p.0))
one_cut fenced (bal_group h group u1 u2 is b b' split) (bal_group k other v1 v2 is' c c' split') r s cr cs x y e =
    let p = cons_parts (rw split' at (rw split at e)) in
    let k1 = one_cut fenced b c group.right other.right (record { h = h; group = group; is = is; right = refl }) (record { h = k; group = other; is = is'; right = refl }) _ _ (sym (append_assoc u1 (group.right ∷ u2) (r ∷ x)) ∙ p.1 ∙ append_assoc v1 (other.right ∷ v2) (s ∷ y)) in
    let k2 = one_cut fenced b' c' r s cr cs x y k1.rests in
    record { words = split ∙ group_same p.0 k1.words k1.ends k2.words ∙ sym split'; ends = k2.ends; rests = k2.rests }

balanced : {nest : List Group} → IsFenced nest → {n : Graph} {a b : ℕ} {w : List ℕ} → Crossing nest n a w b → IsTame nest n → Balanced nest w
balanced fenced stands tame = bal_none
balanced fenced (drifts m p) tame = balanced fenced p tame
balanced fenced (takes e h t p) tame = bal_plain (tame.plain _ _ e h t) (balanced fenced p tame)
balanced fenced (enters {u = u} {v = v} k group c is s p f q e) tame = bal_group k.group group u v is (balanced fenced p (fenced.tame _ _ is)) (balanced fenced q tame) e

-- what is closed is closed under empty moves
drifting : (R : ℕ → ℕ → Type 0) {m n : Graph} {Z : ℕ → ℕ → Type 0} → IsClosed (Leads R m n) Z → IsClosed (Drifts m n) Z
drifting R c x y u v z d = c x y u v z (inl d)

-- the second path goes by empty moves to its first edge
record Pulled (nest : List Group) (n : Graph) (Z : ℕ → ℕ → Type 0) (a s : ℕ) (w : List ℕ) (last : ℕ) : Type 0 where
  at : ℕ
  edge : Edge
  holds : Z a at
  has : Contains (edges_of n at) edge
  takes : Has edge.class s
  rest : Crossing nest n edge.to w last

pulled : {nest : List Group} {n : Graph} {b s last : ℕ} {w : List ℕ} → Crossing nest n b (s ∷ w) last → (m : Graph) (Z : ℕ → ℕ → Type 0) {a : ℕ} → IsClosed (Drifts m n) Z → IsPlain nest s → Z a b → Pulled nest n Z a s w last
pulled (drifts t p) m Z c plain z = pulled p m Z c plain (c _ _ _ _ z (inr (record { move = t; still = refl })))
pulled (takes e h t p) m Z c plain z = record { at = _; edge = e; holds = z; has = h; takes = t; rest = p }
pulled (enters k group call is s p f q e) m Z c plain z = absurd ((plain _ _ is).0 (cons_parts e).0)

settled : {nest : List Group} {n : Graph} {b last : ℕ} {w : List ℕ} → Crossing nest n b w last → w ≡ [] → (m : Graph) (Z : ℕ → ℕ → Type 0) {a : ℕ} → IsClosed (Drifts m n) Z → Z a b → Z a last
settled stands e m Z c z = z
settled (drifts t p) e m Z c z = settled p e m Z c (c _ _ _ _ z (inr (record { move = t; still = refl })))
settled (takes edge h t p) e m Z c z = cc
settled (enters k group call is s p f q h) e m Z c z = cc

-- the second path goes by empty moves to a call of a group of the same fence, whose content reads
-- the same word
record Called (nest : List Group) (n : Graph) (Z : ℕ → ℕ → Type 0) (a : ℕ) (group : Group) (u v : List ℕ) (end : ℕ) : Type 0 where
  at : ℕ
  call : Call
  other : Group
  first : ℕ
  last : ℕ
  holds : Z a at
  has : Contains (calls_of n at) call
  is : IsGroup nest call.group other
  fence : HaveOneFence group other
  starts : other.content.start ≡ Some first
  inside : Crossing nest other.content first u last
  final : final_at other.content last ≡ true
  rest : Crossing nest n call.to v end

called : {nest : List Group} {n : Graph} {b end : ℕ} {w : List ℕ} → Crossing nest n b w end → IsFenced nest → IsTame nest n → (m : Graph) (Z : ℕ → ℕ → Type 0) {a : ℕ} (g : ℕ) (group : Group) (u v : List ℕ) → IsClosed (Drifts m n) Z → IsGroup nest g group → Balanced nest u → w ≡ group.left ∷ (u ++ group.right ∷ v) → Z a b → Called nest n Z a group u v end
called stands fenced tame m Z g group u v c is bal e z = cc
called (drifts t p) fenced tame m Z g group u v c is bal e z = called p fenced tame m Z g group u v c is bal e (c _ _ _ _ z (inr (record { move = t; still = refl })))
called (takes edge h t p) fenced tame m Z g group u v c is bal e z = absurd ((tame.plain _ _ edge h t _ _ is).0 (cons_parts e).0)
called {nest} {n} {end = end} (enters {u = u'} {v = v'} k other call is' s p f q h) fenced tame m Z g group u v c is bal e z =
    let t = cons_parts (sym e ∙ h) in
    let k1 = one_cut fenced bal (balanced fenced p (fenced.tame _ _ is')) group.right other.right (record { h = g; group = group; is = is; right = refl }) (record { h = k.group; group = other; is = is'; right = refl }) v v' t.1 in
    record { at = _; call = k; other = other; first = _; last = _; holds = z; has = call; is = is'; fence = record { left = t.0; right = k1.ends }; starts = s; inside = rw (← k1.words) at p; final = f; rest = rw (← k1.rests) at q }

module _ (nest : List Group) (fenced : IsFenced nest) (R : ℕ → ℕ → Type 0) (blocks : IsSettled nest R) where
  -- two paths that read one word end at a pair of the set
  met : {m : Graph} {a a' : ℕ} {w : List ℕ} → Crossing nest m a w a' → (n : Graph) (Z : ℕ → ℕ → Type 0) → IsClosed (Leads R m n) Z → IsTame nest m → IsTame nest n → (b end : ℕ) → Crossing nest n b w end → Z a b → Z a' end
  met {m} stands n Z c tm tn b end p z = settled p refl m Z (drifting R c) z
  met (drifts t q) n Z c tm tn b end p z = met q n Z c tm tn b end p (c _ _ _ _ z (inl (inl (record { move = t; still = refl }))))
  met {m} (takes e h t q) n Z c tm tn b end p z =
      let g = pulled p m Z (drifting R c) (tm.plain _ _ e h t) z in
      met q n Z c tm tn g.edge.to end g.rest (c _ _ _ _ g.holds (inr (inl (_, record { first = e; second = g.edge; of_first = h; of_second = g.has; takes_first = t; takes_second = g.takes; to_first = refl; to_second = refl }))))
  met {m} (enters {u = u} {v = v} k group call is starts inside f q e) n Z c tm tn b end p z =
      let h = called p fenced tn m Z k.group group u v (drifting R c) is (balanced fenced inside (fenced.tame _ _ is)) e z in
      let related : R k.group h.call.group = elim (blocks k.group h.call.group group h.other is h.is h.fence) [
        | inl r ↦ r
        | inr z ↦ absurd (z.1.none _ _ (met inside h.other.content (Marked z.0) z.1.closed (fenced.tame _ _ is) (fenced.tame _ _ h.is) _ _ h.inside (z.1.starts _ _ starts h.starts)) f h.final)
      ] in
      met q n Z c tm tn h.call.to end h.rest (c _ _ _ _ h.holds (inr (inr (k.group, h.call.group, record { first = k; second = h.call; of_first = call; of_second = h.has; over_first = refl; over_second = refl; related = related; to_first = refl; to_second = refl }))))

  -- groups whose contents read one word are related
  related_by : {g h a b : ℕ} {first second : Group} {u : List ℕ} {x y : ℕ} → IsGroup nest g first → IsGroup nest h second → HaveOneFence first second → first.content.start ≡ Some x → second.content.start ≡ Some y → Crossing nest first.content x u a → final_at first.content a ≡ true → Crossing nest second.content y u b → final_at second.content b ≡ true → R g h
  related_by {g} {h} {first = first} {second = second} is is' fence s t p pf q qf =
      elim (blocks g h first second is is' fence) [
        | inl r ↦ r
        | inr z ↦ absurd (z.1.none _ _ (met p second.content (Marked z.0) z.1.closed (fenced.tame _ _ is) (fenced.tame _ _ is') _ _ q (z.1.starts _ _ s t)) pf qf)
      ]

  -- where a set shows it, no word is shared
  pub apart : (m n : Graph) (Z : ℕ → ℕ → Type 0) → IsTame nest m → IsTame nest n → IsApart R m n Z → (w : List ℕ) → IsSharedOver nest m n w → ⊥
  apart m n Z tm tn i w s = i.none _ _ (met s.first.crosses n Z i.closed tm tn _ _ s.second.crosses (i.starts _ _ s.first.starts s.second.starts)) s.first.final s.second.final

  -- where the first path ends, the second has come to a state beside it
  record Forked (n : Graph) (Z : ℕ → ℕ → Type 0) (a : ℕ) (v : List ℕ) (end : ℕ) : Type 0 where
    at : ℕ
    holds : Z a at
    rest : Crossing nest n at v end

  forked : {m : Graph} {a a' : ℕ} {w : List ℕ} → Crossing nest m a w a' → (n : Graph) (Z : ℕ → ℕ → Type 0) → IsClosed (Leads R m n) Z → IsTame nest m → IsTame nest n → (b end : ℕ) (v : List ℕ) → Crossing nest n b (w ++ v) end → Z a b → Forked n Z a' v end
  forked stands n Z c tm tn b end v p z = record { at = b; holds = z; rest = p }
  forked (drifts t q) n Z c tm tn b end v p z = forked q n Z c tm tn b end v p (c _ _ _ _ z (inl (inl (record { move = t; still = refl }))))
  forked {m} (takes e h t q) n Z c tm tn b end v p z =
      let g = pulled p m Z (drifting R c) (tm.plain _ _ e h t) z in
      forked q n Z c tm tn g.edge.to end v g.rest (c _ _ _ _ g.holds (inr (inl (_, record { first = e; second = g.edge; of_first = h; of_second = g.has; takes_first = t; takes_second = g.takes; to_first = refl; to_second = refl }))))
  forked {m} (enters {u = u} {v = x} {w = w} k group call is starts inside f q e) n Z c tm tn b end v p z =
      let split : w ++ v ≡ group.left ∷ (u ++ group.right ∷ (x ++ v)) = ap (λ y. y ++ v) e ∙ ap (λ y. group.left ∷ y) (append_assoc u (group.right ∷ x) v) in
      let h = called p fenced tn m Z k.group group u (x ++ v) (drifting R c) is (balanced fenced inside (fenced.tame _ _ is)) split z in
      let related = related_by is h.is h.fence starts h.starts inside f h.inside h.final in
      forked q n Z c tm tn h.call.to end v h.rest (c _ _ _ _ h.holds (inr (inr (k.group, h.call.group, record { first = k; second = h.call; of_first = call; of_second = h.has; over_first = refl; over_second = refl; related = related; to_first = refl; to_second = refl }))))

  -- from Y the first edge or call leads into Z
  first_stride : {f : Graph} {b b' : ℕ} {w : List ℕ} → Crossing nest f b w b' → 0 < length w → (e : Graph) (Y Z : ℕ → ℕ → Type 0) → IsClosed (Drifts f e) Y → LeadsInto (Strides R f e) Y Z → IsClosed (Leads R f e) Z → IsTame nest f → IsTame nest e → (r end : ℕ) (v : List ℕ) → Crossing nest e r (w ++ v) end → Y b r → Forked e Z b' v end
  first_stride stands some e Y Z d into c tf te r end v p y = absurd (omega arith)
  first_stride (drifts t q) some e Y Z d into c tf te r end v p y = first_stride q some e Y Z d into c tf te r end v p (d _ _ _ _ y (inl (record { move = t; still = refl })))
  first_stride {f} (takes edge h t q) some e Y Z d into c tf te r end v p y =
      let g = pulled p f Y d (tf.plain _ _ edge h t) y in
      forked q e Z c tf te g.edge.to end v g.rest (into _ _ _ _ g.holds (inl (_, record { first = edge; second = g.edge; of_first = h; of_second = g.has; takes_first = t; takes_second = g.takes; to_first = refl; to_second = refl })))
  first_stride {f} (enters {u = u} {v = x} {w = w} k group call is starts inside final q split) some e Y Z d into c tf te r end v p y =
      let whole : w ++ v ≡ group.left ∷ (u ++ group.right ∷ (x ++ v)) = ap (λ y. y ++ v) split ∙ ap (λ y. group.left ∷ y) (append_assoc u (group.right ∷ x) v) in
      let h = called p fenced te f Y k.group group u (x ++ v) d is (balanced fenced inside (fenced.tame _ _ is)) whole y in
      let related = related_by is h.is h.fence starts h.starts inside final h.inside h.final in
      forked q e Z c tf te h.call.to end v h.rest (into _ _ _ _ h.holds (inr (k.group, h.call.group, record { first = k; second = h.call; of_first = call; of_second = h.has; over_first = refl; over_second = refl; related = related; to_first = refl; to_second = refl })))

  -- where four sets show it, there is no overlap
  pub clear : (f e : Graph) (Z1 Z0 Z2 Z3 : ℕ → ℕ → Type 0) → IsTame nest f → IsTame nest e → IsClear R f e Z1 Z0 Z2 Z3 → (x a y : List ℕ) → AreOverlapOver nest f e x a y → ⊥
  clear f e Z1 Z0 Z2 Z3 tf te i x a y o =
      let p = o.short_front in
      let q = o.long_front in
      let s = o.short_rest in
      let t = o.long_rest in
      let one = forked p.crosses f Z1 i.closed1 tf tf _ _ a q.crosses (i.starts _ _ p.starts q.starts) in
      let two = first_stride one.rest o.some e Z0 Z2 i.drifts0 i.to2 i.closed2 tf te _ _ y t.crosses (i.to0 _ _ _ one.holds p.final t.starts) in
      i.none _ _ (met s.crosses e Z3 i.closed3 te te _ _ two.rest (i.to3 _ _ _ two.holds q.final s.starts)) s.final t.final
