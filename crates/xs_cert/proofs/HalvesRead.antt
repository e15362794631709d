-- A side is read where its lines of groups that share are, and then its blocks.
use Rattle.std.proofs.Common.{◌≡◌, ◌⊎◌, inl, inr, ℕ, suc, ◌+◌, ◌≤◌, ◌&&◌, ◌||◌, nat_eq, not, Bool, false, List, [], ◌∷◌, ◌++◌, length, map, flat_map, filter, refl, sym, ap, subst, ◌∙◌, arith, append-nil, length-append, Result, Ok, Err, IfOk}
use Rattle.std.proofs.Math.Path.{fun_ext}
use Rattle.std.proofs.lemmas.List.Elements.{All-contains, filter_agree}
use Rattle.xs_class.specs.declared.memory.Memory.{Memory}
use Rattle.xs_auto.specs.Nests.{Group, group_at}
use Rattle.xs_gram.specs.Grammar.{Grammar}
use Rattle.xs_gram.specs.Sound.{IsBuilt}
use Rattle.xs_meet.specs.Closed.{Marked}
use Rattle.xs_loose.specs.Nets.{IsNestOf}
use Rattle.xs_loose.specs.Laws.{IsLaidOnce}
use Rattle.xs_closed.specs.Rows.{Grid, marked, blank}
use Rattle.xs_closed.proofs.FoundLemmas.{blank_row}
use Rattle.xs_cert_lines.specs.Lines.{Lines}
use Rattle.xs_cert_laws.specs.Blocks.{Head, Block, of_groups, of_rules, of_cut, head, IsRight, ShowsApart, block_lines, for_groups}
use Rattle.xs_cert_laws.specs.Certificates.{one_fence, IsFencePair, is_shared, Shares, between, group_heads, heads, Half, IsHalf, share_line, half_lines}
use Rattle.xs_cert.specs.declared.place.Place.{Place}
use Rattle.xs_cert.specs.declared.place.Reading.{Reading}
use Rattle.xs_cert.specs.declared.place.Reading.TheVariants.{Whole, Broken}
use Rattle.xs_cert.specs.Places.{IsPast, Stand}
use Rattle.xs_cert.specs.Ways.{Ahead, Tail, TailWays, LeadsTo, EndsBy, BlockWays, ends_here, block_then, goes_past, HalfWays}
use Rattle.xs_cert.specs.Readings.{AreRead, AreWhole, AreBroken, IsReading}
use Rattle.xs_cert.specs.Shares.{AreFrom, ShareWays, AreSharesRead}
use Rattle.xs_cert.specs.Sides.{all_rule_heads, all_cut_heads, side_heads}
use Rattle.xs_cert.specs.Halves.{IsWholeHalf, IsBrokenHalf, IsHalfReading}
use Rattle.xs_cert.proofs.Standing.{past_then, goes_after, leads_then, leads_ends}
use Rattle.xs_cert.proofs.SameNets.{apart_as, SameNests, nests_same}
use Rattle.xs_cert.proofs.SharesRead.{shares_are_from, are_shares, none_past}

-- what comes by one way comes by another
pub leads_from : {bytes : List ℕ} (p q : Place) (U V W : Lines → List ℕ → ℕ → Type 0) → ((ls : Lines) (rest : List ℕ) (j : ℕ) → U ls rest j → V ls rest j) → LeadsTo bytes p V q W → LeadsTo bytes p U q W
leads_from p q U V W f a j h = a j (record { lines = h.lines; rest = h.rest; way = f h.lines h.rest j h.way; is = h.is })

pub leads_into : {bytes : List ℕ} (p q : Place) (U V W : Lines → List ℕ → ℕ → Type 0) → ((ls : Lines) (rest : List ℕ) (j : ℕ) → V ls rest j → (j ≡ 0) ⊎ W ls rest j) → LeadsTo bytes p U q V → LeadsTo bytes p U q W
leads_into {bytes} p q U V W f a j h = elim (a j h) [
  | inl x ↦ inl x
  | inr x ↦ by_way x.0 x.1 x.2 (f x.2.lines x.2.rest x.0 x.2.way)
]
  where
    by_way : (i : ℕ) → p.lines + j ≡ q.lines + i → (x : Ahead bytes q.byte V i) → (i ≡ 0) ⊎ W x.lines x.rest i → (p.lines + j ≤ q.lines) ⊎ ((k : ℕ) × (p.lines + j ≡ q.lines + k) × Ahead bytes q.byte W k)
    by_way i e x (inl none) = inl (omega (arith, e, none))
    by_way i e x (inr w) = inr (i, e, record { lines = x.lines; rest = x.rest; way = w; is = x.is })

-- nests of one grammar
flat_map_agree : {A B : Type 0} (f h : A → List B) → ((x : A) → f x ≡ h x) → (xs : List A) → flat_map f xs ≡ flat_map h xs
flat_map_agree f h e [] = refl
flat_map_agree f h e (x ∷ xs) = ap (λ (z : List _). z ++ flat_map f xs) (e x) ∙ ap (λ (z : List _). h x ++ z) (flat_map_agree f h e xs)

module _ {a b : List Group} (nests : SameNests a b) where
  fence_same : (h k : ℕ) → one_fence a h k ≡ one_fence b h k
  fence_same h k =
      ap (λ (x : ℕ). nat_eq x (group_at a k).left && nat_eq (group_at a h).right (group_at a k).right) (nests.each h).left
      ∙ ap (λ (x : ℕ). nat_eq (group_at b h).left x && nat_eq (group_at a h).right (group_at a k).right) (nests.each k).left
      ∙ ap (λ (x : ℕ). nat_eq (group_at b h).left (group_at b k).left && nat_eq x (group_at a k).right) (nests.each h).right
      ∙ ap (λ (x : ℕ). nat_eq (group_at b h).left (group_at b k).left && nat_eq (group_at b h).right x) (nests.each k).right

  group_heads_same : (ss : List (ℕ × ℕ)) (h : ℕ) → group_heads a ss h ≡ group_heads b ss h
  group_heads_same ss h =
      ap (λ (n : ℕ). map (for_groups h) (filter (λ (k : ℕ). one_fence a h k && not (is_shared ss h k)) (between h n))) nests.counted
      ∙ ap (map (for_groups h)) (filter_agree (λ (k : ℕ). one_fence a h k && not (is_shared ss h k)) (λ (k : ℕ). one_fence b h k && not (is_shared ss h k)) (λ k. ap (λ (x : Bool). x && not (is_shared ss h k)) (fence_same h k)) (between h (length b)))

  pub heads_same : (g : Grammar) (ss : List (ℕ × ℕ)) → heads g a ss ≡ heads g b ss
  heads_same g ss =
      ap (λ (n : ℕ). flat_map (group_heads a ss) (between 0 n) ++ (all_rule_heads g ++ all_cut_heads g)) nests.counted
      ∙ ap (λ (hs : List Head). hs ++ (all_rule_heads g ++ all_cut_heads g)) (flat_map_agree (group_heads a ss) (group_heads b ss) (group_heads_same ss) (between 0 (length b)))

  pair_same : (h k : ℕ) → IsFencePair a h k → IsFencePair b h k
  pair_same h k x = record { order = x.order; within = omega (arith, x.within, nests.counted); fence = sym (fence_same h k) ∙ x.fence }

  pub from_same : (h k : ℕ) (ss : List (ℕ × ℕ)) → AreFrom a h k ss → AreFrom b h k ss
  from_same h k [] o = tt
  from_same h k (s ∷ ss) o = (pair_same s.0 s.1 o.0, o.1, from_same s.0 (suc s.1) ss o.2)

  -- a block that is right over one nest is so over the other, with the nets of that
  record Rebased (g : Grammar) (R : ℕ → ℕ → Type 0) (x : Block) : Type 0 where
    block : Block
    is : head block ≡ head x
    right : IsRight g b R block
    same : block_lines block ≡ block_lines x

  rebased : (g : Grammar) (R : ℕ → ℕ → Type 0) (x : Block) → IsRight g a R x → Rebased g R x
  rebased g R (of_groups h k m n z) right = record {
    block = of_groups h k (group_at b h).content (group_at b k).content z;
    is = refl;
    right = (record { first = refl; second = refl }, apart_as (nests.each h).content (nests.each k).content (subst (λ (x : _). ShowsApart R x (group_at a k).content z) right.0.first (subst (λ (x : _). ShowsApart R m x z) right.0.second right.1)));
    same = refl;
  }
  rebased g R (of_rules p q m n z) right = record { block = of_rules p q m n z; is = refl; right = right; same = refl }
  rebased g R (of_cut p c f e z1 z0 z2 z3) right = record { block = of_cut p c f e z1 z0 z2 z3; is = refl; right = right; same = refl }

  pub ways_same : {g : Grammar} {R : ℕ → ℕ → Type 0} (T : Lines → List ℕ → ℕ → Type 0) {hs : List Head} {ls : Lines} {rest : List ℕ} {j : ℕ} → BlockWays g a R T hs ls rest j → BlockWays g b R T hs ls rest j
  ways_same T ends_here = ends_here
  ways_same {g} {R} T (block_then {ls = ls} {j = j} x right is way e n) =
      let r = rebased g R x right in
      block_then r.block r.right (r.is ∙ is) (ways_same T way) (e ∙ ap (λ (ks : Lines). ks ++ ls) (sym r.same)) (n ∙ ap (λ (ks : Lines). length ks + j) (sym r.same))
  ways_same T (goes_past t) = goes_past t

-- from the beginning of a side on
half_start : IsLaidOnce → {g : Grammar} {nest : List Group} (T : Lines → List ℕ → ℕ → Type 0) → IsBuilt g → IsNestOf g nest → (ls : Lines) (rest : List ℕ) (j : ℕ) → HalfWays g T ls rest j → ShareWays g nest T [] 0 0 ls rest j
half_start once {g} {nest} T built is ls rest j w =
    let same = nests_same once built w.is_nest is in
    record {
      shares = w.shares;
      later = w.later;
      count = w.count;
      ordered = from_same same 0 0 w.shares (shares_are_from w.nest w.shares w.ordered);
      way = subst (λ (hs : List Head). BlockWays g nest (Shares w.shares) T hs w.later rest w.count) (heads_same same g w.shares) (ways_same same T w.way);
      is = w.is;
      counts = w.counts;
    }

-- past the last pair
shares_done : {g : Grammar} {nest : List Group} (T : Lines → List ℕ → ℕ → Type 0) (done : List (ℕ × ℕ)) (k : ℕ) (ls : Lines) (rest : List ℕ) (j : ℕ) → ShareWays g nest T done (length nest) k ls rest j → BlockWays g nest (Shares done) T (heads g nest done) ls rest j
shares_done {g} {nest} T done k ls rest j w =
    let none : w.shares ≡ [] = none_past nest k w.shares w.ordered in
    let all : done ++ w.shares ≡ done = ap (λ (ss : List (ℕ × ℕ)). done ++ ss) none ∙ append-nil done in
    let lines : ls ≡ w.later = w.is ∙ ap (λ (ss : List (ℕ × ℕ)). map share_line ss ++ w.later) none in
    let count : j ≡ w.count = omega (arith, w.counts, ap length none) in
    subst (λ (ks : Lines). BlockWays g nest (Shares done) T (heads g nest done) ks rest j) (sym lines) (subst (λ (n : ℕ). BlockWays g nest (Shares done) T (heads g nest done) w.later rest n) (sym count) (subst (λ (ss : List (ℕ × ℕ)). BlockWays g nest (Shares ss) T (heads g nest ss) w.later rest w.count) all w.way))

-- past the last block
blocks_done : {g : Grammar} {nest : List Group} {R : ℕ → ℕ → Type 0} (T : Lines → List ℕ → ℕ → Type 0) (ls : Lines) (rest : List ℕ) (j : ℕ) → BlockWays g nest R T [] ls rest j → (j ≡ 0) ⊎ T ls rest j
blocks_done T ls rest j ends_here = inl refl
blocks_done T ls rest j (goes_past t) = inr t

-- no pair is marked in a table without marks
none_marked : (high wide a b : ℕ) → marked (blank high wide) a b ≡ false
none_marked high wide a b = blank_row high wide a b

module _ (once : IsLaidOnce) {g : Grammar} {nest : List Group} {bytes : List ℕ} (built : IsBuilt g) (is_nest : IsNestOf g nest) (p q : Place) (k : ℕ) (related : Grid)
    (m : AreSharesRead nest bytes p 0 0 q (length nest) k (blank (length nest) (length nest)) related) where
  marks_are : marked related ≡ is_shared m.shares
  marks_are = fun_ext (λ (h : ℕ). fun_ext (λ (l : ℕ). m.marks h l ∙ ap (λ (x : Bool). x || is_shared m.shares h l) (none_marked (length nest) (length nest) h l)))

  half_is : {more : List Head} {ls : Lines} → AreRead g nest (Shares m.shares) (heads g nest m.shares) more ls → (s : Half) × IsHalf g s more × (half_lines s ≡ map share_line m.shares ++ ls)
  half_is {more} {ls} r = (
    record { nest = nest; shares = m.shares; blocks = r.blocks },
    record {
      nest = is_nest;
      shares = are_shares nest 0 0 m.shares m.ordered;
      order = r.order;
      right = λ b i. All-contains (IsRight g nest (Shares m.shares)) r.blocks b r.right i;
    },
    ap (λ (ks : Lines). map share_line m.shares ++ ks) (sym r.lines),
  )

  begins : (tail : Tail) → LeadsTo bytes p (HalfWays g (TailWays tail)) q (BlockWays g nest (Shares m.shares) (TailWays tail) (heads g nest m.shares))
  begins tail = leads_from p q (HalfWays g (TailWays tail)) (ShareWays g nest (TailWays tail) [] 0 0) (BlockWays g nest (Shares m.shares) (TailWays tail) (heads g nest m.shares)) (half_start once (TailWays tail) built is_nest)
      (leads_into p q (ShareWays g nest (TailWays tail) [] 0 0) (ShareWays g nest (TailWays tail) m.shares (length nest) k) (BlockWays g nest (Shares m.shares) (TailWays tail) (heads g nest m.shares)) (λ ls rest j w. inr (shares_done (TailWays tail) m.shares k ls rest j w)) (m.leads g tail []))

  half_whole : (r : Place) → AreWhole g nest (Shares m.shares) bytes q (heads g nest m.shares) r → IsWholeHalf g bytes p r
  half_whole r w =
      let h = half_is w.read in
      let R : ℕ → ℕ → Type 0 = Shares m.shares in
      record {
        half = h.0;
        is = h.1;
        past = subst (λ (ls : Lines). IsPast bytes p ls r) (sym h.2) (past_then m.past w.past);
        leads = λ tail. leads_then p q r (HalfWays g (TailWays tail)) (BlockWays g nest R (TailWays tail) (heads g nest m.shares)) (TailWays tail) (begins tail)
            (leads_into q r (BlockWays g nest R (TailWays tail) (heads g nest m.shares)) (BlockWays g nest R (TailWays tail) []) (TailWays tail) (blocks_done (TailWays tail))
            (subst (λ (hs : List Head). LeadsTo bytes q (BlockWays g nest R (TailWays tail) hs) r (BlockWays g nest R (TailWays tail) [])) (append-nil (heads g nest m.shares)) (w.leads tail []))) (omega (arith, w.past.count));
      }

  half_broken : (most : ℕ) → AreBroken g nest (Shares m.shares) bytes q (heads g nest m.shares) most → IsBrokenHalf g bytes p most
  half_broken most w =
      let h = half_is w.read in
      let R : ℕ → ℕ → Type 0 = Shares m.shares in
      record {
        half = h.0;
        more = w.more;
        is = h.1;
        stand = subst (λ (ls : Lines). Stand bytes p ls) (sym h.2) (goes_after w.lines m.past.from w.stand);
        count = omega (arith, w.count, m.past.count, ap length h.2, length-append (map share_line m.shares) w.lines);
        ends = λ tail. leads_ends p q (HalfWays g (TailWays tail)) (BlockWays g nest R (TailWays tail) (heads g nest m.shares)) most (begins tail)
            (subst (λ (hs : List Head). EndsBy bytes q (BlockWays g nest R (TailWays tail) hs) most) (append-nil (heads g nest m.shares)) (w.ends tail [])) (omega (arith, w.count));
      }

  by_reading : (r : Reading) → IsReading g nest (Shares m.shares) bytes q (heads g nest m.shares) r → IsHalfReading g bytes p r
  by_reading (Whole r) w = half_whole r w
  by_reading (Broken most) w = half_broken most w

  pub half_read : (r : Reading) → IsReading g nest (Marked (marked related)) bytes q (side_heads g nest (marked related)) r → IsHalfReading g bytes p r
  half_read r w = by_reading r (subst (λ (marks : ℕ → ℕ → Bool). IsReading g nest (Marked marks) bytes q (side_heads g nest marks) r) marks_are w)

  pub half_result : (o : Result Reading Memory) → IfOk o (IsReading g nest (Marked (marked related)) bytes q (side_heads g nest (marked related))) → IfOk o (IsHalfReading g bytes p)
  half_result (Ok r) w = half_read r w
  half_result (Err m) w = tt

-- where the table was blank before
pub shares_of_blank : {nest : List Group} {bytes : List ℕ} {p q : Place} {h k a b high wide : ℕ} {old new : Grid} → old ≡ blank high wide → high ≡ length nest → wide ≡ length nest → AreSharesRead nest bytes p h k q a b old new → AreSharesRead nest bytes p h k q a b (blank (length nest) (length nest)) new
shares_of_blank {nest} {bytes} {p} {q} {h} {k} {a} {b} {high} {wide} {old} {new} e x y m =
    subst (λ (z : Grid). AreSharesRead nest bytes p h k q a b z new) (e ∙ ap (λ (n : ℕ). blank n wide) x ∙ ap (λ (n : ℕ). blank (length nest) n) y) m
