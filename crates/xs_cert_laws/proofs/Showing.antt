-- A side whose blocks are all right has no suspect.
use Rattle.std.proofs.Common.{◌≡◌, ℕ, suc, ◌<◌, ◌≤◌, ◌⊎◌, ◌&&◌, min, max, not, nat_eq, Bool, true, false, List, [], ◌++◌, length, flat_map, refl, sym, ap, ◌∙◌, arith, inl, inr, append-nil, slice_range}
use Rattle.std.specs.List.{Contains}
use Rattle.std.proofs.lemmas.Bool.{cases_lt}
use Rattle.std.proofs.lemmas.List.Elements.{Contains-append_left, Contains-append_right}
use Rattle.std.proofs.lemmas.Option.{slice_get_within, get_or_from_slice_get}
use Rattle.xs_closed.specs.Rows.{holds}
use Rattle.xs_auto.specs.Nets.{Graph}
use Rattle.xs_class.proofs.Truth.{eq_self}
use Rattle.xs_auto.specs.Nests.{Group, no_group, group_at, IsGroup, HaveOneFence}
use Rattle.xs_meet.specs.Closed.{Leads, IsApart, AreApart, IsSettled}
use Rattle.xs_meet.proofs.NestLemmas.{apart, clear}
use Rattle.xs_gram.specs.declared.parts.GItem.{GItem}
use Rattle.xs_gram.specs.Grammar.{Grammar, rule_of}
use Rattle.xs_gram.specs.Fences.{spread, IsLevel}
use Rattle.xs_gram.specs.Cuts.{HasOneCut}
use Rattle.xs_gram.proofs.Cuts.{cuts_are_one}
use Rattle.xs_gram.specs.Loose.{IsLoose}
use Rattle.xs_gram.specs.Sound.{IsBuilt}
use Rattle.xs_gram.specs.Suspects.{IsHorizontal}
use Rattle.xs_check_laws.specs.Acceptance.{HasNoSuspect}
use Rattle.xs_check_laws.specs.Freedom.{HasNoVertical, HasNoHorizontal}
use Rattle.xs_check_laws.proofs.Words.{loose_level}
use Rattle.xs_loose.specs.Nets.{IsNumbered}
use Rattle.xs_loose.specs.Parts.{IsStretch}
use Rattle.xs_loose.proofs.Stretches.{slice_stretch}
use Rattle.xs_loose.proofs.Reading.{nets_accept_loose}
use Rattle.xs_loose.proofs.Taming.{nets_are_tame, nests_are_fenced}
use Rattle.xs_cert_laws.specs.Blocks.{Head, for_groups, for_rules, for_cut, Block, of_groups, of_rules, of_cut, head, Pairs, IsRight, AreCutNets}
use Rattle.xs_cert_laws.specs.Certificates.{between, one_fence, is_shared, Shares, Half, IsHalf, heads, group_heads, rule_heads, cut_heads}
use Rattle.xs_cert_laws.specs.Laws.{CertifiedIsAccepted}
use Rattle.xs_cert_laws.proofs.Finding.{between_has, map_has, IsImage, map_of, filter_has, flat_has}

truth : (b : Bool) → (b ≡ true) ⊎ (b ≡ false)
truth true = inl refl
truth false = inr refl

same_number : {m n : ℕ} → m ≡ n → nat_eq m n ≡ true
same_number e = rw e (eq_self _)

-- whether groups are said to share does not depend on their order
pub shares_turned : (shares : List (ℕ × ℕ)) (h k : ℕ) → is_shared shares h k ≡ is_shared shares k h
shares_turned shares h k =
    let least : min h k ≡ min k h = omega arith in
    let most : max h k ≡ max k h = omega arith in
    rw (least, most)

-- a set that shows it, for the two nets in the other order
turned : (R : ℕ → ℕ → Type 0) → ((h k : ℕ) → R h k → R k h) → (m n : Graph) → AreApart R m n → AreApart R n m
turned R sym_R m n x =
    let z = x.0 in
    let i = x.1 in (
      λ a b. z b a,
      record {
        starts = λ a b e f. i.starts b a f e;
        closed = λ a b c d marks leads. i.closed b a d c marks (other a b c d leads);
        none = λ a b marks e f. i.none b a marks f e;
      },
    )
  where
    other : (a b c d : ℕ) → Leads R n m a b c d → Leads R m n b a d c
    other a b c d (inl (inl move)) = inl (inr (record { move = move.move; still = move.still }))
    other a b c d (inl (inr move)) = inl (inl (record { move = move.move; still = move.still }))
    other a b c d (inr (inl x)) = let r = x.1 in inr (inl (x.0, record { first = r.second; second = r.first; of_first = r.of_second; of_second = r.of_first; takes_first = r.takes_second; takes_second = r.takes_first; to_first = r.to_second; to_second = r.to_first }))
    other a b c d (inr (inr x)) = let r = x.2 in inr (inr (x.1, x.0, record { first = r.second; second = r.first; of_first = r.of_second; of_second = r.of_first; over_first = r.over_second; over_second = r.over_first; related = sym_R _ _ r.related; to_first = r.to_second; to_second = r.to_first }))

module _ (g : Grammar) (built : IsBuilt g) (s : Half) (whole : IsHalf g s []) where
  -- the block for what is to be there
  block_for : (h : Head) → Contains (heads g s.nest s.shares) h → IsImage head s.blocks h
  block_for h there = map_of head s.blocks h (rw (← whole.order, append-nil) at there)

  -- what the block for two groups shows
  apart_groups : (h k : ℕ) (b : Block) → IsRight g s.nest (Shares s.shares) b → head b ≡ for_groups h k → AreApart (Shares s.shares) (group_at s.nest h).content (group_at s.nest k).content
  apart_groups h k (of_groups i j m n z) right e =
      let first : i ≡ h = cc in
      let second : j ≡ k = cc in
      rw (← first, ← second, ← right.0.first, ← right.0.second) (holds z, right.1.apart)
  apart_groups h k (of_rules p q m n z) right e = absurd cc
  apart_groups h k (of_cut p c f r z1 z0 z2 z3) right e = absurd cc

  -- the smaller group first
  settled_in_order : (h k : ℕ) (a b : Group) → h ≤ k → IsGroup s.nest h a → IsGroup s.nest k b → HaveOneFence a b → Shares s.shares h k ⊎ AreApart (Shares s.shares) a.content b.content
  settled_in_order h k a b le is_a is_b fence = elim (truth (is_shared s.shares h k)) [
    | inl said ↦ inl said
    | inr unsaid ↦
        let at_a = get_or_from_slice_get s.nest h a no_group is_a in
        let at_b = get_or_from_slice_get s.nest k b no_group is_b in
        let within = slice_get_within s.nest k b is_b in
        let left : nat_eq (group_at s.nest h).left (group_at s.nest k).left ≡ true = same_number (ap (λ x. x.left) at_a ∙ fence.left ∙ sym (ap (λ x. x.left) at_b)) in
        let right : nat_eq (group_at s.nest h).right (group_at s.nest k).right ≡ true = same_number (ap (λ x. x.right) at_a ∙ fence.right ∙ sym (ap (λ x. x.right) at_b)) in
        let passes : (one_fence s.nest h k && not (is_shared s.shares h k)) ≡ true = rw (left, right, unsaid) in
        let there : Contains (group_heads s.nest s.shares h) (for_groups h k) = map_has (for_groups h) _ k (filter_has _ (between h (length s.nest)) k (between_has h (length s.nest) k le within) passes) in
        let listed = flat_has (group_heads s.nest s.shares) (between 0 (length s.nest)) h (for_groups h k) (between_has 0 (length s.nest) h (omega arith) (omega (arith, within))) there in
        let i = block_for (for_groups h k) (Contains-append_left _ _ _ listed) in
        let shown = apart_groups h k i.x (whole.right i.x i.there) i.is in
        inr (rw (at_a, at_b) at shown)
  ]

  settled : IsSettled s.nest (Shares s.shares)
  settled h k a b is_a is_b fence = elim (cases_lt k h) [
    | inr le ↦ settled_in_order h k a b le is_a is_b fence
    | inl lt ↦ elim (settled_in_order k h b a (omega arith) is_b is_a (record { left = sym fence.left; right = sym fence.right })) [
      | inl shared ↦ inl (shares_turned s.shares h k ∙ shared)
      | inr x ↦ inr (turned (Shares s.shares) (λ i j shared. shares_turned s.shares j i ∙ shared) b.content a.content x)
    ]
  ]

  -- where two nets of stretches are apart, the stretches have no common loose word
  none_common : (p k : ℕ) (is : List GItem) (q j : ℕ) (js : List GItem) (m n : Graph) → IsStretch g p k is → IsStretch g q j js → IsNumbered g p k is m → IsNumbered g q j js n → (Z : ℕ → ℕ → Type 0) → IsApart (Shares s.shares) m n Z → (w : List ℕ) → IsLoose g is w → IsLoose g js w → ⊥
  none_common p k is q j js m n stretch_m stretch_n net_m net_n Z marks w loose_m loose_n =
      apart s.nest (nests_are_fenced g built s.nest whole.nest) (Shares s.shares) settled m n Z (nets_are_tame g built s.nest whole.nest p k is m stretch_m net_m) (nets_are_tame g built s.nest whole.nest q j js n stretch_n net_n) marks w (record {
        first = (nets_accept_loose g built s.nest whole.nest p k is m stretch_m net_m w).1 loose_m;
        second = (nets_accept_loose g built s.nest whole.nest q j js n stretch_n net_n w).1 loose_n;
      })

  -- a whole rule is a stretch
  whole_rule : (p : ℕ) (w : List ℕ) → p < length g.rules → IsLoose g (spread g p) w → IsStretch g p 0 (spread g p)
  whole_rule p w lt loose = record { rule = lt; before = []; after = []; split = sym (append-nil (spread g p)); place = refl; level = loose_level loose }

  of_rules_apart : (p q : ℕ) (b : Block) → IsRight g s.nest (Shares s.shares) b → head b ≡ for_rules p q → (w : List ℕ) → p < length g.rules → q < length g.rules → IsLoose g (spread g p) w → IsLoose g (spread g q) w → ⊥
  of_rules_apart p q (of_groups i j m n z) right e w lt_p lt_q loose_p loose_q = absurd cc
  of_rules_apart p q (of_rules i j m n z) right e w lt_p lt_q loose_p loose_q =
      let first : i ≡ p = cc in
      let second : j ≡ q = cc in
      let net_m : IsNumbered g p 0 (spread g p) m = rw (← first) right.0.first in
      let net_n : IsNumbered g q 0 (spread g q) n = rw (← second) right.0.second in
      none_common p 0 (spread g p) q 0 (spread g q) m n (whole_rule p w lt_p loose_p) (whole_rule q w lt_q loose_q) net_m net_n (Pairs z) right.1.apart w loose_p loose_q
  of_rules_apart p q (of_cut i c f r z1 z0 z2 z3) right e w lt_p lt_q loose_p loose_q = absurd cc

  no_vertical : HasNoVertical g
  no_vertical p q w v =
      let one : nat_eq (rule_of g p).non (rule_of g q).non ≡ true = same_number (v.first.1 ∙ sym v.second.1) in
      let there : Contains (rule_heads g p) (for_rules p q) = map_has (for_rules p) _ q (filter_has _ (between (suc p) (length g.rules)) q (between_has (suc p) (length g.rules) q v.less v.second.0) one) in
      let listed = flat_has (rule_heads g) (between 0 (length g.rules)) p (for_rules p q) (between_has 0 (length g.rules) p (omega arith) v.first.0) there in
      let i = block_for (for_rules p q) (Contains-append_right (flat_map (group_heads s.nest s.shares) (between 0 (length s.nest))) _ _ (Contains-append_left _ (flat_map (cut_heads g) (between 0 (length g.rules))) _ listed)) in
      of_rules_apart p q i.x (whole.right i.x i.there) i.is w v.first.0 v.second.0 v.loose_first v.loose_second

  of_cut_clear : (p c : ℕ) (b : Block) → IsRight g s.nest (Shares s.shares) b → head b ≡ for_cut p c → (x a y : List ℕ) → IsHorizontal g p c x a y → ⊥
  of_cut_clear p c (of_groups i j m n z) right e x a y h = absurd cc
  of_cut_clear p c (of_rules i j m n z) right e x a y h = absurd cc
  of_cut_clear p c (of_cut i d f r z1 z0 z2 z3) right e x a y h =
      let first : i ≡ p = cc in
      let second : d ≡ c = cc in
      let nets : AreCutNets g p c f r = rw (← first, ← second) right.0 in
      let one : HasOneCut g.fences (spread g p) c = cuts_are_one g built.proper p c (omega (arith, h.high)) in
      let own = one.only _ _ nets.at.cut in
      let its = one.only _ _ h.cut in
      let same_front : h.front ≡ slice_range (spread g p) nets.start c = its.0 ∙ sym own.0 in
      let same_rest : h.rest ≡ slice_range (spread g p) c nets.end = its.1 ∙ sym own.1 in
      let level_front : IsLevel g.fences (slice_range (spread g p) nets.start c) = rw (← same_front) (loose_level h.overlap.short_front) in
      let level_rest : IsLevel g.fences (slice_range (spread g p) c nets.end) = rw (← same_rest) (loose_level h.overlap.short_rest) in
      let lies_front = slice_stretch h.rule (omega (arith, nets.at.low, h.high)) nets.at.low level_front in
      let lies_rest = slice_stretch h.rule (omega (arith, h.high)) nets.at.middle level_rest in
      let of_front = λ (w : List ℕ) (loose : IsLoose g h.front w). (nets_accept_loose g built s.nest whole.nest p nets.start _ f lies_front nets.front w).1 (rw same_front at loose) in
      let of_rest = λ (w : List ℕ) (loose : IsLoose g h.rest w). (nets_accept_loose g built s.nest whole.nest p c _ r lies_rest nets.rest w).1 (rw same_rest at loose) in
      clear s.nest (nests_are_fenced g built s.nest whole.nest) (Shares s.shares) settled f r (Pairs z1) (Pairs z0) (Pairs z2) (Pairs z3) (nets_are_tame g built s.nest whole.nest p nets.start _ f lies_front nets.front) (nets_are_tame g built s.nest whole.nest p c _ r lies_rest nets.rest) right.1.clear x a y (record {
        some = h.overlap.some;
        short_front = of_front x h.overlap.short_front;
        long_front = of_front (x ++ a) h.overlap.long_front;
        short_rest = of_rest y h.overlap.short_rest;
        long_rest = of_rest (a ++ y) h.overlap.long_rest;
      })

  no_horizontal : HasNoHorizontal g
  no_horizontal p c x a y h =
      let there : Contains (cut_heads g p) (for_cut p c) = map_has (for_cut p) _ c (between_has 1 (length (spread g p)) c h.low h.high) in
      let listed = flat_has (cut_heads g) (between 0 (length g.rules)) p (for_cut p c) (between_has 0 (length g.rules) p (omega arith) h.rule) there in
      let i = block_for (for_cut p c) (Contains-append_right (flat_map (group_heads s.nest s.shares) (between 0 (length s.nest))) _ _ (Contains-append_right (flat_map (rule_heads g) (between 0 (length g.rules))) _ _ listed)) in
      of_cut_clear p c i.x (whole.right i.x i.there) i.is x a y h

  pub no_suspect : HasNoSuspect g
  no_suspect = (no_vertical, no_horizontal)

pub certified : CertifiedIsAccepted
certified p text xml light_text light_xml bytes c = record {
  light_text = light_text;
  light_xml = light_xml;
  clear_text = no_suspect p.text text c.text c.is_text;
  clear_xml = no_suspect p.xml xml c.xml c.is_xml;
}
