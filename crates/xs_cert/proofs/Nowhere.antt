-- Where a grammar has no suspect, no search finds a word.
use Rattle.std.proofs.Common.{◌≡◌, ℕ, zero, suc, ◌+◌, ◌<◌, ◌≤◌, ◌↔◌, Bool, true, false, List, [], ◌∷◌, ◌++◌, length, nat_eq, get_or, refl, sym, ap, ◌∙◌, arith, append-nil, slice_range, take, drop, Some, slice_get}
use Rattle.std.proofs.lemmas.List.{take-append-drop, length-take-le}
use Rattle.std.proofs.lemmas.List.Folds.{drop_split}
use Rattle.xs_class.proofs.Truth.{and_true, not_true, false_true}
use Rattle.std.proofs.lemmas.Bool.{eqb-true}
use Rattle.xs_auto.specs.Nets.{Graph}
use Rattle.xs_auto.specs.Nests.{Group, group_at, no_group, IsGroup, HaveOneFence, ShareContent, AreShared, AcceptsNested}
use Rattle.xs_gram.specs.declared.parts.GItem.{GItem}
use Rattle.xs_gram.specs.Grammar.{Grammar, rule_of}
use Rattle.xs_gram.specs.Fences.{spread, IsLevel}
use Rattle.xs_gram.specs.Loose.{IsLoose}
use Rattle.xs_gram.specs.Sound.{IsBuilt}
use Rattle.xs_gram.specs.Suspects.{IsVertical, IsHorizontal, Overlaps}
use Rattle.xs_loose.proofs.Stretches.{slice_stretch}
use Rattle.xs_gram.proofs.Cuts.{cut_level}
use Rattle.xs_meet.specs.Closed.{Marked}
use Rattle.xs_loose.specs.Nets.{IsNumbered, IsNestOf}
use Rattle.xs_loose.specs.Parts.{IsStretch}
use Rattle.xs_loose.proofs.Reading.{nets_accept_loose}
use Rattle.xs_closed.specs.Rows.{Grid, marked}
use Rattle.xs_closed.specs.Laws.{ReachedIsShared, ReachedIsOverlap}
use Rattle.xs_cert_laws.specs.Blocks.{AreRuleNets, AreCutNets}
use Rattle.xs_cert_laws.specs.Certificates.{one_fence}
use Rattle.xs_cert.specs.Heads.{is_open, is_of_one}
use Rattle.xs_cert.specs.Writing.{IsSource, MeetNowhere, OverlapNowhere}

same_number : (m n : ℕ) → nat_eq m n ≡ true → m ≡ n
same_number = eqb-true

at_group : (nest : List Group) (h : ℕ) → h < length nest → IsGroup nest h (group_at nest h)
at_group [] h lt = absurd (omega arith)
at_group (x ∷ xs) zero lt = refl
at_group (x ∷ xs) (suc h) lt = at_group xs h (omega arith)

-- the whole of a rule is a stretch
whole_rule : (g : Grammar) (p : ℕ) → IsBuilt g → p < length g.rules → IsStretch g p 0 (spread g p)
whole_rule g p built lt = record { rule = lt; before = []; after = []; split = sym (append-nil (spread g p)); place = refl; level = built.proper.level p }

module _ (g : Grammar) (nest : List Group) (related : Grid) (source : IsSource g nest related) where
  exact : (h k : ℕ) → marked related h k ≡ true → AreShared nest h k
  exact h k is = (source.exact h k).0 is

  pub of_groups : ReachedIsShared → (h k : ℕ) → h < length nest → k < length nest → is_open nest (marked related) h k ≡ true → MeetNowhere (Marked (marked related)) (group_at nest h).content (group_at nest k).content
  of_groups shared h k lt_h lt_k opens a b reached final_a final_b =
      let parts = and_true _ _ opens in
      let sides = and_true _ _ parts.0 in
      let word = shared nest (marked related) exact (group_at nest h).content (group_at nest k).content a b reached final_a final_b in
      let both = (source.exact h k).1 (
        word.0,
        record {
          first = group_at nest h;
          second = group_at nest k;
          is_first = at_group nest h lt_h;
          is_second = at_group nest k lt_k;
          fence = record { left = same_number _ _ sides.0; right = same_number _ _ sides.1 };
          accepts_first = word.1.first;
          accepts_second = word.1.second;
        },
      ) in
      false_true (sym (not_true _ parts.1) ∙ both)

  accepted : (p k : ℕ) (is : List GItem) (n : Graph) (w : List ℕ) → IsStretch g p k is → IsNumbered g p k is n → AcceptsNested nest n w → IsLoose g is w
  accepted p k is n w stretch net accepts = (nets_accept_loose g source.built nest source.nest p k is n stretch net w).0 accepts

  pub of_rules : ReachedIsShared → (p q : ℕ) (m n : Graph) → p < q → q < length g.rules → is_of_one g p q ≡ true → AreRuleNets g p q m n → MeetNowhere (Marked (marked related)) m n
  of_rules shared p q m n less lt one nets a b reached final_a final_b =
      let word = shared nest (marked related) exact m n a b reached final_a final_b in
      source.clear.0 p q word.0 (record {
        non = (rule_of g p).non;
        first = (omega arith, refl);
        second = (lt, sym (same_number _ _ one));
        less = less;
        loose_first = accepted p 0 (spread g p) m word.0 (whole_rule g p source.built (omega arith)) nets.first word.1.first;
        loose_second = accepted q 0 (spread g q) n word.0 (whole_rule g q source.built lt) nets.second word.1.second;
      })

  pub of_cut : ReachedIsOverlap → (p c : ℕ) (f e : Graph) → p < length g.rules → 0 < c → c < length (spread g p) → AreCutNets g p c f e → OverlapNowhere (Marked (marked related)) f e
  of_cut overlap p c f e rule low high nets a b reached final_a final_b =
      let words = overlap nest (marked related) exact f e a b reached final_a final_b in
      let o = words.3 in
      let levels = cut_level nets.at.cut in
      let front = slice_stretch rule (omega (arith, nets.at.low, high)) nets.at.low levels.0 in
      let rest = slice_stretch rule (omega (arith, high)) nets.at.middle levels.1 in
      source.clear.1 p c words.0 words.1 words.2 (record {
        rule = rule;
        low = low;
        high = high;
        front = slice_range (spread g p) nets.start c;
        rest = slice_range (spread g p) c nets.end;
        cut = nets.at.cut;
        overlap = record {
          some = o.some;
          short_front = accepted p nets.start _ f _ front nets.front o.short_front;
          long_front = accepted p nets.start _ f _ front nets.front o.long_front;
          short_rest = accepted p c _ e _ rest nets.rest o.short_rest;
          long_rest = accepted p c _ e _ rest nets.rest o.long_rest;
        };
      })
