-- The blocks of groups, rules and cuts.
use Rattle.std.proofs.Common.{◌≡◌, ℕ, List, [], ◌∷◌, ◌++◌, drop, refl, sym, ap, subst, ◌∙◌, append_assoc, codes, Option, None, Some}
use Rattle.xs_auto.specs.Nets.{Graph}
use Rattle.xs_auto.specs.Nests.{Group, group_at}
use Rattle.xs_gram.specs.Grammar.{Grammar}
use Rattle.xs_gram.specs.Sound.{IsBuilt}
use Rattle.xs_gram.specs.Cuts.{CutsAreOne}
use Rattle.xs_loose.specs.Laws.{IsLaidOnce}
use Rattle.xs_closed.specs.Rows.{Row}
use Rattle.xs_cert_lines.specs.Lines.{Lines, set_lines, ended}
use Rattle.xs_cert_lines.specs.Runs.{GoesOn}
use Rattle.xs_cert_laws.specs.Blocks.{Head, for_groups, for_rules, for_cut, Block, of_groups, of_rules, of_cut, head, IsRight, ShowsApart, ShowsClear, AreRuleNets, AreCutNets, head_line, block_lines}
use Rattle.xs_cert.specs.declared.place.Place.{Place}
use Rattle.xs_cert.specs.declared.place.Reading.{Reading}
use Rattle.xs_cert.specs.Places.{IsPast, Stand}
use Rattle.xs_cert.specs.Readings.{AreBroken, IsReading}
use Rattle.xs_cert.specs.Rows.{IsRowsReading, reading_of}
use Rattle.xs_cert.specs.Steps.{before_rests, AreCutSets, IsCutReading}
use Rattle.xs_cert.proofs.Standing.{past_then, goes_past}
use Rattle.xs_cert.proofs.SameNets.{apart_as, clear_as, rule_follows, cut_follows}
use Rattle.xs_cert.proofs.LastSets.{HasBlock, no_block, block_read}
use Rattle.xs_cert.proofs.SetsRead.{one_line}

groups_same : {h k a b : ℕ} → for_groups h k ≡ for_groups a b → (h ≡ a) × (k ≡ b)
groups_same e = (cc, cc)

rules_same : {p q a b : ℕ} → for_rules p q ≡ for_rules a b → (p ≡ a) × (q ≡ b)
rules_same e = (cc, cc)

cuts_same : {p q a b : ℕ} → for_cut p q ≡ for_cut a b → (p ≡ a) × (q ≡ b)
cuts_same e = (cc, cc)

module _ (g : Grammar) (nest : List Group) (R : ℕ → ℕ → Type 0) (bytes : List ℕ) (p : Place) where
  -- where the head's line does not stand, no block does
  pub no_title : (h : Head) → (GoesOn (drop p.byte bytes) (ended (head_line h)) → ⊥) → AreBroken g nest R bytes p (h ∷ []) p.lines
  no_title h none = no_block g nest R bytes h p (λ b right is stand. none (subst (λ (x : Head). GoesOn (drop p.byte bytes) (ended (head_line x))) is (first b stand)))
    where
      first : (b : Block) → Stand bytes p (block_lines b) → GoesOn (drop p.byte bytes) (ended (head_line (head b)))
      first b stand = one_line (drop p.byte bytes) (head_line (head b)) _ stand

  module _ (s : Place) where
    module _ (h k : ℕ) (past : IsPast bytes p (head_line (for_groups h k) ∷ []) s) where
      Shows : List Row → Type 0
      Shows = ShowsApart R (group_at nest h).content (group_at nest k).content

      made_groups : (rs : List Row) → Shows rs → HasBlock g nest R bytes (for_groups h k) ((head_line (for_groups h k) ∷ []) ++ set_lines rs)
      unfolding Shows
      made_groups rs shows = record { block = of_groups h k (group_at nest h).content (group_at nest k).content rs; is = refl; right = (record { first = refl; second = refl }, shows); same = refl }

      only_groups : (b : Block) → IsRight g nest R b → head b ≡ for_groups h k → Stand bytes p (block_lines b) → (rs : List Row) × Shows rs × (block_lines b ≡ (head_line (for_groups h k) ∷ []) ++ set_lines rs)
      unfolding Shows
      only_groups (of_groups a b m n z) right is stand =
          let same = groups_same is in
          let first : m ≡ (group_at nest h).content = right.0.first ∙ ap (λ (x : ℕ). (group_at nest x).content) same.0 in
          let second : n ≡ (group_at nest k).content = right.0.second ∙ ap (λ (x : ℕ). (group_at nest x).content) same.1 in
          (z, subst (λ (x : Graph). ShowsApart R x (group_at nest k).content z) first (subst (λ (x : Graph). ShowsApart R m x z) second right.1), ap (λ (x : Head). head_line x ∷ set_lines z) is)
      only_groups (of_rules a b m n z) right is stand = absurd cc
      only_groups (of_cut a b m n z1 z0 z2 z3) right is stand = absurd cc

      pub groups_read : (o : Option Reading) → IsRowsReading (ShowsApart R (group_at nest h).content (group_at nest k).content) bytes s o → IsReading g nest R bytes p (for_groups h k ∷ []) (reading_of p.lines o)
      unfolding Shows
      groups_read = block_read g nest R bytes (for_groups h k) p s Shows (head_line (for_groups h k) ∷ []) past made_groups only_groups

    module _ (once : IsLaidOnce) (built : IsBuilt g) (h k : ℕ) (past : IsPast bytes p (head_line (for_rules h k) ∷ []) s) (m n : Graph) (nets : AreRuleNets g h k m n) where
      made_rules : (rs : List Row) → ShowsApart R m n rs → HasBlock g nest R bytes (for_rules h k) ((head_line (for_rules h k) ∷ []) ++ set_lines rs)
      made_rules rs shows = record { block = of_rules h k m n rs; is = refl; right = (nets, shows); same = refl }

      only_rules : (b : Block) → IsRight g nest R b → head b ≡ for_rules h k → Stand bytes p (block_lines b) → (rs : List Row) × ShowsApart R m n rs × (block_lines b ≡ (head_line (for_rules h k) ∷ []) ++ set_lines rs)
      only_rules (of_groups a b x y z) right is stand = absurd cc
      only_rules (of_rules a b x y z) right is stand =
          let same = rules_same is in
          let here = subst (λ (i : ℕ). AreRuleNets g i k x y) same.0 (subst (λ (i : ℕ). AreRuleNets g a i x y) same.1 right.0) in
          let f = rule_follows once built here nets in
          (z, apart_as f.0 f.1 right.1, ap (λ (i : Head). head_line i ∷ set_lines z) is)
      only_rules (of_cut a b x y z1 z0 z2 z3) right is stand = absurd cc

      pub rules_read : (o : Option Reading) → IsRowsReading (ShowsApart R m n) bytes s o → IsReading g nest R bytes p (for_rules h k ∷ []) (reading_of p.lines o)
      rules_read = block_read g nest R bytes (for_rules h k) p s (ShowsApart R m n) (head_line (for_rules h k) ∷ []) past made_rules only_rules

    module _ (once : IsLaidOnce) (law : CutsAreOne) (built : IsBuilt g) (h k : ℕ) (past : IsPast bytes p (head_line (for_cut h k) ∷ []) s) (f e : Graph) (nets : AreCutNets g h k f e) where
      -- a right block for the cut has these nets too
      record OfCut (b : Block) : Type 0 where
        z1 : List Row
        z0 : List Row
        z2 : List Row
        z3 : List Row
        shows : ShowsClear R f e z1 z0 z2 z3
        lines : block_lines b ≡ head_line (for_cut h k) ∷ before_rests z1 z0 z2 (set_lines z3)

      of_cut_block : (b : Block) → IsRight g nest R b → head b ≡ for_cut h k → OfCut b
      of_cut_block (of_groups a b x y z) right is = absurd cc
      of_cut_block (of_rules a b x y z) right is = absurd cc
      of_cut_block (of_cut a b x y z1 z0 z2 z3) right is =
          let same = cuts_same is in
          let here = subst (λ (i : ℕ). AreCutNets g i k x y) same.0 (subst (λ (i : ℕ). AreCutNets g a i x y) same.1 right.0) in
          let both = cut_follows once built law here nets in
          record { z1 = z1; z0 = z0; z2 = z2; z3 = z3; shows = clear_as both.0 both.1 right.1; lines = ap (λ (i : Head). head_line i ∷ before_rests z1 z0 z2 (set_lines z3)) is }

      after_head : {b : Block} (c : OfCut b) → Stand bytes p (block_lines b) → Stand bytes s (before_rests c.z1 c.z0 c.z2 (set_lines c.z3))
      after_head c stand = goes_past (before_rests c.z1 c.z0 c.z2 (set_lines c.z3)) past.from (subst (λ (ls : Lines). Stand bytes p ls) c.lines stand)

      rests_after : (z1 z0 z2 : List Row) (later : Lines) → before_rests z1 z0 z2 later ≡ before_rests z1 z0 z2 [] ++ later
      rests_after z1 z0 z2 later = sym (
          ap (λ (ls : Lines). codes "set 1" ∷ ls) (append_assoc (set_lines z1) _ later
          ∙ ap (λ (ls : Lines). set_lines z1 ++ codes "set 0" ∷ ls) (append_assoc (set_lines z0) _ later
          ∙ ap (λ (ls : Lines). set_lines z0 ++ codes "set 2" ∷ ls) (append_assoc (set_lines z2) (codes "set 3" ∷ []) later))))

      with_sets : (r : Reading) (c : AreCutSets R f e bytes s r) → IsReading g nest R bytes p (for_cut h k ∷ []) r
      with_sets r c = block_read g nest R bytes (for_cut h k) p c.place (ShowsClear R f e c.fronts c.pauses c.middles) (head_line (for_cut h k) ∷ before_rests c.fronts c.pauses c.middles []) (past_then past c.past) made only (Some r) c.rests
        where
          made : (rs : List Row) → ShowsClear R f e c.fronts c.pauses c.middles rs → HasBlock g nest R bytes (for_cut h k) ((head_line (for_cut h k) ∷ before_rests c.fronts c.pauses c.middles []) ++ set_lines rs)
          made rs shows = record { block = of_cut h k f e c.fronts c.pauses c.middles rs; is = refl; right = (nets, shows); same = ap (λ (ls : Lines). head_line (for_cut h k) ∷ ls) (rests_after c.fronts c.pauses c.middles (set_lines rs)) }

          only : (b : Block) → IsRight g nest R b → head b ≡ for_cut h k → Stand bytes p (block_lines b) → (rs : List Row) × ShowsClear R f e c.fronts c.pauses c.middles rs × (block_lines b ≡ (head_line (for_cut h k) ∷ before_rests c.fronts c.pauses c.middles []) ++ set_lines rs)
          only b right is stand =
              let o = of_cut_block b right is in
              let same = c.only o.z1 o.z0 o.z2 o.z3 o.shows (after_head o stand) in
              let shows = subst (λ (z : List Row). ShowsClear R f e z c.pauses c.middles o.z3) same.0 (subst (λ (z : List Row). ShowsClear R f e o.z1 z c.middles o.z3) same.1 (subst (λ (z : List Row). ShowsClear R f e o.z1 o.z0 z o.z3) same.2 o.shows)) in
              let lines : before_rests o.z1 o.z0 o.z2 (set_lines o.z3) ≡ before_rests c.fronts c.pauses c.middles (set_lines o.z3) =
              ap (λ (z : List Row). before_rests z o.z0 o.z2 (set_lines o.z3)) same.0 ∙ ap (λ (z : List Row). before_rests c.fronts z o.z2 (set_lines o.z3)) same.1 ∙ ap (λ (z : List Row). before_rests c.fronts c.pauses z (set_lines o.z3)) same.2 in
              (o.z3, shows, o.lines ∙ ap (λ (ls : Lines). head_line (for_cut h k) ∷ ls) (lines ∙ rests_after c.fronts c.pauses c.middles (set_lines o.z3)))

      pub cut_read : (o : Option Reading) → IsCutReading R f e bytes s o → IsReading g nest R bytes p (for_cut h k ∷ []) (reading_of p.lines o)
      cut_read None none = no_block g nest R bytes (for_cut h k) p (λ b right is stand.
          (let o = of_cut_block b right is in none o.z1 o.z0 o.z2 o.z3 o.shows (after_head o stand)))
      cut_read (Some r) c = with_sets r c

-- where the nets of the groups were looked up
pub groups_read_by : (g : Grammar) (nest : List Group) (R : ℕ → ℕ → Type 0) (bytes : List ℕ) (p s : Place) (h k : ℕ) (m n : Graph) → m ≡ (group_at nest h).content → n ≡ (group_at nest k).content
    → IsPast bytes p (head_line (for_groups h k) ∷ []) s → (o : Option Reading) → IsRowsReading (ShowsApart R m n) bytes s o → IsReading g nest R bytes p (for_groups h k ∷ []) (reading_of p.lines o)
groups_read_by g nest R bytes p s h k m n first second past o read =
    groups_read g nest R bytes p s h k past o (subst (λ (x : Graph). IsRowsReading (ShowsApart R x (group_at nest k).content) bytes s o) first (subst (λ (x : Graph). IsRowsReading (ShowsApart R m x) bytes s o) second read))
