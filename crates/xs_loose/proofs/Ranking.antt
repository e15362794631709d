-- Ranks of members, and numbers of groups before rules, one more at a time.
use Rattle.std.proofs.Common.{◌≡◌, ℕ, suc, ◌+◌, ◌<◌, ◌≤◌, List, [], ◌∷◌, ◌++◌, length, get_or, set, replicate, refl, sym, ap, subst, ◌∙◌, inl, inr, arith, length-set, get_or-set_same, get_or-set_other}
use Rattle.std.proofs.lemmas.Bool.{cases_lt, cases_eq}
use Rattle.std.proofs.lemmas.List.{get_or_append_left, get_or_push, get_or_read, get_or_past, get_or-replicate, length-replicate, length_push}
use Rattle.xs_gram.specs.Grammar.{Grammar}
use Rattle.xs_gram.specs.Loose.{AreComponents}
use Rattle.xs_check_laws.specs.Weights.{Members, no_member, member_next, other_next}
use Rattle.xs_loose.specs.Tables.{AreRanks}

-- for each nonterminal how many members of its component are below the bound, by the component
pub record AreCounts (g : Grammar) (comps : List ℕ) (bound : ℕ) (counts : List ℕ) : Type 0 where
  pub members : (n : ℕ) → n < g.nons → Members g n bound (get_or counts (get_or comps n 0) 0)
  pub few : (k : ℕ) → get_or counts k 0 ≤ bound

zeros : (count k : ℕ) → get_or (replicate {A = ℕ} count 0) k 0 ≡ 0
zeros count k = elim (cases_lt k count) [
  | inl low ↦ get_or-replicate count k 0 0 low
  | inr past ↦ get_or_past (replicate count 0) k 0 (omega (arith, length-replicate {A = ℕ}))
]

counts_none : (g : Grammar) (comps counts : List ℕ) (count : ℕ) → counts ≡ replicate count 0 → AreCounts g comps 0 counts
counts_none g comps counts count e = rw e (record {
  members = λ n l. subst (λ (k : ℕ). Members g n 0 k) (sym (zeros count (get_or comps n 0))) no_member;
  few = λ k. omega (arith, zeros count k);
})

ranks_none : (g : Grammar) (ranks : List ℕ) → ranks ≡ [] → AreRanks g 0 ranks
ranks_none g ranks e = rw e (record { counted = refl; each = λ n l. absurd (omega arith) })

module _ (g : Grammar) (comps : List ℕ) (are : AreComponents g comps) (bound rank : ℕ) (low : bound < g.nons) (counts : List ℕ) (within : get_or comps bound 0 < length counts) (is : rank ≡ get_or counts (get_or comps bound 0) 0) where
  counts_more : (new : List ℕ) → new ≡ set counts (get_or comps bound 0) (rank + 1) → AreCounts g comps bound counts → AreCounts g comps (bound + 1) new
  counts_more new e was = record {
    members = λ n l. subst (λ (b : ℕ). Members g n b (get_or new (get_or comps n 0) 0)) (next bound) (member n l);
    few = few;
  }
    where
      next : (k : ℕ) → suc k ≡ k + 1
      next k = omega arith

      here : get_or new (get_or comps bound 0) 0 ≡ rank + 1
      here = rw (e, get_or-set_same counts (get_or comps bound 0) (rank + 1) 0 within) (omega arith)

      other : (k : ℕ) → (k ≡ get_or comps bound 0 → ⊥) → get_or new k 0 ≡ get_or counts k 0
      other k ne = rw e (get_or-set_other counts (get_or comps bound 0) k (rank + 1) 0 ne)

      member : (n : ℕ) → n < g.nons → Members g n (suc bound) (get_or new (get_or comps n 0) 0)
      member n l = elim (cases_eq (get_or comps n 0) (get_or comps bound 0)) [
        | inl same ↦
            let count : get_or new (get_or comps n 0) 0 ≡ suc (get_or counts (get_or comps n 0) 0) = omega (arith, here, is, same_at n same, same_was n same) in
            subst (λ (k : ℕ). Members g n (suc bound) k) (sym count) (member_next ((are.one n bound l low).0 same) (was.members n l))
        | inr ne ↦ subst (λ (k : ℕ). Members g n (suc bound) k) (sym (other (get_or comps n 0) ne)) (other_next (λ one. ne ((are.one n bound l low).1 one)) (was.members n l))
      ]
        where
          same_at : (n : ℕ) → get_or comps n 0 ≡ get_or comps bound 0 → get_or new (get_or comps n 0) 0 ≡ get_or new (get_or comps bound 0) 0
          same_at n e = cc

          same_was : (n : ℕ) → get_or comps n 0 ≡ get_or comps bound 0 → get_or counts (get_or comps n 0) 0 ≡ get_or counts (get_or comps bound 0) 0
          same_was n e = cc

      few : (k : ℕ) → get_or new k 0 ≤ bound + 1
      few k = elim (cases_eq k (get_or comps bound 0)) [
        | inl same ↦ subst (λ (j : ℕ). get_or new j 0 ≤ bound + 1) (sym same) (omega (arith, here, is, was.few (get_or comps bound 0)))
        | inr ne ↦ omega (arith, other k ne, was.few k)
      ]

  ranks_more : (ranks : List ℕ) → AreCounts g comps bound counts → AreRanks g bound ranks → AreRanks g (bound + 1) (ranks ++ rank ∷ [])
  ranks_more ranks were have = record {
    counted = omega (arith, length_push ranks rank, have.counted);
    each = λ n l. elim (cases_lt n bound) [
      | inl before ↦ rw (get_or_append_left ranks (rank ∷ []) 0 n (omega (arith, have.counted))) (have.each n before)
      | inr after ↦
          let at : n ≡ bound = omega arith in
          rw (at, get_or_push ranks rank 0 bound have.counted, is) (were.members bound low)
    ];
  }

-- of that many components the counts, and the ranks, before a nonterminal
pub record AreRanked (g : Grammar) (comps : List ℕ) (count bound : ℕ) (counts ranks : List ℕ) : Type 0 where
  pub long : length counts ≡ count
  pub counted : AreCounts g comps bound counts
  pub ranked : AreRanks g bound ranks

pub ranked_none : (g : Grammar) (comps counts ranks : List ℕ) (count : ℕ) → counts ≡ replicate count 0 → ranks ≡ [] → AreRanked g comps count 0 counts ranks
ranked_none g comps counts ranks count zero none = record {
  long = ap length zero ∙ length-replicate count 0;
  counted = counts_none g comps counts count zero;
  ranked = ranks_none g ranks none;
}

pub ranked_more : (g : Grammar) (comps : List ℕ) → AreComponents g comps → (count bound : ℕ) → bound < g.nons → get_or comps bound 0 < count → (counts ranks : List ℕ) → AreRanked g comps count bound counts ranks → (component rank : ℕ) → component ≡ get_or comps bound 0 → rank ≡ get_or counts component rank → (more : List ℕ) → more ≡ ranks ++ rank ∷ [] → AreRanked g comps count (bound + 1) (set counts component (rank + 1)) more
ranked_more g comps are count bound low below counts ranks was component rank own read more longer =
    let within : get_or comps bound 0 < length counts = omega (arith, below, was.long) in
    let is : rank ≡ get_or counts (get_or comps bound 0) 0 = get_or_read counts component rank (omega (arith, within, own)) read 0 ∙ ap (λ (k : ℕ). get_or counts k 0) own in
    record {
      long = length-set counts component (rank + 1) ∙ was.long;
      counted = counts_more g comps are bound rank low counts within is (set counts component (rank + 1)) (ap (λ (k : ℕ). set counts k (rank + 1)) own) was.counted;
      ranked = subst (λ (xs : List ℕ). AreRanks g (bound + 1) xs) (sym longer) (ranks_more g comps are bound rank low counts within is ranks was.counted was.ranked);
    }
