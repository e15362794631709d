use Rattle.std.proofs.Common.{◌≡◌, ◌<◌, ◌≤◌, ◌+◌, ◌-◌, ◌||◌, ℕ, inl, inr, length, arith, rules, false, subst}
use Rattle.std.proofs.lemmas.Bool.{cases_lt, or_parts}
use Rattle.xs_cover.specs.Shortest.{IsSettled}
use Rattle.xs_cover.proofs.words.sweep.Goals as goal

pub positions-preserved : goal.positions-preserved
positions-preserved c = record { rests = c.lower-lowered.ensures.rests; lowered = search rules; settled = settled }
  where
    settled : (c.positions.lowered || c.lower-lowered.result) ≡ false → (j : ℕ) → length c.args.rests.now ≤ j + (c.positions.done + 1) → j < length c.args.rests.now → IsSettled c.args.automaton.now c.args.rests.now j
    settled none j low_j high =
        let each = or_parts c.positions.lowered c.lower-lowered.result none in
        let known = c.positions.invariant in
        elim (cases_lt (j + c.positions.done) (length c.args.rests.now)) [
          | inl earlier ↦
              let here : length c.args.rests.now - 1 - c.positions.done ≡ j = omega arith in
              subst (λ k. IsSettled c.args.automaton.now c.args.rests.now k) here (subst (λ r. IsSettled c.args.automaton.now r (length c.args.rests.now - 1 - c.positions.done)) (known.lowered.kept each.0) (c.lower-lowered.ensures.settled each.1))
          | inr later ↦ known.settled each.0 j later high
        ]
