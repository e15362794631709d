use Rattle.std.proofs.Common.{ℕ, arith, subst, sym, inl, inr}
use Rattle.std.proofs.lemmas.Bool.{cases_lt}
use Rattle.std.proofs.lemmas.List.Elements.{All-nil, All-same}
use Rattle.std.specs.List.{All}
use Rattle.xs_coarse.specs.Found.{HasPair, IsInside, pair}
use Rattle.xs_coarse.proofs.GrowthLemmas.{longer_has}
use Rattle.xs_coarse.proofs.search.push_end_pairs.Goals as goal

pub firsts-init : goal.firsts-init
firsts-init c = record {
  inside = All-same (IsInside c.args.net.now.states c.args.net.now.states) c.args.pairs.now.items _ c.requires.none (All-nil (IsInside c.args.net.now.states c.args.net.now.states));
  each = λ a b from before. absurd (omega (arith, from, before));
}

pub push_row-requires : goal.push_row-requires
push_row-requires c = omega (arith, c.firsts-test.true, c.requires.here, c.len-states.ensures.states)

pub firsts-preserved : goal.firsts-preserved
firsts-preserved c =
    let known = c.firsts.invariant in
    let states = c.len-states.ensures.states in
    record {
      inside = subst (λ (k : ℕ). All (IsInside k k) c.push_row.new.pairs.items) states (c.in_ok-push_row.ensures.inside (subst (λ (k : ℕ). All (IsInside k k) c.firsts.pairs.items) (sym states) known.inside));
      each = λ a b from before after below. elim (cases_lt a c.firsts.first) [
        | inl less ↦ longer_has c.in_ok-push_row.ensures.longer (pair a b) (known.each a b from less after below)
        | inr more ↦ subst (λ (k : ℕ). HasPair c.push_row.new.pairs.items k b) (omega (arith, before, more)) (c.in_ok-push_row.ensures.each b after (omega (arith, below, states)))
      ];
    }

pub returns-clause-each : goal.returns-clause-each
returns-clause-each c = λ a b from up_to after below. c.firsts.invariant.each a b from (omega (arith, up_to, c.firsts-test.false)) after below
