use Rattle.std.proofs.Common.{arith}
use Rattle.xs_coarse_net.proofs.Leaving.{nets_next}
use Rattle.xs_coarse_net.proofs.leaves.leaves_of.Goals as goal

pub terms-preserved : goal.terms-preserved
terms-preserved c =
    let is = c.requires.automata.terms c.terms.term (omega (arith, c.terms-test.true, c.terms.auto.term-end, c.terms-term-end.ensures)) in
    let goes = rw c.term.ensures at c.in_ok-net.ensures in
    rw c.in_ok-push.ensures.items (nets_next c.in_ok-net.net c.terms.invariant (λ w word. goes w ((is.accepts w).0 word)))

pub skips-preserved : goal.skips-preserved
skips-preserved c =
    let is = c.requires.automata.skips c.skips.skip (omega (arith, c.skips-test.true, c.skips.auto.skip-end, c.skips-skip-end.ensures)) in
    let goes = rw c.skip.ensures at c.in_ok-net-2.ensures in
    rw c.in_ok-push-2.ensures.items (nets_next c.in_ok-net-2.net c.skips.invariant (λ w word. goes w ((is.accepts w).0 word)))
