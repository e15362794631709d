use Rattle.xs_auto.specs.Nets.{states}
use Rattle.xs_meet.specs.Closed.{Marked}
use Rattle.xs_closed.specs.Rows.{marked}
use Rattle.xs_closed.specs.Longest.{IsApartBy}
use Rattle.xs_closed.proofs.LongestLemmas.{best_greatest}
use Rattle.xs_closed.proofs.CutLemmas.{apart_limit, limit_apart, no_apart}
use Rattle.xs_closed.proofs.testing.longest_apart.Goals as goal

pub returns-in-Some : goal.returns-in-Some
returns-in-Some c = best_greatest c.args.set.now (Marked (marked c.args.related.now)) c.args.m.now c.args.n.now c.in-Some.need (states c.args.m.now) (states c.args.n.now) (IsApartBy (Marked (marked c.args.related.now)) c.args.m.now c.args.n.now c.args.set.now) c.longest.result c.requires.sized (λ x p. apart_limit c.args.set.now (Marked (marked c.args.related.now)) c.args.m.now c.args.n.now c.in-Some.need x c.in-Some.ensures p) (λ x p. limit_apart c.args.set.now (Marked (marked c.args.related.now)) c.args.m.now c.args.n.now c.in-Some.need x c.in-Some.ensures p) c.longest.ensures

pub returns-in-None : goal.returns-in-None
returns-in-None c = no_apart c.args.set.now (Marked (marked c.args.related.now)) c.args.m.now c.args.n.now c.in-None.ensures
