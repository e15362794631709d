use Rattle.std.proofs.Common.{refl, sym}
use Rattle.std.proofs.lemmas.Bool.{true≢false}
use Rattle.xs_auto.specs.Nets.{states}
use Rattle.xs_meet.specs.Closed.{Marked}
use Rattle.xs_closed.specs.Rows.{marked}
use Rattle.xs_closed.specs.Longest.{First, IsClearBy}
use Rattle.xs_closed.proofs.LongestLemmas.{best_greatest}
use Rattle.xs_closed.proofs.CutLemmas.{clear_starts, clear_fronts, clear_turned, clear_pauses, clear_middles, clear_past, clear_limit, limit_clear}
use Rattle.xs_closed.proofs.testing.longest_clear.Goals as goal

pub returns-in_err-start_need : goal.returns-in_err-start_need
returns-in_err-start_need c = let s = c.args.sets.now in rw c.from_residual.ensures (λ i l p. c.in_err-start_need.ensures (clear_starts s (Marked (marked c.args.related.now)) c.args.front.now c.args.rest.now (First s.rests i) p))

pub returns-then-not-is_closed : goal.returns-then-not-is_closed
returns-then-not-is_closed c = let s = c.args.sets.now in λ i l p. true≢false (sym (c.if-not-is_closed.ensures.1 (clear_fronts s (Marked (marked c.args.related.now)) c.args.front.now c.args.rest.now (First s.rests i) p)))

pub returns-then-not-is_turned : goal.returns-then-not-is_turned
returns-then-not-is_turned c = let s = c.args.sets.now in λ i l p. true≢false (sym (c.if-not-is_turned.ensures.1 (clear_turned s (Marked (marked c.args.related.now)) c.args.front.now c.args.rest.now (First s.rests i) p)))

pub returns-then-not-is_closed-2 : goal.returns-then-not-is_closed-2
returns-then-not-is_closed-2 c = let s = c.args.sets.now in λ i l p. true≢false (sym (c.if-not-is_closed-2.ensures.1 (clear_pauses s (Marked (marked c.args.related.now)) c.args.front.now c.args.rest.now (First s.rests i) p)))

pub returns-then-not-is_closed-3 : goal.returns-then-not-is_closed-3
returns-then-not-is_closed-3 c = let s = c.args.sets.now in λ i l p. true≢false (sym (c.if-not-is_closed-3.ensures.1 (clear_middles s (Marked (marked c.args.related.now)) c.args.front.now c.args.rest.now (First s.rests i) p)))

pub returns-in-Some : goal.returns-in-Some
returns-in-Some c =
    let s = c.args.sets.now in
    let fronts = c.if-not-is_closed.ensures.0 refl in
    let turned = c.if-not-is_turned.ensures.0 refl in
    let pauses = c.if-not-is_closed-2.ensures.0 refl in
    let middles = c.if-not-is_closed-3.ensures.0 refl in
    let need = c.in-Some.ensures in
    best_greatest s.rests (Marked (marked c.args.related.now)) c.args.rest.now c.args.rest.now c.in-Some.need (states c.args.rest.now) (states c.args.rest.now) (IsClearBy (Marked (marked c.args.related.now)) c.args.front.now c.args.rest.now s) c.longest.result c.requires.sized.rests (λ x p. clear_limit s (Marked (marked c.args.related.now)) c.args.front.now c.args.rest.now c.in-Some.need x need p) (λ x p. limit_clear s (Marked (marked c.args.related.now)) c.args.front.now c.args.rest.now c.in_ok-start_need.field-0 c.in-Some.need x c.in_ok-start_need.ensures fronts turned pauses middles need p) c.longest.ensures

pub returns-in-None : goal.returns-in-None
returns-in-None c = let s = c.args.sets.now in λ i l p. c.in-None.ensures (clear_past s (Marked (marked c.args.related.now)) c.args.front.now c.args.rest.now i l p)
