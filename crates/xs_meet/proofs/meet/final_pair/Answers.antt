use Rattle.std.proofs.Common.{◌∙◌, sym, arith}
use Rattle.std.proofs.lemmas.Bool.{true≢false}
use Rattle.std.proofs.lemmas.Option.{slice_get_within}
use Rattle.xs_meet.specs.Searches.{step}
use Rattle.xs_meet.proofs.PhaseLemmas.{no_end_more}
use Rattle.xs_meet.proofs.meet.final_pair.Goals as goal
use Rattle.xs_meet.proofs.meet.final_pair.Goals.{else-is_final-via-then-is_final+else-is_final-2, else-is_final-via-else-is_final}

pub places-preserved : goal.places-preserved
places-preserved c = record {
  none = no_end_more c.args.first.now c.args.second.now c.args.steps.now c.places.place (step 0 0 0) c.places-test.true (λ p q. elim c.else-is_final.branch [
    | else-is_final-via-then-is_final+else-is_final-2 w ↦ true≢false (sym q ∙ sym w.is_final-then-is_final.ensures ∙ w.if-is_final-2.false)
    | else-is_final-via-else-is_final w ↦ true≢false (sym p ∙ sym c.is_final.ensures ∙ w.if-is_final.false)
  ]) c.places.invariant.none;
}

pub returns-clause-none : goal.returns-clause-none
returns-clause-none c = λ k e. let h = slice_get_within _ k e.end e.at in c.places.invariant.none k (omega (arith, c.places-test.false)) e
