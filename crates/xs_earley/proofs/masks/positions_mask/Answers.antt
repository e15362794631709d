use Rattle.std.proofs.Common.{ℕ, List, sym, ◌∙◌, ap, subst, arith}
use Rattle.std.specs.Prelude.{Contains, IsTrue, slice_index_or}
use Rattle.std.proofs.lemmas.List.{take_all}
use Rattle.xs_earley.specs.Masks.{has_bit, mask_of}
use Rattle.xs_earley.proofs.Maskings.{positions_more}
use Rattle.xs_earley.proofs.masks.positions_mask.Goals as goal

pub positions-preserved : goal.positions-preserved
positions-preserved c =
    let masks = c.args.masks.now in
    let is = c.mask_at.ensures ∙ ap (mask_of masks) c.class_at.ensures in
    positions_more (λ k. mask_of masks (slice_index_or c.args.classes.now k 0)) c.args.positions.now c.positions.position-index c.positions.mask c.joined-mask.result (omega arith) c.positions.invariant c.joined-mask.ensures.first (λ atom h. c.joined-mask.ensures.second atom (subst (λ m. IsTrue (has_bit m atom)) (sym is) h))

pub returns : goal.returns
returns c k atom h =
    let all = take_all c.positions.position-index c.args.positions.now (omega arith) in
    c.positions.invariant k atom (subst (λ (l : List ℕ). Contains l k) (sym all) h)
