use Rattle.std.proofs.Common.{ℕ, List, [], ◌∷◌, length, sym, ap, subst, arith, length-append}
use Rattle.xs_earley.specs.Masks.{AreClassMasks}
use Rattle.xs_earley.proofs.Maskings.{classes_none, classes_more}
use Rattle.xs_earley.proofs.masks.class_masks.Goals as goal

pub classes-init : goal.classes-init
classes-init c = record {
  counted = ap (λ (l : List ℕ). length l) c.in_ok-masks.ensures.items;
  known = subst (λ (l : List ℕ). AreClassMasks c.args.atoms.now l) (sym c.in_ok-masks.ensures.items) (classes_none c.args.atoms.now);
}

pub classes-preserved : goal.classes-preserved
classes-preserved c =
    let masks = c.classes.masks.items in
    let mask = c.class_mask.result in
    let long = length-append masks (mask ∷ []) in
    let is = ap (λ (l : List ℕ). length l) c.in_ok-push.ensures.items in
    let counted = c.classes.invariant.counted in
    record {
      counted = omega (arith, long, is, counted);
      known = subst (λ (l : List ℕ). AreClassMasks c.args.atoms.now l) (sym c.in_ok-push.ensures.items) (classes_more c.args.atoms.now masks c.classes.class mask counted c.class_mask.ensures c.classes.invariant.known);
    }
