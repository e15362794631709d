use Rattle.std.proofs.Common.{◌≡◌, ℕ, ◌+◌, List, length, sym, subst, arith}
use Rattle.xs_gram.specs.Places.{all_places}
use Rattle.xs_earley.specs.Masks.{AreMasks}
use Rattle.xs_earley.proofs.Maskings.{masks_more}
use Rattle.xs_earley.proofs.masks.state_masks.Goals as goal

pub states-preserved : goal.states-preserved
states-preserved c =
    let g = c.args.g.now in
    let f = c.args.facts.now in
    subst (λ (l : List ℕ). AreMasks g f (c.states.state + 1) l) (sym c.in_ok-push.ensures.items) (masks_more g f c.states.state c.state_mask.result c.states.masks.items c.states.invariant c.state_mask.ensures)

pub returns : goal.returns
returns c =
    let all : c.states.state ≡ length (all_places c.args.g.now) = omega arith in
    subst (λ n. AreMasks c.args.g.now c.args.facts.now n c.states.masks.items) all c.states.invariant
