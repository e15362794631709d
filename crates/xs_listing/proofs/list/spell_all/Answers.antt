use Rattle.std.proofs.Common.{◌≡◌, ◌+◌, List, sym, subst, arith}
use Rattle.xs_listing.specs.declared.spelt.SpeltPart.{SpeltPart}
use Rattle.xs_listing.specs.Numbered.{AreSpeltBy}
use Rattle.xs_listing.proofs.Spelling.{none_spelt, next_spelt}
use Rattle.xs_listing.proofs.list.spell_all.Goals as goal

pub numbers-init : goal.numbers-init
numbers-init c = subst (λ (l : List (List SpeltPart)). AreSpeltBy c.args.source.now c.args.root 0 l) (sym c.in_ok-trees.ensures.items) (none_spelt c.args.source.now c.args.root)

pub numbers-preserved : goal.numbers-preserved
numbers-preserved c = subst (λ (l : List (List SpeltPart)). AreSpeltBy c.args.source.now c.args.root (c.numbers.number + 1) l) (sym c.in_ok-push.ensures.items) (next_spelt c.args.source.now c.args.root c.numbers.number c.numbers.trees.items c.in_ok-spelt.spelt c.numbers.invariant c.in_ok-spelt.ensures)

pub returns : goal.returns
returns c =
    let all : c.numbers.number ≡ c.args.count = omega arith in
    subst (λ (l : List (List SpeltPart)). AreSpeltBy c.args.source.now c.args.root c.args.count l) (sym c.from_vec.ensures) (subst (λ n. AreSpeltBy c.args.source.now c.args.root n c.numbers.trees.items) all c.numbers.invariant)
