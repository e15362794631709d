use Rattle.std.proofs.Common.{ap, sym, subst, ◌∙◌, arith, Some}
use Rattle.std.proofs.lemmas.Option.{slice_get-get_or}
use Rattle.xs_coarse.specs.Coarse.{Table}
use Rattle.xs_coarse_net.specs.declared.cover.Content.{Content}
use Rattle.xs_screen.specs.Parting.{AreBothSettled, StaySettled, AreTheTwo}
use Rattle.xs_screen.proofs.Parting.{stay_parted, parted_settled}
use Rattle.xs_screen.proofs.groups.part_pair.Goals as goal

pub returns-then-branch-clause-stay : goal.returns-then-branch-clause-stay
returns-then-branch-clause-stay c = subst (λ (t : Table). StaySettled c.args.contents.now c.args.labels.now t (AreTheTwo c.args.first c.args.second)) (sym c.part.ensures) (stay_parted c.args.contents.now c.args.labels.now c.args.first c.args.second c.requires.numbered c.requires.order (omega (arith, c.requires.second, c.requires.numbered)))

pub returns-then-branch-clause-settled : goal.returns-then-branch-clause-settled
returns-then-branch-clause-settled c =
    let contents = c.args.contents.now in
    let a = c.index-contents-first.result in
    let b = c.index-contents-second.result in
    let at_a = slice_get-get_or contents c.args.first a (omega (arith, c.requires.order, c.requires.second)) ∙ ap (λ (x : Content). Some x) (sym c.index-contents-first.is) in
    let at_b = slice_get-get_or contents c.args.second b c.requires.second ∙ ap (λ (x : Content). Some x) (sym c.index-contents-second.is) in
    λ e. subst (λ (t : Table). AreBothSettled contents t c.args.first c.args.second) (sym c.part.ensures) (parted_settled contents c.args.labels.now c.args.first c.args.second a b at_a at_b (c.in_ok-are_both_apart.ensures.one c.if-branch.true) (c.in_ok-are_both_apart.ensures.other c.if-branch.true))
