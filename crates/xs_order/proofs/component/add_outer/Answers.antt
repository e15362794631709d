use Rattle.std.proofs.Common.{List, sym, subst}
use Rattle.xs_gram.specs.declared.parts.GItem.{GItem}
use Rattle.xs_gram.specs.Fences.{IsPartner, IsLeftFence}
use Rattle.xs_order.proofs.Outer.{group_past, item_past}
use Rattle.xs_order.proofs.component.add_outer.Goals as goal

pub returns-in-Some : goal.returns-in-Some
returns-in-Some c =
    let fs = c.args.g.now.fences in
    let partner : IsPartner fs c.args.items.now c.args.place c.in-Some.partner = subst (λ (x : List GItem). IsPartner fs x c.args.place c.in-Some.partner) (sym c.requires.items) c.in-Some.ensures.some in
    group_past fs c.args.items.now c.args.place c.in-Some.partner c.args.nons.now c.spread-spread.ensures.proper.once c.requires.level partner

pub returns-in_ok-add_non-in-None : goal.returns-in_ok-add_non-in-None
returns-in_ok-add_non-in-None c =
    let fs = c.args.g.now.fences in
    let other : IsLeftFence fs c.args.items.now c.args.place → ⊥ = subst (λ (x : List GItem). IsLeftFence fs x c.args.place → ⊥) (sym c.requires.items) (c.partner.ensures.none.0 c.in-None.is) in
    item_past fs c.args.items.now c.args.place c.index-items-place.result c.args.nons.now c.add_non.new.nons c.requires.place c.index-items-place.is c.requires.level other c.in_ok-add_non-in-None.ensures
