use Rattle.xs_gram.specs.Fences.{spread}
use Rattle.xs_loose.proofs.Nesting.{left_read, right_read, fenced_is}
use Rattle.xs_loose.proofs.part.Fenced.at.Goals as goal

pub fence_symbol-left-requires : goal.fence_symbol-left-requires
fence_symbol-left-requires c =
    let g = c.args.g.now in
    left_read g.fences (spread g c.args.rule) c.spread-items.result.now c.args.place c.in-Some.partner c.index-items-place.result c.in-Some.ensures.some c.spread-items.ensures.items c.index-items-place.is

pub fence_symbol-right-requires : goal.fence_symbol-right-requires
fence_symbol-right-requires c =
    let g = c.args.g.now in
    right_read g.fences (spread g c.args.rule) c.spread-items.result.now c.args.place c.in-Some.partner c.index-items-partner.result c.in-Some.ensures.some c.spread-items.ensures.items c.index-items-partner.is

pub returns-clause-some : goal.returns-clause-some
returns-clause-some c = fenced_is c.args.g.now c.args.rule c.args.place c.in-Some.partner c.fence_symbol-left.result c.fence_symbol-right.result c.spread-items.result.now c.index-items-place.result c.index-items-partner.result c.requires.rule c.in-Some.ensures.some c.spread-items.ensures.items c.index-items-place.is c.index-items-partner.is c.fence_symbol-left.ensures c.fence_symbol-right.ensures
