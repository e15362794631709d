use Rattle.std.proofs.Common.{◌+◌, arith}
use Rattle.xs_gram.specs.Fences.{spread}
use Rattle.xs_loose.proofs.Numbering.{left_counts, number_low}
use Rattle.xs_loose.proofs.Stepping.{read_there}
use Rattle.xs_coarse_net.proofs.Extending.{extends_group, extends_item}
use Rattle.xs_coarse_net.proofs.pieces.add_piece.Goals as goal

pub add_group-requires-clause-there : goal.add_group-requires-clause-there
add_group-requires-clause-there c =
    let g = c.args.site.now.g.now in
    omega (arith, c.requires.number, left_counts g.fences (spread g c.args.rule) c.args.place c.in-Some.partner c.in-Some.ensures.some, number_low g c.args.rule (c.args.place + 1) c.requires.rule)

pub returns-in_ok-add_group-in-Some : goal.returns-in_ok-add_group-in-Some
returns-in_ok-add_group-in-Some c = record {
  extends = λ rest at.
      let g = c.args.site.now.g.now in
      let t = c.args.site.now.labels.now in
      extends_group g t c.args.rule c.args.place rest c.args.net.now _ c.in_ok-add_group-in-Some.ensures.placed at c.in-Some.partner c.spread.ensures.proper c.in-Some.ensures.some (rw c.requires.number at c.in_ok-add_group-in-Some.ensures.call);
}

pub returns-in_ok-add_item-in-None : goal.returns-in_ok-add_item-in-None
returns-in_ok-add_item-in-None c = record {
  extends = λ rest at.
      let g = c.args.site.now.g.now in
      let t = c.args.site.now.labels.now in
      let is = read_there (spread g c.args.rule) c.spread.result.now c.args.place c.index-spread-place.result c.spread.ensures.items c.index-spread-place.is in
      extends_item g t c.args.rule c.args.place rest c.args.net.now _ c.in_ok-add_item-in-None.ensures.placed at c.index-spread-place.result c.requires.place is (c.partner.ensures.none.0 c.in-None.is) (λ plain. c.in_ok-add_item-in-None.ensures.covers);
}
