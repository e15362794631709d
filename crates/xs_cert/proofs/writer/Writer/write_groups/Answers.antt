use Rattle.std.proofs.Common.{refl, ap}
use Rattle.std.proofs.lemmas.Result.{on_ok_weaker}
use Rattle.xs_cert_laws.specs.Blocks.{of_groups}
use Rattle.xs_cert.proofs.Nowhere.{of_groups as nowhere}
use Rattle.xs_cert.proofs.writer.Writer.write_groups.Goals as goal

pub write_apart-requires : goal.write_apart-requires
write_apart-requires c =
    let source = c.args.source in
    let found = nowhere source.site.g.now source.nest.now source.related.now c.requires.source c.reached_shows.ensures.shared c.args.group c.args.other c.requires.group c.requires.other c.requires.apart in
    rw (c.content-m.ensures, c.content-n.ensures) found

pub returns : goal.returns
returns c = on_ok_weaker c.write_apart.result (λ a. record {
  block = of_groups c.args.group c.args.other c.content-m.result.now c.content-n.result.now a.set;
  is_for = refl;
  right = (record { first = c.content-m.ensures; second = c.content-n.ensures }, a.shows);
  least = a.least;
  adds = a.adds;
}) c.write_apart.ensures
