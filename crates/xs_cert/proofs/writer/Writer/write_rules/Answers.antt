use Rattle.std.proofs.Common.{refl}
use Rattle.std.specs.declared.option.Option.TheVariants.{Some}
use Rattle.xs_cert_laws.specs.Blocks.{of_rules}
use Rattle.xs_cert.proofs.Keeping.{nets_set}
use Rattle.xs_cert.proofs.Nowhere.{of_rules as nowhere}
use Rattle.xs_cert.proofs.writer.Writer.write_rules.Goals as goal

pub write_apart-requires : goal.write_apart-requires
write_apart-requires c =
    let source = c.args.source in
    nowhere source.site.g.now source.nest.now source.related.now c.requires.source c.reached_shows.ensures.shared c.args.rule c.args.other c.args.net.now c.in_ok-other_net.other_net c.requires.order c.requires.other c.requires.one (record { first = c.requires.net; second = c.in_ok-other_net.ensures.net })

pub returns-clause-nets : goal.returns-clause-nets
returns-clause-nets c = nets_set c.args.source.site.g.now c.args.other (Some c.in_ok-other_net.other_net) c.take.new.self.nets.items c.put.new.self.nets.items c.take.ensures.kept c.in_ok-other_net.ensures.net c.put.ensures

pub returns-clause-adds : goal.returns-clause-adds
returns-clause-adds c =
    let a = c.in_ok-write_apart.ensures in
    record {
      block = of_rules c.args.rule c.args.other c.args.net.now c.in_ok-other_net.other_net a.set;
      is_for = refl;
      right = (record { first = c.requires.net; second = c.in_ok-other_net.ensures.net }, a.shows);
      least = a.least;
      adds = a.adds;
    }
