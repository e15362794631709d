use Rattle.std.specs.declared.option.Option.TheVariants.{None}
use Rattle.xs_cert.proofs.Keeping.{nets_set}
use Rattle.xs_cert.proofs.kept.KeptNets.take.Goals as goal

pub returns-in-Some-clause-kept : goal.returns-in-Some-clause-kept
returns-in-Some-clause-kept c = nets_set c.args.site.g.now c.args.rule None c.args.self.now.nets.items c.take_out.new.self.nets.items c.requires.kept tt c.take_out.ensures.nets

pub returns-clause-kept : goal.returns-clause-kept
returns-clause-kept c = nets_set c.args.site.g.now c.args.rule None c.args.self.now.nets.items c.take_out.new.self.nets.items c.requires.kept tt c.take_out.ensures.nets
