use Rattle.xs_coarse_net.proofs.Extending.{kept_more}
use Rattle.xs_coarse_net.proofs.pieces.keep_fragment.Goals as goal

pub returns-in_ok-made-clause-kept : goal.returns-in_ok-made-clause-kept
returns-in_ok-made-clause-kept c = kept_more c.args.ground.now.site.g.now c.args.ground.now.site.labels.now c.args.kept.now.items c.args.non c.in_ok-made.made c.in_ok-made.ensures c.requires.kept
