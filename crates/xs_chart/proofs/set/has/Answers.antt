use Rattle.xs_chart.proofs.Different.{found_iff}
use Rattle.xs_chart.proofs.set.has.Goals as goal

pub returns : goal.returns
returns c = found_iff c.args.set.now.keys c.args.item c.contains.result c.contains.ensures
