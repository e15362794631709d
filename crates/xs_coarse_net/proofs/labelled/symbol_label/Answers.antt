use Rattle.xs_coarse_net.proofs.Labelling.{symbol_reads}
use Rattle.xs_coarse_net.proofs.labelled.symbol_label.Goals as goal

pub returns : goal.returns
returns c = symbol_reads c.args.site.now.labels.now c.args.symbol c.symbol.result c.symbol.ensures
