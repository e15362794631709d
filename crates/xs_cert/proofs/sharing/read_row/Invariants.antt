use Rattle.xs_cert.specs.Shares.{AreSharesRead}
use Rattle.xs_cert.proofs.sharing.read_row.Given as goal

abbrev pub invariant-partners : goal.invariant-partners
invariant-partners l = AreSharesRead l.nest l.bytes l.fn.place l.first l.first l.at l.first l.second l.initial.related l.related
