use Rattle.xs_cert.specs.Shares.{AreSharesRead}
use Rattle.xs_cert.proofs.sharing.read_shares.Given as goal

abbrev pub invariant-groups : goal.invariant-groups
invariant-groups l = AreSharesRead l.nest l.bytes l.fn.place 0 0 l.at l.first l.first l.initial.related l.related
