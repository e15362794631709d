use Rattle.xs_cert.proofs.Relations.{IsRowBefore}
use Rattle.xs_cert.proofs.relating.relate_row.Given as goal

abbrev pub invariant-seconds : goal.invariant-seconds
invariant-seconds l = IsRowBefore l.shared l.count l.first l.second l.fn.related l.related
