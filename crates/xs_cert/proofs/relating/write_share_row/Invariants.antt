use Rattle.std.proofs.Common.{map, filter}
use Rattle.xs_closed.specs.Rows.{marked}
use Rattle.xs_cert_laws.specs.Certificates.{share_line, between}
use Rattle.xs_cert.specs.Writing.{Adds}
use Rattle.xs_cert.proofs.relating.write_share_row.Given as goal

abbrev pub invariant-seconds : goal.invariant-seconds
invariant-seconds l = Adds l.fn.out l.out (map share_line (map (λ k. (l.first, k)) (filter (marked l.related l.first) (between l.first l.second))))
