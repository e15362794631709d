use Rattle.std.proofs.Common.{map, flat_map}
use Rattle.xs_closed.specs.Rows.{marked}
use Rattle.xs_cert_laws.specs.Certificates.{share_line, between}
use Rattle.xs_cert.specs.Writing.{Adds, shares_of}
use Rattle.xs_cert.proofs.relating.write_shares.Given as goal

abbrev pub invariant-firsts : goal.invariant-firsts
invariant-firsts l = Adds l.fn.out l.out (map share_line (flat_map (shares_of l.count (marked l.related)) (between 0 l.first)))
