use Rattle.std.proofs.Common.{◌≡◌, filter}
use Rattle.xs_closed.specs.Rows.{marked}
use Rattle.xs_cert_laws.specs.Certificates.{between}
use Rattle.xs_cert.specs.Heads.{is_open}
use Rattle.xs_cert.proofs.heads.group_partners.Given as goal

abbrev pub invariant-others : goal.invariant-others
invariant-others l = l.partners.items ≡ filter (is_open l.nest (marked l.related) l.group) (between l.group l.other)
