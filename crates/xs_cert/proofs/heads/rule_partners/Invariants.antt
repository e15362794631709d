use Rattle.std.proofs.Common.{◌≡◌, suc, filter}
use Rattle.xs_cert_laws.specs.Certificates.{between}
use Rattle.xs_cert.specs.Heads.{is_of_one}
use Rattle.xs_cert.proofs.heads.rule_partners.Given as goal

abbrev pub invariant-others : goal.invariant-others
invariant-others l = l.partners.items ≡ filter (is_of_one l.g l.rule) (between (suc l.rule) l.other)
