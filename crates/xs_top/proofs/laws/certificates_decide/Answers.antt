use Rattle.xs_top.proofs.Certificates.{proof_is_taken_lem, one_certificate_lem}
use Rattle.xs_top.proofs.laws.certificates_decide.Goals as goal

pub returns-clause-taken : goal.returns-clause-taken
returns-clause-taken c = proof_is_taken_lem c.bytes_agree.ensures.certificates c.one_word.ensures c.weights_are_exact.ensures.rule c.bytes_agree.ensures.pairs c.bytes_agree.ensures.sheets

pub returns-clause-one : goal.returns-clause-one
returns-clause-one c = one_certificate_lem c.bytes_agree.ensures.certificates
