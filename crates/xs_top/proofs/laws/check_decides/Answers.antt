use Rattle.xs_top.proofs.Verdicts.{Refusing, one_verdict_lem, one_flaw_lem, check_decides_lem, check_decides_upgrades_lem, check_decides_certificates_lem, check_accepts_lem}
use Rattle.xs_top.proofs.laws.check_decides.Goals as goal

refusing : (c : goal.After-refused_once) → Refusing
refusing c = record { one_sheet = c.one_sheet.ensures; alike_sheets = c.alike_sheets_mean_the_same.ensures; one_pair = c.one_pair.ensures.bytes; broken = c.refused_once.ensures.broken; ill = c.refused_once.ensures.ill; heavy = c.refused_once.ensures.heavy; suspect = c.refused_once.ensures.suspect }

pub returns-clause-one : goal.returns-clause-one
returns-clause-one c = one_verdict_lem c.one_word.ensures c.weights_are_exact.ensures.rule c.bytes_agree.ensures.pairs c.bytes_agree.ensures.sheets (refusing c)

pub returns-clause-flaws : goal.returns-clause-flaws
returns-clause-flaws c = one_flaw_lem c.one_word.ensures c.weights_are_exact.ensures.rule c.bytes_agree.ensures.pairs c.bytes_agree.ensures.sheets (refusing c)

pub returns-clause-decides : goal.returns-clause-decides
returns-clause-decides c = check_decides_lem c.one_word.ensures c.weights_are_exact.ensures.rule c.bytes_agree.ensures.pairs c.bytes_agree.ensures.sheets

pub returns-clause-upgrades : goal.returns-clause-upgrades
returns-clause-upgrades c = check_decides_upgrades_lem c.one_word.ensures c.weights_are_exact.ensures.rule c.bytes_agree.ensures.pairs c.bytes_agree.ensures.sheets

pub returns-clause-certificates : goal.returns-clause-certificates
returns-clause-certificates c = check_decides_certificates_lem c.one_word.ensures c.weights_are_exact.ensures.rule c.bytes_agree.ensures.pairs c.bytes_agree.ensures.sheets

pub returns-clause-accepts : goal.returns-clause-accepts
returns-clause-accepts c = check_accepts_lem c.bytes_agree.ensures.pairs
