use Rattle.xs_top.proofs.Agreeing.{pairs_agree_lem, sheets_agree_lem, outlines_agree_lem, scripts_agree_lem, certificates_agree_lem}
use Rattle.xs_top.proofs.laws.bytes_agree.Goals as goal

pub returns-clause-pairs : goal.returns-clause-pairs
returns-clause-pairs c = pairs_agree_lem c.one_pair.ensures.bytes c.alike_pairs_mean_the_same.ensures

pub returns-clause-sheets : goal.returns-clause-sheets
returns-clause-sheets c = sheets_agree_lem c.one_sheet.ensures c.alike_sheets_mean_the_same.ensures

pub returns-clause-outlines : goal.returns-clause-outlines
returns-clause-outlines c = outlines_agree_lem c.one_pair.ensures.bytes

pub returns-clause-scripts : goal.returns-clause-scripts
returns-clause-scripts c = scripts_agree_lem c.one_pair.ensures.bytes c.alike_pairs_mean_the_same.ensures

pub returns-clause-certificates : goal.returns-clause-certificates
returns-clause-certificates c = certificates_agree_lem c.one_pair.ensures.bytes c.alike_have_same_certificates.ensures
