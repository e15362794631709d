use Rattle.std.proofs.Common.{◌≤◌, length, rules}
use Rattle.xs_pair.specs.Weights.{IsOfBytes}
use Rattle.xs_wf.proofs.Lines.{pair_ordered}
use Rattle.xs_test_tools.proofs.sheets.pair_of.Goals as goal

pub returns-in_ok-two-in-Ok-clause-lines : goal.returns-in_ok-two-in-Ok-clause-lines
returns-in_ok-two-in-Ok-clause-lines c =
    let short : length c.args.bytes.now ≤ 65536 = search rules in
    let of : IsOfBytes c.in-Ok.sheet = (c.args.bytes.now, short, c.in-Ok.ensures.sheet) in
    pair_ordered c.in-Ok.sheet c.in_ok-two-in-Ok.two of c.in_ok-two-in-Ok.ensures.two
