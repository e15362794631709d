use Rattle.std.proofs.Common.{◌+◌, ◌-◌, ◌*◌, length, take, drop}
use Rattle.std.proofs.lemmas.Slice.Eq.{slice_eq-Decides}
use Rattle.std.specs.Cmp.{booleans_Decides}
use Rattle.xs_atoms.proofs.Sweeping.{cut}
use Rattle.xs_atoms.proofs.sweep.is_row.Goals as goal

pub returns-clause-there : goal.returns-clause-there
returns-clause-there c = λ t.
    let begin = c.in-Some.begin in
    let n = length c.args.row.now in
    let d = slice_eq-Decides booleans_Decides (take (begin + n - begin) (drop begin c.args.rows.now)) c.args.row.now c.eq.result c.eq.ensures in
    cut c.args.rows.now c.args.row.now begin n (n * c.args.atom) c.in-Some.ensures.1 (d.0 t)
