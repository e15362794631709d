use Rattle.std.proofs.Common.{arith}
use Rattle.xs_cert.proofs.SetsRead.{run_short}
use Rattle.xs_cert.proofs.sets.read_set.Goals as goal

pub overflow_add-result : goal.overflow_add-result
overflow_add-result c = omega (arith, run_short c.args.bytes.now c.args.place _ _ c.read_rows-run.result.end c.read_rows-run.result.count _ c.requires c.read_rows-run.ensures, c.read_rows-run.type_inv)
