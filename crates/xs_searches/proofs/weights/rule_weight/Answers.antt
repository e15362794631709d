use Rattle.std.proofs.Common.{arith}
use Rattle.xs_check_laws.proofs.Weights.{part_within}
use Rattle.xs_searches.proofs.weights.rule_weight.Goals as goal

pub overflow_add-items : goal.overflow_add-items
overflow_add-items c = omega (arith, part_within c.weight_by-items.ensures)
