use Rattle.xs_cert.specs.Kept.{HasNone}
use Rattle.xs_cert.proofs.kept.KeptNets.none.Given as goal

abbrev pub invariant-rules : goal.invariant-rules
invariant-rules l = HasNone l.nets.items
