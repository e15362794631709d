use Rattle.std.proofs.Common.{suc, arith}
use Rattle.std.proofs.lemmas.Option.{slice_get_within}
use Rattle.xs_atoms.proofs.Paging.{in_stretch}
use Rattle.xs_atoms.proofs.pages.current.Goals as goal

pub returns-after-stretches : goal.returns-after-stretches
returns-after-stretches c =
    in_stretch c.args.stretches.now c.stretches.at c.args.symbol c.stretches.invariant.0 c.stretches.invariant.1
    (λ next e. absurd (omega (arith, slice_get_within c.args.stretches.now (suc c.stretches.at) next e)))
