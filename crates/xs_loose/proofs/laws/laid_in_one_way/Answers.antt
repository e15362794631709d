use Rattle.std.proofs.Common.{suc, refl, arith}
use Rattle.xs_loose.proofs.Laid.{PartLaid, part_ends, part_laid, stretch_named}
use Rattle.xs_loose.proofs.Once.{part_once}
use Rattle.xs_loose.proofs.laws.laid_in_one_way.Goals as goal

pub returns-clause-laid : goal.returns-clause-laid
returns-clause-laid c = λ g built p k is stretch w weighs light.
    let own : PartLaid g p k is 0 1 (suc w) = part_ends (omega arith) (part_laid g built weighs (omega (arith, light)) (stretch_named g built.range p k is stretch) p k 0 1) in
    (own.arcs, own.after, own.is)

pub returns-clause-once : goal.returns-clause-once
returns-clause-once c = λ g built p k is xs ys s t m n a b. let o = part_once g built.proper.once a b refl in (o.arcs, o.after, o.next)
