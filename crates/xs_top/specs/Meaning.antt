-- What is asked of the jobs that are done.
use Rattle.std.specs.Prelude.{◌≤◌}
use Rattle.xs_pair.specs.Sound.{IsSoundPair}
use Rattle.xs_writing_laws.specs.Laws.{CanBeWritten}
use Rattle.xs_top.specs.declared.asking.Job.{Job}
use Rattle.xs_top.specs.declared.asking.Job.TheVariants.{Make}
use Rattle.xs_top.specs.declared.asking.Begun.{Begun}
use Rattle.xs_top.specs.declared.asking.Begun.TheVariants as B

-- a text that is made has 1 to 2,000 lines
abbrev pub HasLines : Job → Type 0
HasLines (Make seed lines) = (1 ≤ lines) × (lines ≤ 2000)
HasLines other = Unit {0}

-- where a job was begun, all is there that it asks for
abbrev pub CanBeDone : Begun → Type 0
CanBeDone (B.By p job) = IsSoundPair p × CanBeWritten p × HasLines job
CanBeDone other = Unit {0}
