-- When an outline is refused.
use Rattle.std.specs.Prelude.{ℕ, List}
use Rattle.xs_pair.specs.Grammars.{Pair}
use Rattle.xs_outline.specs.declared.fault.OutlineFault.{OutlineFault}
use Rattle.xs_outline.specs.declared.fault.OutlineFault.TheVariants.{OutlineBad, Memory}
use Rattle.xs_outline.specs.Outline.{IsBadAt}

abbrev pub IsRefusal : Pair → List ℕ → OutlineFault → Type 0
IsRefusal p w (OutlineBad line) = IsBadAt p w line
IsRefusal p w Memory = Unit {0}
