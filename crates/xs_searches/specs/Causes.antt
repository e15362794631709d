-- Why a grammar is not searched for suspects.
use Rattle.xs_gram.specs.Grammar.{Grammar}
use Rattle.xs_check_laws.specs.Acceptance.{IsHeaviness}
use Rattle.xs_searches.specs.declared.fault.CheckFault.{CheckFault}
use Rattle.xs_searches.specs.declared.fault.CheckFault.TheVariants.{Heavy, Memory}

-- where the fault speaks of a weight, it is that of the first heavy rule
abbrev pub IsCause : Grammar → CheckFault → Type 0
IsCause g (Heavy weight) = IsHeaviness g weight
IsCause g Memory = Unit {0}
