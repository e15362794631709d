-- What a cause why something was not made amounts to.
use Rattle.std.specs.Prelude.{Option, Some, None}
use Rattle.std.specs.declared.result.Result.{Result}
use Rattle.std.specs.declared.result.Result.TheVariants.{Ok, Err}
use Rattle.xs_class.specs.declared.memory.Memory.{Memory}
use Rattle.xs_coarse.specs.declared.stop.Stop.{Stop}
use Rattle.xs_coarse.specs.declared.stop.Stop.TheVariants.{Unfit, Memory as NoMemory}

-- what was made, or none where it does not fit
abbrev pub fitting : {T : Type 0} → Result T Stop → Result (Option T) Memory
fitting (Ok x) = Ok (Some x)
fitting (Err Unfit) = Ok None
fitting (Err NoMemory) = Err record {}
