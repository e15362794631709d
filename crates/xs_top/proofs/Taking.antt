-- What a run reads of the input.
use Rattle.std.proofs.Common.{◌≡◌, ℕ, List, [], Some, None, sym, subst, refl, arith}
use Rattle.std.specs.declared.option.Option.{Option}
use Rattle.std.specs.Io.KnownBytes.{Consumes}
use Rattle.xs_top.specs.Asked.{Ask, printing, upgrading, certifying, by, asked, Reading, of_nothing, of_made, of_document, of_script, of_outline, read_for}
use Rattle.xs_top.specs.Devices.{Input, input_of, ReadNothing}
use Rattle.xs_top.specs.Ran.{TakesFew, ReadsAs, ReadsAsAsked, Reads}

consumes_nothing : (left : Option (List ℕ)) → Consumes left left []
consumes_nothing None = cc
consumes_nothing (Some bytes) = refl

-- of an input that is as it was nothing was read
nothing_of : {S : Type 0} (left : S → Option (List ℕ)) (faults : S → ℕ) (input : S) → ReadNothing (input_of left faults input input)
nothing_of left faults input = record { left = refl; faults = refl }

-- and no more than that may be
pub few_of : {S : Type 0} (left : S → Option (List ℕ)) (faults : S → ℕ) (input : S) → TakesFew (input_of left faults input input)
few_of left faults input = record { taken = []; front = consumes_nothing (left input); few = omega arith }

none_for : {S : Type 0} (reading : Reading) (left : S → Option (List ℕ)) (faults : S → ℕ) (input : S) → ReadsAs reading (input_of left faults input input)
none_for of_nothing left faults input = nothing_of left faults input
none_for (of_made seed lines) left faults input = nothing_of left faults input
none_for (of_document side form) left faults input = few_of left faults input
none_for of_script left faults input = few_of left faults input
none_for of_outline left faults input = few_of left faults input

none_as_asked : {S : Type 0} (ask : Option Ask) (left : S → Option (List ℕ)) (faults : S → ℕ) (input : S) → ReadsAsAsked ask (input_of left faults input input)
none_as_asked None left faults input = nothing_of left faults input
none_as_asked (Some (printing sheet)) left faults input = nothing_of left faults input
none_as_asked (Some (upgrading sheet)) left faults input = nothing_of left faults input
none_as_asked (Some (certifying sheet cert)) left faults input = nothing_of left faults input
none_as_asked (Some (by sheet job)) left faults input = none_for (read_for job) left faults input

-- whatever the words ask for, the input may stay as it was
pub reads_nothing : {S : Type 0} (words : List (List ℕ)) (left : S → Option (List ℕ)) (faults : S → ℕ) (input : S) → Reads words (input_of left faults input input)
reads_nothing words left faults input = none_as_asked (asked words) left faults input

-- what what is asked for reads is what the run reads
pub reads_for : (words : List (List ℕ)) (ask : Ask) (i : Input) → asked words ≡ Some ask → ReadsAsAsked (Some ask) i → Reads words i
reads_for words ask i is reads = subst (λ (ask : Option Ask). ReadsAsAsked ask i) (sym is) reads
