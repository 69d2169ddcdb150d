-- What making a value answers. Assumes nothing.
use Rattle.std.specs.Prelude.{Bool, cond, Ok, Err, Result}
use Rattle.value.specs.declared.fault.ValueFault.{ValueFault}
use Rattle.value.specs.declared.fault.ValueFault.TheVariants.{OutOfRange}

-- a number in its kind's range is taken as it is, and any other is refused
abbrev pub checked : {N : Type 0} → Bool → N → Result N ValueFault
checked inside n = cond inside (Ok n) (Err OutOfRange)

-- an answer with the value's number in the value's place
abbrev pub numbered : {V N : Type 0} → (V → N) → Result V ValueFault → Result N ValueFault
numbered number (Ok v) = Ok (number v)
numbered number (Err fault) = Err fault
