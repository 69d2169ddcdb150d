-- The refusals of a value, each by its number and the value returned with it. Assumes nothing.
use Rattle.std.specs.Prelude.{ℕ}
use Rattle.value.specs.declared.fault.ValueFault.{ValueFault}
use Rattle.value.specs.declared.fault.ValueFault.TheVariants.{OutOfRange}

-- a value outside its kind's range is refusal 11
abbrev pub number : ValueFault → ℕ
number OutOfRange = 11

-- and 0 is returned with it
abbrev pub returned : ValueFault → ℕ
returned OutOfRange = 0
