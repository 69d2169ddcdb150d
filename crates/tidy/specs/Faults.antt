-- The refusals of tidying. Assumes nothing.
use Rattle.std.specs.Prelude.{ℕ}
use Rattle.tidy.specs.declared.fault.TidyFault.{TidyFault}
use Rattle.tidy.specs.declared.fault.TidyFault.TheVariants.{Short, Unbound}

-- the number of a refusal
abbrev pub fault_number : TidyFault → ℕ
fault_number Short = 6
fault_number Unbound = 14

-- the value that goes with it: the records that a sheet must have, or nothing
abbrev pub fault_returned : TidyFault → ℕ
fault_returned Short = 64
fault_returned Unbound = 0
