-- The number of each refusal, and what is returned with it. Assumes nothing.
use Rattle.std.specs.Prelude.{ℕ}
use Rattle.text.specs.declared.fault.BindFault.{BindFault}
use Rattle.text.specs.declared.fault.BindFault.TheVariants.{Sheet as BindSheet, Records, Name}
use Rattle.text.specs.declared.fault.WriteFault.{WriteFault}
use Rattle.text.specs.declared.fault.WriteFault.TheVariants.{Sheet as WriteSheet, Buffer, Records as WriteRecords}

-- why a query is not bound, as a number
abbrev pub bind_number : BindFault → ℕ
bind_number BindSheet = 6
bind_number Records = 14
bind_number (Name p l) = 10

-- what is returned: the records that are needed, nothing, or the place of the name
abbrev pub bind_returned : BindFault → ℕ
bind_returned BindSheet = 64
bind_returned Records = 0
bind_returned (Name p l) = p

-- and the length of the name, where one is the cause
abbrev pub bind_length : BindFault → ℕ
bind_length BindSheet = 0
bind_length Records = 0
bind_length (Name p l) = l

-- why a bound query is not written, as a number
abbrev pub write_number : WriteFault → ℕ
write_number WriteSheet = 6
write_number Buffer = 6
write_number WriteRecords = 14

-- what is returned: the records or the bytes that are needed, or nothing
abbrev pub write_returned : WriteFault → ℕ
write_returned WriteSheet = 64
write_returned Buffer = 4096
write_returned WriteRecords = 0
