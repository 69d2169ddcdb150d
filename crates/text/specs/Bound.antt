-- What binding answers, and what the sheet then holds. Assumes nothing.
use Rattle.std.specs.Prelude.{ℕ, List, Some, None, Ok, Err, Option, Result}
use Rattle.query.specs.declared.node.Node.{Node}
use Rattle.text.specs.declared.binding.Unbound.{Unbound}
use Rattle.text.specs.declared.fault.BindFault.{BindFault}
use Rattle.text.specs.declared.shape.BoundShape.{BoundShape}
use Rattle.text.specs.declared.shape.ReadShape.{ReadShape}
use Rattle.text.specs.Binding.{bound_sheet}

-- a bound shape of as many records, or the read one as it was
abbrev pub bind_answer : ReadShape → Option BindFault → Result BoundShape Unbound
bind_answer read None = Ok (record { records = read.records })
bind_answer read (Some f) = Err (record { read = read; fault = f })

-- the first n records bound, or the sheet as it was
abbrev pub bind_sheet : Option BindFault → List (List ℕ) → List ℕ → ℕ → List Node → List Node
bind_sheet None names text n sheet = bound_sheet names text n sheet
bind_sheet (Some f) names text n sheet = sheet
