-- The records that a bound shape has in a sheet. Assumes nothing.
use Rattle.std.specs.Prelude.{ℕ, cond, ◌&&◌, List, length, take, Ok, Err, Result, nat_le, nat_lt}
use Rattle.query.specs.declared.node.Node.{Node}
use Rattle.query.specs.declared.node.Stage.TheVariants.{Bound}
use Rattle.query.specs.Stands.{is_query}
use Rattle.text.specs.declared.fault.SheetFault.{SheetFault}
use Rattle.text.specs.declared.fault.SheetFault.TheVariants.{Short, Unbound}

-- the first so many records of a sheet, or why they are none of a bound shape: the sheet has fewer than 64 records, or they are no query bound by so many symbols
abbrev pub records_held : ℕ → ℕ → List Node → Result (List Node) SheetFault
records_held symbols count sheet =
    cond (nat_lt (length sheet) 64) (Err Short)
    (cond (nat_le count 64 && is_query (Bound symbols) (take count sheet)) (Ok (take count sheet)) (Err Unbound))
