use Rattle.std.proofs.Common.{arith, rules}
use Rattle.fixed.specs.Items.{piled}
use Rattle.book.specs.RunsLemmas.{pop_off}
use Rattle.book.specs.Rows.{none_row, less_row, some_row, shorter_row, gone_row}
use Rattle.book.proofs.row.Row.pop.Goals as goal

pub returns-in_default : goal.returns-in_default
returns-in_default c = let runs = piled c.args.self.now.runs in pop_off c.args.step runs (none_row c.args.step runs (search rules))

pub returns-then-end-from : goal.returns-then-end-from
returns-then-end-from c =
    let runs = piled c.args.self.now.runs in
    pop_off c.args.step runs (less_row c.args.step c.in-Some.newest runs (search rules) c.requires (omega (arith, c.end.ensures, c.from.ensures)))

pub overflow_sub-newest : goal.overflow_sub-newest
overflow_sub-newest c = some_row _ c.in-Some.newest (piled c.args.self.now.runs) (search rules) c.requires

pub returns-then-newest-eq1 : goal.returns-then-newest-eq1
returns-then-newest-eq1 c =
    let runs = piled c.args.self.now.runs in
    rw c.pop.ensures.after (gone_row c.args.step c.in-Some.newest runs (search rules) c.requires (omega (arith, c.end.ensures, c.from.ensures)) c.if-newest-eq1.true)

pub returns-else-newest-eq1 : goal.returns-else-newest-eq1
returns-else-newest-eq1 c =
    let runs = piled c.args.self.now.runs in
    let some = some_row _ c.in-Some.newest runs (search rules) c.requires in
    let r = shorter_row c.args.step c.in-Some.newest runs (search rules) c.requires (omega (arith, c.end.ensures, c.from.ensures)) (search rules) in
    search rules
