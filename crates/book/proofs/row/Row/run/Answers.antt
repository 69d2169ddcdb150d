use Rattle.std.proofs.Common.{◌≡◌, ◌-◌, ◌∙◌, ap, rules}
use Rattle.std.specs.Option.{MatchOption}
use Rattle.book.specs.Runs.{past, left}
use Rattle.book.specs.Rows.{left_told}
use Rattle.book.proofs.row.Row.run.Goals as goal

pub returns : goal.returns
returns c =
    let n = c.map_or.result in
    let told : MatchOption c.newest_before.result (n ≡ 0) (λ run. n ≡ past run - c.args.step) = search rules in
    left_told c.as_slice.result.now c.args.step n c.newest_before.result c.newest_before.ensures told
    ∙ ap (λ runs. left runs c.args.step) c.as_slice.ensures.items
