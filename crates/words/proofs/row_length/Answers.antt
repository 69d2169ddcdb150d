use Rattle.std.proofs.Common.{length, ap, ◌∙◌, rules, tests}
use Rattle.std.proofs.lemmas.Iterator.{YieldsList-from_slice}
use Rattle.std.proofs.lemmas.Iterator.Search.{position_from_yields_List}
use Rattle.std.specs.Option.{unwrap_or}
use Rattle.words.proofs.Rows.{other, row_at_other}
use Rattle.words.proofs.row_length.Goals as goal

pub returns-clause-whole : goal.returns-clause-whole
returns-clause-whole c =
    let bs = c.args.bytes.now in
    let k = c.args.row_class in
    let end = position_from_yields_List (other k) _ _ c.position.result c.position.ensures.ran (YieldsList-from_slice bs cc) (λ x b q j. search (rules, tests)) in
    c.unwrap_or.ensures ∙ ap (λ o. unwrap_or o (length bs)) end ∙ row_at_other k bs
