use Rattle.std.proofs.Common.{length, take, ap, ◌∙◌, rules, tests}
use Rattle.std.proofs.lemmas.Iterator.{YieldsList-from_slice}
use Rattle.std.proofs.lemmas.Iterator.Search.{position_from_yields_List}
use Rattle.std.specs.Option.{unwrap_or}
use Rattle.alphabet.proofs.Words.{other, cut_at_position}
use Rattle.alphabet.proofs.sheet.letters.Goals as goal

pub returns : goal.returns
returns c =
    let bs = c.args.bytes.now in
    let end = position_from_yields_List other _ _ c.position-end.result c.position-end.ensures.ran (YieldsList-from_slice bs cc) (λ x b q k. search (rules, tests)) in
    ap (λ n. take n bs) (c.unwrap_or.ensures ∙ ap (λ o. unwrap_or o (length bs)) end) ∙ cut_at_position bs
