use Rattle.std.proofs.Common.{◌≡◌, sym, ◌∙◌, rules, tests}
use Rattle.std.proofs.lemmas.Iterator.{YieldsList-from_slice}
use Rattle.std.proofs.lemmas.Iterator.Adapters.{position_from-zero}
use Rattle.std.proofs.lemmas.Iterator.Search.{position_from_yields_List}
use Rattle.std.specs.Str.{bytes_eq}
use Rattle.alphabet.specs.Spelling.{spelling, spellings}
use Rattle.alphabet.specs.Names.{index_of}
use Rattle.alphabet.proofs.Words.{index_is}
use Rattle.alphabet.proofs.naming.index_of.Goals.{After-position}
use Rattle.alphabet.proofs.naming.index_of.Goals as goal

found : (c : After-position) → c.position.result ≡ index_of (spellings c.args.symbols.now) c.args.word.now
found c =
    let symbols = c.args.symbols.now in
    let word = c.args.word.now in
    position_from_yields_List (λ symbol. bytes_eq (spelling symbol.name) word) _ _ c.position.result c.position.ensures.ran (YieldsList-from_slice symbols cc) (λ x b q k. search (rules, tests))
    ∙ position_from-zero (λ symbol. bytes_eq (spelling symbol.name) word) symbols
    ∙ sym (index_is (λ symbol. spelling symbol.name) word 0 symbols)

pub returns-in_err-at : goal.returns-in_err-at
returns-in_err-at c = c.from_residual.ensures ∙ sym c.in_err-at.was ∙ found (goal.at.returns-in_err-at c).After-position

pub returns : goal.returns
returns c = sym c.in_ok-at.was ∙ found (goal.at.returns c).After-position
