use Rattle.std.proofs.Common.{◌≡◌, ◌<◌, true, false, is_some, sym, ap, ◌∙◌, subst, arith, rules}
use Rattle.std.specs.Option.{option_map}
use Rattle.fixed.specs.Items.{listed}
use Rattle.alphabet.specs.Carrying.{bounds_right}
use Rattle.alphabet.specs.Every.{every}
use Rattle.alphabet.specs.Names.{may_name, all_distinct}
use Rattle.alphabet.specs.Sheets.{layout_right, name_right, sheet_name, sheet_row, symbols_said}
use Rattle.alphabet.specs.Spelling.{spelling}
use Rattle.alphabet.proofs.Fields.{layout_decides}
use Rattle.alphabet.proofs.Reading.{Read, no_answer, an_answer, name_refused, row_refused, read_more, names_distinct, names_may, rows_right}
use Rattle.alphabet.proofs.sheet.read_sheet.Goals.{In_ok-layout}
use Rattle.alphabet.proofs.sheet.read_sheet.Goals as goal

-- the layout is the sheet's, and right
laid : (c : In_ok-layout) → layout_right c.args.sheet.now ≡ true × c.in_ok-layout.layout.sheet.now ≡ c.args.sheet.now
laid c = an_answer _ _ _ (sym (ap (option_map (λ l. l.sheet.now)) c.in_ok-layout.ensures.ok_part) ∙ c.of.ensures)

pub returns-in_err-name : goal.returns-in_err-name
returns-in_err-name c =
    let l = laid (goal.at.returns-in_err-name c).In_ok-layout in
    let s = c.args.sheet.now in
    let n = c.loop-symbol.symbol in
    let h : n < symbols_said s = omega (arith, c.symbols-symbol-end.ensures, ap symbols_said l.1) in
    let wrong : name_right s n ≡ false = ap (λ s. name_right s n) (sym l.1) ∙ no_answer _ _ (sym (ap (option_map spelling) c.in_err-name.ensures.ok_part) ∙ c.name.ensures) in
    let answer = name_refused s n h c.loop-symbol.invariant.clear wrong l.0 in
    search (rules, answer)

pub returns-in_err-bounds : goal.returns-in_err-bounds
returns-in_err-bounds c =
    let l = laid (goal.at.returns-in_err-bounds c).In_ok-layout in
    let s = c.args.sheet.now in
    let n = c.loop-symbol.symbol in
    let h : n < symbols_said s = omega (arith, c.symbols-symbol-end.ensures, ap symbols_said l.1) in
    let right : name_right s n ≡ true = ap (λ s. name_right s n) (sym l.1) ∙ (an_answer _ _ _ (sym (ap (option_map spelling) c.in_ok-name.ensures.ok_part) ∙ c.name.ensures)).0 in
    let wrong : is_some (sheet_row s n) ≡ false = ap is_some (ap (λ s. sheet_row s n) (sym l.1) ∙ sym c.bounds.ensures ∙ c.in_err-bounds.ensures.ok_part) in
    let answer = row_refused s n h c.loop-symbol.invariant.clear right wrong l.0 in
    search (rules, answer)

pub loop-symbol-preserved : goal.loop-symbol-preserved
loop-symbol-preserved c =
    let l = laid (goal.at.loop-symbol-preserved c).In_ok-layout in
    let s = c.args.sheet.now in
    let n = c.loop-symbol.symbol in
    let named = an_answer _ _ _ (sym (ap (option_map spelling) c.in_ok-name.ensures.ok_part) ∙ c.name.ensures) in
    subst (Read s _) (sym c.push.ensures)
    (read_more s n (listed c.loop-symbol.symbols) c.loop-symbol.invariant _ (ap (λ s. name_right s n) (sym l.1) ∙ named.0)
    (named.1 ∙ ap (λ s. sheet_name s n) l.1) (sym c.in_ok-bounds.ensures.ok_part ∙ c.bounds.ensures ∙ ap (λ s. sheet_row s n) l.1))

pub invariant_of-result : goal.invariant_of-result
invariant_of-result c =
    let l = laid (goal.at.invariant_of-result c).In_ok-layout in
    let s = c.args.sheet.now in
    let m = symbols_said s in
    let front = (layout_decides s).0 l.0 in
    let done : c.loop-symbol.symbol ≡ m = omega (arith, c.symbols-symbol-end.ensures, ap symbols_said l.1) in
    let r : Read s m (listed c.loop-symbol.symbols) = subst (λ n. Read s n (listed c.loop-symbol.symbols)) done c.loop-symbol.invariant in
    record {
      counted = (omega (arith, r.count, front.some_symbols), omega (arith, r.count, front.few_symbols));
      bounded = ap (every bounds_right) r.bounds ∙ rows_right s m;
      named = ap (every may_name) r.words ∙ names_may s front m (omega arith) r.clear;
      distinct = ap all_distinct r.words ∙ names_distinct s m r.clear;
    }
