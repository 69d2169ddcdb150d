use Rattle.std.proofs.Common.{◌+◌, ◌*◌, length, is_some, Some, None, sym, ap, ◌∙◌, arith}
use Rattle.std.specs.Option.{option_map}
use Rattle.std.proofs.lemmas.List.{take_all}
use Rattle.std.proofs.lemmas.Bool.{cond-true, cond-false}
use Rattle.alphabet.specs.Sheets.{name_field, name_right, sheet_name, sheet_names, width_said}
use Rattle.alphabet.specs.Spelling.{spelling, spellings}
use Rattle.alphabet.proofs.Fields.{name_ends, cut}
use Rattle.alphabet.proofs.Reading.{nameless, word_is, a_repeat, fresh, name_short, told}
use Rattle.alphabet.proofs.layout.Layout.name.Goals as goal

pub slice_bounds-name_in-end : goal.slice_bounds-name_in-end
slice_bounds-name_in-end c = name_ends c.args.self.now.sheet.now c.args.self.now.laid c.args.symbol c.requires.within

pub returns-in_err-word : goal.returns-in_err-word
unfolding name_field
returns-in_err-word c =
    let s = c.args.self.now.sheet.now in
    let j = c.args.symbol in
    ap (option_map spelling) c.from_residual.ensures
    ∙ sym (cond-false (name_right s j) (Some (sheet_name s j)) None
    (nameless s j _ (cut s (2 + j * width_said s) (width_said s)) c.in_err-word.ensures))

pub returns-in-Some : goal.returns-in-Some
unfolding name_field
returns-in-Some c =
    let s = c.args.self.now.sheet.now in
    let j = c.args.symbol in
    let word = c.in_ok-word.word.now in
    let known = told (spellings c.args.earlier.now) (sheet_names s j) word c.index_of.result _ c.index_of.ensures c.requires.before (ap is_some c.in-Some.is) in
    sym (cond-false (name_right s j) (Some (sheet_name s j)) None
    (a_repeat s j _ word (cut s (2 + j * width_said s) (width_said s)) c.in_ok-word.ensures known))

pub returns-in-None : goal.returns-in-None
unfolding name_field
returns-in-None c =
    let s = c.args.self.now.sheet.now in
    let j = c.args.symbol in
    let word = c.in_ok-word.word.now in
    let new = told (spellings c.args.earlier.now) (sheet_names s j) word c.index_of.result _ c.index_of.ensures c.requires.before (ap is_some c.in-None.is) in
    let letters = word_is s j _ word (cut s (2 + j * width_said s) (width_said s)) c.in_ok-word.ensures in
    let short = name_short s c.args.self.now.laid j c.requires.within in
    ap Some (c.of.ensures ∙ take_all 16 word (omega (arith, ap length letters)) ∙ letters)
    ∙ sym (cond-true (name_right s j) (Some (sheet_name s j)) None
    (fresh s j _ word (cut s (2 + j * width_said s) (width_said s)) c.in_ok-word.ensures new))
