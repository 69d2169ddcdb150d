use Rattle.std.proofs.Common.{◌≡◌, ◌≤◌, [], ◌++◌, drop, length, Ok, sym, refl, ◌∙◌, rules, ltb-false}
use Rattle.query.specs.Stands.{blank}
use Rattle.parser.specs.Seen.{seen}
use Rattle.text.specs.Reading.{padded}
use Rattle.text.proofs.Padding.{blanks, in_front}
use Rattle.text.proofs.Promised.{Of, of_read, of_refused, promised, promised_only, promised_accepts}
use Rattle.text.proofs.reading.read.Goals as goal

pub returns-in_err-machine : goal.returns-in_err-machine
returns-in_err-machine c =
    let text = c.args.text.now in
    let before = c.args.sheet.now in
    let room : 64 ≤ length before = ltb-false (length before) 64 (sym c.if-is_short.ensures) in
    let left : c.clear.new.sheet ≡ padded [] (length before) = blanks blank c.clear.new.sheet (length before) refl c.clear.ensures in
    let f = of_refused text before c.in_err-machine.field-0.0 room (search rules) in
    let is : Of text before c.from_residual.result c.clear.new.sheet = (search rules, left ∙ f.1) in
    record { answer = is.0; sheet = is.1; right = promised text before _ _ is; only = promised_only text before _ _ is; accepts = promised_accepts text before _ _ is }

pub returns : goal.returns
returns c =
    let text = c.args.text.now in
    let before = c.args.sheet.now in
    let room : 64 ≤ length before = ltb-false (length before) 64 (sym c.if-is_short.ensures) in
    let f = of_read text before (seen c.in_ok-machine.machine) room (search rules) in
    let left = in_front c.records-records.result.now c.clear.new.sheet blank (length before) refl c.clear.ensures in
    let is : Of text before (Ok (record { records = _ })) (c.copy_from_slice.new.self ++ drop (length c.records-records.result.now) c.clear.new.sheet) = (search rules, search rules) in
    record { answer = is.0; sheet = is.1; right = promised text before _ _ is; only = promised_only text before _ _ is; accepts = promised_accepts text before _ _ is }
