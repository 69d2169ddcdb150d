use Rattle.std.proofs.Common.{◌∷◌, ◌++◌, refl, sym, ap, ◌∙◌, append-nil, arith}
use Rattle.grammar.specs.Names.{operator_word}
use Rattle.std.proofs.lemmas.List.{length-append}
use Rattle.writer.specs.Writing.{numeral}
use Rattle.writer.proofs.Pens.{puts_as, puts_then}
use Rattle.writer.proofs.Putting.{word_short, numeral_short, number_some, number_none}
use Rattle.writer.proofs.Pen.put_head.Goals as goal

pub returns-then-takes_number : goal.returns-then-takes_number
returns-then-takes_number c =
    let k = c.args.kind in
    let a = word_short k in
    let b = numeral_short c.args.number in
    let l = length-append (operator_word k) (32 ∷ numeral c.args.number) in
    puts_as (c.put-2.ensures.stack ∙ c.put.ensures.stack) (ap (λ x. 40 ∷ (operator_word k ++ x)) (number_some k c.args.number (sym c.if-takes_number.ensures)))
    (puts_then c.put.ensures (puts_then (puts_as refl c.word_of.ensures c.put-2.ensures) c.put_number.ensures (omega (arith, c.put.ensures.wrote.ends, c.put.ensures.size))) (omega arith))

pub returns-else-takes_number : goal.returns-else-takes_number
returns-else-takes_number c =
    let k = c.args.kind in
    let a = word_short k in
    puts_as c.put.ensures.stack (ap (λ x. 40 ∷ x) (sym (append-nil (operator_word k)) ∙ ap (λ x. operator_word k ++ x) (number_none k c.args.number (sym c.if-takes_number.ensures))))
    (puts_then c.put.ensures (puts_as refl c.word_of.ensures c.put-2.ensures) (omega arith))
