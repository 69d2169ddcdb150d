use Rattle.std.proofs.Common.{length, subst}
use Rattle.query.specs.declared.node.Stage.TheVariants.{Bound}
use Rattle.alphabet.specs.Symbols.{names_of}
use Rattle.text.proofs.Written.{query_few, may_write, written, Written}
use Rattle.text.proofs.writing.write.Goals as goal

pub put_all-requires-clause-few : goal.put_all-requires-clause-few
put_all-requires-clause-few c =
    let names = names_of c.args.alphabet.now in
    let records = c.first_records-records.result.now in
    query_few (Bound (length names)) records (may_write names records (length c.args.sheet.now) c.args.out.now c.in_ok-check.ensures).0

pub returns : goal.returns
returns c =
    let names = names_of c.args.alphabet.now in
    let w = written names c.first_records-records.result.now (length c.args.sheet.now) c.args.out.now c.in_ok-check.ensures c.put_all.new.out c.put_all.result c.put_all.ensures.wrote
    c.args.alphabet.now.named c.args.alphabet.now.distinct c.put_all.ensures.short in
    let x = subst (λ xs. Written names xs (length c.args.sheet.now) c.args.out.now c.put_all.new.out c.put_all.result) c.first_records-records.ensures w in
    record { answer = x.answer; out = x.out; back = x.back }
