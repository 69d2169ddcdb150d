use Rattle.std.proofs.Common.{◌≡◌, ◌+◌, drop, take, ap, ◌∙◌}
use Rattle.std.proofs.lemmas.List.{take_rest}
use Rattle.words.specs.Words.{row}
use Rattle.words.proofs.Rows.{row_prefix}
use Rattle.words.proofs.reader.Reader.take_row.Goals as goal

pub returns : goal.returns
returns c =
    let r = c.args.self.now in
    let k = c.args.row_class in
    let whole : c.row_length-size.result ≡ row k (drop r.at r.text.now) = c.row_length-size.ensures.whole ∙ row_prefix k _ ∙ ap (row k) (take_rest r.text.now r.at) in
    record {
      text = c.take.ensures.text;
      at = c.take.ensures.at ∙ ap (λ n. r.at + n) whole;
      bytes = c.take.ensures.bytes ∙ ap (λ n. take n (drop r.at r.text.now)) whole;
    }
