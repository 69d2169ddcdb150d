use Rattle.std.proofs.Common.{sym, rules}
use Rattle.word.specs.Words.{has}
use Rattle.book.specs.Runs.{Pushed}
use Rattle.book.specs.TablesLemmas.{next_row, done_more, pushed_formed, pushed_words}
use Rattle.book.proofs.table.RunTableRunBook.add.Goals as goal

pub push-requires-clause-formed : goal.push-requires-clause-formed
push-requires-clause-formed c =
    let b = c.args.self.now in
    let l = c.loop-symbol in
    rw (next_row b.rows l.row-items l.symbol c.row-item.result (search rules) l.invariant.done.1) (b.formed l.symbol)

pub loop-symbol-preserved : goal.loop-symbol-preserved
loop-symbol-preserved c =
    let b = c.args.self.now in
    let l = c.loop-symbol in
    record {
      long = search rules;
      done =
          done_more (λ j. Pushed b.size (has c.args.word j)) b.rows l.row-items l.symbol c.row-item.result c.push.new.self (search rules) l.invariant.done
          (rw (sym c.carries.ensures) c.push.ensures);
    }

pub invariant_of-self : goal.invariant_of-self
invariant_of-self c =
    let b = c.args.self.now in
    let l = c.loop-symbol in
    record {
      short = search rules;
      long = l.invariant.long;
      formed = pushed_formed b.rows l.row-items b.size c.args.word l.invariant.long b.formed (λ j small. l.invariant.done.0 j (search rules));
    }

pub returns-clause-after : goal.returns-clause-after
returns-clause-after c =
    let b = c.args.self.now in
    let l = c.loop-symbol in
    pushed_words b.rows l.row-items b.size c.args.word l.invariant.long b.formed (λ j small. l.invariant.done.0 j (search rules)) (search rules) (search rules)
