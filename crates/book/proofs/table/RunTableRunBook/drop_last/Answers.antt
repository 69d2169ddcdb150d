use Rattle.std.proofs.Common.{◌≡◌, ◌+◌, ◌-◌, rules}
use Rattle.book.specs.Runs.{Popped}
use Rattle.book.specs.TablesLemmas.{next_row, done_more, popped_formed, popped_words}
use Rattle.book.proofs.table.RunTableRunBook.drop_last.Goals as goal

pub pop-requires : goal.pop-requires
pop-requires c =
    let b = c.args.self.now in
    let l = c.loop-row in
    let more : b.size - 1 + 1 ≡ b.size = search rules in
    rw (more, next_row b.rows l.row-items l.row-index c.row-item.result (search rules) l.invariant.done.1) (b.formed l.row-index)

pub loop-row-preserved : goal.loop-row-preserved
loop-row-preserved c =
    let b = c.args.self.now in
    let l = c.loop-row in
    record {
      long = search rules;
      done = done_more (λ _. Popped (b.size - 1)) b.rows l.row-items l.row-index c.row-item.result c.pop.new.self (search rules) l.invariant.done c.pop.ensures;
    }

pub invariant_of-self : goal.invariant_of-self
invariant_of-self c =
    let b = c.args.self.now in
    let l = c.loop-row in
    record {
      short = search rules;
      long = l.invariant.long;
      formed = popped_formed b.rows l.row-items (b.size - 1) l.invariant.long (λ j small. l.invariant.done.0 j (search rules));
    }

pub returns-clause-after : goal.returns-clause-after
returns-clause-after c =
    let b = c.args.self.now in
    let l = c.loop-row in
    popped_words b.rows l.row-items (b.size - 1) l.invariant.long (λ j small. l.invariant.done.0 j (search rules)) b.size (search rules)
