use Rattle.std.proofs.Common.{◌≡◌, ◌+◌, ◌∷◌, rules}
use Rattle.ends.specs.Member.{member}
use Rattle.ends.specs.Positions.{left}
use Rattle.ends.proofs.Listing.{left_none, left_first}
use Rattle.ends.proofs.positions.PositionsIterator.next.Goals as goal

pub returns-in_err-b-clause-steps : goal.returns-in_err-b-clause-steps
returns-in_err-b-clause-steps c =
    let none = left_none (member c.args.self.now.ends.now) c.args.self.now.at c.in_err-b.ensures in
    search rules

pub returns-clause-steps : goal.returns-clause-steps
returns-clause-steps c = rw c.from.ensures (left_first (member c.args.self.now.ends.now) c.args.self.now.at c.in_ok-b.b c.in_ok-b.ensures)

pub returns-clause-goes : goal.returns-clause-goes
returns-clause-goes c =
    let steps : left c.args.self.now ≡ c.in_ok-b.b ∷ left (record { ends = c.args.self.now.ends; at = c.from.result + 1 }) =
    rw c.from.ensures (left_first (member c.args.self.now.ends.now) c.args.self.now.at c.in_ok-b.b c.in_ok-b.ensures) in
    search rules
