use Rattle.std.proofs.Common.{◌≡◌, ℕ, suc, List, length, Option, sym, ap, subst, rules}
use Rattle.std.specs.Iterator.{YieldsFirstBy}
use Rattle.query.specs.declared.node.Node.{Node}
use Rattle.tidy.specs.declared.part.Part.{Part}
use Rattle.tidy.specs.Rows.{place, places_of}
use Rattle.tidy.proofs.Finding.{places_none, places_more}
use Rattle.tidy.proofs.walk.RowIterator.next.Goals as goal

pub returns-in_err-first-clause-steps : goal.returns-in_err-first-clause-steps
returns-in_err-first-clause-steps c =
    let e = places_none c.args.self.now.count c.args.self.now.records.now c.args.self.now.at c.in_err-first.ensures in
    subst (λ (r : Option Part). YieldsFirstBy place places_of c.args.self.now r c.args.self.now) (sym c.from_residual.ensures) (e, e)

pub returns-clause-steps : goal.returns-clause-steps
returns-clause-steps c =
    let s = c.in_ok-first.ensures in
    places_more c.args.self.now.count c.args.self.now.records.now c.args.self.now.at _ _ _ _ s.0 s.1 s.2 s.3

pub returns-clause-goes : goal.returns-clause-goes
returns-clause-goes c =
    let s = c.in_ok-first.ensures in
    let e : length (places_of c.args.self.now) ≡ suc (length (places_of c.in_ok-first.others)) =
    ap (λ (xs : List (List Node × ℕ)). length xs) (places_more c.args.self.now.count c.args.self.now.records.now c.args.self.now.at _ _ _ _ s.0 s.1 s.2 s.3) in
    record { on = search rules; keeps = search rules; rests = search rules }
