use Rattle.std.proofs.Common.{◌≡◌, ◌-◌, ◌<◌, ◌⊎◌, sym, subst, arith, rules}
use Rattle.wholes.specs.declared.view.Many.{Many}
use Rattle.wholes.specs.declared.view.Many.TheVariants.{Exactly, AtMost}
use Rattle.wholes.specs.Shows.{Later}
use Rattle.wholes.proofs.Chains.{none_later, exactly_later, at_least_later, at_most_later}
use Rattle.wholes.proofs.repeats.later.Goals as goal

pub returns-in-Exactly-eq0 : goal.returns-in-Exactly-eq0
returns-in-Exactly-eq0 c = λ P s.
    let none : (c.args.many ≡ Exactly 0) ⊎ (c.args.many ≡ AtMost 0) = search rules in
    none_later P c.args.n c.args.own.now c.rising-piece.result s (search rules) c.rising-piece.ensures c.empty.result c.args.many none c.empty.ensures

pub returns-in-Exactly : goal.returns-in-Exactly
returns-in-Exactly c = λ P s.
    let p : 0 < c.in-Exactly.k = search rules in
    subst (λ (m : Many). Later c.power.result P m c.args.n) (sym c.in-Exactly.is)
    (exactly_later P c.args.n c.args.own.now c.rising-piece.result s (search rules) c.rising-piece.ensures
    c.power.result c.in-Exactly.k (c.in-Exactly.k - 1) (omega arith) c.power.ensures)

pub returns-in-AtLeast : goal.returns-in-AtLeast
returns-in-AtLeast c = λ P s.
    subst (λ (m : Many). Later c.then.result P m c.args.n) (sym c.in-AtLeast.is)
    (at_least_later P c.args.n c.args.own.now c.rising-piece.result s (search rules) c.rising-piece.ensures
    c.then.result c.power-in-AtLeast.result c.closure.result c.in-AtLeast.k
    (rw c.saturating_sub.ensures at c.power-in-AtLeast.ensures) c.closure.ensures c.then.ensures)

pub returns-in-AtMost : goal.returns-in-AtMost
returns-in-AtMost c = λ P s.
    let p : 0 < c.in-AtMost.k = search rules in
    subst (λ (m : Many). Later c.power-in-AtMost.result P m c.args.n) (sym c.in-AtMost.is)
    (at_most_later P c.args.n c.args.own.now c.rising-piece.result s (search rules) c.rising-piece.ensures
    c.still-either.result c.union_with.new.self c.still-either.ensures c.union_with.ensures
    c.power-in-AtMost.result c.in-AtMost.k (c.in-AtMost.k - 1) (omega arith) c.power-in-AtMost.ensures)
