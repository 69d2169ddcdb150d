use Rattle.std.proofs.Common.{◌≡◌, ℕ, ◌-◌, ◌/◌, sym, refl, subst, arith, rules}
use Rattle.tables.specs.declared.table.Table.{Table}
use Rattle.tables.proofs.Linking.{StillToCome, power_even, power_odd, power_done}
use Rattle.tables.proofs.table.Table.power.Goals as goal
use Rattle.tables.proofs.table.Table.power.Goals.{then-left-eq1, else-left-eq1}

pub loop-left-preserved : goal.loop-left-preserved
loop-left-preserved c = elim c.if-left-eq1.branch [
  | then-left-eq1 w ↦
      let t = w.if-left-eq1.true in
      let h : (c.loop-left.left - 1) / 2 ≡ c.loop-left.left / 2 = omega arith in
      subst (λ (k : ℕ). StillToCome c.args.n c.args.self.now c.args.times c.if-left-eq1.out c.then-base.result k) h
      (subst (λ (o : Table). StillToCome c.args.n c.args.self.now c.args.times o c.then-base.result ((c.loop-left.left - 1) / 2)) (sym w.out-is)
      (power_even c.args.n c.args.self.now w.then-out.result c.loop-left.base c.then-base.result c.args.times (c.loop-left.left - 1) (omega arith)
      c.then-base.ensures
      (power_odd c.args.n c.args.self.now c.loop-left.out w.then-out.result c.loop-left.base c.args.times c.loop-left.left (c.loop-left.left - 1) (omega arith)
      w.then-out.ensures c.loop-left.invariant)))
  | else-left-eq1 w ↦
      let t = w.if-left-eq1.false in
      subst (λ (o : Table). StillToCome c.args.n c.args.self.now c.args.times o c.then-base.result (c.loop-left.left / 2)) (sym w.out-is)
      (power_even c.args.n c.args.self.now c.loop-left.out c.loop-left.base c.then-base.result c.args.times c.loop-left.left (omega arith)
      c.then-base.ensures c.loop-left.invariant)
]

pub returns-then-left-eq1-2 : goal.returns-then-left-eq1-2
returns-then-left-eq1-2 c =
    let t = c.if-left-eq1-2.true in
    power_done c.args.n c.args.self.now c.then-out-then-left-eq1-2.result c.loop-left.base c.args.times 0 refl
    (power_odd c.args.n c.args.self.now c.loop-left.out c.then-out-then-left-eq1-2.result c.loop-left.base c.args.times c.loop-left.left 0 (omega arith)
    c.then-out-then-left-eq1-2.ensures c.loop-left.invariant)

pub returns-else-left-eq1-2 : goal.returns-else-left-eq1-2
returns-else-left-eq1-2 c =
    power_done c.args.n c.args.self.now c.loop-left.out c.loop-left.base c.args.times c.loop-left.left (search rules) c.loop-left.invariant
