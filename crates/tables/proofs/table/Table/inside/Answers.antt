use Rattle.std.proofs.Common.{◌≡◌, ℕ, ◌-◌, ◌≤◌, Bool, ◌&&◌, length, ap, ◌∙◌, arith, rules}
use Rattle.ends.specs.Member.{member, tally}
use Rattle.ends.proofs.Tallies.{tally_le, tally_same}
use Rattle.shape.specs.Ranges.{rows_from}
use Rattle.tables.specs.Holds.{holds, within}
use Rattle.tables.proofs.Sums.{inside_more}
use Rattle.tables.proofs.table.Table.inside.Goals as goal

pub loop-x-init : goal.loop-x-init
unfolding rows_from
loop-x-init c =
    let z : 0 ≡ c.args.a - c.args.a = omega arith in
    (ap (λ (d : ℕ). length (rows_from d c.args.a c.args.b (holds c.args.self.now))) z, omega arith)

-- a row has at most 256 ends
few : (more : ℕ) (m : ℕ → mathlib.Core.Bool.Bool) → more ≡ tally 256 0 m → more ≤ 256
few more m e = let t = tally_le m 256 0 in omega arith

pub overflow_add-total : goal.overflow_add-total
overflow_add-total c =
    let t = few c.len-total.result (member c.keep.new.self) c.len-total.ensures in
    let i = c.loop-x.invariant.1 in
    search rules

pub loop-x-preserved : goal.loop-x-preserved
unfolding within
loop-x-preserved c = (
  inside_more (holds c.args.self.now) (member c.args.within.now) c.args.a c.args.b c.loop-x.x c.loop-x.total
      c.len-total.result (search rules) (search rules) (search rules) (c.requires.rising c.loop-x.x) c.requires.ends
      (c.len-total.ensures ∙ tally_same (member c.keep.new.self) (λ y. holds c.args.self.now c.loop-x.x y && member c.args.within.now y) 256 0 (λ k l u. c.keep.ensures k ∙ ap (λ (t : Bool). t && member c.args.within.now k) (c.row-row.ensures k)))
      c.loop-x.invariant.0,
  (let t = few c.len-total.result (member c.keep.new.self) c.len-total.ensures in
      let i = c.loop-x.invariant.1 in
      let k : c.args.a ≤ c.loop-x.x = search rules in omega arith),
)
