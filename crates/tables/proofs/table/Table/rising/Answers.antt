use Rattle.std.proofs.Common.{Bool, ◌&&◌, ltb, sym, ap, ◌∙◌, rules}
use Rattle.std.proofs.lemmas.Bool.{and_parts, and_from, ltb-true, lt-ltb}
use Rattle.tables.specs.Holds.{holds, within}
use Rattle.tables.proofs.Grid.{rows_more, rows_all, past, and_false}
use Rattle.tables.proofs.table.Table.rising.Goals as goal

pub loop-start-preserved : goal.loop-start-preserved
unfolding within
loop-start-preserved c = (
  search rules,
  rows_more c.loop-start.row-items c.loop-start.start c.keep_right.new.self
      (λ x y. (ltb x y && ltb y 256) && holds c.args.self.now x y) (λ x y. holds c.args.self.now x y)
      (search rules)
      (λ y old. c.keep_right.ensures y ∙ ap (λ (u : Bool). (ltb c.loop-start.start y && ltb y 256) && u) old)
      c.loop-start.invariant.1,
)

pub returns : goal.returns
returns c = λ x y.
    let e = rows_all c.loop-start.row-items c.loop-start.start (λ x y. (ltb x y && ltb y 256) && holds c.args.self.now x y)
    (λ x y. holds c.args.self.now x y) (search rules)
    (λ x y g. ap (λ (u : Bool). (ltb x y && ltb y 256) && u) (past c.args.self.now.rows x y (search rules)) ∙ and_false (ltb x y && ltb y 256))
    c.loop-start.invariant.1 x y in (
      λ u. (let p = and_parts (ltb x y && ltb y 256) _ (sym e ∙ u) in let q = and_parts (ltb x y) (ltb y 256) p.0 in (ltb-true x y q.0, ltb-true y 256 q.1, p.1)),
      λ h. e ∙ and_from (ltb x y && ltb y 256) _ (and_from (ltb x y) (ltb y 256) (lt-ltb x y h.0) (lt-ltb y 256 h.1)) h.2,
    )
