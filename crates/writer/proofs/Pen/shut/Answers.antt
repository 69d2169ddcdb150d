use Rattle.std.proofs.Common.{◌≡◌, [], ◌∷◌, Some, slice_get, refl, ◌∙◌, rules}
use Rattle.writer.specs.Laying.{open_now, Puts}
use Rattle.writer.proofs.Pens.{shutting_more, shutting_all}
use Rattle.writer.proofs.Pen.shut.Goals as goal

pub loop-self-preserved : goal.loop-self-preserved
loop-self-preserved c =
    let p = c.loop-self.self in
    let q = c.put.new.self in
    let step : Puts p q (open_now q) (41 ∷ []) = record { same = c.put.ensures.same; stack = refl; wrote = c.put.ensures.wrote; size = c.put.ensures.size } in
    let none_ahead : slice_get (open_now p) 0 ≡ Some 0 = search rules in
    shutting_more c.loop-self.invariant none_ahead step (c.put.ensures.stack ∙ c.pop.ensures.after) c.requires

pub returns : goal.returns
returns c =
    let stays : slice_get (open_now c.loop-self.self) 0 ≡ Some 0 → ⊥ = search rules in
    shutting_all c.loop-self.invariant stays
