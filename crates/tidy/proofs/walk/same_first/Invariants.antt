use Rattle.std.proofs.Common.{◌≡◌, true, length, drop}
use Rattle.rules.specs.Places.{stand_first}
use Rattle.tidy.proofs.Comparing.{same_heads}
use Rattle.tidy.proofs.walk.same_first.Given as goal

abbrev pub invariant-loop-x : goal.invariant-loop-x
invariant-loop-x l = record {
  stand : stand_first l.left (drop (length l.yielded) l.xs) ≡ true;
  same : same_heads l.left (drop (length l.yielded) l.xs) (drop (length l.yielded) l.ys) ≡ same_heads l.parts l.xs l.ys;
}
