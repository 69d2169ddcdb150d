use Rattle.std.proofs.Common.{◌≡◌, ℕ, ◌+◌, ◌*◌, ◌<◌, ◌≤◌, true, length, map, Decides}
use Rattle.query.specs.declared.node.Role.TheVariants.{Shape, Count}
use Rattle.ends.specs.Member.{member}
use Rattle.wholes.specs.Turns.{at}
use Rattle.wholes.proofs.Joining.{Either, Sequel, AnyStart, AllStart}
use Rattle.wholes.proofs.Placing.{Reaches}
use Rattle.walk.specs.Places.{ahead}
use Rattle.walk.specs.Seeing.{line, fitting, fittings}
use Rattle.walk.proofs.Row.{AllStand}
use Rattle.walk.proofs.sight.+walk.Given as goal

abbrev pub decreases-Sight::any : goal.decreases-Sight::any
decreases-Sight::any l = 6 * l.levels + 5

abbrev pub decreases-Sight::concat : goal.decreases-Sight::concat
decreases-Sight::concat l = 6 * l.levels + 5

abbrev pub decreases-Sight::own_starts : goal.decreases-Sight::own_starts
decreases-Sight::own_starts l = 6 * l.levels + 2

abbrev pub decreases-Sight::part : goal.decreases-Sight::part
decreases-Sight::part l = 6 * l.levels + 2

abbrev pub decreases-Sight::repeat : goal.decreases-Sight::repeat
decreases-Sight::repeat l = 6 * l.levels + 5

abbrev pub decreases-Sight::seen : goal.decreases-Sight::seen
decreases-Sight::seen l = 6 * l.levels

abbrev pub decreases-Sight::starts : goal.decreases-Sight::starts
decreases-Sight::starts l = 6 * l.levels + 4

abbrev pub decreases-Sight::starts_from : goal.decreases-Sight::starts_from
decreases-Sight::starts_from l = 6 * l.levels + 3

abbrev pub decreases-Sight::window : goal.decreases-Sight::window
decreases-Sight::window l = 6 * l.levels + 5

abbrev pub decreases-Windows::all : goal.decreases-Windows::all
decreases-Windows::all l = 6 * l.levels + 5

abbrev pub decreases-Windows::counted : goal.decreases-Windows::counted
decreases-Windows::counted l = 6 * l.levels + 5

abbrev pub decreases-Windows::either : goal.decreases-Windows::either
decreases-Windows::either l = 6 * l.levels + 5

abbrev pub decreases-Windows::in_order : goal.decreases-Windows::in_order
decreases-Windows::in_order l = 6 * l.levels + 5

abbrev pub decreases-Windows::starts : goal.decreases-Windows::starts
decreases-Windows::starts l = 6 * l.levels + 1

abbrev pub invariant-Sight::any-loop-part : goal.invariant-Sight::any-loop-part
invariant-Sight::any-loop-part l =
    AllStand l.self.walk l.levels Shape (ahead l.part-iterator)
    × Either (fittings l.self.walk l.parts l.first) (map (fitting l.self.walk) (ahead l.part-iterator)) l.self.view l.self.to (length (line l.self.walk)) l.out

abbrev pub invariant-Sight::concat-loop-part : goal.invariant-Sight::concat-loop-part
invariant-Sight::concat-loop-part l =
    AllStand l.self.walk l.levels Shape (ahead l.part-iterator)
    × Sequel (fittings l.self.walk l.parts l.first) (map (fitting l.self.walk) (ahead l.part-iterator)) l.self.view l.self.to (length (line l.self.walk)) l.out

-- the starts below a are found
abbrev pub invariant-Sight::own_starts-loop-a : goal.invariant-Sight::own_starts-loop-a
invariant-Sight::own_starts-loop-a l =
    (x : ℕ) → Decides (member l.out x) ((x < l.a) × ((x + l.len ≤ l.self.to) × (fitting l.self.walk l.i x x (x + l.len) ≡ true)))

abbrev pub invariant-Windows::all-loop-part : goal.invariant-Windows::all-loop-part
invariant-Windows::all-loop-part l =
    AllStand l.self.walk l.levels Count (ahead l.part-iterator)
    × AllStart (fittings l.self.walk l.parts l.first) l.self.s l.self.len l.self.to (map (fitting l.self.walk) (ahead l.part-iterator)) (member l.out)

abbrev pub invariant-Windows::either-loop-part : goal.invariant-Windows::either-loop-part
invariant-Windows::either-loop-part l =
    AllStand l.self.walk l.levels Count (ahead l.part-iterator)
    × AnyStart (fittings l.self.walk l.parts l.first) l.self.s l.self.len l.self.to (map (fitting l.self.walk) (ahead l.part-iterator)) (member l.out)

abbrev pub invariant-Windows::in_order-loop-part : goal.invariant-Windows::in_order-loop-part
invariant-Windows::in_order-loop-part l =
    AllStand l.self.walk l.levels Shape (ahead l.part-iterator)
    × Reaches (fittings l.self.walk l.parts l.first) (map (fitting l.self.walk) (ahead l.part-iterator)) l.self.s l.self.to (at l.reach)
