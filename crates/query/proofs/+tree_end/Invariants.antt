use Rattle.std.proofs.Common.{◌≡◌, ◌+◌, ◌-◌}
use Rattle.query.specs.Stands.{ends, end_at}
use Rattle.query.proofs.+tree_end.Given as goal

abbrev pub decreases-tree_end : goal.decreases-tree_end
decreases-tree_end l = l.levels

-- the parts that are left, from the index reached, end where all of them do
abbrev pub invariant-loop-k : goal.invariant-loop-k
invariant-loop-k l =
    ends (end_at l.stage (l.levels - 1) l.records l.inner) (l.k-end - l.k) l.next
    ≡ ends (end_at l.stage (l.levels - 1) l.records l.inner) l.k-end (l.i + 1)
