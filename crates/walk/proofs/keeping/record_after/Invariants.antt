use Rattle.std.proofs.Common.{◌-◌}
use Rattle.walk.proofs.Standing.{Leads}
use Rattle.walk.proofs.keeping.record_after.Given as goal

-- the parts that are left lead to the record after
abbrev pub invariant-loop-k : goal.invariant-loop-k
invariant-loop-k l = Leads l.records l.i (l.k-end - l.k) l.next
