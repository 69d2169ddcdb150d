use Rattle.std.proofs.Common.{◌+◌, ◌-◌, arith, rules}
use Rattle.query.specs.Stands.{at}
use Rattle.walk.specs.Walk.{entry}
use Rattle.walk.proofs.Walking.{opened}
use Rattle.walk.proofs.Standing.{leads_start, leads_here, leads_more, leads_all}
use Rattle.walk.proofs.keeping.record_after.Goals as goal

pub overflow_add-next : goal.overflow_add-next
overflow_add-next c = let o = opened 16 c.args.records.now c.requires.stands.0 c.args.i (omega arith) c.requires.stands.1 in let f = c.requires.few in search rules

pub offset_bounds-records-i : goal.offset_bounds-records-i
offset_bounds-records-i c = let o = opened 16 c.args.records.now c.requires.stands.0 c.args.i (omega arith) c.requires.stands.1 in let f = c.requires.few in search rules

pub bounds-records-i : goal.bounds-records-i
bounds-records-i c = let o = opened 16 c.args.records.now c.requires.stands.0 c.args.i (omega arith) c.requires.stands.1 in let f = c.requires.few in search rules

pub loop-k-init : goal.loop-k-init
loop-k-init c = leads_start c.args.records.now c.args.i _ (omega arith) c.requires.stands

pub offset_bounds-kept-next : goal.offset_bounds-kept-next
offset_bounds-kept-next c =
    let h = leads_here c.args.records.now c.args.i _ ((at c.args.records.now c.args.i).parts - (c.loop-k.k + 1)) c.loop-k.next (omega arith) c.loop-k.invariant in
    let f = c.requires.few in
    search rules

pub bounds-kept-next : goal.bounds-kept-next
bounds-kept-next c =
    let h = leads_here c.args.records.now c.args.i _ ((at c.args.records.now c.args.i).parts - (c.loop-k.k + 1)) c.loop-k.next (omega arith) c.loop-k.invariant in
    let f = c.requires.few in
    search rules

pub listed : goal.listed
listed c =
    let h = leads_here c.args.records.now c.args.i _ ((at c.args.records.now c.args.i).parts - (c.loop-k.k + 1)) c.loop-k.next (omega arith) c.loop-k.invariant in
    let f = c.requires.few in
    search rules

pub loop-k-preserved : goal.loop-k-preserved
loop-k-preserved c =
    let h = leads_here c.args.records.now c.args.i _ ((at c.args.records.now c.args.i).parts - (c.loop-k.k + 1)) c.loop-k.next (omega arith) c.loop-k.invariant in
    leads_more c.args.records.now c.args.i _ _ c.loop-k.next (entry c.args.kept.now c.loop-k.next c.index-kept-next.result).next (omega arith)
    (c.requires.nexts c.loop-k.next h.0 h.2.0 h.2.1 _) c.loop-k.invariant

pub returns : goal.returns
returns c = leads_all c.args.records.now c.args.i _ c.loop-k.next (omega arith) c.loop-k.invariant
