use Rattle.std.proofs.Common.{sym, refl, ◌∙◌, length, arith}
use Rattle.std.proofs.lemmas.List.{length_push}
use Rattle.std.proofs.lemmas.Slice.Zip.{zip_turn, zip_end}
use Rattle.query.specs.Stands.{blank}
use Rattle.tidy.proofs.Comparing.{heads_none, heads_unlike, heads_alike, heads_stand, heads_room, heads_end}
use Rattle.tidy.proofs.walk.same_first.Goals as goal

pub returns-then-left-eq0 : goal.returns-then-left-eq0
returns-then-left-eq0 c = sym (heads_none c.loop-x.left _ _ c.if-left-eq0.true) ∙ c.loop-x.invariant.same

pub returns-then-not-same_record : goal.returns-then-not-same_record
returns-then-not-same_record c =
    let t = zip_turn c.args.xs.now c.args.ys.now c.loop-x.yielded _ _ c.next.new.self _ (cc) (cc) c.loop-x.yielded_by (c.in-Some.x, c.in-Some.y) c.in-Some.is c.next.ensures.steps in
    sym (heads_unlike c.args.xs.now c.args.ys.now c.loop-x.left (length c.loop-x.yielded) c.in-Some.x.now c.in-Some.y.now (omega arith) t.0 t.1 (t.2 blank) (t.3 blank) (sym c.if-not-same_record.ensures))
    ∙ c.loop-x.invariant.same

pub overflow_add-left : goal.overflow_add-left
overflow_add-left c =
    let t = zip_turn c.args.xs.now c.args.ys.now c.loop-x.yielded _ _ c.next.new.self _ (cc) (cc) c.loop-x.yielded_by (c.in-Some.x, c.in-Some.y) c.in-Some.is c.next.ensures.steps in
    let r = heads_room c.args.xs.now c.args.ys.now c.loop-x.left (length c.loop-x.yielded) c.in-Some.x.now c.in-Some.y.now (omega arith) t.0 t.1 (t.2 blank) (t.3 blank) _ _ refl refl c.loop-x.invariant.stand in
    omega arith

pub loop-x-preserved : goal.loop-x-preserved
loop-x-preserved c =
    let t = zip_turn c.args.xs.now c.args.ys.now c.loop-x.yielded _ _ c.next.new.self _ (cc) (cc) c.loop-x.yielded_by (c.in-Some.x, c.in-Some.y) c.in-Some.is c.next.ensures.steps in
    let n = length_push c.loop-x.yielded (c.in-Some.x, c.in-Some.y) in
    record {
      stand = heads_stand c.args.xs.now c.args.ys.now c.loop-x.left (length c.loop-x.yielded) c.in-Some.x.now c.in-Some.y.now (omega arith) t.0 t.1 (t.2 blank) (t.3 blank) _ _ (omega arith) n c.loop-x.invariant.stand;
      same =
          heads_alike c.args.xs.now c.args.ys.now c.loop-x.left (length c.loop-x.yielded) c.in-Some.x.now c.in-Some.y.now (omega arith) t.0 t.1 (t.2 blank) (t.3 blank) _ _ (omega arith) n (sym c.if-not-same_record.ensures)
          ∙ c.loop-x.invariant.same;
    }

pub returns : goal.returns
returns c =
    sym (heads_end c.args.xs.now c.args.ys.now c.loop-x.left (length c.loop-x.yielded) (zip_end c.args.xs.now c.args.ys.now c.loop-x.yielded _ _ c.next.new.self _ (cc) (cc) c.loop-x.yielded_by c.in-None.is c.next.ensures.steps))
    ∙ c.loop-x.invariant.same
