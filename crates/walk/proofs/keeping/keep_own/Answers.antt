use Rattle.std.proofs.Common.{sym, refl, ◌∙◌, arith, rules}
use Rattle.std.proofs.lemmas.Bool.{false≢true}
use Rattle.query.specs.declared.node.Role.TheVariants.{Shape}
use Rattle.steps.specs.Meaning.{steps_of}
use Rattle.walk.proofs.Walking.{opened, in_role}
use Rattle.walk.proofs.Standing.{own_kept}
use Rattle.walk.proofs.keeping.keep_own.Goals as goal

pub offset_bounds-records-i : goal.offset_bounds-records-i
offset_bounds-records-i c = let o = opened 16 c.args.records.now c.requires.stands.0 c.args.i (omega arith) c.requires.stands.1 in let f = c.requires.right.few in search rules

pub bounds-records-i : goal.bounds-records-i
bounds-records-i c = let o = opened 16 c.args.records.now c.requires.stands.0 c.args.i (omega arith) c.requires.stands.1 in let f = c.requires.right.few in search rules

pub offset_bounds-kept-i : goal.offset_bounds-kept-i
offset_bounds-kept-i c = let o = opened 16 c.args.records.now c.requires.stands.0 c.args.i (omega arith) c.requires.stands.1 in let f = c.requires.right.few in search rules

pub listed : goal.listed
listed c = let o = opened 16 c.args.records.now c.requires.stands.0 c.args.i (omega arith) c.requires.stands.1 in let f = c.requires.right.few in search rules

pub bounds-kept-i : goal.bounds-kept-i
bounds-kept-i c = let o = opened 16 c.args.records.now c.requires.stands.0 c.args.i (omega arith) c.requires.stands.1 in let f = c.requires.right.few in search rules

pub returns-then-not-may_stand : goal.returns-then-not-may_stand
returns-then-not-may_stand c = record {
  others = λ x ne d. refl;
  next = λ d. refl;
  later = λ d. refl;
  stops = λ d. refl;
  here = λ u d. absurd (false≢true (sym (sym c.may_stand.ensures ∙ c.if-not-may_stand.true) ∙ (opened 16 c.args.records.now Shape c.args.i (omega arith) u).kind_right));
}

pub found-own-requires : goal.found-own-requires
found-own-requires c =
    let up = in_role 16 c.args.records.now c.requires.stands.0 Shape c.args.i (sym c.may_stand.ensures ∙ c.if-not-may_stand.false) c.requires.stands.1 in
    record { stands = up; right = c.requires.right; ready = c.requires.ready }

pub returns : goal.returns
returns c =
    let o = opened 16 c.args.records.now c.requires.stands.0 c.args.i (omega arith) c.requires.stands.1 in
    let f = c.requires.right.few in
    own_kept c.args.kept.now _ c.args.i _ (omega arith) refl c.args.records.now (steps_of c.args.steps.now) c.index-kept-i.result refl refl refl c.found-own.ensures
