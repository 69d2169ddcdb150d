use Rattle.std.proofs.Common.{◌≡◌, ℕ, ◌+◌, ◌-◌, ◌<◌, List, [], ◌++◌, length, refl, ap, ◌∙◌, subst, arith, rules}
use Rattle.std.proofs.lemmas.List.{length-append}
use Rattle.shape.specs.declared.stretch.Stretch.{Stretch}
use Rattle.shape.specs.Ranges.{rows_from}
use Rattle.ends.specs.Member.{member}
use Rattle.tables.specs.Holds.{holds}
use Rattle.matcher.specs.Answers.{Puts, stretches}
use Rattle.matcher.proofs.Writing.{row_listed, puts_none, puts_then, rows_next, rows_room}
use Rattle.matcher.proofs.found.Found.write.Goals as goal

pub loop-a-init : goal.loop-a-init
unfolding rows_from
loop-a-init c = (puts_none c.args.out.now 0, refl)

pub write_row-place-requires : goal.write_row-place-requires
write_row-place-requires c =
    let f = c.args.self.now in
    let test = holds f.table in
    let l : c.loop-a.a < f.n = search rules in
    let m = ap length (row_listed test (member c.row-row.result) c.loop-a.a f.n l (search rules) f.rising c.row-row.ensures) in
    let r = rows_room test f.n c.loop-a.a l in
    let e = c.loop-a.invariant.1 in
    let z : f.n - 0 ≡ f.n = omega arith in
    let s = ap (λ (d : ℕ). length (rows_from d 0 f.n test)) z in
    let q = c.requires in
    let k : length c.loop-a.out ≡ length c.args.out.now = c.loop-a.auto.out in
    omega arith

pub loop-a-preserved : goal.loop-a-preserved
loop-a-preserved c =
    let f = c.args.self.now in
    let test = holds f.table in
    let d = rows_from c.loop-a.a 0 f.n test in
    let e = stretches c.loop-a.a c.row-row.result in
    let m = row_listed test (member c.row-row.result) c.loop-a.a f.n (search rules) (search rules) f.rising c.row-row.ensures in
    let s : d ++ e ≡ rows_from (c.loop-a.a + 1) 0 f.n test = ap (λ (r : List Stretch). d ++ r) m ∙ rows_next test f.n c.loop-a.a in
    let x = ap length s in
    let y = length-append d e in
    let p = c.loop-a.invariant.1 in
    let q = c.write_row-place.ensures.next in (
      subst (λ (r : List Stretch). Puts c.args.out.now c.write_row-place.new.out r 0) s
          (puts_then c.args.out.now c.loop-a.out c.write_row-place.new.out d e 0 c.loop-a.place (omega arith) c.loop-a.invariant.0 c.write_row-place.ensures.written),
      omega arith,
    )

pub returns : goal.returns
returns c =
    let f = c.args.self.now in
    let e : c.loop-a.a ≡ f.n - 0 = search rules in
    subst (λ (k : ℕ). Puts c.args.out.now c.loop-a.out (rows_from k 0 f.n (holds f.table)) 0) e c.loop-a.invariant.0 [] c.args.out.now refl refl
