use Rattle.std.proofs.Common.{◌≡◌, ℕ, ◌+◌, ◌≤◌, Bool, ◌||◌, ltb, leb, Decides, ◌∙◌, arith, rules}
use Rattle.std.proofs.lemmas.Bool.{leb-true, le-leb}
use Rattle.std.proofs.lemmas.Bool.Decides.{nat_tests, same_from_decides}
use Rattle.std.proofs.lemmas.Grind.{common_steps}
use Rattle.ends.specs.Member.{member}
use Rattle.wholes.proofs.Counts.{counted_starts, one_further}
use Rattle.wholes.proofs.windows.counted.Goals as goal

up_to : (s k b : ℕ) (e : Bool) → s ≤ k → Decides e ((s ≤ k) × (k ≤ b)) → e ≡ (leb k b || ltb k b)
up_to s k b e l d = same_from_decides e (leb k b) d ((λ h. (l, leb-true k b h)), (λ h. le-leb k b h.1)) ∙ grind (arith, nat_tests)

pub inside-requires : goal.inside-requires
inside-requires c =
    let lo : c.args.s ≤ c.loop-a.a = search rules in
    record {
      up = omega arith;
      rising = λ x y h. ((c.rising-rising.ensures x y).0 h).0;
      ends = λ k l u. one_further c.args.s c.args.len c.loop-a.a k (member c.loop-a.within k) (member c.insert.new.self k) lo
          (c.loop-a.invariant.1 k (omega arith) u) (c.insert.ensures k);
    }

pub returns-after-allows : goal.returns-after-allows
returns-after-allows c = λ P n shown.
    counted_starts P c.args.many c.args.s c.args.len c.args.to n (c.loop-a.a + 1) c.args.table.now c.rising-rising.result c.if-allows.out
    (search rules) (search rules) shown c.rising-rising.ensures (λ x. grind (arith, common_steps))
