-- Queries to which each rule applies, and some to which none does.
use Rattle.std.proofs.Common.{◌≡◌, ℕ, true, false, refl}
use Rattle.query.specs.declared.node.Kind.{Kind}
use Rattle.query.specs.declared.node.Kind.TheVariants.{Symbol, Any, Concat, Exact, Atleast, Atmost, In, Noless, And}
use Rattle.query.specs.Tree.{Query, node, Queries, none, more, alike}
use Rattle.rules.specs.Applies.{some_part, some_pair, some_next, windowed, applies_here, applies}

abbrev up : Query
up = node Symbol 0 0 0 none

abbrev down : Query
down = node Symbol 1 4 4 none

abbrev of : Kind → Queries → Query
of k qs = node k 0 0 0 qs

abbrev over : Kind → ℕ → Query → Query
over k n q = node k n 0 0 (more q none)

abbrev pair : Query → Query → Queries
pair q r = more q (more r none)

-- each rule applies, and a little less of what it asks for leaves it out
e1 : applies (of Any (pair up (of Any (pair down down)))) ≡ true
unfolding applies applies_here some_part some_pair some_next alike windowed
e1 = refl

e2 : applies (of Concat (pair up up)) ≡ false
unfolding applies applies_here some_part some_pair some_next alike windowed
e2 = refl

e3 : applies (of Any (pair (over Exact 2 up) (over Atleast 3 up))) ≡ true
unfolding applies applies_here some_part some_pair some_next alike windowed
e3 = refl

e4 : applies (of Any (pair (over Exact 1 up) (over Atleast 3 up))) ≡ false
unfolding applies applies_here some_part some_pair some_next alike windowed
e4 = refl

e5 : applies (of Any (pair (over Atleast 3 up) (over Exact 2 up))) ≡ true
unfolding applies applies_here some_part some_pair some_next alike windowed
e5 = refl

e6 : applies (of Any (pair (over Atleast 3 down) (over Exact 2 up))) ≡ false
unfolding applies applies_here some_part some_pair some_next alike windowed
e6 = refl

e7 : applies (over Exact 1 (over Atleast 2 up)) ≡ true
unfolding applies applies_here some_part some_pair some_next alike windowed
e7 = refl

e8 : applies (over Exact 1 (over Atleast 2 (over In 3 (over Noless 1 up)))) ≡ false
unfolding applies applies_here some_part some_pair some_next alike windowed
e8 = refl

e9 : applies (of Concat (pair (over Exact 1 up) (over Atmost 2 up))) ≡ true
unfolding applies applies_here some_part some_pair some_next alike windowed
e9 = refl

e10 : applies (of Concat (pair (of Any none) up)) ≡ true
unfolding applies applies_here some_part some_pair some_next alike windowed
e10 = refl

e11 : applies (over Exact 1 (over Atmost 2 up)) ≡ false
unfolding applies applies_here some_part some_pair some_next alike windowed
e11 = refl

e12 : applies (over In 5 (of And (more (over Noless 2 up) none))) ≡ true
unfolding applies applies_here some_part some_pair some_next alike windowed
e12 = refl
