-- The record at an index, changed in place.
use Rattle.std.proofs.Common.{◌≡◌, ℕ, zero, suc, ◌<◌, ◌≤◌, List, [], ◌∷◌, length, get_or, set, refl, ap, arith}
use Rattle.query.specs.declared.node.Node.{Node}
use Rattle.grammar.specs.Machine.{change}

pub change_at : (f : Node → Node) (xs : List Node) (i : ℕ) (d : Node) → i < length xs → set xs i (f (get_or xs i d)) ≡ change f xs i
change_at f [] i d h = absurd (omega arith)
change_at f (x ∷ xs) zero d h = refl
change_at f (x ∷ xs) (suc i) d h = ap (λ l. x ∷ l) (change_at f xs i d (omega arith))

pub change_past : (f : Node → Node) (xs : List Node) (i : ℕ) → length xs ≤ i → xs ≡ change f xs i
change_past f [] i h = refl
change_past f (x ∷ xs) zero h = absurd (omega arith)
change_past f (x ∷ xs) (suc i) h = ap (λ l. x ∷ l) (change_past f xs i (omega arith))
