-- A sheet of blank records, and records in front of them.
use Rattle.std.proofs.Common.{◌≡◌, ℕ, ◌-◌, List, [], ◌++◌, length, drop, replicate, ap, ◌∙◌, arith}
use Rattle.std.proofs.lemmas.List.{drop-replicate}
use Rattle.query.specs.declared.node.Node.{Node}
use Rattle.query.specs.Stands.{blank}
use Rattle.text.specs.Reading.{padded}

pub blanks : (b : Node) (sheet : List Node) (k : ℕ) → b ≡ blank → sheet ≡ replicate k b → sheet ≡ padded [] k
blanks b sheet k e s = let z : k ≡ k - 0 = omega arith in s ∙ ap (replicate k) e ∙ ap (λ n. replicate n blank) z

pub in_front : (xs sheet : List Node) (b : Node) (k : ℕ) → b ≡ blank → sheet ≡ replicate k b → xs ++ drop (length xs) sheet ≡ padded xs k
in_front xs sheet b k e s = ap (λ ys. xs ++ drop (length xs) ys) (s ∙ ap (replicate k) e) ∙ ap (λ ys. xs ++ ys) (drop-replicate (length xs) k blank)
