-- What the sheet holds after a change. Assumes nothing.
use Rattle.std.specs.Prelude.{◌≡◌, ℕ, ◌+◌, ◌-◌, ◌<◌, ◌≤◌, true, false, List, ◌++◌, length, take, drop, replicate, Some, None, Option}
use Rattle.query.specs.declared.node.Node.{Node}
use Rattle.query.specs.declared.node.Role.{Role}
use Rattle.query.specs.declared.node.Stage.{Stage}
use Rattle.query.specs.Tree.{Query, records, levels}
use Rattle.query.specs.Rules.{keeps}
use Rattle.query.specs.Stands.{blank}
use Rattle.rules.specs.Applies.{applies}
use Rattle.rules.specs.Places.{Here}
use Rattle.rules.specs.Shorter.{Shorter}
use Rattle.tidy.specs.declared.change.Change.{Change}
use Rattle.tidy.specs.Changes.{Makes}

-- the records from one index up to another go, those behind them move up, and blanks fill the end
abbrev pub cut_out : List Node → ℕ → ℕ → List Node
cut_out ns from to = take from ns ++ (drop to ns ++ replicate (to - from) blank)

-- the query at index i, with the rest behind it, gives way to a shorter one
abbrev pub replaced : List Node → ℕ → Query → Query → List Node → List Node
replaced ns i q q' rest = take i ns ++ (records q' ++ (rest ++ replicate (length (records q) - length (records q')) blank))

-- a query stands at index i of which the change makes another
abbrev pub Makeable : List Node → ℕ → Change → Type 0
Makeable ns i c =
    (i < length ns) × (q : Query) × (rest : List Node) × (q' : Query) × Here ns i q rest × Makes i q c q' × (length (records q) ≤ 64)
    × (length (records q') < length (records q))

-- the sheet after the change
abbrev pub Made : List Node → ℕ → Change → List Node → Type 0
Made ns i c after =
    (q : Query) (rest : List Node) (q' : Query) → Here ns i q rest → Makes i q c q' → length (records q') < length (records q) → after ≡ replaced ns i q q' rest

-- either no rule applies to the query at index i, nothing is changed, and the index after it is told; or it has given way to a shorter one
abbrev pub Stepped : List Node → List Node → ℕ → Query → List Node → Option ℕ → Type 0
Stepped ns after i q rest None = (q' : Query) × Shorter q q' × (after ≡ replaced ns i q q' rest)
Stepped ns after i q rest (Some j) = (applies q ≡ false) × (after ≡ ns) × (j ≡ i + length (records q))

abbrev pub Steps : ℕ → List Node → List Node → ℕ → Option ℕ → Type 0
Steps d ns after i r =
    (s : Stage) (o : Role) (q : Query) (rest : List Node) → keeps s o q ≡ true → levels q ≤ d → Here ns i q rest → Stepped ns after i q rest r
