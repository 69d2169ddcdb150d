-- Queries where they lie in a sheet of records. Assumes nothing.
use Rattle.std.specs.Prelude.{◌≡◌, ℕ, zero, suc, ◌+◌, ◌<◌, ◌≤◌, Bool, true, false, ◌&&◌, List, [], ◌∷◌, ◌++◌, length, take, drop, Some, None, Option, ◌==◌}
use Rattle.std.specs.List.{list_any, list_all, zip}
use Rattle.query.specs.declared.node.Kind.TheVariants.{In}
use Rattle.query.specs.declared.node.Node.{Node}
use Rattle.query.specs.declared.node.Role.{Role}
use Rattle.query.specs.declared.node.Stage.{Stage}
use Rattle.query.specs.Kinds.{same_kind}
use Rattle.query.specs.Tree.{Query, Queries, more, count, records, records_each, levels}
use Rattle.query.specs.Rules.{keeps}
use Rattle.query.specs.Stands.{at}
use Rattle.rules.specs.Applies.{some_part}
use Rattle.rules.specs.Parts.{join}

-- two records have one kind, one number and as many parts
abbrev pub same_record : Node → Node → Bool
same_record x y = same_kind x.kind y.kind && (x.number == y.number && x.parts == y.parts)

-- one of the records is a window
abbrev pub any_window : List Node → Bool
any_window = list_any (λ n. same_kind n.kind In)

-- the query stands at index i, and the rest behind it
abbrev pub Here : List Node → ℕ → Query → List Node → Type 0
Here ns i q rest = drop i ns ≡ records q ++ rest

-- the queries stand one after another from index i on, and the rest behind them
abbrev pub Row : List Node → ℕ → Queries → List Node → Type 0
Row ns i qs rest = drop i ns ≡ records_each qs ++ rest

-- some query stands at index i
abbrev pub Stands : List Node → ℕ → Type 0
Stands ns i = (i < length ns) × (q : Query) × (rest : List Node) × Here ns i q rest

-- a query that keeps the rules stands at index i, of no more than so many levels and 64 records at most
abbrev pub KeptWithin : ℕ → List Node → ℕ → Type 0
KeptWithin d ns i =
    (i < length ns) × (s : Stage) × (o : Role) × (q : Query) × (rest : List Node)
    × (keeps s o q ≡ true) × (levels q ≤ d) × (length (records q) ≤ 64) × Here ns i q rest

-- j is the index after the query that stands at index i
abbrev pub Ends : List Node → ℕ → ℕ → Type 0
Ends ns i j = (q : Query) (rest : List Node) → Here ns i q rest → j ≡ i + length (records q)

-- where the first of the queries from index i on stands that passes a test
abbrev pub FoundAt : (Query → Bool) → ℕ → Queries → Option ℕ → Type 0
FoundAt test i qs None = some_part test qs ≡ false
FoundAt test i qs (Some j) =
    (xs : Queries) × (q : Query) × (ts : Queries) × (qs ≡ join xs (more q ts)) × (test q ≡ true) × (j ≡ i + length (records_each xs))

-- the same of the m queries that stand there
abbrev pub Finds : (Query → Bool) → List Node → ℕ → ℕ → Option ℕ → Type 0
Finds test ns m i r = (qs : Queries) (rest : List Node) → count qs ≡ m → Row ns i qs rest → FoundAt test i qs r

-- whether m queries stand one after another at the head of the records, by the counts of parts alone
unfoldable pub stand_first : ℕ → List Node → Bool
stand_first zero ns = true
stand_first (suc m) [] = false
stand_first (suc m) (n ∷ ns) = stand_first (n.parts + m) ns

-- how many records they take up
unfoldable pub size_first : ℕ → List Node → ℕ
size_first zero ns = 0
size_first (suc m) [] = 0
size_first (suc m) (n ∷ ns) = suc (size_first (n.parts + m) ns)

-- the records of the parts of the query that stands at index i
abbrev pub inner : List Node → ℕ → List Node
inner ns i = take (size_first (at ns i).parts (drop (i + 1) ns)) (drop (i + 1) ns)

-- where m queries stand, the first at index i
unfoldable pub places : ℕ → List Node → ℕ → List (List Node × ℕ)
places zero ns i = []
places (suc m) ns i = (ns, i) ∷ places m ns (i + size_first 1 (drop i ns))

-- whether the queries that stand at two indices have equal parts, record by record
abbrev pub same_inner : List Node → ℕ → List Node → ℕ → Bool
same_inner ns i ms j = (at ns i).parts == (at ms j).parts && list_all (λ p. same_record p.0 p.1) (zip (inner ns i) (inner ms j))
