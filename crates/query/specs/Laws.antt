-- Laws of queries and their records.
use Rattle.std.specs.Prelude.{◌≡◌, true, ◌↔◌, List}
use Rattle.query.specs.declared.node.Node.{Node}
use Rattle.query.specs.declared.node.Stage.{Stage}
use Rattle.query.specs.Tree.{Query, records, alike, bare}
use Rattle.query.specs.Rules.{well}
use Rattle.query.specs.Stands.{is_query, query_in}

-- The records of a query give it back: no other query has them.
abbrev pub ReadsBack : Type 0
ReadsBack = (s : Stage) (q : Query) → well s q ≡ true → query_in (records q) ≡ q

-- Records that are found right are those of the query in them.
abbrev pub Stands : Type 0
Stands = (s : Stage) (ns : List Node) → is_query s ns ≡ true → (records (query_in ns) ≡ ns) × (well s (query_in ns) ≡ true)

-- Two queries are equal just where they are the same but for the places of their words.
abbrev pub EqualButForWords : Type 0
EqualButForWords = (q r : Query) → (alike q r ≡ true) ↔ (bare q ≡ bare r)
