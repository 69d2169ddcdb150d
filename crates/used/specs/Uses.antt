-- The symbols that a query uses. Assumes nothing.
use Rattle.std.specs.Prelude.{◌≡◌, ℕ, ◌^◌, Bool, true, false, if◌then◌else◌, ◌&&◌, ◌||◌, List, [], ◌∷◌, length, ◌==◌, nat_lt, slice_index}
use Rattle.word.specs.Words.{has}
use Rattle.query.specs.declared.node.Kind.{Kind}
use Rattle.query.specs.declared.node.Kind.TheVariants.{Symbol}
use Rattle.query.specs.declared.node.Node.{Node}
use Rattle.query.specs.Kinds.{same_kind}
use Rattle.query.specs.Tree.{Query, node, Queries, none, more, records}
use Rattle.shape.specs.Fits.{fits}

-- a record of this kind and number is symbol j
abbrev pub is_symbol : Kind → ℕ → ℕ → Bool
is_symbol k n j = same_kind k Symbol && n == j

-- the symbol that a record is, as a word; nothing where it is none of 32
abbrev pub symbol_word : Node → ℕ
symbol_word x = if same_kind x.kind Symbol && nat_lt x.number 32 then 2 ^ x.number else 0

-- one of the records is symbol j
unfoldable pub used_in : List Node → ℕ → Bool
used_in [] j = false
used_in (x ∷ xs) j = is_symbol x.kind x.number j || used_in xs j

unfoldable mutual
  -- the query is symbol j, or one of its parts uses it
  pub uses : Query → ℕ → Bool
  uses (node k n p l qs) j = is_symbol k n j || uses_each qs j

  pub uses_each : Queries → ℕ → Bool
  uses_each none j = false
  uses_each (more q qs) j = uses q j || uses_each qs j

-- The records of a query use just the symbols that the query uses.
abbrev pub UsedByRecords : Type 0
UsedByRecords = (q : Query) (j : ℕ) → used_in (records q) j ≡ uses q j

-- Fitting sees no symbols but those that the query uses: on two lists of words of equal length that have these alike, it fits alike.
abbrev pub SeesOnlyUsed : Type 0
SeesOnlyUsed = (q : Query) (words others : List ℕ) → length words ≡ length others →
    ((a j : ℕ) → uses q j ≡ true → has (slice_index words a) j ≡ has (slice_index others a) j) →
    (s a b : ℕ) → fits words q s a b ≡ fits others q s a b
