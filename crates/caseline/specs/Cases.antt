-- Eight shapes on the case line, each with the stretches that it fits.
use Rattle.std.specs.Prelude.{◌≡◌, ℕ, suc, cond, ◌⊎◌, List, [], ◌∷◌, length}
use Rattle.query.specs.declared.node.Kind.{Kind}
use Rattle.query.specs.declared.node.Kind.TheVariants.{Symbol, Any, Concat, Exact, Atleast, Atmost, In, Noless, Nomore, And, Inorder}
use Rattle.query.specs.Tree.{Query, node, Queries, none, more}
use Rattle.shape.specs.declared.stretch.Stretch.{Stretch}
use Rattle.shape.specs.Ranges.{stretch}
use Rattle.shape.specs.Fits.{fits}
use Rattle.shape.specs.Listing.{listing}
use Rattle.caseline.specs.Line.{case_words}

-- queries as they are read, but for the places of their words
abbrev pub of : List Query → Queries
of [] = none
of (q ∷ qs) = more q (of qs)

abbrev pub symbol : ℕ → Query
symbol j = node Symbol j 0 0 none

abbrev pub op : Kind → ℕ → List Query → Query
op k n qs = node k n 0 0 (of qs)

-- the symbols of the case line, by name
abbrev pub up : Query
up = symbol 0

abbrev pub Up : Query
Up = symbol 1

abbrev pub down : Query
down = symbol 2

abbrev pub Down : Query
Down = symbol 3

abbrev pub appears : Query
appears = symbol 4

abbrev pub stable : Query
stable = symbol 6

abbrev pub zeros : Query
zeros = symbol 7

-- the positions among the d from x on where the query fits a null stretch, seen from 0
unfoldable pub nulls_from : List ℕ → Query → ℕ → ℕ → List ℕ
nulls_from words q ℕ.zero x = []
nulls_from words q (suc d) x = let rest = nulls_from words q d (suc x) in cond (fits words q 0 x x) (x ∷ rest) rest

-- those of the whole line
unfoldable pub nulls : List ℕ → Query → List ℕ
nulls words q = nulls_from words q (suc (length words)) 0

-- a shape with the stretches that it fits on the case line, not null ones by start and end, null ones by position
pub record Case : Type 0 where
  pub shape : Query
  pub listed : List Stretch
  pub null : List ℕ

-- the table
abbrev pub cases : List Case
cases =
    -- stable
    record { shape = stable; listed = stretch 0 1 ∷ stretch 1 2 ∷ stretch 6 7 ∷ stretch 9 10 ∷ []; null = [] }
    -- (any zero appears)
    ∷ record { shape = op Any 0 (zeros ∷ appears ∷ []); listed = stretch 0 1 ∷ stretch 1 2 ∷ []; null = [] }
    -- (exact 2 up)
    ∷ record { shape = op Exact 2 (up ∷ []); listed = []; null = [] }
    -- (atleast 2 up)
    ∷ record { shape = op Atleast 2 (up ∷ []); listed = stretch 2 5 ∷ []; null = [] }
    -- (atmost 2 up)
    ∷ record { shape = op Atmost 2 (up ∷ []); listed = []; null = 0 ∷ 1 ∷ 6 ∷ 7 ∷ 8 ∷ 9 ∷ 10 ∷ [] }
    -- (concat (atleast 2 up) (atmost 1 Down))
    ∷ record { shape = op Concat 0 (op Atleast 2 (up ∷ []) ∷ op Atmost 1 (Down ∷ []) ∷ []); listed = stretch 2 5 ∷ []; null = [] }
    -- (in 5 (and (noless 2 (any up Up)) (nomore 1 (any down Down))))
    ∷ record {
      shape = op In 5 (op And 0 (op Noless 2 (op Any 0 (up ∷ Up ∷ []) ∷ []) ∷ op Nomore 1 (op Any 0 (down ∷ Down ∷ []) ∷ []) ∷ []) ∷ []);
      listed = stretch 0 5 ∷ stretch 1 6 ∷ stretch 2 7 ∷ [];
      null = [];
    }
    -- (in 7 (inorder (atleast 2 (any up Up)) (in 4 (noless 3 (any down Down)))))
    ∷ record {
      shape = op In 7 (op Inorder 0 (op Atleast 2 (op Any 0 (up ∷ Up ∷ []) ∷ []) ∷ op In 4 (op Noless 3 (op Any 0 (down ∷ Down ∷ []) ∷ []) ∷ []) ∷ []) ∷ []);
      listed = stretch 2 9 ∷ [];
      null = [];
    }
    ∷ []

-- a row is one of the table's
abbrev pub Row : Case → List Case → Type 0
Row x [] = ⊥
Row x (y ∷ ys) = (x ≡ y) ⊎ Row x ys

-- Each shape of a table fits just the stretches of its row on the case line.
abbrev pub Hold : List Case → Type 0
Hold xs = (x : Case) → Row x xs → (listing case_words x.shape ≡ x.listed) × (nulls case_words x.shape ≡ x.null)

-- shapes that are easily mistaken for others
abbrev pub look_alikes : List Case
look_alikes =
    -- (concat up (atleast 2 up)): the second part does not look left of its own start
    record { shape = op Concat 0 (up ∷ op Atleast 2 (up ∷ []) ∷ []); listed = stretch 2 5 ∷ []; null = [] }
    -- (concat up up) is not (exact 2 up)
    ∷ record { shape = op Concat 0 (up ∷ up ∷ []); listed = stretch 2 4 ∷ stretch 3 5 ∷ []; null = [] }
    ∷ []

abbrev pub CasesHold : Type 0
CasesHold = Hold cases

abbrev pub LookAlikesHold : Type 0
LookAlikesHold = Hold look_alikes
