-- What a change makes of a query, and which change a rule asks for. Assumes nothing.
use Rattle.std.specs.Prelude.{◌≡◌, ℕ, ◌+◌, Bool, true, false, cond, ◌&&◌, ◌||◌, List, length, Some, None, Option, ◌==◌, nat_lt}
use Rattle.query.specs.declared.node.Kind.{Kind}
use Rattle.query.specs.declared.node.Kind.TheVariants.{Any, Exact, Atleast}
use Rattle.query.specs.declared.node.Node.{Node}
use Rattle.query.specs.declared.node.Role.{Role}
use Rattle.query.specs.declared.node.Stage.{Stage}
use Rattle.query.specs.Kinds.{same_kind}
use Rattle.query.specs.Tree.{Query, node, Queries, none, more, records, records_each}
use Rattle.query.specs.Rules.{keeps}
use Rattle.rules.specs.Applies.{kind_of, number_of, parts_of, stands_alone, applies_here}
use Rattle.rules.specs.Parts.{join, renamed}
use Rattle.rules.specs.Places.{Here}
use Rattle.rules.specs.Shorter.{Shorter}
use Rattle.tidy.specs.declared.change.Change.{Change}
use Rattle.tidy.specs.declared.change.Change.TheVariants.{Lift, Clear, Unnest, Join}
use Rattle.tidy.specs.Outcomes.{some_joined}

-- exact and atleast
abbrev pub strict : Kind → Bool
strict k = same_kind k Exact || same_kind k Atleast

-- a whole gives way to its only part
pub record Lifts (q q' : Query) : Type 0 where
  pub k : Kind
  pub n : ℕ
  pub p : ℕ
  pub l : ℕ
  pub was : q ≡ node k n p l (more q' none)

-- a whole becomes `(any)`
pub record Clears (q q' : Query) : Type 0 where
  pub k : Kind
  pub n : ℕ
  pub p : ℕ
  pub l : ℕ
  pub qs : Queries
  pub was : q ≡ node k n p l qs
  pub now_is : q' ≡ node Any 0 p l none

-- the part at index j, of the whole at index i, gives way to its own parts
pub record Unnests (i j : ℕ) (q q' : Query) : Type 0 where
  pub k : Kind
  pub n : ℕ
  pub p : ℕ
  pub l : ℕ
  pub m : ℕ
  pub p' : ℕ
  pub l' : ℕ
  pub before : Queries
  pub inner : Queries
  pub behind : Queries
  pub was : q ≡ node k n p l (join before (more (node k m p' l' inner) behind))
  pub now_is : q' ≡ node k n p l (join before (join inner behind))
  pub place : j ≡ i + 1 + length (records_each before)

-- of the whole at index i, the part at index y goes, and the part at index x takes a kind and a number
pub record Joins (i x y : ℕ) (k' : Kind) (n' : ℕ) (q q' : Query) : Type 0 where
  pub k : Kind
  pub n : ℕ
  pub p : ℕ
  pub l : ℕ
  pub before : Queries
  pub earlier : Query
  pub between : Queries
  pub later : Query
  pub behind : Queries
  pub was : q ≡ node k n p l (join before (more earlier (join between (more later behind))))
  pub now_is : q' ≡ node k n p l (join before (more (renamed earlier k' n') (join between behind)))
  pub place : x ≡ i + 1 + length (records_each before)
  pub place' : y ≡ x + length (records earlier) + length (records_each between)

-- the change makes q' of the query q at index i
abbrev pub Makes : ℕ → Query → Change → Query → Type 0
Makes i q Lift q' = Lifts q q'
Makes i q Clear q' = Clears q q'
Makes i q (Unnest j) q' = Unnests i j q q'
Makes i q (Join x y h) q' = Joins i x y h.kind h.number q q'

-- a change makes a shorter query of it
abbrev pub Shortens : ℕ → Query → Change → Type 0
Shortens i q c = (q' : Query) × Makes i q c q' × Shorter q q'

-- no rule joins two parts, or a change does
abbrev pub JoinedBy : ℕ → Query → Option Change → Type 0
JoinedBy i q None = some_joined (kind_of q) (parts_of q) ≡ false
JoinedBy i q (Some c) = Shortens i q c

abbrev pub Joining : List Node → ℕ → Option Change → Type 0
Joining ns i r = (q : Query) (rest : List Node) → Here ns i q rest → JoinedBy i q r

-- no rule applies to the whole itself, or a change shortens it
abbrev pub Changed : ℕ → Query → Option Change → Type 0
Changed i q None = applies_here (kind_of q) (number_of q) (parts_of q) ≡ false
Changed i q (Some c) = Shortens i q c

abbrev pub Changes : List Node → ℕ → Option Change → Type 0
Changes ns i r = (s : Stage) (o : Role) (q : Query) (rest : List Node) → keeps s o q ≡ true → Here ns i q rest → Changed i q r

-- whether the query at index i is an exact or atleast with pieces and without a window
abbrev pub Alone : List Node → ℕ → Bool → Type 0
Alone ns i t = (q : Query) (rest : List Node) → Here ns i q rest → t ≡ stands_alone q

-- what becomes of n of a part that is a repeat or not, and stands alone or not
abbrev pub nested_become : ℕ → Bool → Bool → Option Change
nested_become n repeat alone = cond (nat_lt 1 n && repeat) (Some Clear) (cond (n == 1 && alone) (Some Lift) None)
