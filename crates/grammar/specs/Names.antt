-- The operator words, and the numbers that rows of digits stand for. Assumes nothing.
use Rattle.std.specs.Prelude.{ℕ, ◌+◌, ◌-◌, ◌*◌, Bool, false, cond, not, ◌&&◌, List, [], ◌∷◌, Some, None, codes, Option, ◌==◌, nat_le}
use Rattle.std.specs.Str.{bytes_eq}
use Rattle.query.specs.declared.node.Kind.{Kind}
use Rattle.query.specs.declared.node.Kind.TheVariants.{Symbol, Any, Concat, Exact, Atleast, Atmost, In, Precisely, Noless, Nomore, And, Or, Inorder}

-- the word of each operator
abbrev pub operator_word : Kind → List ℕ
operator_word Symbol = []
operator_word Any = codes "any"
operator_word Concat = codes "concat"
operator_word Exact = codes "exact"
operator_word Atleast = codes "atleast"
operator_word Atmost = codes "atmost"
operator_word In = codes "in"
operator_word Precisely = codes "precisely"
operator_word Noless = codes "noless"
operator_word Nomore = codes "nomore"
operator_word And = codes "and"
operator_word Or = codes "or"
operator_word Inorder = codes "inorder"

-- the kinds that have a word
abbrev pub operators : List Kind
operators = Any ∷ Concat ∷ Exact ∷ Atleast ∷ Atmost ∷ In ∷ Precisely ∷ Noless ∷ Nomore ∷ And ∷ Or ∷ Inorder ∷ []

-- the first of the kinds whose operator word is the name, else a symbol
abbrev pub named_among : List Kind → List ℕ → Kind
named_among [] bs = Symbol
named_among (k ∷ ks) bs = cond (bytes_eq bs (operator_word k)) k (named_among ks bs)

-- the kind that a name tells: an operator, else a symbol
unfoldable pub kind_named : List ℕ → Kind
kind_named bs = named_among operators bs

-- the number that digits stand for, behind digits that stand for n
abbrev pub natural_after : ℕ → List ℕ → ℕ
natural_after n [] = n
natural_after n (d ∷ ds) = natural_after (n * 10 + (d - 48)) ds

-- the number that a row of digits stands for
abbrev pub natural : List ℕ → ℕ
natural ds = natural_after 0 ds

-- a number that is at most 255
abbrev pub at_most_255 : ℕ → Option ℕ
at_most_255 n = cond (nat_le n 255) (Some n) None

-- more than one digit, and the first is 0
abbrev pub extra_zero : List ℕ → Bool
extra_zero [] = false
extra_zero (d ∷ []) = false
extra_zero (d ∷ e ∷ ds) = d == 48

-- the number is written without an extra zero, and at most 255
unfoldable pub small : List ℕ → Bool
small ds = not (extra_zero ds) && nat_le (natural ds) 255

-- the number of a row of digits that is small, for the record of its operator
abbrev pub small_number : List ℕ → Option ℕ
small_number ds = cond (small ds) (Some (natural ds)) None
