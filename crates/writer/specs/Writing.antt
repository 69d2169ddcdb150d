-- The text that a query is written as. Assumes nothing.
use Rattle.std.specs.Prelude.{◌≡◌, ℕ, ◌+◌, ◌/◌, ◌%◌, cond, List, [], ◌∷◌, ◌++◌, length, take, drop, nat_lt, slice_index_or}
use Rattle.query.specs.declared.node.Kind.{Kind}
use Rattle.query.specs.Tree.{Query, node, Queries, none, more}
use Rattle.grammar.specs.Names.{operator_word}
use Rattle.grammar.specs.Spelling.{is_symbol, takes_number}

-- the digits of a number of at most three
abbrev pub numeral : ℕ → List ℕ
numeral n = cond (nat_lt n 10) ((48 + n) ∷ []) (cond (nat_lt n 100) ((48 + n / 10) ∷ (48 + n % 10) ∷ []) ((48 + n / 100) ∷ (48 + n / 10 % 10) ∷ (48 + n % 10) ∷ []))

-- a space and the number, where the kind goes with one
abbrev pub number_text : Kind → ℕ → List ℕ
number_text k n = cond (takes_number k) (32 ∷ numeral n) []

-- a parenthesis, the operator word and the number
abbrev pub head_text : Kind → ℕ → List ℕ
head_text k n = 40 ∷ (operator_word k ++ number_text k n)

-- what stands for a record in front of its parts: the name of a symbol, or the head of an operator
abbrev pub record_text : List (List ℕ) → Kind → ℕ → List ℕ
record_text names k n = cond (is_symbol k) (slice_index_or names n []) (head_text k n)

unfoldable mutual
  -- the text of a query by the names of an alphabet: single spaces between words, and none inside the edge of a parenthesis
  pub text_of : List (List ℕ) → Query → List ℕ
  text_of names (node k n p l qs) = record_text names k n ++ cond (is_symbol k) [] (parts_text names qs)

  pub parts_text : List (List ℕ) → Queries → List ℕ
  parts_text names none = 41 ∷ []
  parts_text names (more q qs) = 32 ∷ (text_of names q ++ parts_text names qs)

-- bytes put into a buffer at a place, the others as they were
abbrev pub put_at : List ℕ → ℕ → List ℕ → List ℕ
put_at out at bs = take at out ++ (bs ++ drop (at + length bs) out)

-- the bytes were put at a place, and end at another
pub record Wrote (out : List ℕ) (at : ℕ) (bs after : List ℕ) (end' : ℕ) : Type 0 where
  pub ends : end' ≡ at + length bs
  pub holds : after ≡ put_at out at bs
