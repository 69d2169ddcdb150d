-- The grammar: the words that spell a query. Assumes nothing.
use Rattle.std.specs.Prelude.{◌≡◌, ℕ, Bool, true, cond, ◌&&◌, List, [], ◌∷◌, ◌++◌, length, ◌==◌, nat_le}
use Rattle.query.specs.declared.node.Kind.{Kind}
use Rattle.query.specs.declared.node.Role.{Role}
use Rattle.query.specs.declared.node.Role.TheVariants.{Shape}
use Rattle.query.specs.Kinds.{kind_number}
use Rattle.query.specs.Tree.{Query, node, Queries, none, more, count}
use Rattle.query.specs.Rules.{allows, part_role, parts_right}
use Rattle.words.specs.Words.{Lexeme, name, number, opens, closes}
use Rattle.grammar.specs.Names.{kind_named, natural}

-- what a word says: a parenthesis opens or closes; a number of any size; or a name at a place, of a length, which tells a kind
pub data Said : Type 0 where
  lparen rparen : Said
  counts : ℕ → Said
  names : Kind → ℕ → ℕ → Said

-- what the word at place p says
abbrev pub says : ℕ → Lexeme → Said
says p (name bs) = names (kind_named bs) p (length bs)
says p (number bs) = counts (natural bs)
says p opens = lparen
says p closes = rparen

-- a word with its place
abbrev pub Placed : Type 0
Placed = ℕ × Lexeme

abbrev pub said_by : Placed → Said
said_by w = says w.0 w.1

-- what words say
abbrev pub said : List Placed → List Said
said [] = []
said (w ∷ ws) = said_by w ∷ said ws

abbrev pub is_symbol : Kind → Bool
is_symbol k = kind_number k == 0

-- exact, atleast, atmost, in, precisely, noless and nomore go with a number
abbrev pub takes_number : Kind → Bool
takes_number k = nat_le 3 (kind_number k) && nat_le (kind_number k) 9

-- the number of a kind that goes with one, in front of other words
abbrev pub number_words : Kind → ℕ → List Said → List Said
number_words k n ws = cond (takes_number k) (counts n ∷ ws) ws

unfoldable mutual
  -- the words of a query, in front of other words: a symbol is its name; any other is a parenthesis with the operator word, the number if the kind goes with one, and the parts
  pub spell : Query → List Said → List Said
  spell (node k n p l qs) ws = cond (is_symbol k) (names k p l ∷ ws) (lparen ∷ names k p l ∷ number_words k n (spell_each qs (rparen ∷ ws)))

  pub spell_each : Queries → List Said → List Said
  spell_each none ws = ws
  spell_each (more q qs) ws = spell q (spell_each qs ws)

-- the number of a kind that goes with none: 255 for a symbol, which is not bound yet, else 0
abbrev pub number_free : Kind → ℕ → Bool
number_free k n = cond (takes_number k) true (n == cond (is_symbol k) 255 0)

unfoldable mutual
  -- a query that a text can stand for in a role: each kind may stand where it does and has the parts that it takes; numbers may be of any size
  pub formed : Role → Query → Bool
  formed r (node k n p l qs) = (allows r k && parts_right k (count qs)) && (number_free k n && formed_each (part_role k) qs)

  pub formed_each : Role → Queries → Bool
  formed_each r none = true
  formed_each r (more q qs) = formed r q && formed_each r qs

-- the words follow the grammar: they spell a query
abbrev pub Follows : List Said → Type 0
Follows ws = (q : Query) × (formed Shape q ≡ true) × (spell q [] ≡ ws)

-- more words can follow, so that all of them follow the grammar
abbrev pub Begins : List Said → Type 0
Begins ws = (rest : List Said) × Follows (ws ++ rest)
