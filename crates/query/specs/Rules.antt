-- What the records of a query must keep. Assumes nothing.
use Rattle.std.specs.Prelude.{◌≡◌, ℕ, ◌+◌, Bool, true, ◌&&◌, List, length, ◌==◌, nat_le, nat_lt}
use Rattle.query.specs.declared.node.Kind.{Kind}
use Rattle.query.specs.declared.node.Kind.TheVariants.{Symbol, Any, Concat, Exact, Atleast, Atmost, In, Precisely, Noless, Nomore, And, Or, Inorder}
use Rattle.query.specs.declared.node.Node.{Node}
use Rattle.query.specs.declared.node.Role.{Role}
use Rattle.query.specs.declared.node.Role.TheVariants.{Shape, Window, Count}
use Rattle.query.specs.declared.node.Stage.{Stage}
use Rattle.query.specs.declared.node.Stage.TheVariants.{Read, Bound}
use Rattle.query.specs.Kinds.{kind_number}
use Rattle.query.specs.Tree.{Query, node, Queries, none, more, count, records, levels}

-- which kinds may stand in a role: symbol to in as a shape, precisely to inorder as a window's part, precisely to or as a count
abbrev pub allows : Role → Kind → Bool
allows Shape k = nat_le (kind_number k) 6
allows Window k = nat_le 7 (kind_number k)
allows Count k = nat_le 7 (kind_number k) && nat_le (kind_number k) 11

-- the role of a kind's parts
abbrev pub part_role : Kind → Role
part_role Symbol = Shape
part_role Any = Shape
part_role Concat = Shape
part_role Exact = Shape
part_role Atleast = Shape
part_role Atmost = Shape
part_role In = Window
part_role Precisely = Shape
part_role Noless = Shape
part_role Nomore = Shape
part_role And = Count
part_role Or = Count
part_role Inorder = Shape

-- how many parts a kind may have: a symbol none, exact to nomore one, any as many as it likes, the others at least one
abbrev pub parts_right : Kind → ℕ → Bool
parts_right Symbol m = m == 0
parts_right Any m = true
parts_right Concat m = nat_lt 0 m
parts_right Exact m = m == 1
parts_right Atleast m = m == 1
parts_right Atmost m = m == 1
parts_right In m = m == 1
parts_right Precisely m = m == 1
parts_right Noless m = m == 1
parts_right Nomore m = m == 1
parts_right And m = nat_lt 0 m
parts_right Or m = nat_lt 0 m
parts_right Inorder m = nat_lt 0 m

-- a symbol's record: not bound yet, with its word in the text, or bound to one of the alphabet's symbols
abbrev pub symbol_right : Stage → ℕ → ℕ → ℕ → Bool
symbol_right (Read text) n place length = n == 255 && nat_le (place + length) text
symbol_right (Bound symbols) n place length = nat_lt n symbols

-- the number of a record: the symbol, a count of 0 to 255, a length of 1 to 255, or 0 where the kind has none
abbrev pub number_right : Stage → Kind → ℕ → ℕ → ℕ → Bool
number_right s Symbol n place length = symbol_right s n place length
number_right s Any n place length = n == 0
number_right s Concat n place length = n == 0
number_right s Exact n place length = nat_le n 255
number_right s Atleast n place length = nat_le n 255
number_right s Atmost n place length = nat_le n 255
number_right s In n place length = nat_lt 0 n && nat_le n 255
number_right s Precisely n place length = nat_le n 255
number_right s Noless n place length = nat_le n 255
number_right s Nomore n place length = nat_le n 255
number_right s And n place length = n == 0
number_right s Or n place length = n == 0
number_right s Inorder n place length = n == 0

-- one record: its kind may stand here, and has the parts and the number that it takes
abbrev pub record_right : Stage → Role → Node → Bool
record_right s r x =
    allows r x.kind && (parts_right x.kind x.parts && number_right s x.kind x.number x.place x.length)

unfoldable mutual
  -- the query may stand in this role: its own record is right, and each part may stand in the role of the kind's parts
  pub keeps : Stage → Role → Query → Bool
  keeps s r (node k n p l qs) =
      record_right s r (record { kind = k; number = n; parts = count qs; place = p; length = l })
      && keeps_each s (part_role k) qs

  pub keeps_each : Stage → Role → Queries → Bool
  keeps_each s r none = true
  keeps_each s r (more q qs) = keeps s r q && keeps_each s r qs

-- a query that has come to a stage: a shape of at most 16 levels and 64 records that keeps the rules
unfoldable pub well : Stage → Query → Bool
well s q = keeps s Shape q && (nat_le (levels q) 16 && nat_le (length (records q)) 64)

-- the records are those of a query that has come to a stage
abbrev pub AreQuery : Stage → List Node → Type 0
AreQuery s ns = (q : Query) × (records q ≡ ns) × (well s q ≡ true)
