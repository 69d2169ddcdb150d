-- How a text is read word by word: what is kept in mind, what a word does to it, and a run over all words. Assumes nothing.
use Rattle.std.specs.Prelude.{ℕ, zero, suc, ◌+◌, min, Bool, true, false, cond, not, ◌&&◌, List, [], ◌∷◌, ◌++◌, length, Some, None, Ok, Err, Option, Result, ◌==◌, nat_lt}
use Rattle.query.specs.declared.node.Kind.{Kind}
use Rattle.query.specs.declared.node.Kind.TheVariants.{Symbol, Any, Concat, Exact, Atleast, Atmost, In, Precisely, Noless, Nomore, And, Or, Inorder}
use Rattle.query.specs.declared.node.Node.{Node}
use Rattle.query.specs.declared.node.Role.{Role}
use Rattle.query.specs.declared.node.Role.TheVariants.{Shape}
use Rattle.query.specs.Rules.{allows, part_role}
use Rattle.words.specs.Words.{Lexeme, name, number, opens, closes}
use Rattle.grammar.specs.declared.types.Need.{Need}
use Rattle.grammar.specs.declared.types.Need.TheVariants.{Number, One, Least, More, Close}
use Rattle.grammar.specs.declared.types.Level.{Level}
use Rattle.grammar.specs.declared.types.Point.{Point}
use Rattle.grammar.specs.declared.types.Point.TheVariants.{Start, Opened, Inside}
use Rattle.grammar.specs.declared.types.GrammarFault.{GrammarFault}
use Rattle.grammar.specs.declared.types.GrammarFault.TheVariants.{Unexpected, Number as NumberFault, Limit}
use Rattle.grammar.specs.Names.{small, natural}
use Rattle.grammar.specs.Spelling.{Said, lparen, rparen, counts, names, Placed, said_by, is_symbol}
use Rattle.grammar.specs.Limits.{is_in}

-- where the reading stands, the open levels, the innermost first, and the records so far
pub record State : Type 0 where
  pub point : Point
  pub levels : List Level
  pub out : List Node

abbrev pub state : Point → List Level → List Node → State
state p vs out = record { point = p; levels = vs; out = out }

abbrev pub level : Kind → Need → ℕ → Level
level k n i = record { kind = k; need = n; node = i }

-- what a parenthesis wants behind its operator word
abbrev pub first_need : Kind → Need
first_need Symbol = Close
first_need Any = More
first_need Concat = Least
first_need Exact = Number
first_need Atleast = Number
first_need Atmost = Number
first_need In = Number
first_need Precisely = Number
first_need Noless = Number
first_need Nomore = Number
first_need And = Least
first_need Or = Least
first_need Inorder = Least

-- what it wants once a part has begun, where one may begin
abbrev pub after_part : Need → Option Need
after_part Number = None
after_part One = Some Close
after_part Least = Some More
after_part More = Some More
after_part Close = None

-- the record at an index changed
abbrev pub change : (Node → Node) → List Node → ℕ → List Node
change f [] i = []
change f (x ∷ xs) zero = f x ∷ xs
change f (x ∷ xs) (suc i) = x ∷ change f xs i

-- one part more, 255 at most
abbrev pub counted : Node → Node
counted x = record { kind = x.kind; number = x.number; parts = min (x.parts + 1) 255; place = x.place; length = x.length }

-- its number put in
abbrev pub numbered : ℕ → Node → Node
numbered n x = record { kind = x.kind; number = n; parts = x.parts; place = x.place; length = x.length }

-- the number of a name's record: none is bound or read yet
abbrev pub first_number : Kind → ℕ
first_number k = cond (is_symbol k) 255 0

-- the record of a name, before its number and parts are known
abbrev pub fresh : Kind → ℕ → ℕ → Node
fresh k p l = record { kind = k; number = first_number k; parts = 0; place = p; length = l }

abbrev pub begun : Option Need → Level → List Level → List Node → Option (Role × State)
begun None v vs out = None
begun (Some n) v vs out = Some (part_role v.kind, state Inside (level v.kind n v.node ∷ vs) (change counted out v.node))

abbrev pub begin_inside : List Level → List Node → Option (Role × State)
begin_inside [] out = None
begin_inside (v ∷ vs) out = begun (after_part v.need) v vs out

abbrev pub begin_at : Point → List Level → List Node → Option (Role × State)
begin_at Start vs out = Some (Shape, state Inside vs out)
begin_at (Opened r) vs out = None
begin_at Inside vs out = begin_inside vs out

-- a part begins, where one may: its role, and what is kept in mind then
abbrev pub begin : State → Option (Role × State)
begin S = begin_at S.point S.levels S.out

-- a parenthesis opens as a part
abbrev pub open_part : Option (Role × State) → Option State
open_part None = None
open_part (Some b) = Some (state (Opened b.0) b.1.levels b.1.out)

-- a symbol stands as a part
abbrev pub leaf : Kind → ℕ → ℕ → Option (Role × State) → Option State
leaf k p l None = None
leaf k p l (Some b) = cond (allows b.0 k) (Some (state b.1.point b.1.levels (b.1.out ++ fresh k p l ∷ []))) None

-- an operator word stands behind its opening parenthesis
abbrev pub head : Kind → ℕ → ℕ → Point → List Level → List Node → Option State
head k p l Start vs out = None
head k p l (Opened r) vs out = cond (allows r k) (Some (state Inside (level k (first_need k) (length out) ∷ vs) (out ++ fresh k p l ∷ []))) None
head k p l Inside vs out = None

abbrev pub count_need : Need → ℕ → Level → List Level → List Node → Option State
count_need Number n v vs out = Some (state Inside (level v.kind One v.node ∷ vs) (change (numbered n) out v.node))
count_need One n v vs out = None
count_need Least n v vs out = None
count_need More n v vs out = None
count_need Close n v vs out = None

abbrev pub count_inside : ℕ → List Level → List Node → Option State
count_inside n [] out = None
count_inside n (v ∷ vs) out = count_need v.need n v vs out

-- a number stands behind its operator word
abbrev pub count_at : ℕ → Point → List Level → List Node → Option State
count_at n Start vs out = None
count_at n (Opened r) vs out = None
count_at n Inside vs out = count_inside n vs out

abbrev pub may_close : Need → Bool
may_close Number = false
may_close One = false
may_close Least = false
may_close More = true
may_close Close = true

abbrev pub close_need : Need → List Level → List Node → Option State
close_need Number vs out = None
close_need One vs out = None
close_need Least vs out = None
close_need More vs out = Some (state Inside vs out)
close_need Close vs out = Some (state Inside vs out)

abbrev pub close_inside : List Level → List Node → Option State
close_inside [] out = None
close_inside (v ∷ vs) out = close_need v.need vs out

-- the innermost parenthesis closes
abbrev pub close_at : Point → List Level → List Node → Option State
close_at Start vs out = None
close_at (Opened r) vs out = None
close_at Inside vs out = close_inside vs out

-- what a word does, where it may stand
abbrev pub move : State → Said → Option State
move S lparen = open_part (begin S)
move S rparen = close_at S.point S.levels S.out
move S (counts n) = count_at n S.point S.levels S.out
move S (names k p l) = cond (is_symbol k) (leaf k p l (begin S)) (head k p l S.point S.levels S.out)

-- whether the innermost level is a window
abbrev pub inside_in : List Level → Bool
inside_in [] = false
inside_in (v ∷ vs) = is_in v.kind

-- the number is within its limits
abbrev pub number_right : State → Lexeme → Bool
number_right S (name bs) = true
number_right S (number bs) = small bs && not (inside_in S.levels && natural bs == 0)
number_right S opens = true
number_right S closes = true

-- there is room for the record of a name
abbrev pub room : State → Lexeme → Bool
room S (name bs) = nat_lt (length S.out) 64 && nat_lt (length S.levels) 16
room S (number bs) = true
room S opens = true
room S closes = true

abbrev pub checked : Option State → State → Placed → Result State GrammarFault
checked None S w = Err (Unexpected w.0)
checked (Some T) S w = cond (number_right S w.1) (cond (room S w.1) (Ok T) (Err (Limit w.0))) (Err (NumberFault w.0))

-- one word, or why it is refused
abbrev pub step : State → Placed → Result State GrammarFault
step S w = checked (move S (said_by w)) S w

abbrev pub and_then : Result State GrammarFault → (State → Result State GrammarFault) → Result State GrammarFault
and_then (Ok S) go = go S
and_then (Err f) go = Err f

-- all words in turn, up to the first that is refused
abbrev pub run : List Placed → State → Result State GrammarFault
run [] S = Ok S
run (w ∷ ws) S = and_then (step S w) (run ws)

abbrev pub start : State
start = state Start [] []

abbrev pub none_open : List Level → Bool
none_open [] = true
none_open (v ∷ vs) = false

abbrev pub done_at : Point → List Level → Bool
done_at Start vs = false
done_at (Opened r) vs = false
done_at Inside vs = none_open vs

-- all of a text was read
abbrev pub done : State → Bool
done S = done_at S.point S.levels
