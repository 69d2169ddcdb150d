-- What the names of a query that was read are bound to. Assumes nothing.
use Rattle.std.specs.Prelude.{◌≡◌, ℕ, ◌+◌, ◌≤◌, true, cond, List, [], ◌∷◌, ◌++◌, map, length, take, drop, Some, None, Option, nat_lt}
use Rattle.alphabet.specs.Names.{index_of}
use Rattle.query.specs.declared.node.Node.{Node}
use Rattle.query.specs.declared.node.Stage.TheVariants.{Read}
use Rattle.query.specs.Stands.{is_query}
use Rattle.grammar.specs.Spelling.{is_symbol}
use Rattle.text.specs.declared.fault.BindFault.{BindFault}
use Rattle.text.specs.declared.fault.BindFault.TheVariants.{Sheet, Records, Name}

-- the word of a symbol lies in a text of so many bytes
abbrev pub Lies : ℕ → Node → Type 0
Lies size x = is_symbol x.kind ≡ true → x.place + x.length ≤ size

-- the bytes of a record's word
abbrev pub word_at : List ℕ → Node → List ℕ
word_at text x = take x.length (drop x.place text)

-- the symbol that a record's word names
abbrev pub symbol_of : List (List ℕ) → List ℕ → Node → Option ℕ
symbol_of names text x = index_of names (word_at text x)

abbrev pub numbered_by : Option ℕ → Node → Node
numbered_by None x = x
numbered_by (Some j) x = record { kind = x.kind; number = j; parts = x.parts; place = x.place; length = x.length }

-- a record with the symbol of its name
abbrev pub bound : List (List ℕ) → List ℕ → Node → Node
bound names text x = cond (is_symbol x.kind) (numbered_by (symbol_of names text x) x) x

abbrev pub missing : Option ℕ → Node → Option BindFault
missing None x = Some (Name x.place x.length)
missing (Some j) x = None

-- the name of a record is not among the names
abbrev pub name_fault : List (List ℕ) → List ℕ → Node → Option BindFault
name_fault names text x = cond (is_symbol x.kind) (missing (symbol_of names text x) x) None

abbrev pub or_else : Option BindFault → Option BindFault → Option BindFault
or_else (Some f) rest = Some f
or_else None rest = rest

-- the first name that is not among the names
abbrev pub unknown : List (List ℕ) → List ℕ → List Node → Option BindFault
unknown names text [] = None
unknown names text (x ∷ xs) = or_else (name_fault names text x) (unknown names text xs)

-- why records are not bound: they are no query that was read from the text, or a name is not among the names
abbrev pub unbound : List (List ℕ) → List ℕ → List Node → Option BindFault
unbound names text xs = cond (is_query (Read (length text)) xs) (unknown names text xs) (Some Records)

-- why the first n records of a sheet are not bound: the sheet is too short, or these records are not
abbrev pub bind_fault : List (List ℕ) → List ℕ → ℕ → List Node → Option BindFault
bind_fault names text n sheet = cond (nat_lt (length sheet) 64) (Some Sheet) (unbound names text (take n sheet))

-- the sheet with its first n records bound
abbrev pub bound_sheet : List (List ℕ) → List ℕ → ℕ → List Node → List Node
bound_sheet names text n sheet = map (bound names text) (take n sheet) ++ drop n sheet
