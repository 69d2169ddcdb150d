-- What the machine that reads a text keeps in mind, and what its steps do to that. Assumes nothing.
use Rattle.std.specs.Prelude.{◌≡◌, ℕ, Bool, true, false, ◌&&◌, List, [], length, Some, None, Ok, Err, Option, Result, nat_lt, slice_get}
use Rattle.fixed.specs.Items.{piled, listed}
use Rattle.query.specs.declared.node.Kind.{Kind}
use Rattle.query.specs.declared.node.Role.{Role}
use Rattle.grammar.specs.declared.types.Level.{Level}
use Rattle.grammar.specs.declared.types.Point.{Point}
use Rattle.grammar.specs.declared.types.Point.TheVariants.{Start, Opened, Inside}
use Rattle.grammar.specs.declared.types.GrammarFault.{GrammarFault}
use Rattle.grammar.specs.declared.types.GrammarFault.TheVariants.{Ended}
use Rattle.grammar.specs.Spelling.{names}
use Rattle.grammar.specs.Machine.{State, state, move, checked}
use Rattle.words.specs.Words.{name}
use Rattle.parser.specs.declared.machine.Machine.{Machine}

-- the levels, the innermost first, and the records so far
abbrev pub seen : Machine → State
seen m = state m.point (piled m.levels) (listed m.nodes)

-- the innermost level, where the reading stands inside it
abbrev pub inside_top : Point → List Level → Option Level
inside_top Start vs = None
inside_top (Opened r) vs = None
inside_top Inside vs = slice_get vs 0

-- there is room for one record more and one level more
abbrev pub has_room : State → Bool
has_room S = nat_lt (length S.out) 64 && nat_lt (length S.levels) 16

-- a part has begun with its role, and T is kept in mind; or none may begin
abbrev pub Begun : Option Role → Option (Role × State) → State → Type 0
Begun None b T = b ≡ None
Begun (Some r) b T = b ≡ Some (r, T)

-- a word was taken, and T is kept in mind; or it was refused
abbrev pub Stepped : Result (Unit {0}) GrammarFault → Result State GrammarFault → State → Type 0
Stepped (Ok u) says T = says ≡ Ok T
Stepped (Err f) says T = says ≡ Err f

-- a step with a name of a kind, at a place and of a length
abbrev pub name_step : State → Kind → ℕ → ℕ → Result State GrammarFault
name_step S k p l = checked (move S (names k p l)) S (p, name [])

-- the text ends here, after so many bytes
abbrev pub finished : Bool → ℕ → Result (Unit {0}) GrammarFault
finished true size = Ok tt
finished false size = Err (Ended size)
