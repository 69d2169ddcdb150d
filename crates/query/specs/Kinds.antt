-- The numbers of the kinds. Assumes nothing.
use Rattle.std.specs.Prelude.{ℕ, Bool, ◌||◌, ◌==◌}
use Rattle.query.specs.declared.node.Kind.{Kind}
use Rattle.query.specs.declared.node.Kind.TheVariants.{Symbol, Any, Concat, Exact, Atleast, Atmost, In, Precisely, Noless, Nomore, And, Or, Inorder}

-- each kind's number
abbrev pub kind_number : Kind → ℕ
kind_number Symbol = 0
kind_number Any = 1
kind_number Concat = 2
kind_number Exact = 3
kind_number Atleast = 4
kind_number Atmost = 5
kind_number In = 6
kind_number Precisely = 7
kind_number Noless = 8
kind_number Nomore = 9
kind_number And = 10
kind_number Or = 11
kind_number Inorder = 12

-- whether two kinds are one
abbrev pub same_kind : Kind → Kind → Bool
same_kind k l = kind_number k == kind_number l

-- exact, atleast or atmost
abbrev pub repeats : Kind → Bool
repeats k = same_kind k Exact || (same_kind k Atleast || same_kind k Atmost)
