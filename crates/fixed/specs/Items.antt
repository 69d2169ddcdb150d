-- What a list and a stack hold, and what a list answers that may be full.
use Rattle.std.specs.Prelude.{ℕ, List, [], ◌∷◌, ◌++◌, length, take, drop, Result, Ok, Err, if◌then◌else◌, nat_lt}
use Rattle.fixed.specs.declared.Full.{Full}
use Rattle.fixed.specs.declared.list.List.{List as Listed}
use Rattle.fixed.specs.declared.stack.Stack.{Stack}

-- the items of a list
abbrev pub listed : {T : Type 0} {N : ℕ} → Listed T N → List T
listed l = take l.count l.cells

-- the items of a stack, the newest first
abbrev pub piled : {T : Type 0} {N : ℕ} → Stack T N → List T
piled s = drop s.free s.cells

-- whether one item more has room, as an answer
abbrev pub room_for : {T : Type 0} → ℕ → List T → Result Unit Full
room_for n xs = if nat_lt (length xs) n then Ok tt else Err (record {})

-- the items with one more, where it has room
abbrev pub with_one_more : {T : Type 0} → ℕ → List T → T → List T
with_one_more n xs x = if nat_lt (length xs) n then xs ++ x ∷ [] else xs
