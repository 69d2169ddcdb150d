-- What writing answers, and what the buffer then holds. Assumes nothing.
use Rattle.std.specs.Prelude.{◌≡◌, ℕ, true, cond, List, map, length, take, Some, None, Ok, Err, Option, Result, nat_lt}
use Rattle.query.specs.declared.node.Node.{Node}
use Rattle.query.specs.declared.node.Stage.TheVariants.{Bound}
use Rattle.query.specs.Tree.{Query, records, alike}
use Rattle.query.specs.Stands.{is_query, query_in}
use Rattle.text.specs.declared.fault.WriteFault.{WriteFault}
use Rattle.text.specs.declared.fault.WriteFault.TheVariants.{Sheet, Buffer, Records}
use Rattle.text.specs.Binding.{bound, unknown}
use Rattle.text.specs.Promise.{StandsFor}
use Rattle.writer.specs.Writing.{text_of, put_at}

-- why records are not written: the sheet or the buffer is short, or the records are no query that was bound by such an alphabet
abbrev pub write_fault : List (List ℕ) → List Node → ℕ → ℕ → Option WriteFault
write_fault names xs sheet buffer =
    cond (nat_lt sheet 64) (Some Sheet) (cond (nat_lt buffer 4096) (Some Buffer) (cond (is_query (Bound (length names)) xs) None (Some Records)))

abbrev pub unless : Option WriteFault → ℕ → Result ℕ WriteFault
unless None n = Ok n
unless (Some f) n = Err f

-- the length of the text of the records' query, or why it is not written: the sheet or the buffer is short, or the records are no query that was bound by such an alphabet
abbrev pub write_answer : List (List ℕ) → List Node → ℕ → ℕ → Result ℕ WriteFault
write_answer names xs sheet buffer =
    cond (nat_lt sheet 64) (Err Sheet)
    (cond (nat_lt buffer 4096) (Err Buffer) (cond (is_query (Bound (length names)) xs) (Ok (length (text_of names (query_in xs)))) (Err Records)))

-- the text in front of the buffer, the bytes behind it as they were; a refusal leaves all as it was
abbrev pub written_out : Result ℕ WriteFault → List (List ℕ) → List Node → List ℕ → List ℕ
written_out (Ok n) names xs out = put_at out 0 (text_of names (query_in xs))
written_out (Err f) names xs out = out

-- a text stands for a query whose names are all in the alphabet, and which is equal to this one once it is bound
pub record ReadsBack (names : List (List ℕ)) (q : Query) (text : List ℕ) : Type 0 where
  pub read : Query
  pub stands : StandsFor read text
  pub known : unknown names text (records read) ≡ None
  pub same : alike (query_in (map (bound names text) (records read))) q ≡ true

-- the bytes that were written, read and bound by the alphabet, give an equal query
abbrev pub WrittenBack : Result ℕ WriteFault → List (List ℕ) → List Node → List ℕ → Type 0
WrittenBack (Ok n) names xs out = ReadsBack names (query_in xs) (take n out)
WrittenBack (Err f) names xs out = Unit {0}
