-- What tidying promises. Assumes nothing.
use Rattle.std.specs.Prelude.{◌≡◌, ℕ, ◌-◌, ◌≤◌, true, false, cond, ◌&&◌, List, ◌++◌, length, take, drop, replicate, Some, None, Ok, Err, Option, Result, nat_le, nat_lt}
use Rattle.query.specs.declared.node.Node.{Node}
use Rattle.query.specs.declared.node.Role.{Role}
use Rattle.query.specs.declared.node.Stage.{Stage}
use Rattle.query.specs.declared.node.Stage.TheVariants.{Bound}
use Rattle.query.specs.Tree.{Query, records, levels}
use Rattle.query.specs.Rules.{keeps, AreQuery}
use Rattle.query.specs.Stands.{blank, is_query, query_in}
use Rattle.rules.specs.Applies.{applies}
use Rattle.rules.specs.Laws.{FitAlike}
use Rattle.rules.specs.Places.{Here}
use Rattle.tidy.specs.declared.fault.TidyFault.{TidyFault}
use Rattle.tidy.specs.declared.fault.TidyFault.TheVariants.{Short, Unbound}

-- why the first `count` records of a sheet are not tidied: the sheet has fewer than 64 records, or those are no query bound by at most 32 symbols
abbrev pub refusal : ℕ → List Node → Option TidyFault
refusal count sheet =
    cond (nat_lt (length sheet) 64) (Some Short) (cond (nat_le count 64 && is_query (Bound 32) (take count sheet)) None (Some Unbound))

-- what the new records are, beside the old ones
pub record Tidied (old new : List Node) : Type 0 where
  -- the new query fits exactly the stretches of the old, on every line, null ones included, seen from every position
  pub same : (words : List ℕ) → FitAlike words (query_in old) (query_in new)
  -- no rule applies to it
  pub tidy : applies (query_in new) ≡ false
  -- it is a bound query for as few symbols as the old one was
  pub bound : (symbols : ℕ) → AreQuery (Bound symbols) old → AreQuery (Bound symbols) new

-- what tidying answers, and what it leaves in the sheet
abbrev pub Answers : ℕ → List Node → List Node → Result ℕ TidyFault → Type 0
Answers count before after (Ok m) =
    (refusal count before ≡ None) × (m ≤ count) × Tidied (take count before) (take m after) × (drop m after ≡ replicate (length before - m) blank)
Answers count before after (Err fault) = (refusal count before ≡ Some fault) × (after ≡ before)

-- r says what q says in no more records and no more levels, and keeps what q keeps
pub record Settled (q r : Query) : Type 0 where
  pub same : (words : List ℕ) → FitAlike words q r
  pub fewer : length (records r) ≤ length (records q)
  pub flatter : levels r ≤ levels q
  pub kept : (s : Stage) (o : Role) → keeps s o q ≡ true → keeps s o r ≡ true

-- a query has given way to another that says the same and to which no rule applies
abbrev pub Settles : List Node → List Node → ℕ → Type 0
Settles ns after m =
    (s : Stage) (o : Role) (q : Query) (rest : List Node) → keeps s o q ≡ true → levels q ≤ 16 → Here ns 0 q rest →
    (r : Query) × Settled q r × (applies r ≡ false) × (m ≡ length (records r))
    × (after ≡ records r ++ (rest ++ replicate (length (records q) - length (records r)) blank))
