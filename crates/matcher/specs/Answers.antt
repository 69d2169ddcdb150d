-- What a fit and a listing answer. Assumes nothing.
use Rattle.std.specs.Prelude.{◌≡◌, ℕ, ◌<◌, ◌≤◌, Bool, cond, ◌&&◌, List, ◌++◌, length, map, take, drop, Ok, Err, Result, nat_le, nat_lt}
use Rattle.query.specs.declared.node.Node.{Node}
use Rattle.query.specs.declared.node.Stage.TheVariants.{Bound}
use Rattle.query.specs.Tree.{Query}
use Rattle.query.specs.Stands.{is_query, query_in}
use Rattle.shape.specs.declared.stretch.Stretch.{Stretch}
use Rattle.shape.specs.Fits.{fits}
use Rattle.shape.specs.Listing.{listing}
use Rattle.shape.specs.Ranges.{stretch}
use Rattle.ends.specs.declared.Ends.{Ends}
use Rattle.ends.specs.Positions.{members}
use Rattle.text.specs.declared.fault.SheetFault.{SheetFault}
use Rattle.text.specs.declared.fault.SheetFault.TheVariants as sheet
use Rattle.matcher.specs.declared.faults.FitFault.{FitFault}
use Rattle.matcher.specs.declared.faults.ListFault.{ListFault}
use Rattle.matcher.specs.declared.faults.FitFault.TheVariants as fit
use Rattle.matcher.specs.declared.faults.ListFault.TheVariants as list

-- each refusal's number, and what is returned with it
abbrev pub fit_number : FitFault → ℕ
fit_number fit.Sheet = 6
fit_number fit.Records = 14
fit_number (fit.Stretch n) = 16

abbrev pub fit_returned : FitFault → ℕ
fit_returned fit.Sheet = 64
fit_returned fit.Records = 0
fit_returned (fit.Stretch n) = n

abbrev pub list_number : ListFault → ℕ
list_number list.Sheet = 6
list_number list.Records = 14
list_number (list.Buffer m) = 15

abbrev pub list_returned : ListFault → ℕ
list_returned list.Sheet = 64
list_returned list.Records = 0
list_returned (list.Buffer m) = m

-- what a fit and a listing say where a sheet does not hold the records of a bound shape
abbrev pub fit_refusal : SheetFault → FitFault
fit_refusal sheet.Short = fit.Sheet
fit_refusal sheet.Unbound = fit.Records

abbrev pub list_refusal : SheetFault → ListFault
list_refusal sheet.Short = list.Sheet
list_refusal sheet.Unbound = list.Records

-- the first records of the sheet are a query bound by an alphabet of so many symbols
abbrev pub usable : ℕ → ℕ → List Node → Bool
usable symbols count sheet = nat_le count 64 && is_query (Bound symbols) (take count sheet)

-- a fit: the refusals in their order, else whether the query fits (a, b) seen from 0
abbrev pub fit_answer : ℕ → ℕ → List Node → List ℕ → ℕ → ℕ → Result Bool FitFault
fit_answer symbols count sheet words a b =
    cond (nat_lt (length sheet) 64) (Err fit.Sheet)
    (cond (usable symbols count sheet)
    (cond (nat_le a b && nat_le b (length words)) (Ok (fits words (query_in (take count sheet)) 0 a b)) (Err (fit.Stretch (length words))))
    (Err fit.Records))

-- so many stretches where a buffer has room for them, else a refusal with their number
abbrev pub room_for : ℕ → ℕ → Result ℕ ListFault
room_for m room = cond (nat_le m room) (Ok m) (Err (list.Buffer m))

-- a listing: the refusals in their order, else the number of stretches
abbrev pub list_answer : ℕ → ℕ → List Node → List ℕ → ℕ → Result ℕ ListFault
list_answer symbols count sheet words room =
    cond (nat_lt (length sheet) 64) (Err list.Sheet)
    (cond (usable symbols count sheet) (room_for (length (listing words (query_in (take count sheet)))) room) (Err list.Records))

-- the stretches at the front of the buffer, with what lay behind them
abbrev pub in_front : List Stretch → List Stretch → List Stretch
in_front all before = all ++ drop (length all) before

-- what the buffer holds then: these stretches in front; a refusal leaves it as it was
abbrev pub list_out : Result ℕ ListFault → List Stretch → List Stretch → List Stretch
list_out (Ok m) all before = in_front all before
list_out (Err f) all before = before

-- a listing: the number of stretches and these at the front of the buffer, with what lay behind them;
-- where the buffer holds fewer, their number alone
abbrev pub Listed : List ℕ → Query → List Stretch → List Stretch → Result ℕ ListFault → Type 0
Listed words q before after (Ok m) =
    (m ≡ length (listing words q)) × (length (listing words q) ≤ length before) × (after ≡ listing words q ++ drop (length (listing words q)) before)
Listed words q before after (Err f) =
    (f ≡ list.Buffer (length (listing words q))) × (length before < length (listing words q)) × (after ≡ before)

-- a refusal that leaves the buffer as it was
abbrev pub Refused : ListFault → List Stretch → List Stretch → Result ℕ ListFault → Type 0
Refused f before after r = (r ≡ Err f) × (after ≡ before)

-- the refusals in their order, else the listing
abbrev pub ListsSheet : ℕ → ℕ → List Node → List ℕ → List Stretch → List Stretch → Result ℕ ListFault → Type 0
ListsSheet symbols count sheet words before after r =
    cond (nat_lt (length sheet) 64) (Refused list.Sheet before after r)
    (cond (usable symbols count sheet) (Listed words (query_in (take count sheet)) before after r) (Refused list.Records before after r))

-- the buffer has the stretches `done` from a place on, whatever list stood before that place
abbrev pub Puts : List Stretch → List Stretch → List Stretch → ℕ → Type 0
Puts before after done place =
    (xs base : List Stretch) → length xs ≡ place → before ≡ xs ++ drop (length xs) base → after ≡ (xs ++ done) ++ drop (length (xs ++ done)) base

-- the stretches from a to each position of the set, the lowest first
abbrev pub stretches : ℕ → Ends → List Stretch
stretches a row = map (stretch a) (members row)
