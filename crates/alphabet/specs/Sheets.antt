-- The alphabet sheet: what its bytes say, and the first fault of a sheet that is wrong. Assumes nothing.
use Rattle.std.specs.Prelude.{ℕ, zero, suc, ◌+◌, ◌*◌, ◌^◌, Bool, cond, not, ◌&&◌, List, [], ◌∷◌, ◌++◌, length, take, drop, ℤ, pos, ◌-ℤ◌, is_some, Some, None, Ok, Err, Option, Result, ◌==◌, nat_le, nat_lt, slice_index}
use Rattle.std.specs.Option.{option_to_list}
use Rattle.alphabet.specs.declared.bounds.Asked.{Asked}
use Rattle.alphabet.specs.declared.bounds.Asked.TheVariants.{Anyvalue, Zero, Nonzero}
use Rattle.alphabet.specs.declared.bounds.Bounds.{Bounds}
use Rattle.alphabet.specs.declared.fault.SheetFault.{SheetFault}
use Rattle.alphabet.specs.declared.fault.SheetFault.TheVariants.{BadLayout, BadName, BadRow}
use Rattle.alphabet.specs.Carrying.{bounds_right}
use Rattle.alphabet.specs.Every.{every}
use Rattle.alphabet.specs.Names.{is_letter, is_among, operator_words}

-- Layout: byte 0 is the number of symbols, byte 1 the width of a name; the names follow, and behind them the rows.

abbrev pub symbols_said : List ℕ → ℕ
symbols_said sheet = slice_index sheet 0

abbrev pub width_said : List ℕ → ℕ
width_said sheet = slice_index sheet 1

-- 1 to 32 symbols, names 1 to 16 wide, and as many bytes as these ask for
unfoldable pub layout_right : List ℕ → Bool
layout_right sheet =
    (nat_le 1 (symbols_said sheet) && nat_le (symbols_said sheet) 32)
    && ((nat_le 1 (width_said sheet) && nat_le (width_said sheet) 16)
    && length sheet == 2 + symbols_said sheet * width_said sheet + symbols_said sheet * 18)

-- the bytes of a symbol's name
unfoldable pub name_field : List ℕ → ℕ → List ℕ
name_field sheet j = take (width_said sheet) (drop (2 + j * width_said sheet) sheet)

-- the bytes of a symbol's row
unfoldable pub row_field : List ℕ → ℕ → List ℕ
row_field sheet j = take 18 (drop (2 + symbols_said sheet * width_said sheet + j * 18) sheet)

-- Names: letters, padded on the right with spaces.

-- the letters that bytes begin with
abbrev pub letters_of : List ℕ → List ℕ
letters_of [] = []
letters_of (b ∷ bs) = cond (is_letter b) (b ∷ letters_of bs) []

abbrev pub is_space : ℕ → Bool
is_space b = b == 32

-- one or more letters, and nothing but spaces behind them
abbrev pub well_formed : List ℕ → Bool
well_formed field = nat_le 1 (length (letters_of field)) && every is_space (drop (length (letters_of field)) field)

-- the name in a field, where it is well formed and no operator word
abbrev pub name_in : List ℕ → Option (List ℕ)
name_in field =
    cond (well_formed field && not (is_among operator_words (letters_of field))) (Some (letters_of field)) None

-- the name of a symbol
abbrev pub sheet_name : List ℕ → ℕ → List ℕ
sheet_name sheet j = letters_of (name_field sheet j)

-- the names of the symbols below n
abbrev pub sheet_names : List ℕ → ℕ → List (List ℕ)
sheet_names sheet zero = []
sheet_names sheet (suc n) = sheet_names sheet n ++ sheet_name sheet n ∷ []

-- a symbol's name is right when its field has a name, and no earlier symbol has it too
abbrev pub name_right : List ℕ → ℕ → Bool
name_right sheet j = is_some (name_in (name_field sheet j)) && not (is_among (sheet_names sheet j) (sheet_name sheet j))

-- Rows: the lowest rank and the highest, eight bytes each, and what is asked of the first and of the last value.

-- the number that bytes spell, the highest byte first, behind what was read before them
abbrev pub big_endian : ℕ → List ℕ → ℕ
big_endian before [] = before
big_endian before (b ∷ bs) = big_endian (before * 256 + b) bs

-- the upper half of what 64 bits spell stands for the negative numbers, 2^64 below
abbrev pub signed : ℕ → ℤ
signed n = cond (nat_lt n (2 ^ 63)) (pos n) (pos n -ℤ pos (2 ^ 64))

-- the signed number in eight bytes
unfoldable pub number_in : List ℕ → ℤ
number_in bytes = signed (big_endian 0 bytes)

-- 0 asks for any value, 1 for zero, 2 for a value that is not zero
abbrev pub asked_by : ℕ → Option Asked
asked_by b = cond (b == 0) (Some Anyvalue) (cond (b == 1) (Some Zero) (cond (b == 2) (Some Nonzero) None))

-- bounds that ask something there is, and are right
abbrev pub bounds_asking : ℤ → ℤ → Option Asked → Option Asked → Option Bounds
bounds_asking low high (Some first) (Some last) =
    cond (bounds_right (record { low = low; high = high; first = first; last = last }))
    (Some (record { low = low; high = high; first = first; last = last })) None
bounds_asking low high (Some first) None = None
bounds_asking low high None (Some last) = None
bounds_asking low high None None = None

-- the bounds in a row, where they are right
abbrev pub row_bounds : List ℕ → Option Bounds
row_bounds bytes =
    bounds_asking (number_in (take 8 bytes)) (number_in (take 8 (drop 8 bytes))) (asked_by (slice_index bytes 16)) (asked_by (slice_index bytes 17))

-- the bounds of a symbol, where they are right
abbrev pub sheet_row : List ℕ → ℕ → Option Bounds
sheet_row sheet j = row_bounds (row_field sheet j)

-- the right bounds of the symbols below n
abbrev pub sheet_rows : List ℕ → ℕ → List Bounds
sheet_rows sheet zero = []
sheet_rows sheet (suc n) = sheet_rows sheet n ++ option_to_list (sheet_row sheet n)

-- Faults: symbol by symbol, a name before its row.

-- the fault of a symbol
abbrev pub symbol_fault : List ℕ → ℕ → Option SheetFault
symbol_fault sheet j =
    cond (name_right sheet j) (cond (is_some (sheet_row sheet j)) None (Some (BadRow j))) (Some (BadName j))

-- the first of two faults
abbrev pub or_else : Option SheetFault → Option SheetFault → Option SheetFault
or_else (Some fault) later = Some fault
or_else None later = later

-- the first fault among the symbols below n
abbrev pub first_fault : List ℕ → ℕ → Option SheetFault
first_fault sheet zero = None
first_fault sheet (suc n) = or_else (first_fault sheet n) (symbol_fault sheet n)

-- a fault is answered as it is, and none by a success
abbrev pub unless : Option SheetFault → Result (Unit {0}) SheetFault
unless None = Ok tt
unless (Some fault) = Err fault

-- what loading a sheet answers: the layout is judged first, and then the symbols
abbrev pub load_answer : List ℕ → Result (Unit {0}) SheetFault
load_answer sheet = cond (layout_right sheet) (unless (first_fault sheet (symbols_said sheet))) (Err BadLayout)
