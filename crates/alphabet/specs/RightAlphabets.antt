-- What every alphabet keeps, in plain words. Assumes nothing.
use Rattle.std.specs.Prelude.{◌≡◌, ℕ, ◌<◌, ◌≤◌, ◌⊎◌, List, [], length, neg_ℤ, ◌≤ℤ◌, ◌≢◌, slice_index_or}
use Rattle.std.specs.List.{AllByRecursion}
use Rattle.alphabet.specs.Carrying.{furthest}
use Rattle.alphabet.specs.Names.{operator_words}
use Rattle.alphabet.specs.declared.bounds.Bounds.{Bounds}

-- A to Z, and a to z
abbrev pub Letter : ℕ → Type 0
Letter b = ((65 ≤ b) × (b ≤ 90)) ⊎ ((97 ≤ b) × (b ≤ 122))

-- a word that may name a symbol: 1 to 16 letters, and no operator word
pub record Names (word : List ℕ) : Type 0 where
  pub some_letters : 1 ≤ length word
  pub few_letters : length word ≤ 16
  pub letters : AllByRecursion Letter word
  pub no_operator : AllByRecursion (λ operator. operator ≢ word) operator_words

-- bounds whose ends are ordered and within ± the furthest
pub record Bounded (x : Bounds) : Type 0 where
  pub ordered : x.low ≤ℤ x.high
  pub low_enough : neg_ℤ furthest ≤ℤ x.low
  pub high_enough : x.high ≤ℤ furthest

-- 1 to 32 symbols, each with a name of its own and with bounds
pub record RightAlphabet (names : List (List ℕ)) (rows : List Bounds) : Type 0 where
  pub some_symbols : 1 ≤ length names
  pub few_symbols : length names ≤ 32
  pub matched : length rows ≡ length names
  pub named : AllByRecursion Names names
  pub bounded : AllByRecursion Bounded rows
  pub distinct : (i j : ℕ) → i < length names → j < length names → slice_index_or names i [] ≡ slice_index_or names j [] → i ≡ j
