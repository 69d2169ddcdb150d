-- The words that rows of runs stand for.
use Rattle.std.specs.Prelude.{◌≡◌, ℕ, zero, suc, ◌+◌, ◌-◌, ◌^◌, ◌<◌, ◌≤◌, true, ◌&&◌, ◌≢◌, List, [], ◌∷◌, ◌++◌, map, length, get_or, take, replicate, nat_lt, slice_index, slice_index_or, slice_set, refl}
use Rattle.std.proofs.Math.Path.{sym, ap, ap₂}
use Rattle.std.proofs.Common.{◌∙◌, arith, add-zero}
use Rattle.std.proofs.Math.Logic.{⊎_elim}
use Rattle.std.proofs.lemmas.List.FromFn.{length-map-range_with_len, get_or-map-range_with_len, take-map-range_with_len, map-range_with_len_more, fill_by_all}
use Rattle.std.proofs.lemmas.List.{length-map, map-set, get_or-map, get_or-set_same, get_or-set_other, get_or_past}
use Rattle.std.proofs.lemmas.Bool.{cases_Bool, cases_eq, cases_lt, lt-ltb, le-ltb, cond-true}
use Rattle.std.proofs.lemmas.Bool.Decides.{nat_tests}
use Rattle.word.specs.Words.{has}
use Rattle.word.proofs.Bits.{has_word, word_below, has_past}
use Rattle.book.specs.declared.row.Row.{Row}
use Rattle.book.specs.declared.run.Run.{Run}
use Rattle.book.specs.Words.{roomy, added, droppable, dropped, marked, run_from}
use Rattle.book.specs.Runs.{left, carried, formed, Pushed, Popped}
use Rattle.book.specs.Tables.{row_runs, runs_of, Formed, word_at, table_words}
use Rattle.book.specs.Composed.{word_of_same, word_of_has}
use Rattle.book.specs.Longest.{run_is}
use Rattle.book.specs.RunsLemmas.{left_past, left_next}
use Rattle.book.specs.Rows.{formed_none}

-- a table has as many words as steps, each of 32 bits
pub size_is : (rows : List Row) (n : ℕ) → length (table_words rows n) ≡ n
size_is rows n = length-map-range_with_len (word_at rows) 0 n

pub short : (rows : List Row) (n : ℕ) → n ≤ 255 → length (table_words rows n) ≤ 255
short rows n small = rw size_is small

word_is : (rows : List Row) (n t : ℕ) → t < n → slice_index (table_words rows n) t ≡ word_at rows t
word_is rows n t inside = get_or-map-range_with_len (word_at rows) 0 n t t 0 inside (omega arith)

word_narrow : (rows : List Row) (t : ℕ) → word_at rows t < 2 ^ 32
unfolding word_at
word_narrow rows t = word_below (λ j. carried (runs_of rows j) t) 32

pub narrow : (rows : List Row) (n t : ℕ) → slice_index (table_words rows n) t < 2 ^ 32
narrow rows n t =
    ⊎_elim (λ (inside : t < n). rw (word_is rows n t inside) (word_narrow rows t))
    (λ (out : n ≤ t). let past_all : length (table_words rows n) ≤ t = rw size_is out in rw get_or_past (omega arith)) (cases_lt t n)

has_at : (rows : List Row) (j t : ℕ) → j < 32 → has (word_at rows t) j ≡ carried (runs_of rows j) t
unfolding word_at
has_at rows j t small = has_word (λ k. carried (runs_of rows k) t) 32 j small

-- a symbol that has no row has no run
pub runs_past : (rows : List Row) (j : ℕ) → length rows ≤ j → runs_of rows j ≡ []
runs_past rows j out = get_or_past (map row_runs rows) j [] (rw length-map out)

-- a table of rows with no runs
none_of : (row : Row) (n j : ℕ) → row_runs row ≡ [] → runs_of (replicate n row) j ≡ []
none_of row zero j none = refl
none_of row (suc n) zero none = none
none_of row (suc n) (suc j) none = none_of row n j none

pub none_formed : (row : Row) (k n : ℕ) → row_runs row ≡ [] → Formed k (replicate n row)
none_formed row k n none j = rw (none_of row n j none) (formed_none k)

-- a word of the table has the symbols that its step carries
module _ (rows : List Row) (n : ℕ) (long : length rows ≡ 32) (f : Formed n rows) where
  marked_is : (j t : ℕ) → marked (table_words rows n) j t ≡ carried (runs_of rows j) t
  unfolding left
  marked_is j t =
      ⊎_elim
      (λ (inside : t < n).
      let here : nat_lt t (length (table_words rows n)) ≡ true = lt-ltb t (length (table_words rows n)) (rw size_is inside) in
      ap₂ (λ b w. b && has w j) here (word_is rows n t inside)
      ∙ ⊎_elim (λ (small : j < 32). has_at rows j t small)
      (λ (none : 32 ≤ j). has_past 32 (word_at rows t) j (word_narrow rows t) none ∙ sym (ap (λ runs. carried runs t) (runs_past rows j (omega arith)))) (cases_lt j 32))
      (λ (out : n ≤ t).
      ap (λ b. b && has (slice_index (table_words rows n) t) j) (le-ltb t (length (table_words rows n)) (rw size_is out))
      ∙ sym (ap (nat_lt 0) (left_past n (runs_of rows j) t (f j) out)))
      (cases_lt t n)

  -- what is left at a step i steps on
  left_on : (j t i : ℕ) → i ≤ left (runs_of rows j) t → left (runs_of rows j) (t + i) + i ≡ left (runs_of rows j) t
  left_on j t zero h = rw (add-zero t) (add-zero _)
  left_on j t (suc i) h =
      let so_far = left_on j t i (omega arith) in
      let next = left_next n (runs_of rows j) (t + i) (f j) (omega arith) in
      let place : t + suc i ≡ t + i + 1 = omega arith in
      rw place (omega arith)

  pub none_left : (j t : ℕ) → 32 ≤ j → left (runs_of rows j) t ≡ 0
  unfolding left
  none_left j t none = ap (λ runs. left runs t) (runs_past rows j (omega arith))

  pub run_is_left : (j t : ℕ) → left (runs_of rows j) t ≡ run_from (table_words rows n) j t
  run_is_left j t =
      let k = left (runs_of rows j) t in
      sym (run_is (table_words rows n) j t k
      (λ i h. marked_is j (t + i) ∙ lt-ltb 0 _ (omega (arith, left_on j t i (omega arith))))
      (marked_is j (t + k) ∙ le-ltb 0 _ (omega (arith, left_on j t k (omega arith)))))

-- tables whose symbols are carried alike stand for the same words
words_same : (rows other : List Row) (n : ℕ) → ((j t : ℕ) → j < 32 → t < n → carried (runs_of other j) t ≡ carried (runs_of rows j) t)
    → table_words other n ≡ table_words rows n
unfolding word_at
words_same rows other n alike =
    fill_by_all (word_at rows) (table_words other n) n 0 (size_is other n)
    (λ t inside. word_is other n t inside ∙ word_of_same _ _ 32 (λ j small. alike j t small inside))

rows_formed : (n : ℕ) (rows : List Row) → length rows ≡ 32 → ((j : ℕ) → j < 32 → formed n (runs_of rows j) ≡ true) → Formed n rows
rows_formed n rows long f j =
    ⊎_elim (f j) (λ (none : 32 ≤ j). rw (runs_past rows j (omega arith)) (formed_none n)) (cases_lt j 32)

-- a word was said to the rows
module _ (rows after : List Row) (n w : ℕ) (long : length after ≡ 32) (f : Formed n rows) (pushed : (j : ℕ) → j < 32 → Pushed n (has w j) (runs_of rows j) (runs_of after j)) where
  pub pushed_formed : Formed (n + 1) after
  pushed_formed = rows_formed (n + 1) after long (λ j small. (pushed j small).0)

  kept_before : (j t : ℕ) → j < 32 → t < n → carried (runs_of after j) t ≡ carried (runs_of rows j) t
  kept_before j t small before = (pushed j small).1 t ∙ grind (arith, nat_tests, cases_Bool (carried (runs_of rows j) t), cases_Bool (has w j))

  carried_last : (j : ℕ) → j < 32 → carried (runs_of after j) n ≡ has w j
  carried_last j small =
      let none = left_past n (runs_of rows j) n (f j) (omega arith) in
      (pushed j small).1 n ∙ rw none (grind (arith, nat_tests, cases_Bool (has w j)))

  last_word : w < 2 ^ 32 → word_at after n ≡ w
  unfolding word_at
  last_word small = word_of_same _ _ 32 carried_last ∙ word_of_has w 32 small

  pub pushed_words : n < 255 → w < 2 ^ 32 → table_words after (n + 1) ≡ added (table_words rows n) w
  pushed_words room small =
      map-range_with_len_more (word_at after) 0 n n (omega arith)
      ∙ ap₂ (λ words word. words ++ word ∷ []) (words_same rows after n kept_before) (last_word small)
      ∙ sym (cond-true _ _ _ (lt-ltb (length (table_words rows n)) 255 (rw size_is room)))

-- the last step was forgotten
module _ (rows after : List Row) (n : ℕ) (long : length after ≡ 32) (popped : (j : ℕ) → j < 32 → Popped n (runs_of rows j) (runs_of after j)) where
  pub popped_formed : Formed n after
  popped_formed = rows_formed n after long (λ j small. (popped j small).0)

  kept_below : (j t : ℕ) → j < 32 → t < n → carried (runs_of after j) t ≡ carried (runs_of rows j) t
  kept_below j t small below = (popped j small).1 t ∙ grind (arith, nat_tests, cases_Bool (carried (runs_of rows j) t))

  pub popped_words : (m : ℕ) → n + 1 ≡ m → table_words after n ≡ dropped (table_words rows m)
  popped_words m more =
      let less : n ≤ m = omega arith in
      let size : length (table_words rows m) - 1 ≡ n = rw size_is (omega arith) in
      words_same rows after n kept_below ∙ sym (ap (λ k. take k (table_words rows m)) size ∙ take-map-range_with_len (word_at rows) 0 m n less)

-- a loop over the rows: R holds of each row before and after, as far as it has come, and the others are as they were
abbrev pub Done : (ℕ → List Run → List Run → Type 0) → List Row → List Row → ℕ → Type 0
Done R rows after k =
    ((j : ℕ) → j < k → R j (runs_of rows j) (runs_of after j)) × ((j : ℕ) → k ≤ j → runs_of after j ≡ runs_of rows j)

pub row_is : (rows : List Row) (k : ℕ) (d : Row) → k < length rows → row_runs (slice_index_or rows k d) ≡ runs_of rows k
row_is rows k d inside = sym (get_or-map row_runs rows k d [] inside)

set_same : (rows : List Row) (k : ℕ) (row : Row) → k < length rows → runs_of (slice_set rows k row) k ≡ row_runs row
set_same rows k row inside =
    ap (λ runs. get_or runs k []) (map-set row_runs rows k row) ∙ get_or-set_same (map row_runs rows) k (row_runs row) [] (rw length-map inside)

set_other : (rows : List Row) (k j : ℕ) (row : Row) → j ≢ k → runs_of (slice_set rows k row) j ≡ runs_of rows j
set_other rows k j row other = ap (λ runs. get_or runs j []) (map-set row_runs rows k row) ∙ get_or-set_other (map row_runs rows) k j (row_runs row) [] other

-- the row that is next is as it was
pub next_row : (rows after : List Row) (k : ℕ) (d : Row) → k < length after → ((j : ℕ) → k ≤ j → runs_of after j ≡ runs_of rows j)
    → row_runs (slice_index_or after k d) ≡ runs_of rows k
next_row rows after k d inside others = row_is after k d inside ∙ others k (omega arith)

pub done_more : (R : ℕ → List Run → List Run → Type 0) (rows after : List Row) (k : ℕ) (d row : Row) → k < length after → Done R rows after k
    → R k (row_runs (slice_index_or after k d)) (row_runs row) → Done R rows (slice_set after k row) (k + 1)
done_more R rows after k d row inside done here =
    let was = rw (next_row rows after k d inside done.1) at here in (
      λ j below.
          ⊎_elim (λ (same : j ≡ k). rw same (rw (set_same after k row inside) was))
          (λ (other : j ≢ k). rw (set_other after k j row other) (done.0 j (omega arith))) (cases_eq j k),
      λ j above. let other : j ≢ k = omega arith in set_other after k j row other ∙ done.1 j (omega arith),
    )

-- whether a word can be put at the end, and whether one can be taken off
pub roomy_is : (rows : List Row) (n : ℕ) → n < 255 → true ≡ roomy (table_words rows n)
roomy_is rows n room = sym (lt-ltb (length (table_words rows n)) 255 (rw size_is room))

pub droppable_is : (rows : List Row) (n : ℕ) → 0 < n → true ≡ droppable (table_words rows n)
droppable_is rows n some = sym (lt-ltb 0 (length (table_words rows n)) (rw size_is some))
