-- What a row of words and how many of them are held say of the list that they stand for.
use Rattle.std.specs.Prelude.{◌≡◌, ℕ, ◌+◌, ◌-◌, ◌<◌, ◌≤◌, true, false, ◌&&◌, List, [], ◌∷◌, ◌++◌, length, take, nat_lt, slice_index, slice_set}
use Rattle.std.proofs.Common.{sym, ap, ap₂, ◌∙◌, arith}
use Rattle.std.proofs.lemmas.List.{length-take, length-take-le, take_more_set, take-take, get_or-take}
use Rattle.std.proofs.lemmas.Bool.{lt-ltb, le-ltb, cond-true}
use Rattle.word.specs.Words.{has}
use Rattle.fixed.specs.declared.list.List.{List as Listed}
use Rattle.fixed.specs.Items.{listed}
use Rattle.book.specs.Words.{roomy, added, droppable, dropped, marked}

pub marked_past : (n : ℕ) (xs : List ℕ) (j t : ℕ) → n ≤ t → marked (take n xs) j t ≡ false
marked_past n xs j t past =
    ap (λ b. b && has (slice_index (take n xs) t) j) (le-ltb t (length (take n xs)) (simp length-take (omega arith)))

module _ (n : ℕ) (xs : List ℕ) (within : n ≤ length xs) where
  pub roomy_is : n < 255 → true ≡ roomy (take n xs)
  roomy_is room = sym (lt-ltb (length (take n xs)) 255 (simp length-take-le room))

  pub droppable_is : 0 < n → true ≡ droppable (take n xs)
  droppable_is some = sym (lt-ltb 0 (length (take n xs)) (simp length-take-le some))

  pub dropped_is : take (n - 1) xs ≡ dropped (take n xs)
  dropped_is =
      let less : n - 1 ≤ n = omega arith in
      sym (ap (λ k. take (k - 1) (take n xs)) (length-take-le n xs within) ∙ take-take (n - 1) n xs less)

  pub marked_is : (j t : ℕ) → t < n → has (slice_index xs t) j ≡ marked (take n xs) j t
  marked_is j t in-n =
      let inside : nat_lt t (length (take n xs)) ≡ true = lt-ltb t _ (simp length-take-le in-n) in
      sym (ap₂ (λ b w. b && has w j) inside (get_or-take n xs t 0 in-n))

pub added_is : (n : ℕ) (xs : List ℕ) (w : ℕ) → n < length xs → n < 255 → take (n + 1) (slice_set xs n w) ≡ added (take n xs) w
added_is n xs w within room =
    take_more_set xs n w within
    ∙ sym (cond-true (roomy (take n xs)) (take n xs ++ w ∷ []) (take n xs) (sym (roomy_is n xs (omega arith) room)))

pub short_take : (n : ℕ) (xs : List ℕ) → n ≤ 255 → length (take n xs) ≤ 255
short_take n xs short = simp length-take (omega arith)

-- the words of a sheet
pub short_listed : (l : Listed ℕ 255) → length (listed l) ≤ 255
short_listed l = let within = l.within in short_take l.count l.cells (omega arith)
