-- Lists of words that are all below 2 ^ 32.
use Rattle.std.specs.Prelude.{◌≡◌, ℕ, ◌^◌, ◌<◌, ◌≤◌, ◌≢◌, List, length, take, replicate, slice_index, slice_set}
use Rattle.std.proofs.Common.{⊎_elim, arith}
use Rattle.std.proofs.lemmas.List.{length-take, length-replicate, get_or-take, get_or-set_same, get_or-set_other, get_or-replicate, get_or_past}
use Rattle.std.proofs.lemmas.Bool.{cases_eq, cases_lt}

abbrev pub Narrow : List ℕ → Type 0
Narrow xs = (t : ℕ) → slice_index xs t < 2 ^ 32

pub narrow_set : (xs : List ℕ) (n w : ℕ) → n < length xs → w < 2 ^ 32 → Narrow xs → Narrow (slice_set xs n w)
narrow_set xs n w within small narrow t =
    ⊎_elim (λ (same : t ≡ n). rw (same, get_or-set_same) small) (λ (other : t ≢ n). rw get_or-set_other (narrow t)) (cases_eq t n)

pub narrow_none : (n : ℕ) → Narrow (replicate n 0)
narrow_none n t =
    ⊎_elim (λ (inside : t < n). rw get_or-replicate (omega arith))
    (λ (past : n ≤ t). let long : length {A = ℕ} (replicate n 0) ≤ t = simp length-replicate past in rw get_or_past (omega arith)) (cases_lt t n)

pub narrow_take : (n : ℕ) (xs : List ℕ) → Narrow xs → Narrow (take n xs)
narrow_take n xs narrow t =
    ⊎_elim (λ (inside : t < n). rw get_or-take (narrow t))
    (λ (past : n ≤ t). let long : length (take n xs) ≤ t = simp length-take (omega arith) in rw get_or_past (omega arith)) (cases_lt t n)
