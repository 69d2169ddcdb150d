-- Words among words: a search step by step, and what it finds.
use Rattle.std.proofs.Common.{◌≡◌, ℕ, ◌+◌, true, false, cond, ◌||◌, List, [], ◌∷◌, is_some, Some, refl}
use Rattle.std.specs.Str.{bytes_eq}
use Rattle.alphabet.specs.Names.{is_among, index_from}

-- a word has an index just where it is among the words
pub some_among : (k : ℕ) (xs : List (List ℕ)) (word : List ℕ) → is_some (index_from k xs word) ≡ is_among xs word
some_among k [] word = refl
some_among k (x ∷ xs) word =
    let rest = some_among (k + 1) xs word in
    elim (bytes_eq x word) as (λ t. is_some (cond t (Some k) (index_from (k + 1) xs word)) ≡ (t || is_among xs word)) [
      | true ↦ refl
      | false ↦ rest
    ]
