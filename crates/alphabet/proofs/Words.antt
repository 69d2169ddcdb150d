-- The words of specs/ for lists, read as the library's.
use Rattle.std.proofs.Common.{◌≡◌, ℕ, suc, ◌+◌, Bool, true, false, cond, not, ◌&&◌, List, [], ◌∷◌, map, length, take, Some, None, nat_lt, sym, refl, ap, ◌∙◌, arith}
use Rattle.std.specs.List.{list_all, position_from, position_or_len, position}
use Rattle.std.specs.Option.{unwrap_or}
use Rattle.std.specs.Str.{bytes_eq}
use Rattle.std.proofs.lemmas.Bool.{ltb-false}
use Rattle.std.proofs.lemmas.List.Recursion.{same_from_clauses}
use Rattle.std.proofs.lemmas.List.Sums.{prefix_len-le-length}
use Rattle.alphabet.specs.Every.{every}
use Rattle.alphabet.specs.Names.{is_letter, index_from}
use Rattle.alphabet.specs.Sheets.{letters_of}

pub every_is : {X : Type 0} (test : X → Bool) (xs : List X) → every test xs ≡ list_all test xs
every_is test = same_from_clauses (every test) (list_all test) (λ x b. test x && b) refl (λ _ _. refl) (λ _ _. refl)

-- X is what holds a word, and f gives the word
module _ {X : Type 0} (f : X → List ℕ) (word : List ℕ) where
  pub index_is : (k : ℕ) (xs : List X) → index_from k (map f xs) word ≡ position_from (λ x. bytes_eq (f x) word) k xs
  index_is k [] = refl
  index_is k (x ∷ xs) = ap (cond (bytes_eq (f x) word) (Some k)) (index_is (k + 1) xs)

-- the letters that bytes begin with, cut at the first byte that is none
abbrev pub other : ℕ → Bool
other b = not (is_letter b)

letters_is : (bs : List ℕ) → letters_of bs ≡ take (position_or_len other bs) bs
letters_is [] = refl
letters_is (b ∷ bs) =
    let rest = letters_is bs in
    elim (is_letter b) as (λ t. cond t (b ∷ letters_of bs) [] ≡ take (cond (not (not t)) (1 + position_or_len other bs) 0) (b ∷ bs)) [
      | true ↦ ap (λ cs. b ∷ cs) rest ∙ (let more : suc (position_or_len other bs) ≡ 1 + position_or_len other bs = omega arith in ap (λ n. take n (b ∷ bs)) more)
      | false ↦ refl
    ]

pub cut_at_position : (bs : List ℕ) → take (unwrap_or (position other bs) (length bs)) bs ≡ letters_of bs
cut_at_position bs =
    let at = position_or_len other bs in
    ap (λ n. take n bs)
    (elim (nat_lt at (length bs)) as (λ t. nat_lt at (length bs) ≡ t → unwrap_or (cond t (Some at) None) (length bs) ≡ at) [
      | true ↦ λ e. refl
      | false ↦ λ e. omega (arith, prefix_len-le-length (λ b. not (other b)) bs, ltb-false at (length bs) e)
    ] refl)
    ∙ sym (letters_is bs)
