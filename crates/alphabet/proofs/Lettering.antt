-- The letters that bytes begin with, and the spaces behind them.
use Rattle.std.proofs.Common.{◌≡◌, ℕ, suc, ◌-◌, ◌≤◌, Bool, true, false, cond, not, ◌&&◌, eqb, leb, List, [], ◌∷◌, length, take, drop, Some, None, sym, refl, ap, ◌∙◌, arith}
use Rattle.std.proofs.lemmas.List.{take_rest}
use Rattle.std.proofs.lemmas.Bool.{and_from, and_right, not_from_true, not_from_false}
use Rattle.std.proofs.lemmas.Bool.Decides.{nat_tests}
use Rattle.alphabet.specs.Every.{every}
use Rattle.alphabet.specs.Names.{is_letter, is_among, operator_words}
use Rattle.alphabet.specs.Sheets.{letters_of, is_space, name_in}

pub letters_fit : (bs : List ℕ) → length (letters_of bs) ≤ length bs
letters_fit [] = omega arith
letters_fit (b ∷ bs) =
    let r = letters_fit bs in
    elim (is_letter b) as (λ t. length (cond t (b ∷ letters_of bs) []) ≤ suc (length bs)) [ true ↦ omega arith | false ↦ omega arith ]

pub letters_are : (bs : List ℕ) → every is_letter (letters_of bs) ≡ true
letters_are [] = refl
letters_are (b ∷ bs) = go (is_letter b) refl (letters_are bs)
  where
    go : (t : Bool) → is_letter b ≡ t → every is_letter (letters_of bs) ≡ true → every is_letter (cond t (b ∷ letters_of bs) []) ≡ true
    go true e rest = and_from (is_letter b) (every is_letter (letters_of bs)) e rest
    go false e rest = refl

-- the name in a field, by its letters and the bytes behind them
module _ (bs word : List ℕ) (is : word ≡ letters_of bs) where
  abbrev behind : List ℕ
  behind = take (length bs - length word) (drop (length word) bs)

  name_in_is : name_in bs ≡ cond ((leb 1 (length word) && every is_space behind) && not (is_among operator_words word)) (Some word) None
  name_in_is =
      ap (λ w. cond ((leb 1 (length w) && every is_space (drop (length w) bs)) && not (is_among operator_words w)) (Some w) None) (sym is)
      ∙ ap (λ r. cond ((leb 1 (length word) && every is_space r) && not (is_among operator_words word)) (Some word) None)
      (sym (take_rest bs (length word)))

  pub no_letters : eqb (length word) 0 ≡ true → None ≡ name_in bs
  no_letters e =
      let short : leb 1 (length word) ≡ false = grind (arith, nat_tests) in
      sym (name_in_is ∙ ap (λ t. cond ((t && every is_space behind) && not (is_among operator_words word)) (Some word) None) short)

  pub not_padded : every is_space behind ≡ false → None ≡ name_in bs
  not_padded f =
      let both : (leb 1 (length word) && every is_space behind) ≡ false = and_right (leb 1 (length word)) (every is_space behind) f in
      sym (name_in_is ∙ ap (λ t. cond (t && not (is_among operator_words word)) (Some word) None) both)

  pub an_operator : is_among operator_words word ≡ true → None ≡ name_in bs
  an_operator t =
      let all : ((leb 1 (length word) && every is_space behind) && not (is_among operator_words word)) ≡ false =
      and_right (leb 1 (length word) && every is_space behind) (not (is_among operator_words word)) (not_from_true (is_among operator_words word) t) in
      sym (name_in_is ∙ ap (λ t. cond t (Some word) None) all)

  pub a_name : eqb (length word) 0 ≡ false → every is_space behind ≡ true → is_among operator_words word ≡ false → Some word ≡ name_in bs
  a_name e t f =
      let long : leb 1 (length word) ≡ true = grind (arith, nat_tests) in
      let all : ((leb 1 (length word) && every is_space behind) && not (is_among operator_words word)) ≡ true =
      and_from (leb 1 (length word) && every is_space behind) (not (is_among operator_words word))
      (and_from (leb 1 (length word)) (every is_space behind) long t) (not_from_false (is_among operator_words word) f) in
      sym (name_in_is ∙ ap (λ t. cond t (Some word) None) all)
