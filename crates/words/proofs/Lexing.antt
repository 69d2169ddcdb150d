-- A row of letters or of digits, a parenthesis and a space in front of other bytes, cut into words.
use Rattle.std.proofs.Common.{◌≡◌, ℕ, suc, ◌+◌, ◌<◌, ◌≤◌, Bool, true, false, ◌&&◌, ◌||◌, eqb, List, [], ◌∷◌, ◌++◌, length, take, drop, sym, refl, ap, ◌∙◌, subst, ap₂, inl, inr, arith}
use Rattle.std.specs.Char.{is_ascii_digit, is_ascii_alphabetic}
use Rattle.std.proofs.lemmas.List.{take_at, drop_at}
use Rattle.std.proofs.lemmas.Bool.{and_parts, and_left, and_from, or_cases, or_from, cond-true, cond-false, eqb-true, le-leb, lt-leb}
use Rattle.words.specs.declared.Class.{Class}
use Rattle.words.specs.declared.Class.TheVariants.{Blank, Letter, Digit, Close}
use Rattle.words.specs.Words.{class, same, row, begins, Lexeme, name, number, Stream, word, grow, front, glued, stream}
use Rattle.words.proofs.Rows.{whole, same_self}

-- the bytes are none, or begin with a space or a closing parenthesis
abbrev pub parted : List ℕ → Bool
parted [] = true
parted (b ∷ bs) = eqb b 32 || eqb b 41

not_begun : (k : Class) (bs : List ℕ) → same k Blank ≡ false → same k Close ≡ false → parted bs ≡ true → begins k bs ≡ false
not_begun k [] x y e = refl
not_begun k (b ∷ bs) x y e = elim (or_cases (eqb b 32) (eqb b 41) e) [
  | inl z ↦ subst (λ c. same k (class c) ≡ false) (sym (eqb-true b 32 z)) x
  | inr z ↦ subst (λ c. same k (class c) ≡ false) (sym (eqb-true b 41 z)) y
]

abbrev all_class : Class → List ℕ → Bool
all_class k [] = true
all_class k (b ∷ bs) = same k (class b) && all_class k bs

row_none : (k : Class) (bs : List ℕ) → begins k bs ≡ false → row k bs ≡ 0
row_none k [] e = refl
row_none k (b ∷ bs) e = cond-false (same k (class b)) _ _ e

row_of : (k : Class) (xs bs : List ℕ) → all_class k xs ≡ true → begins k bs ≡ false → row k (xs ++ bs) ≡ length xs
row_of k [] bs a e = row_none k bs e
row_of k (x ∷ xs) bs a e =
    let h = and_parts (same k (class x)) (all_class k xs) a in
    cond-true (same k (class x)) _ _ h.0 ∙ ap suc (row_of k xs bs h.1 e)

-- the row is one word
module _ (k : Class) (mk : List ℕ → Lexeme) (fr : (p b : ℕ) (bs : List ℕ) (s : Stream) → front k p b bs s ≡ glued (begins k bs) (mk (b ∷ [])) p b s) (gr : (b : ℕ) (bs : List ℕ) → grow (mk bs) b ≡ mk (b ∷ bs)) where
  in_front : (p x : ℕ) (xs bs : List ℕ) → class x ≡ k → all_class k xs ≡ true → begins k bs ≡ false →
      stream p ((x ∷ xs) ++ bs) ≡ word p (mk (x ∷ xs)) (stream (p + length (x ∷ xs)) bs)
  in_front p x xs bs c a e =
      let r : row k ((x ∷ xs) ++ bs) ≡ length (x ∷ xs) = row_of k (x ∷ xs) bs (and_from _ _ (same_self k (class x) c) a) e in
      whole k mk fr gr p ((x ∷ xs) ++ bs) (omega arith) c
      ∙ ap (λ n. word p (mk (take n ((x ∷ xs) ++ bs))) (stream (p + n) (drop n ((x ∷ xs) ++ bs)))) r
      ∙ ap₂ (λ ys zs. word p (mk ys) (stream (p + length (x ∷ xs)) zs)) (take_at (x ∷ xs) bs (length (x ∷ xs)) refl) (drop_at (x ∷ xs) bs (length (x ∷ xs)) refl)

abbrev pub letters : List ℕ → Bool
letters [] = true
letters (b ∷ bs) = is_ascii_alphabetic b && letters bs

letter_class : (b : ℕ) → is_ascii_alphabetic b ≡ true → class b ≡ Letter
letter_class b e = cond-true (is_ascii_alphabetic b) _ _ e

all_letters : (bs : List ℕ) → letters bs ≡ true → all_class Letter bs ≡ true
all_letters [] e = refl
all_letters (b ∷ bs) e = let h = and_parts (is_ascii_alphabetic b) (letters bs) e in and_from _ _ (same_self Letter (class b) (letter_class b h.0)) (all_letters bs h.1)

-- letters in front are a name
pub name_front : (p : ℕ) (xs bs : List ℕ) → letters xs ≡ true → 0 < length xs → parted bs ≡ true → stream p (xs ++ bs) ≡ word p (name xs) (stream (p + length xs) bs)
name_front p [] bs l h e = absurd (omega arith)
name_front p (x ∷ xs) bs l h e =
    let a = and_parts (is_ascii_alphabetic x) (letters xs) l in
    in_front Letter name (λ p b bs s. refl) (λ b bs. refl) p x xs bs (letter_class x a.0) (all_letters xs a.1) (not_begun Letter bs refl refl e)

-- a byte that is a digit
abbrev pub IsDigit : ℕ → Type 0
IsDigit b = (48 ≤ b) × (b ≤ 57)

digit_class : (b : ℕ) → IsDigit b → class b ≡ Digit
digit_class b h =
    let l : is_ascii_alphabetic b ≡ false = or_from _ _ (and_left _ _ (lt-leb 65 b (omega arith))) (and_left _ _ (lt-leb 97 b (omega arith))) in
    cond-false (is_ascii_alphabetic b) _ _ l ∙ cond-true (is_ascii_digit b) _ _ (and_from _ _ (le-leb 48 b h.0) (le-leb b 57 h.1))

abbrev pub Digits : List ℕ → Type 0
Digits [] = Unit {0}
Digits (b ∷ bs) = IsDigit b × Digits bs

all_digits : (bs : List ℕ) → Digits bs → all_class Digit bs ≡ true
all_digits [] h = refl
all_digits (b ∷ bs) h = and_from _ _ (same_self Digit (class b) (digit_class b h.0)) (all_digits bs h.1)

-- digits in front are a number
pub number_front : (p : ℕ) (xs bs : List ℕ) → Digits xs → 0 < length xs → parted bs ≡ true → stream p (xs ++ bs) ≡ word p (number xs) (stream (p + length xs) bs)
number_front p [] bs d h e = absurd (omega arith)
number_front p (x ∷ xs) bs d h e =
    in_front Digit number (λ p b bs s. refl) (λ b bs. refl) p x xs bs (digit_class x d.0) (all_digits xs d.1) (not_begun Digit bs refl refl e)
