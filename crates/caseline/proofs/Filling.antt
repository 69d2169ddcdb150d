-- The words of the case line, added one after another.
use Rattle.std.proofs.Common.{◌≡◌, ℕ, zero, suc, ◌+◌, ◌<◌, ◌≤◌, List, [], ◌∷◌, ◌++◌, length, get_or, take, ℤ, pos, ◌-ℤ◌, sym, refl, ap, ◌∙◌, ap₂, add-one, arith}
use Rattle.std.proofs.lemmas.List.{take_more, take_all, length-take-le}
use Rattle.std.proofs.lemmas.Bool.{cond-true, lt-ltb}
use Rattle.value.specs.Prices.{price_zero}
use Rattle.book.specs.Words.{roomy, added}
use Rattle.alphabet.specs.declared.bounds.Bounds.{Bounds}
use Rattle.alphabet.specs.Carrying.{step_word}
use Rattle.alphabet.specs.CaseAlphabet.{case_bounds}
use Rattle.caseline.specs.Line.{case_values, words_of, case_words}

-- the word of the step between two prices
abbrev pub between : List Bounds → ℤ → ℤ → ℕ
between rows x y = step_word rows (y -ℤ x) (price_zero x) (price_zero y)

word_at : (rows : List Bounds) (vs : List ℤ) (i : ℕ) → suc i < length vs →
    get_or (words_of rows vs) i 0 ≡ between rows (get_or vs i (pos 0)) (get_or vs (suc i) (pos 0))
word_at rows [] i l = absurd (omega arith)
word_at rows (x ∷ []) i l = absurd (omega arith)
word_at rows (x ∷ (y ∷ vs)) zero l = refl
word_at rows (x ∷ (y ∷ vs)) (suc i) l = word_at rows (y ∷ vs) i (omega arith)

ten : length case_words ≡ 10
unfolding case_words
ten = refl

case_word_at : (i : ℕ) → suc i < 11 → get_or case_words i 0 ≡ between case_bounds (get_or case_values i (pos 0)) (get_or case_values (suc i) (pos 0))
unfolding case_words
case_word_at i l = word_at case_bounds case_values i l

-- one step more
pub filled_more : (ws ws' : List ℕ) (rows : List Bounds) (x y : ℤ) (w i : ℕ) → i < 10 → ws ≡ take i case_words → rows ≡ case_bounds →
    x ≡ get_or case_values i (pos 0) → y ≡ get_or case_values (i + 1) (pos 0) → w ≡ between rows x y → ws' ≡ added ws w →
    ws' ≡ take (i + 1) case_words
filled_more ws ws' rows x y w i l is e f g h k =
    let t = ten in
    let long : length ws ≡ i = ap length is ∙ length-take-le i case_words (omega arith) in
    let short : length ws < 255 = omega arith in
    let word : w ≡ get_or case_words i 0 = h ∙ same ∙ sym (case_word_at i (omega arith)) in
    k ∙ cond-true (roomy ws) (ws ++ w ∷ []) ws (lt-ltb (length ws) 255 short)
    ∙ ap₂ (λ (xs : List ℕ) (v : ℕ). xs ++ v ∷ []) is word
    ∙ sym (take_more case_words i 0 (omega arith))
  where
    same : between rows x y ≡ between case_bounds (get_or case_values i (pos 0)) (get_or case_values (suc i) (pos 0))
    same =
        ap (λ (r : List Bounds). between r x y) e
        ∙ ap₂ (λ (u v : ℤ). between case_bounds u v) f (g ∙ ap (λ (n : ℕ). get_or case_values n (pos 0)) (add-one i))

pub filled_all : (ws : List ℕ) (i : ℕ) → 10 ≤ i → ws ≡ take i case_words → ws ≡ case_words
filled_all ws i l is = let t = ten in is ∙ take_all i case_words (omega arith)
