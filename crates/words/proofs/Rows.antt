-- A row of bytes of one class, step by step, and what a stream begins with.
use Rattle.std.proofs.Common.{◌≡◌, ℕ, suc, ◌+◌, ◌<◌, ◌≤◌, Bool, true, false, cond, eqb, List, [], ◌∷◌, length, get_or, take, drop, Some, None, not, nat_lt, sym, refl, ap, ◌∙◌, add-zero, arith, eq-eqb}
use Rattle.std.proofs.lemmas.Bool.{eqb-true, both_ways, ltb-false}
use Rattle.std.proofs.lemmas.List.{at_drop_more, at_drop_all, drop-drop, get_or-drop, length-drop}
use Rattle.std.proofs.lemmas.List.Sums.{prefix_len-le-length}
use Rattle.std.specs.List.{prefix_len, position, position_or_len}
use Rattle.std.specs.Option.{unwrap_or}
use Rattle.words.specs.declared.Class.{Class}
use Rattle.words.specs.declared.Class.TheVariants.{Blank, Letter, Digit, Open, Close, Other}
use Rattle.words.specs.Words.{class, class_number, same, row, begins, Lexeme, name, number, Stream, ends, word, grow, glued, front, stream}

abbrev decode : ℕ → Class
decode n = cond (eqb n 0) Blank (cond (eqb n 1) Letter (cond (eqb n 2) Digit (cond (eqb n 3) Open (cond (eqb n 4) Close Other))))

back : (k : Class) → decode (class_number k) ≡ k
back Blank = refl
back Letter = refl
back Digit = refl
back Open = refl
back Close = refl
back Other = refl

pub same_self : (k c : Class) → c ≡ k → same k c ≡ true
same_self k c e = eq-eqb (class_number k) (class_number c) (ap class_number (sym e))

pub row_prefix : (k : Class) (bs : List ℕ) → prefix_len (λ b. same k (class b)) bs ≡ row k bs
row_prefix k [] = refl
row_prefix k (b ∷ bs) = let more = row_prefix k bs in grind arith

-- the first byte of another class stands behind the row
abbrev pub other : Class → ℕ → Bool
other k b = not (same k (class b))

row_is : (k : Class) (bs : List ℕ) → position_or_len (other k) bs ≡ prefix_len (λ b. same k (class b)) bs
row_is k [] = refl
row_is k (b ∷ bs) =
    let rest = row_is k bs in
    elim (same k (class b)) as (λ t. cond (not (not t)) (1 + position_or_len (other k) bs) 0 ≡ cond t (1 + prefix_len (λ b. same k (class b)) bs) 0) [
      | true ↦ ap (λ n. 1 + n) rest
      | false ↦ refl
    ]

pub row_at_other : (k : Class) (bs : List ℕ) → unwrap_or (position (other k) bs) (length bs) ≡ prefix_len (λ b. same k (class b)) bs
row_at_other k bs =
    let at = position_or_len (other k) bs in
    (elim (nat_lt at (length bs)) as (λ t. nat_lt at (length bs) ≡ t → unwrap_or (cond t (Some at) None) (length bs) ≡ at) [
      | true ↦ λ e. refl
      | false ↦ λ e. omega (arith, prefix_len-le-length (λ b. not (other k b)) bs, ltb-false at (length bs) e)
    ] refl)
    ∙ row_is k bs

is_class : (k c : Class) → same k c ≡ true → c ≡ k
is_class k c e = sym (back c) ∙ ap decode (sym (eqb-true (class_number k) (class_number c) e)) ∙ back k

-- blanks in front say nothing
pub skip : (p : ℕ) (bs : List ℕ) → stream p bs ≡ stream (p + row Blank bs) (drop (row Blank bs) bs)
skip p [] = refl
skip p (b ∷ bs) = go (class b) refl (skip (p + 1) bs)
  where
    stay : (c : Class) → class b ≡ c → front c p b bs (stream (p + 1) bs) ≡ stream (p + 0) (b ∷ bs)
    stay c e = ap (λ k. front k p b bs (stream (p + 1) bs)) (sym e) ∙ ap (λ q. stream q (b ∷ bs)) (sym (add-zero p))

    go : (c : Class) → class b ≡ c → stream (p + 1) bs ≡ stream (p + 1 + row Blank bs) (drop (row Blank bs) bs) → front c p b bs (stream (p + 1) bs) ≡ stream (p + cond (same Blank c) (suc (row Blank bs)) 0) (drop (cond (same Blank c) (suc (row Blank bs)) 0) (b ∷ bs))
    go Blank e ih = let q : p + 1 + row Blank bs ≡ p + suc (row Blank bs) = omega arith in ih ∙ ap (λ q. stream q (drop (row Blank bs) bs)) q
    go Letter e ih = stay Letter e
    go Digit e ih = stay Digit e
    go Open e ih = stay Open e
    go Close e ih = stay Close e
    go Other e ih = stay Other e

-- a row of class k, which mk makes a word
module _ (k : Class) (mk : List ℕ → Lexeme) (fr : (p b : ℕ) (bs : List ℕ) (s : Stream) → front k p b bs s ≡ glued (begins k bs) (mk (b ∷ [])) p b s) (gr : (b : ℕ) (bs : List ℕ) → grow (mk bs) b ≡ mk (b ∷ bs)) where
  Long : ℕ → ℕ → List ℕ → Type 0
  Long p b bs = front k p b bs (stream (p + 1) bs) ≡ word p (mk (b ∷ take (row k bs) bs)) (stream (p + suc (row k bs)) (drop (row k bs) bs))

  long : (p b : ℕ) (bs : List ℕ) → Long p b bs
  unfolding Long
  long p b [] = fr p b [] ends
  long p b (d ∷ ds) = fr p b (d ∷ ds) (stream (p + 1) (d ∷ ds)) ∙ go (same k (class d)) refl (long (p + 1) d ds)
    where
      n : Bool → ℕ
      n t = cond t (suc (row k ds)) 0

      go : (t : Bool) → same k (class d) ≡ t → front k (p + 1) d ds (stream (p + 1 + 1) ds) ≡ word (p + 1) (mk (d ∷ take (row k ds) ds)) (stream (p + 1 + suc (row k ds)) (drop (row k ds) ds)) → glued t (mk (b ∷ [])) p b (stream (p + 1) (d ∷ ds)) ≡ word p (mk (b ∷ take (n t) (d ∷ ds))) (stream (p + suc (n t)) (drop (n t) (d ∷ ds)))
      go true e ih =
          let q : p + 1 + suc (row k ds) ≡ p + suc (suc (row k ds)) = omega arith in
          ap (λ c. glued true (mk (b ∷ [])) p b (front c (p + 1) d ds (stream (p + 1 + 1) ds))) (is_class k (class d) e)
          ∙ ap (glued true (mk (b ∷ [])) p b) ih
          ∙ ap (λ l. word p l (stream (p + 1 + suc (row k ds)) (drop (row k ds) ds))) (gr b (d ∷ take (row k ds) ds))
          ∙ ap (λ q. word p (mk (b ∷ d ∷ take (row k ds) ds)) (stream q (drop (row k ds) ds))) q
      go false e ih = refl

  pub whole : (p : ℕ) (bs : List ℕ) → 0 < length bs → class (get_or bs 0 0) ≡ k → stream p bs ≡ word p (mk (take (row k bs) bs)) (stream (p + row k bs) (drop (row k bs) bs))
  unfolding Long
  whole p [] h e = absurd (omega arith)
  whole p (b ∷ bs) h e =
      ap (λ c. front c p b bs (stream (p + 1) bs)) e ∙ long p b bs ∙ ap (λ t. word p (mk (take (cond t (suc (row k bs)) 0) (b ∷ bs))) (stream (p + cond t (suc (row k bs)) 0) (drop (cond t (suc (row k bs)) 0) (b ∷ bs)))) (sym (same_self k (class b) e))

  -- taken from the bytes at place p of a text, which then stands as it was
  pub whole_at : (text after bytes : List ℕ) (p end : ℕ) → after ≡ text → p < length text → class (get_or text p 0) ≡ k → end ≡ p + row k (drop p text) → bytes ≡ take (row k (drop p text)) (drop p text) →
      stream p (drop p text) ≡ word p (mk bytes) (stream end (drop end after))
  whole_at text after bytes p end same h e is part =
      let some : 0 < length (drop p text) = omega (arith, length-drop p text) in
      let first : class (get_or (drop p text) 0 0) ≡ k = ap class (get_or-drop p text 0 0 ∙ ap (λ i. get_or text i 0) (add-zero p)) ∙ e in
      let all = whole p (drop p text) some first in
      let rest = drop-drop (row k (drop p text)) p text in
      cc

pub name_at : (text after bytes : List ℕ) (p end : ℕ) → after ≡ text → p < length text → class (get_or text p 0) ≡ Letter → end ≡ p + row Letter (drop p text) → bytes ≡ take (row Letter (drop p text)) (drop p text) →
    stream p (drop p text) ≡ word p (name bytes) (stream end (drop end after))
name_at = whole_at Letter name (λ p b bs s. refl) (λ b bs. refl)

pub number_at : (text after bytes : List ℕ) (p end : ℕ) → after ≡ text → p < length text → class (get_or text p 0) ≡ Digit → end ≡ p + row Digit (drop p text) → bytes ≡ take (row Digit (drop p text)) (drop p text) →
    stream p (drop p text) ≡ word p (number bytes) (stream end (drop end after))
number_at = whole_at Digit number (λ p b bs s. refl) (λ b bs. refl)

-- what a stream is at a byte of class c that is no part of a row
pub one_at : (c : Class) (text after : List ℕ) (p end : ℕ) → after ≡ text → p < length text → class (get_or text p 0) ≡ c → end ≡ p + 1 →
    stream p (drop p text) ≡ front c p (get_or text p 0) (drop (p + 1) text) (stream end (drop end after))
one_at c text after p end same h e is =
    let one = at_drop_more (stream p) text p 0 h in
    cc

pub skip_at : (text after : List ℕ) (at place : ℕ) → after ≡ text → place ≡ at + row Blank (drop at text) → stream at (drop at text) ≡ stream place (drop place after)
skip_at text after at place same is =
    let past = skip at (drop at text) in
    let rest = drop-drop (row Blank (drop at text)) at text in
    cc

pub end_at : (text : List ℕ) (place : ℕ) → length text ≤ place → stream place (drop place text) ≡ ends
end_at text place h = at_drop_all (stream place) text place h

past_row : (k : Class) (bs : List ℕ) → row k bs < length bs → class (get_or bs (row k bs) 0) ≡ k → ⊥
past_row k [] h e = omega arith
past_row k (b ∷ bs) h e = go (same k (class b)) refl (past_row k bs) h e
  where
    go : (t : Bool) → same k (class b) ≡ t → (row k bs < length bs → class (get_or bs (row k bs) 0) ≡ k → ⊥) → cond t (suc (row k bs)) 0 < suc (length bs) → class (get_or (b ∷ bs) (cond t (suc (row k bs)) 0) 0) ≡ k → ⊥
    go true q ih h e = ih (omega arith) e
    go false q ih h e = both_ways (same k (class b)) q (same_self k (class b) e)

pub past_row_at : (k : Class) (text after : List ℕ) (at place : ℕ) → after ≡ text → at ≤ length text → place ≡ at + row k (drop at text) → place < length after → class (get_or after place 0) ≡ k → ⊥
past_row_at k text after at place same le is h e =
    let within : place < length text = omega (arith, ap length same) in
    past_row k (drop at text) (omega (arith, length-drop at text)) (ap class (get_or-drop at text (row k (drop at text)) 0 ∙ ap (λ i. get_or text i 0) (sym is) ∙ ap (λ l. get_or l place 0) (sym same)) ∙ e)
