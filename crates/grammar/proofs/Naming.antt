-- The kind that a name tells, found operator by operator; and the number of digits, found digit by digit.
use Rattle.std.proofs.Common.{◌≡◌, ℕ, ◌+◌, ◌-◌, ◌*◌, ◌<◌, ◌≤◌, true, false, not, leb, List, [], ◌∷◌, length, get_or, drop, Some, None, sym, ap, ◌∙◌, inl, inr, arith}
use Rattle.std.specs.Str.{bytes_eq}
use Rattle.std.proofs.lemmas.List.{at_drop_more, at_drop_all}
use Rattle.std.proofs.lemmas.Bool.{cases_lt, cond-true, cond-false, and_from, and_left, and_right, le-leb, lt-leb, not_from_false, not_from_true}
use Rattle.query.specs.declared.node.Kind.{Kind}
use Rattle.query.specs.declared.node.Kind.TheVariants.{Symbol}
use Rattle.grammar.specs.Names.{operator_word, named_among, natural_after, natural, at_most_255, extra_zero, small, small_number}

pub named_here : (ks : List Kind) (bs : List ℕ) (i : ℕ) → i < length ks → true ≡ bytes_eq bs (operator_word (get_or ks i Symbol)) → get_or ks i Symbol ≡ named_among (drop i ks) bs
named_here ks bs i h e = sym (at_drop_more (λ xs. named_among xs bs) ks i Symbol h ∙ cond-true _ _ _ (sym e))

pub named_later : (ks : List Kind) (bs : List ℕ) (i : ℕ) → i < length ks → false ≡ bytes_eq bs (operator_word (get_or ks i Symbol)) → named_among (drop (i + 1) ks) bs ≡ named_among (drop i ks) bs
named_later ks bs i h e = sym (at_drop_more (λ xs. named_among xs bs) ks i Symbol h ∙ cond-false _ _ _ (sym e))

pub named_none : (ks : List Kind) (bs : List ℕ) (i : ℕ) → length ks ≤ i → Symbol ≡ named_among (drop i ks) bs
named_none ks bs i h = sym (at_drop_all (λ xs. named_among xs bs) ks i h)

natural_ge : (n : ℕ) (ds : List ℕ) → n ≤ natural_after n ds
natural_ge n [] = omega arith
natural_ge n (d ∷ ds) = let h = natural_ge (n * 10 + (d - 48)) ds in omega arith

-- one digit more
pub digit_more : (n i : ℕ) (ds : List ℕ) → i < length ds → natural_after n (drop i ds) ≡ natural_after (n * 10 + (get_or ds i 0 - 48)) (drop (i + 1) ds)
digit_more n i ds h = at_drop_more (natural_after n) ds i 0 h

pub digits_all : (n i : ℕ) (ds : List ℕ) → length ds ≤ i → natural_after n (drop i ds) ≡ n
digits_all n i ds h = at_drop_all (natural_after n) ds i h

-- none is at most 255
pub over : (n : ℕ) → None ≡ at_most_255 n → 256 ≤ n
over n e = elim (cases_lt 255 n) [
  | inl l ↦ l
  | inr g ↦ absurd (let z : ◌≡◌ {A = ℕ} 0 1 = let s = cond-true (leb n 255) (Some n) None (le-leb n 255 g) in cc in omega arith)
]

-- one that is at most 255 is kept
pub kept : (m n : ℕ) → Some m ≡ at_most_255 n → (m ≡ n) × (m ≤ 255)
kept m n e = elim (cases_lt 255 n) [
  | inl l ↦ absurd (let z : ◌≡◌ {A = ℕ} 0 1 = let s = cond-false (leb n 255) (Some n) None (lt-leb n 255 l) in cc in omega arith)
  | inr g ↦ let same : m ≡ n = let s = cond-true (leb n 255) (Some n) None (le-leb n 255 g) in cc in (same, omega arith)
]

-- a number over 255 at some digit stays so
pub too_large : (n i : ℕ) (ds : List ℕ) → i < length ds → natural_after n (drop i ds) ≡ natural ds → 256 ≤ n * 10 + (get_or ds i 0 - 48) → None ≡ small_number ds
unfolding small
too_large n i ds h e big =
    let a = digit_more n i ds h in
    let b = natural_ge (n * 10 + (get_or ds i 0 - 48)) (drop (i + 1) ds) in
    sym (cond-false (small ds) (Some (natural ds)) None (and_right (not (extra_zero ds)) (leb (natural ds) 255) (lt-leb (natural ds) 255 (omega arith))))

pub zero_extra : (ds : List ℕ) → true ≡ extra_zero ds → None ≡ small_number ds
unfolding small
zero_extra ds e = sym (cond-false (small ds) (Some (natural ds)) None (and_left (not (extra_zero ds)) (leb (natural ds) 255) (not_from_true (extra_zero ds) (sym e))))

pub is_small : (n i : ℕ) (ds : List ℕ) → false ≡ extra_zero ds → length ds ≤ i → natural_after n (drop i ds) ≡ natural ds → n ≤ 255 → Some n ≡ small_number ds
unfolding small
is_small n i ds h all e le =
    let v : n ≡ natural ds = sym (digits_all n i ds all) ∙ e in
    sym (cond-true (small ds) (Some (natural ds)) None (and_from _ _ (not_from_false _ (sym h)) (le-leb (natural ds) 255 (omega arith))) ∙ ap (λ i. Some i) (sym v))
