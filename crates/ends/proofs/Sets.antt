-- Sets of positions as lists of numbers.
use Rattle.std.proofs.Common.{◌≡◌, ℕ, zero, suc, ◌+◌, ◌-◌, ◌*◌, ◌/◌, ◌%◌, ◌^◌, ◌<◌, ◌≤◌, Bool, true, false, cond, ◌&&◌, ◌||◌, eqb, ltb, List, [], ◌∷◌, length, get_or, set, Some, sym, refl, ap, ◌∙◌, ap₂, inl, inr, mod-eq_of_lt, one-mul, arith}
use lib.Bits.{bit_or, bit_and}
use lib.Count.{ones, count_trailing_zeros}
use lib.Pow.{pow-lt}
use Rattle.std.proofs.lemmas.Nat.{shr_le}
use Rattle.std.proofs.lemmas.List.{get_or-set_same, get_or-set_other, get_or_past}
use Rattle.std.proofs.lemmas.Bool.{cases_eq, cases_lt, cases_order, eq-eqb, lt-ltb, le-ltb, ne_eqb, cond-true, cond-false, false≢true}
use Rattle.std.proofs.lemmas.Bool.Decides.{nat_tests}
use Rattle.word.specs.Words.{has}
use Rattle.word.proofs.Bits.{has_none, has_past}
use Rattle.ends.specs.Member.{member, tally, Finds}
use Rattle.ends.proofs.Digits.{has_or, has_and, has_power, has_shifted, has_above, lowest_bit, ones_tally}
use Rattle.ends.proofs.Tallies.{tally_append}

-- numbers that are all 0 are the empty set
pub no_member : (xs : List ℕ) → ((j : ℕ) → get_or xs j 0 ≡ 0) → (k : ℕ) → member (record { bits = xs }) k ≡ false
unfolding member
no_member xs h k = ap (λ (n : ℕ). has n (k % 64)) (h (k / 64)) ∙ has_none (k % 64)

zeros : (i : ℕ) → ◌≡◌ {A = ℕ} (get_or (0 ∷ 0 ∷ 0 ∷ 0 ∷ []) i 0) 0
zeros zero = refl
zeros (suc zero) = refl
zeros (suc (suc zero)) = refl
zeros (suc (suc (suc zero))) = refl
zeros (suc (suc (suc (suc n)))) = refl

pub empty_none : (k : ℕ) → member (record { bits = 0 ∷ 0 ∷ 0 ∷ 0 ∷ [] }) k ≡ false
empty_none = no_member _ zeros

and_true : (x : Bool) → (x && true) ≡ x
and_true true = refl
and_true false = refl

and_false : (x : Bool) → (x && false) ≡ false
and_false true = refl
and_false false = refl

or_swap : (x y : Bool) → (x || y) ≡ (y || x)
or_swap true true = refl
or_swap true false = refl
or_swap false true = refl
or_swap false false = refl

-- the bit of b in the number at its place
pub inserted : (xs : List ℕ) (b k : ℕ) → b / 64 < length xs →
    member (record { bits = set xs (b / 64) (bit_or (get_or xs (b / 64) 0) (1 * 2 ^ (b % 64) % 2 ^ 64)) }) k
    ≡ (eqb k b || member (record { bits = xs }) k)
unfolding member
inserted xs b k h = elim (cases_eq (k / 64) (b / 64)) [
  | inl e ↦
      let x : ℕ = get_or xs (b / 64) 0 in
      let y : ℕ = 1 * 2 ^ (b % 64) % 2 ^ 64 in
      let one : y ≡ 2 ^ (b % 64) = (let m : b % 64 < 64 = omega arith in ap (λ (x : ℕ). x % 2 ^ 64) (one-mul (2 ^ (b % 64))) ∙ mod-eq_of_lt (pow-lt m)) in
      let same : get_or (set xs (b / 64) (bit_or x y)) (k / 64) 0 ≡ bit_or x (2 ^ (b % 64)) =
      ap (λ (i : ℕ). get_or (set xs (b / 64) (bit_or x y)) i 0) e
      ∙ (get_or-set_same xs (b / 64) (bit_or x y) 0 h ∙ ap (λ (z : ℕ). bit_or x z) one) in
      let at : get_or xs (k / 64) 0 ≡ x = ap (λ (i : ℕ). get_or xs i 0) e in
      ap (λ (n : ℕ). has n (k % 64)) same
      ∙ has_or x (2 ^ (b % 64)) (k % 64)
      ∙ ap (λ (t : Bool). has x (k % 64) || t) (has_power (b % 64) (k % 64))
      ∙ or_swap (has x (k % 64)) (eqb (k % 64) (b % 64))
      ∙ ap (λ (t : Bool). t || has x (k % 64)) (same_place e)
      ∙ ap (λ (n : ℕ). eqb k b || has n (k % 64)) (sym at)
  | inr o ↦
      ap (λ (n : ℕ). has n (k % 64)) (get_or-set_other xs (b / 64) (k / 64) (bit_or (get_or xs (b / 64) 0) (1 * 2 ^ (b % 64) % 2 ^ 64)) 0 o)
      ∙ ap (λ (t : Bool). t || has (get_or xs (k / 64) 0) (k % 64)) (sym (ne_eqb k b (λ e. o (ap (λ (n : ℕ). n / 64) e))))
]
  where
    same_place : k / 64 ≡ b / 64 → eqb (k % 64) (b % 64) ≡ eqb k b
    same_place e = grind (arith, nat_tests)

-- every number is that of the two at its place, where the loop over them has come to the end
pub each_both : (f : ℕ → ℕ → ℕ) (zs xs ys : List ℕ) (w : ℕ) → length xs ≤ w → length ys ≤ w → f 0 0 ≡ 0 →
    ((j : ℕ) → get_or zs j 0 ≡ cond (ltb j w) (f (get_or xs j 0) (get_or ys j 0)) (get_or xs j 0)) →
    (j : ℕ) → get_or zs j 0 ≡ f (get_or xs j 0) (get_or ys j 0)
each_both f zs xs ys w hx hy z h j = elim (cases_lt j w) [
  | inl l ↦ h j ∙ cond-true (ltb j w) (f (get_or xs j 0) (get_or ys j 0)) (get_or xs j 0) (lt-ltb j w l)
  | inr g ↦
      let x0 : get_or xs j 0 ≡ 0 = get_or_past xs j 0 (omega arith) in
      let y0 : get_or ys j 0 ≡ 0 = get_or_past ys j 0 (omega arith) in
      h j ∙ cond-false (ltb j w) (f (get_or xs j 0) (get_or ys j 0)) (get_or xs j 0) (le-ltb j w g) ∙ x0 ∙ sym (ap₂ f x0 y0 ∙ z)
]

pub joined : (zs xs ys : List ℕ) → ((j : ℕ) → get_or zs j 0 ≡ bit_or (get_or xs j 0) (get_or ys j 0)) → (k : ℕ) →
    member (record { bits = zs }) k ≡ (member (record { bits = xs }) k || member (record { bits = ys }) k)
unfolding member
joined zs xs ys h k = ap (λ (n : ℕ). has n (k % 64)) (h (k / 64)) ∙ has_or (get_or xs (k / 64) 0) (get_or ys (k / 64) 0) (k % 64)

pub shared : (zs xs ys : List ℕ) → ((j : ℕ) → get_or zs j 0 ≡ bit_and (get_or xs j 0) (get_or ys j 0)) → (k : ℕ) →
    member (record { bits = zs }) k ≡ (member (record { bits = xs }) k && member (record { bits = ys }) k)
unfolding member
shared zs xs ys h k = ap (λ (n : ℕ). has n (k % 64)) (h (k / 64)) ∙ has_and (get_or xs (k / 64) 0) (get_or ys (k / 64) 0) (k % 64)

-- of the number at place w the bits alone that stand right of position b
abbrev pub right_of : ℕ → ℕ → ℕ → ℕ
right_of word w b =
    cond (ltb w (b / 64)) 0 (cond (eqb w (b / 64)) (((word / 2 ^ (b % 64)) / 2 * 2) * 2 ^ (b % 64) % 2 ^ 64) word)

-- the positions right of b: of each number the bits alone that stand there
pub kept_right : (zs xs : List ℕ) (w b : ℕ) → length xs ≤ w → w ≤ 4 →
    ((j : ℕ) → get_or zs j 0 ≡ cond (ltb j w) (right_of (get_or xs j 0) j b) (get_or xs j 0)) →
    (k : ℕ) → member (record { bits = zs }) k ≡ ((ltb b k && ltb k 256) && member (record { bits = xs }) k)
unfolding member
kept_right zs xs w b l four h k = elim (cases_lt (k / 64) w) [
  | inl u ↦ ap (λ (n : ℕ). has n (k % 64)) (h (k / 64) ∙ cond-true (ltb (k / 64) w) _ _ (lt-ltb (k / 64) w u)) ∙ here
      ∙ sym (ap (λ (t : Bool). t && has (get_or xs (k / 64) 0) (k % 64)) (ap (λ (t : Bool). ltb b k && t) (lt-ltb k 256 (omega arith)) ∙ and_true (ltb b k)))
  | inr u ↦
      let none : get_or xs (k / 64) 0 ≡ 0 = get_or_past xs (k / 64) 0 (omega arith) in
      let gone : has (get_or xs (k / 64) 0) (k % 64) ≡ false = ap (λ (n : ℕ). has n (k % 64)) none ∙ has_none (k % 64) in
      ap (λ (n : ℕ). has n (k % 64)) (h (k / 64) ∙ cond-false (ltb (k / 64) w) _ _ (le-ltb (k / 64) w u)) ∙ gone
      ∙ sym (ap (λ (t : Bool). (ltb b k && ltb k 256) && t) gone ∙ and_false (ltb b k && ltb k 256))
]
  where
    here : has (right_of (get_or xs (k / 64) 0) (k / 64) b) (k % 64) ≡ (ltb b k && has (get_or xs (k / 64) 0) (k % 64))
    here = elim (cases_order (k / 64) (b / 64)) [
      | inl e ↦
          let same : right_of (get_or xs (k / 64) 0) (k / 64) b ≡ ((get_or xs (k / 64) 0 / 2 ^ (b % 64)) / 2 * 2) * 2 ^ (b % 64) % 2 ^ 64 =
          cond-false (ltb (k / 64) (b / 64)) _ _ (le-ltb (k / 64) (b / 64) (omega arith)) ∙ cond-true (eqb (k / 64) (b / 64)) _ _ (eq-eqb (k / 64) (b / 64) e) in
          let place : ltb (b % 64) (k % 64) ≡ ltb b k = grind (arith, nat_tests) in
          ap (λ (n : ℕ). has n (k % 64)) same ∙ has_above (get_or xs (k / 64) 0) (b % 64) (k % 64) (omega arith) ∙ ap (λ (t : Bool). t && has (get_or xs (k / 64) 0) (k % 64)) place
      | inr r ↦ elim r [
        | inl v ↦
            ap (λ (n : ℕ). has n (k % 64)) (cond-true (ltb (k / 64) (b / 64)) _ _ (lt-ltb (k / 64) (b / 64) v)) ∙ has_none (k % 64)
            ∙ sym (ap (λ (t : Bool). t && has (get_or xs (k / 64) 0) (k % 64)) (le-ltb b k (omega arith)))
        | inr v ↦
            ap (λ (n : ℕ). has n (k % 64)) (cond-false (ltb (k / 64) (b / 64)) _ _ (le-ltb (k / 64) (b / 64) (omega arith)) ∙ cond-false (eqb (k / 64) (b / 64)) _ _ (ne_eqb (k / 64) (b / 64) (λ e. omega arith)))
            ∙ sym (ap (λ (t : Bool). t && has (get_or xs (k / 64) 0) (k % 64)) (lt-ltb b k (omega arith)))
      ]
    ]

module _ (xs : List ℕ) where
  -- a position of the number at place w
  pub member_at : (w j : ℕ) → j < 64 → member (record { bits = xs }) (64 * w + j) ≡ has (get_or xs w 0) j
  unfolding member
  member_at w j l =
      let d : (64 * w + j) / 64 ≡ w = omega arith in
      let m : (64 * w + j) % 64 ≡ j = omega arith in
      ap₂ (λ (q r : ℕ). has (get_or xs q 0) r) d m

  -- one number more in a count of the positions
  pub tally_more : (w total : ℕ) → get_or xs w 0 < 2 ^ 64 → total ≡ tally (64 * w) 0 (member (record { bits = xs })) →
      total + ones (get_or xs w 0) ≡ tally (64 * (w + 1)) 0 (member (record { bits = xs }))
  tally_more w total f t =
      let z : 64 * (w + 1) ≡ 64 * w + 64 = omega arith in
      let y : 64 * w ≡ 0 + 64 * w = omega arith in
      ap₂ ◌+◌ t (ones_tally 64 (64 * w) (get_or xs w 0) (member (record { bits = xs })) f (member_at w)
      ∙ ap (λ (k : ℕ). tally 64 k (member (record { bits = xs }))) y)
      ∙ sym (ap (λ (m : ℕ). tally m 0 (member (record { bits = xs }))) z ∙ tally_append (member (record { bits = xs })) (64 * w) 64 0)

  -- the positions from b on in its own number are the bits of that number shifted right
  from_shifted : (b j : ℕ) → b % 64 + j < 64 → member (record { bits = xs }) (b + j) ≡ has (get_or xs (b / 64) 0 / 2 ^ (b % 64)) j
  unfolding member
  from_shifted b j l =
      let d : (b + j) / 64 ≡ b / 64 = omega arith in
      let m : (b + j) % 64 ≡ b % 64 + j = omega arith in
      ap₂ (λ (q r : ℕ). has (get_or xs q 0) r) d m ∙ sym (has_shifted (get_or xs (b / 64) 0) (b % 64) j)

  -- a number that is 0 has no position
  zero_none : (k : ℕ) → get_or xs (k / 64) 0 ≡ 0 → member (record { bits = xs }) k ≡ false
  unfolding member
  zero_none k e = ap (λ (n : ℕ). has n (k % 64)) e ∙ has_none (k % 64)

  -- the next position stands in the number of b itself
  pub next_here : (b : ℕ) → b < 256 → get_or xs (b / 64) 0 < 2 ^ 64 → 0 < get_or xs (b / 64) 0 / 2 ^ (b % 64) →
      Finds (member (record { bits = xs })) b (Some (b + count_trailing_zeros 64 (get_or xs (b / 64) 0 / 2 ^ (b % 64))))
  next_here b l f p =
      let n : ℕ = get_or xs (b / 64) 0 in
      let small : n / 2 ^ (b % 64) < 2 ^ 64 = omega (arith, shr_le n (b % 64)) in
      let r = lowest_bit 64 (n / 2 ^ (b % 64)) p small in
      let t : ℕ = count_trailing_zeros 64 (n / 2 ^ (b % 64)) in
      let on : has n (b % 64 + t) ≡ true = sym (has_shifted n (b % 64) t) ∙ r.1 in
      let fits : b % 64 + t < 64 = elim (cases_lt (b % 64 + t) 64) [
        | inl u ↦ u
        | inr g ↦ absurd (false≢true (sym (has_past 64 n (b % 64 + t) f g) ∙ on))
      ] in (
        omega arith,
        record {
          above = omega arith;
          below = omega arith;
          skipped = λ k m u.
              let e : b + (k - b) ≡ k = omega arith in
              ap (member (record { bits = xs })) (sym e) ∙ from_shifted b (k - b) (omega arith) ∙ r.2 (k - b) (omega arith);
          found = λ u. from_shifted b t fits ∙ r.1;
        },
      )

  -- the rest of the number of b is 0, so no position from b on stands in it
  pub none_here : (b : ℕ) → get_or xs (b / 64) 0 / 2 ^ (b % 64) ≡ 0 → (k : ℕ) → b ≤ k → k < 64 * (b / 64 + 1) → member (record { bits = xs }) k ≡ false
  none_here b z k l u =
      let e : b + (k - b) ≡ k = omega arith in
      ap (member (record { bits = xs })) (sym e) ∙ from_shifted b (k - b) (omega arith)
      ∙ ap (λ (n : ℕ). has n (k - b)) z ∙ has_none (k - b)

  -- no position up to the number at place w, nor in it
  pub none_more : (b w : ℕ) → get_or xs w 0 ≡ 0 → ((k : ℕ) → b ≤ k → k < 64 * w → member (record { bits = xs }) k ≡ false) →
      (k : ℕ) → b ≤ k → k < 64 * (w + 1) → member (record { bits = xs }) k ≡ false
  none_more b w z h k l u = elim (cases_lt k (64 * w)) [
    | inl m ↦ h k l m
    | inr g ↦ (let e : k / 64 ≡ w = omega arith in zero_none k (ap (λ (i : ℕ). get_or xs i 0) e ∙ z))
  ]

  -- the next position stands in the number at place w
  pub next_there : (b w : ℕ) → b ≤ 64 * w → w < 4 → get_or xs w 0 < 2 ^ 64 → 0 < get_or xs w 0 →
      ((k : ℕ) → b ≤ k → k < 64 * w → member (record { bits = xs }) k ≡ false) →
      Finds (member (record { bits = xs })) b (Some (64 * w + count_trailing_zeros 64 (get_or xs w 0)))
  next_there b w l four f p h =
      let r = lowest_bit 64 (get_or xs w 0) p f in
      let t = r.0 in (
        omega arith,
        record {
          above = omega arith;
          below = omega arith;
          skipped = λ k m u. elim (cases_lt k (64 * w)) [
            | inl v ↦ h k m v
            | inr g ↦
                (let e : 64 * w + (k - 64 * w) ≡ k = omega arith in
                ap (member (record { bits = xs })) (sym e) ∙ member_at w (k - 64 * w) (omega arith) ∙ r.2 (k - 64 * w) (omega arith))
          ];
          found = λ u. member_at w (count_trailing_zeros 64 (get_or xs w 0)) t ∙ r.1;
        },
      )
