-- The bits of numbers: of `|` and `&` of two, of a power of two, of a number shifted right, of one without those up to a place, how many there are and which is the lowest.
use Rattle.std.proofs.Common.{◌≡◌, ℕ, zero, suc, ◌+◌, ◌-◌, ◌*◌, ◌/◌, ◌%◌, ◌^◌, ◌<◌, min, max, Bool, true, false, cond, ◌&&◌, ◌||◌, eqb, ltb, sym, refl, ap, ◌∙◌, ap₂, inl, inr, mul_assoc, div-one, mul_left_comm, one-add, arith, pow-add, shr-shr}
use native.Mathlib.Nat.{div_self, div-eq_of_lt, mul-mod_left, mul-mod_right}
use lib.Bits.{bit_or, bit_and, or_shr, or_step, and_shr, and_step}
use lib.Count.{ones, ones_step, count_trailing_zeros, under}
use lib.Pow.{pow-lt, shl-shr, field, mod-mod-pow}
use Rattle.std.proofs.lemmas.Nat.{pow_pos}
use Rattle.std.proofs.lemmas.Bool.{cases_order, cases_lt, lt-ltb, le-ltb, eq-eqb, ne_eqb}
use Rattle.std.proofs.lemmas.Bool.Decides.{nat_tests}
use Rattle.word.specs.Words.{has}
use Rattle.ends.specs.Member.{tally}

or_odd : (a b : ℕ) → bit_or a b % 2 ≡ max (a % 2) (b % 2)
or_odd a b = omega (arith, or_step a b)

max_bit : (x y : ℕ) → x < 2 → y < 2 → eqb (max x y) 1 ≡ (eqb x 1 || eqb y 1)
max_bit x y hx hy = grind (arith, nat_tests)

pub has_or : (a b k : ℕ) → has (bit_or a b) k ≡ (has a k || has b k)
unfolding has
has_or a b k =
    ap (λ (n : ℕ). eqb (n % 2) 1) (or_shr a b k)
    ∙ ap (λ (n : ℕ). eqb n 1) (or_odd (a / 2 ^ k) (b / 2 ^ k))
    ∙ max_bit (a / 2 ^ k % 2) (b / 2 ^ k % 2) (omega arith) (omega arith)

and_odd : (a b : ℕ) → bit_and a b % 2 ≡ min (a % 2) (b % 2)
and_odd a b = omega (arith, and_step a b)

min_bit : (x y : ℕ) → x < 2 → y < 2 → eqb (min x y) 1 ≡ (eqb x 1 && eqb y 1)
min_bit x y hx hy = grind (arith, nat_tests)

pub has_and : (a b k : ℕ) → has (bit_and a b) k ≡ (has a k && has b k)
unfolding has
has_and a b k =
    ap (λ (n : ℕ). eqb (n % 2) 1) (and_shr a b k)
    ∙ ap (λ (n : ℕ). eqb n 1) (and_odd (a / 2 ^ k) (b / 2 ^ k))
    ∙ min_bit (a / 2 ^ k % 2) (b / 2 ^ k % 2) (omega arith) (omega arith)

even_power : (m : ℕ) → 2 ^ (1 + m) % 2 ≡ 0
even_power m = ap (λ (n : ℕ). n % 2) (pow-add 2 1 m) ∙ mul-mod_right 2 (2 ^ m)

low_power : (m j : ℕ) → 2 ^ ((1 + m) + j) / 2 ^ j % 2 ≡ 0
low_power m j =
    ap (λ (n : ℕ). n / 2 ^ j % 2) (pow-add 2 (1 + m) j) ∙ (ap (λ (n : ℕ). n % 2) (shl-shr (2 ^ (1 + m)) j) ∙ even_power m)

-- a power of two has one bit
pub has_power : (k j : ℕ) → has (2 ^ k) j ≡ eqb j k
unfolding has
has_power k j = elim (cases_order j k) [
  | inl e ↦
      let one : 2 ^ k / 2 ^ j ≡ 1 = ap (λ (n : ℕ). 2 ^ k / 2 ^ n) e ∙ div_self (pow_pos k) in
      ap (λ (n : ℕ). eqb (n % 2) 1) one ∙ sym (eq-eqb j k e)
  | inr r ↦ elim r [
    | inl l ↦
        let e : (1 + (k - j - 1)) + j ≡ k = omega arith in
        let z : 2 ^ k / 2 ^ j % 2 ≡ 0 = rw e at (low_power (k - j - 1) j) in
        ap (λ (n : ℕ). eqb n 1) z ∙ sym (ne_eqb j k (λ h. omega arith))
    | inr l ↦
        ap (λ (n : ℕ). eqb (n % 2) 1) (div-eq_of_lt (pow-lt l)) ∙ sym (ne_eqb j k (λ h. omega arith))
  ]
]

-- shifted right, the bits move down
pub has_shifted : (n i j : ℕ) → has (n / 2 ^ i) j ≡ has n (i + j)
unfolding has
has_shifted n i j = ap (λ (m : ℕ). eqb (m % 2) 1) (shr-shr n i j)

has_half : (n j : ℕ) → has (n / 2) j ≡ has n (suc j)
has_half n j = has_shifted n 1 j ∙ ap (has n) (one-add j)

has_low : (n : ℕ) → has n 0 ≡ eqb (n % 2) 1
unfolding has
has_low n = ap (λ (m : ℕ). eqb (m % 2) 1) (div-one n)

twice : (w : ℕ) → 2 ^ suc w ≡ 2 * 2 ^ w
twice w = ap (λ (m : ℕ). 2 ^ m) (sym (one-add w)) ∙ pow-add 2 1 w

-- without its lowest bit
has_rest : (n j : ℕ) → has (n / 2 * 2) j ≡ (ltb 0 j && has n j)
has_rest n zero = has_low (n / 2 * 2) ∙ ap (λ (m : ℕ). eqb m 1) (mul-mod_left (n / 2) 2)
has_rest n (suc j) = let e : n / 2 * 2 / 2 ≡ n / 2 = omega arith in sym (has_half (n / 2 * 2) j) ∙ ap (λ (m : ℕ). has m j) e ∙ has_half n j ∙ sym (ap (λ (t : Bool). t && has n (suc j)) (lt-ltb 0 (suc j) (omega arith)))

-- shifted left, the places below are free
low_shifted : (n m j : ℕ) → has (n * 2 ^ ((1 + m) + j)) j ≡ false
unfolding has
low_shifted n m j =
    let even : n * 2 ^ (1 + m) % 2 ≡ 0 = ap (λ (x : ℕ). n * x % 2) (pow-add 2 1 m) ∙ (ap (λ (x : ℕ). x % 2) (mul_left_comm n 2 (2 ^ m)) ∙ mul-mod_right 2 (n * 2 ^ m)) in
    let e : n * 2 ^ ((1 + m) + j) ≡ n * 2 ^ (1 + m) * 2 ^ j = ap (λ (x : ℕ). n * x) (pow-add 2 (1 + m) j) ∙ sym (mul_assoc n (2 ^ (1 + m)) (2 ^ j)) in
    ap (λ (x : ℕ). eqb (x / 2 ^ j % 2) 1) e ∙ (ap (λ (x : ℕ). eqb (x % 2) 1) (shl-shr (n * 2 ^ (1 + m)) j) ∙ ap (λ (x : ℕ). eqb x 1) even)

-- the lower 64 places
has_low_part : (n j : ℕ) → j < 64 → has (n % 2 ^ 64) j ≡ has n j
unfolding has
has_low_part n j l =
    let e : ((63 - j) + 1) + j ≡ 64 = omega arith in
    ap (λ (x : ℕ). eqb (n % 2 ^ x / 2 ^ j % 2) 1) (sym e) ∙ ap (λ (x : ℕ). eqb (x % 2) 1) (field n ((63 - j) + 1) j) ∙ ap (λ (x : ℕ). eqb x 1) (mod-mod-pow (n / 2 ^ j) (63 - j) 1)

-- the bits above a place
pub has_above : (n k j : ℕ) → j < 64 → has (((n / 2 ^ k) / 2 * 2) * 2 ^ k % 2 ^ 64) j ≡ (ltb k j && has n j)
has_above n k j small = has_low_part (((n / 2 ^ k) / 2 * 2) * 2 ^ k) j small ∙ elim (cases_lt j k) [
  | inl l ↦
      let m : (1 + (k - j - 1)) + j ≡ k = omega arith in
      ap (λ (i : ℕ). has (((n / 2 ^ k) / 2 * 2) * 2 ^ i) j) (sym m) ∙ low_shifted ((n / 2 ^ k) / 2 * 2) (k - j - 1) j ∙ sym (ap (λ (t : Bool). t && has n j) (le-ltb k j (omega arith)))
  | inr u ↦
      let i : k + (j - k) ≡ j = omega arith in
      let t : ltb 0 (j - k) ≡ ltb k j = grind (arith, nat_tests) in
      ap (has (((n / 2 ^ k) / 2 * 2) * 2 ^ k)) (sym i) ∙ sym (has_shifted (((n / 2 ^ k) / 2 * 2) * 2 ^ k) k (j - k)) ∙ ap (λ (x : ℕ). has x (j - k)) (shl-shr ((n / 2 ^ k) / 2 * 2) k)
      ∙ has_rest (n / 2 ^ k) (j - k) ∙ ap (λ (x : Bool). x && has (n / 2 ^ k) (j - k)) t
      ∙ ap (λ (x : Bool). ltb k j && x) (has_shifted n k (j - k) ∙ ap (has n) i)
]

-- the trailing zeros lead to the lowest bit
pub lowest_bit : (d n : ℕ) → 0 < n → n < 2 ^ d →
    (count_trailing_zeros d n < d) × (has n (count_trailing_zeros d n) ≡ true) × ((j : ℕ) → j < count_trailing_zeros d n → has n j ≡ false)
unfolding count_trailing_zeros
lowest_bit zero n p h = absurd (omega arith)
lowest_bit (suc d) n p h = go (n % 2) refl (lowest_bit d (n / 2))
  where
    before : n % 2 ≡ 0 → (j : ℕ) → j < suc (count_trailing_zeros d (n / 2)) →
        ((i : ℕ) → i < count_trailing_zeros d (n / 2) → has (n / 2) i ≡ false) → has n j ≡ false
    before e zero l r = has_low n ∙ ap (λ (m : ℕ). eqb m 1) e
    before e (suc i) l r = sym (has_half n i) ∙ r i (omega arith)

    go : (b : ℕ) → n % 2 ≡ b →
        (0 < n / 2 → n / 2 < 2 ^ d →
        (count_trailing_zeros d (n / 2) < d) × (has (n / 2) (count_trailing_zeros d (n / 2)) ≡ true)
        × ((j : ℕ) → j < count_trailing_zeros d (n / 2) → has (n / 2) j ≡ false)) →
        (under b (count_trailing_zeros d (n / 2)) < suc d) × (has n (under b (count_trailing_zeros d (n / 2))) ≡ true)
        × ((j : ℕ) → j < under b (count_trailing_zeros d (n / 2)) → has n j ≡ false)
    go zero e rest =
        let half : n / 2 < 2 ^ d = omega (arith, twice d) in
        let r = rest (omega arith) half in
        let u = r.0 in
        (omega arith, sym (has_half n (count_trailing_zeros d (n / 2))) ∙ r.1, λ j l. before e j l r.2)
    go (suc b) e rest =
        let one : n % 2 ≡ 1 = omega arith in
        (omega arith, has_low n ∙ ap (λ (m : ℕ). eqb m 1) one, λ j l. absurd (omega arith))

-- as many bits as pass a test that each bit answers
pub ones_tally : (d x n : ℕ) (test : ℕ → Bool) → n < 2 ^ d → ((j : ℕ) → j < d → test (x + j) ≡ has n j) → ones n ≡ tally d x test
unfolding tally ones
ones_tally zero x n test h m = let z : n ≡ 0 = omega arith in ap ones z
ones_tally (suc d) x n test h m =
    let half : n / 2 < 2 ^ d = omega (arith, twice d) in
    let here : test x ≡ eqb (n % 2) 1 = ap test (let z : x ≡ x + 0 = omega arith in z) ∙ m 0 (omega arith) ∙ has_low n in
    ones_step n ∙ ap₂ ◌+◌ (bit_of (n % 2) (omega arith) ∙ ap (λ (t : Bool). cond t 1 0) (sym here))
    (ones_tally d (suc x) (n / 2) test half (λ j l.
    ap test (let z : suc x + j ≡ x + suc j = omega arith in z) ∙ m (suc j) (omega arith) ∙ sym (has_half n j)))
  where
    bit_of : (b : ℕ) → b < 2 → b ≡ cond (eqb b 1) 1 0
    bit_of b l = grind (arith, nat_tests)
