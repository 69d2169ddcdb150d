-- The difference of two readings is a number, and the two ends of their range as bits.
use Rattle.std.proofs.Common.{◌≡◌, ℕ, zero, suc, ◌+◌, ◌-◌, ◌*◌, ◌^◌, Bool, true, false, cond, not, ◌&&◌, T, ltb, pos, refl}
use mathlib.Core.Bool.{beq}
use lib.Ieee.{Float, Format, nan, inf, fin, binary32, prec, emax, low, odd, units, round, sum, sub, le, up, down, is_nan, of_bits}
use lib.Ieee.Fits.{round_is}
use Rattle.std.proofs.lemmas.Bool.{false≢true}
use Rattle.value.specs.Readings.{reading_range}

pub zero_bits : of_bits binary32 0 ≡ fin false 0 (pos 0)
unfolding of_bits
zero_bits = refl

pub hundred_bits : of_bits binary32 1120403456 ≡ fin false 25 (pos 2)
unfolding of_bits
hundred_bits = refl

cond_number : (b : Bool) (x y : Float) → T (not (is_nan x)) → T (not (is_nan y)) → T (not (is_nan (cond b x y)))
cond_number true x y h k = h
cond_number false x y h k = k

odd_number : (d : ℕ) (s : Bool) (q k l : ℕ) → T (not (is_nan (odd d s q k l)))
unfolding odd is_nan
odd_number d s zero k l = tt
odd_number d s (suc q) k l = tt

inf_number : (s : Bool) → T (not (is_nan (inf s)))
unfolding is_nan
inf_number s = tt

units_number : (f : Format) (s : Bool) (q k : ℕ) → T (not (is_nan (units f s q k)))
unfolding units
units_number f s q k =
    cond_number (ltb (q * 2 ^ k) (2 ^ (low f + suc (emax f)))) (odd (suc (prec f)) s q k (low f)) (inf s) (odd_number (suc (prec f)) s q k (low f)) (inf_number s)

-- rounding makes no NaN
round_number : (f : Format) (s : Bool) (n d : ℕ) → T (not (is_nan (round f s n d)))
round_number f s n d = rw round_is (units_number f s _ _)

sum_number : (f : Format) (s : Bool) (a : ℕ) (t : Bool) (b c : ℕ) → T (not (is_nan (sum f s a t b c)))
unfolding sum
sum_number f s a t b c =
    cond_number (beq s t) _ _ (round_number f s (a + b) c)
    (cond_number (ltb a b) _ _ (round_number f t (b - a) c) (round_number f (s && ltb b a) (a - b) c))

-- no infinity is in the range, so both readings are finite
pub difference_number : (x y : Float) → reading_range x ≡ true → reading_range y ≡ true → T (not (is_nan (sub binary32 x y)))
unfolding sub le
difference_number nan y h k = absurd (false≢true h)
difference_number (inf true) y h k = absurd (false≢true h)
difference_number (inf false) y h k = absurd (false≢true h)
difference_number (fin s m e) nan h k = absurd (false≢true k)
difference_number (fin s m e) (inf true) h k = absurd (false≢true k)
difference_number (fin s m e) (inf false) h k = absurd (false≢true k)
difference_number (fin s m e) (fin t n d) h k = sum_number binary32 s (m * up e * down d) (not t) (n * up d * down e) (down e * down d)
