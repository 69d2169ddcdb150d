-- The signed number that eight bytes spell.
use Rattle.std.proofs.Common.{◌≡◌, ℕ, suc, ◌+◌, ◌-◌, ◌*◌, ◌^◌, ◌<◌, cond, ltb, List, [], ◌∷◌, length, get_or, pos, negsuc, sym, ap, ◌∙◌, arith, w64, to_z}
use Rattle.std.proofs.lemmas.Bool.{cond-true, lt-ltb}
use Rattle.alphabet.specs.Sheets.{big_endian, signed, number_in}

abbrev pub spelled_in : List ℕ → ℕ
spelled_in bs =
    get_or bs 0 0 * 72057594037927936 + get_or bs 1 0 * 281474976710656 + get_or bs 2 0 * 1099511627776 + get_or bs 3 0 * 4294967296
    + get_or bs 4 0 * 16777216 + get_or bs 5 0 * 65536 + get_or bs 6 0 * 256 + get_or bs 7 0

big_endian_eight : (bs : List ℕ) → length bs ≡ 8 → big_endian 0 bs ≡ spelled_in bs
big_endian_eight [] h = absurd (omega arith)
big_endian_eight (a ∷ []) h = absurd (omega arith)
big_endian_eight (a ∷ (b ∷ [])) h = absurd (omega arith)
big_endian_eight (a ∷ (b ∷ (c ∷ []))) h = absurd (omega arith)
big_endian_eight (a ∷ (b ∷ (c ∷ (d ∷ [])))) h = absurd (omega arith)
big_endian_eight (a ∷ (b ∷ (c ∷ (d ∷ (e ∷ []))))) h = absurd (omega arith)
big_endian_eight (a ∷ (b ∷ (c ∷ (d ∷ (e ∷ (f ∷ [])))))) h = absurd (omega arith)
big_endian_eight (a ∷ (b ∷ (c ∷ (d ∷ (e ∷ (f ∷ (g ∷ []))))))) h = absurd (omega arith)
big_endian_eight (a ∷ (b ∷ (c ∷ (d ∷ (e ∷ (f ∷ (g ∷ (i ∷ [])))))))) h = omega arith
big_endian_eight (a ∷ (b ∷ (c ∷ (d ∷ (e ∷ (f ∷ (g ∷ (i ∷ (j ∷ bs))))))))) h = absurd (omega arith)

signed_is : (n : ℕ) → n < 2 ^ 64 → to_z w64 n ≡ signed n
signed_is n h =
    ap (cond (ltb n (2 ^ 63)) (pos n)) (sym (cond-true (ltb n (2 ^ 64)) (negsuc (2 ^ 64 - suc n)) (pos (n - 2 ^ 64)) (lt-ltb n (2 ^ 64) h)))

-- what the bits of eight bytes stand for
pub number_is : (bs : List ℕ) → length bs ≡ 8 → ((i : ℕ) → get_or bs i 0 < 256) → to_z w64 (spelled_in bs) ≡ number_in bs
unfolding number_in
number_is bs h f =
    let small : spelled_in bs < 2 ^ 64 = omega (arith, f 0, f 1, f 2, f 3, f 4, f 5, f 6, f 7) in
    signed_is (spelled_in bs) small ∙ ap signed (sym (big_endian_eight bs h))
