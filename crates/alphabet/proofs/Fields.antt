-- The fields of a sheet that is laid out right lie within it.
use Rattle.std.proofs.Common.{◌≡◌, ℕ, suc, ◌+◌, ◌-◌, ◌*◌, ◌<◌, ◌≤◌, false, ◌&&◌, eqb, leb, List, length, take, drop, Decides, ap, ⊎_elim, mul-le-mul_right, suc-mul, arith}
use Rattle.std.proofs.lemmas.List.{length-drop, length-take-le, get_or_past}
use Rattle.std.proofs.lemmas.Bool.{cases_Bool, and_parts, and_from, leb-true, le-leb, eqb-true, eq-eqb}
use Rattle.alphabet.specs.RightSheets.{LaidOut}
use Rattle.alphabet.specs.Sheets.{layout_right, symbols_said, width_said, name_field, row_field}

-- the test tells what it should
pub layout_decides : (s : List ℕ) → Decides (layout_right s) (LaidOut s)
unfolding layout_right
layout_decides s = (
  λ t.
      let m = symbols_said s in
      let w = width_said s in
      let p = and_parts (leb 1 m && leb m 32) ((leb 1 w && leb w 16) && eqb (length s) (2 + m * w + m * 18)) t in
      let q = and_parts (leb 1 w && leb w 16) (eqb (length s) (2 + m * w + m * 18)) p.1 in
      let n = and_parts (leb 1 m) (leb m 32) p.0 in
      let v = and_parts (leb 1 w) (leb w 16) q.0 in
      record {
        some_symbols = leb-true 1 m n.0;
        few_symbols = leb-true m 32 n.1;
        some_width = leb-true 1 w v.0;
        narrow = leb-true w 16 v.1;
        whole = eqb-true (length s) (2 + m * w + m * 18) q.1;
      },
  λ l.
      let m = symbols_said s in
      let w = width_said s in
      and_from (leb 1 m && leb m 32) ((leb 1 w && leb w 16) && eqb (length s) (2 + m * w + m * 18))
      (and_from (leb 1 m) (leb m 32) (le-leb 1 m l.some_symbols) (le-leb m 32 l.few_symbols))
      (and_from (leb 1 w && leb w 16) (eqb (length s) (2 + m * w + m * 18))
      (and_from (leb 1 w) (leb w 16) (le-leb 1 w l.some_width) (le-leb w 16 l.narrow))
      (eq-eqb (length s) (2 + m * w + m * 18) l.whole)),
)

-- a sheet of fewer than two bytes has no width
pub too_short : (s : List ℕ) → length s < 2 → layout_right s ≡ false
too_short s h =
    ⊎_elim
    (λ t. absurd (let l = (layout_decides s).0 t in omega (arith, l.some_width, get_or_past s 1 0 (omega arith))))
    (λ f. f)
    (cases_Bool (layout_right s))

module _ (s : List ℕ) (l : LaidOut s) (j : ℕ) (h : j < symbols_said s) where
  pub name_ends : (2 + j * width_said s) + width_said s ≤ length s
  name_ends =
      let p : suc j * width_said s ≤ symbols_said s * width_said s = mul-le-mul_right (width_said s) h in
      omega (arith, suc-mul j (width_said s), l.whole)

  pub row_ends : (2 + symbols_said s * width_said s + j * 18) + 18 ≤ length s
  row_ends = omega (arith, l.whole)

  pub length_name : length (name_field s j) ≡ width_said s
  unfolding name_field
  length_name = length-take-le (width_said s) (drop (2 + j * width_said s) s) (simp length-drop (omega (arith, name_ends)))

  pub length_row : length (row_field s j) ≡ 18
  unfolding row_field
  length_row =
      length-take-le 18 (drop (2 + symbols_said s * width_said s + j * 18) s) (simp length-drop (omega (arith, row_ends)))

-- a part that is cut from its beginning to its end
pub cut : (s : List ℕ) (from width : ℕ) → take ((from + width) - from) (drop from s) ≡ take width (drop from s)
cut s from width = ap (λ n. take n (drop from s)) (omega arith)
