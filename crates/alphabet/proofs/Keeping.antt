-- What the fields of an alphabet keep, in plain words.
use Rattle.std.proofs.Common.{◌≡◌, ℕ, ◌+◌, ◌<◌, true, not, ◌&&◌, leb, List, [], length, get_or, neg_ℤ, Some, Decides, Option, sym, refl, ◌∙◌, arith}
use lib.Signed.{le_z}
use Rattle.fixed.specs.Items.{listed}
use Rattle.std.proofs.lemmas.List.{length-map}
use Rattle.std.proofs.lemmas.Bool.{and_from, and_parts, leb-true, le-leb}
use Rattle.std.proofs.ByRecursion.{Decides-by_and}
use Rattle.alphabet.specs.declared.bounds.Bounds.{Bounds}
use Rattle.alphabet.specs.Carrying.{furthest, bounds_right}
use Rattle.alphabet.specs.Every.{every}
use Rattle.alphabet.specs.Laws.{AllRight}
use Rattle.alphabet.specs.Names.{is_letter, is_among, operator_words, may_name, all_distinct}
use Rattle.alphabet.specs.RightAlphabets.{Names, Bounded}
use Rattle.alphabet.specs.Spelling.{spelling}
use Rattle.alphabet.specs.Symbols.{names_of, bounds_of}
use Rattle.alphabet.proofs.Distinct.{found_at}
use Rattle.alphabet.proofs.Telling.{letters_decide, none_decides, leZ_decides}

name_told : (word : List ℕ) → Decides (may_name word) (Names word)
name_told word =
    let long = leb 1 (length word) && leb (length word) 16 in
    let free = not (is_among operator_words word) in (
      λ t.
          let parts = and_parts long (every is_letter word && free) t in
          let size = and_parts (leb 1 (length word)) (leb (length word) 16) parts.0 in
          let rest = and_parts (every is_letter word) free parts.1 in
          record {
            some_letters = leb-true 1 (length word) size.0;
            few_letters = leb-true (length word) 16 size.1;
            letters = (letters_decide word).0 rest.0;
            no_operator = (none_decides operator_words word).0 rest.1;
          },
      λ n.
          and_from long (every is_letter word && free)
          (and_from (leb 1 (length word)) (leb (length word) 16) (le-leb 1 (length word) n.some_letters) (le-leb (length word) 16 n.few_letters))
          (and_from (every is_letter word) free ((letters_decide word).1 n.letters) ((none_decides operator_words word).1 n.no_operator)),
    )

bounds_told : (x : Bounds) → Decides (bounds_right x) (Bounded x)
bounds_told x =
    let ordered = le_z x.low x.high in
    let low = le_z (neg_ℤ furthest) x.low in
    let high = le_z x.high furthest in (
      λ t.
          let parts = and_parts ordered (low && high) t in
          let ends = and_parts low high parts.1 in
          record {
            ordered = (leZ_decides x.low x.high).0 parts.0;
            low_enough = (leZ_decides (neg_ℤ furthest) x.low).0 ends.0;
            high_enough = (leZ_decides x.high furthest).0 ends.1;
          },
      λ b.
          and_from ordered (low && high) ((leZ_decides x.low x.high).1 b.ordered)
          (and_from low high ((leZ_decides (neg_ℤ furthest) x.low).1 b.low_enough) ((leZ_decides x.high furthest).1 b.high_enough)),
    )

-- distinct words stand at one index each
one_place : (xs : List (List ℕ)) → all_distinct xs ≡ true → (i j : ℕ) → i < length xs → j < length xs → get_or xs i [] ≡ get_or xs j [] → i ≡ j
one_place xs d i j h k e =
    let same : ◌≡◌ {A = Option ℕ} (Some (0 + i)) (Some (0 + j)) = sym (found_at 0 xs i (get_or xs j []) d h e) ∙ found_at 0 xs j (get_or xs j []) d k refl in
    let sum : 0 + i ≡ 0 + j = cc in
    omega arith

pub all_right : AllRight
all_right a =
    let symbols = listed a.symbols in
    let names : length (names_of a) ≡ length symbols = length-map symbols (λ symbol. spelling symbol.name) in
    let rows : length (bounds_of a) ≡ length symbols = length-map symbols (λ symbol. symbol.bounds) in
    record {
      some_symbols = omega (arith, a.counted.0);
      few_symbols = omega (arith, a.counted.1);
      matched = rows ∙ sym names;
      named = (Decides-by_and may_name Names (every may_name) name_told refl (λ _ _. refl) (names_of a)).0 a.named;
      bounded = (Decides-by_and bounds_right Bounded (every bounds_right) bounds_told refl (λ _ _. refl) (bounds_of a)).0 a.bounded;
      distinct = one_place (names_of a) a.distinct;
    }
