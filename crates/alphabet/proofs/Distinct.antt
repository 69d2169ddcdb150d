-- Distinct words: each is found where it stands.
use Rattle.std.proofs.Common.{◌≡◌, ℕ, zero, suc, ◌+◌, ◌<◌, true, false, not, ltb, List, [], ◌∷◌, ◌++◌, length, get_or, Some, None, Option, sym, refl, ap, ◌∙◌, ⊎_elim, add-zero, arith}
use Rattle.std.specs.Str.{bytes_eq}
use Rattle.std.proofs.lemmas.Slice.Eq.{bytes_eq-Decides}
use Rattle.std.proofs.lemmas.Bool.{both_ways, and_parts, and_from, not-true, not_from_false, or_left, or_right, or_parts, or_from, cases_Bool, cond-true, cond-false, lt-ltb, le-ltb, cases_lt}
use Rattle.alphabet.specs.Names.{is_among, all_distinct, index_from, index_of, name_at}

-- a word that stands in the list is among its words
pub among_at : (xs : List (List ℕ)) (j : ℕ) (word : List ℕ) → j < length xs → get_or xs j [] ≡ word → is_among xs word ≡ true
among_at [] j word h e = absurd (omega arith)
among_at (x ∷ xs) zero word h e = or_left (bytes_eq x word) (is_among xs word) ((bytes_eq-Decides x word).1 e)
among_at (x ∷ xs) (suc j) word h e = or_right (bytes_eq x word) (is_among xs word) (among_at xs j word (omega arith) e)

-- one word more is apart from the others
same_sym : (x y : List ℕ) → bytes_eq x y ≡ false → bytes_eq y x ≡ false
same_sym x y f =
    ⊎_elim (λ t. absurd (both_ways (bytes_eq x y) f ((bytes_eq-Decides x y).1 (sym ((bytes_eq-Decides y x).0 t))))) (λ g. g)
    (cases_Bool (bytes_eq y x))

among_push : (xs : List (List ℕ)) (y word : List ℕ) → is_among xs word ≡ false → bytes_eq y word ≡ false → is_among (xs ++ y ∷ []) word ≡ false
among_push [] y word f g = or_from (bytes_eq y word) false g refl
among_push (x ∷ xs) y word f g =
    let parts = or_parts (bytes_eq x word) (is_among xs word) f in
    or_from (bytes_eq x word) (is_among (xs ++ y ∷ []) word) parts.0 (among_push xs y word parts.1 g)

pub distinct_push : (xs : List (List ℕ)) (y : List ℕ) → all_distinct xs ≡ true → is_among xs y ≡ false → all_distinct (xs ++ y ∷ []) ≡ true
distinct_push [] y d f = refl
distinct_push (x ∷ xs) y d f =
    let apart = or_parts (bytes_eq x y) (is_among xs y) f in
    let parts = and_parts (not (is_among xs x)) (all_distinct xs) d in
    and_from (not (is_among (xs ++ y ∷ []) x)) (all_distinct (xs ++ y ∷ []))
    (not_from_false (is_among (xs ++ y ∷ []) x) (among_push xs y x (not-true (is_among xs x) parts.0) (same_sym x y apart.0)))
    (distinct_push xs y parts.1 apart.1)

-- what stands at an index of distinct words is found there
pub found_at : (k : ℕ) (xs : List (List ℕ)) (j : ℕ) (word : List ℕ) → all_distinct xs ≡ true → j < length xs → get_or xs j [] ≡ word
    → index_from k xs word ≡ Some (k + j)
found_at k [] j word d h e = absurd (omega arith)
found_at k (x ∷ xs) zero word d h e =
    cond-true (bytes_eq x word) (Some k) (index_from (k + 1) xs word) ((bytes_eq-Decides x word).1 e) ∙ ap Some (sym (add-zero k))
found_at k (x ∷ xs) (suc j) word d h e =
    let parts = and_parts (not (is_among xs x)) (all_distinct xs) d in
    let other : bytes_eq x word ≡ false = ⊎_elim
    (λ t. absurd (both_ways (is_among xs x) (not-true (is_among xs x) parts.0) (among_at xs j x (omega arith) (e ∙ sym ((bytes_eq-Decides x word).0 t)))))
    (λ f. f) (cases_Bool (bytes_eq x word)) in
    cond-false (bytes_eq x word) (Some k) (index_from (k + 1) xs word) other
    ∙ found_at (k + 1) xs j word parts.1 (omega arith) e ∙ ap Some (omega arith)

-- and what is found at an index stands there
record Stands (k : ℕ) (xs : List (List ℕ)) (word : List ℕ) (j : ℕ) : Type 0 where
  at : ℕ
  is : j ≡ k + at
  within : at < length xs
  reads : get_or xs at [] ≡ word

stands_at : (k : ℕ) (xs : List (List ℕ)) (word : List ℕ) (j : ℕ) → index_from k xs word ≡ Some j → Stands k xs word j
stands_at k [] word j e = absurd (let z : ◌≡◌ {A = ℕ} 0 1 = cc in omega arith)
stands_at k (x ∷ xs) word j e =
    ⊎_elim
    (λ t. let s : ◌≡◌ {A = Option ℕ} (Some k) (Some j) = sym (cond-true (bytes_eq x word) (Some k) (index_from (k + 1) xs word) t) ∙ e in
    let kj : k ≡ j = cc in
    record { at = 0; is = omega arith; within = omega arith; reads = (bytes_eq-Decides x word).0 t })
    (λ f. let s = stands_at (k + 1) xs word j (sym (cond-false (bytes_eq x word) (Some k) (index_from (k + 1) xs word) f) ∙ e) in
    record { at = suc s.at; is = omega arith; within = omega arith; reads = s.reads })
    (cases_Bool (bytes_eq x word))

-- a name at an index, and a word that stands there
named_at : (xs : List (List ℕ)) (j : ℕ) (word : List ℕ) → j < length xs → get_or xs j [] ≡ word → name_at xs j ≡ Some word
named_at xs j word h e = cond-true (ltb j (length xs)) (Some (get_or xs j [])) None (lt-ltb j (length xs) h) ∙ ap Some e

pub found_named : (xs : List (List ℕ)) (word : List ℕ) (j : ℕ) → index_of xs word ≡ Some j → name_at xs j ≡ Some word
found_named xs word j e =
    let s = stands_at 0 xs word j e in
    let at_j : s.at ≡ j = omega arith in
    named_at xs j word (omega arith) (ap (λ i. get_or xs i []) (sym at_j) ∙ s.reads)

pub named_found : (xs : List (List ℕ)) → all_distinct xs ≡ true → (word : List ℕ) (j : ℕ) → name_at xs j ≡ Some word → index_of xs word ≡ Some j
named_found xs d word j e =
    ⊎_elim
    (λ h. let s : ◌≡◌ {A = Option (List ℕ)} (Some (get_or xs j [])) (Some word) = sym (cond-true (ltb j (length xs)) (Some (get_or xs j [])) None (lt-ltb j (length xs) h)) ∙ e in
    let reads : get_or xs j [] ≡ word = cc in
    found_at 0 xs j word d h reads ∙ ap Some (omega arith))
    (λ l. let n : ◌≡◌ {A = Option (List ℕ)} None (Some word) = sym (cond-false (ltb j (length xs)) (Some (get_or xs j [])) None (le-ltb j (length xs) l)) ∙ e in
    absurd (let z : ◌≡◌ {A = ℕ} 0 1 = cc in omega arith))
    (cases_lt j (length xs))
