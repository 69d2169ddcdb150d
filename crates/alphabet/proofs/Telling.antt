-- The tests of a sheet tell what they should.
use Rattle.std.proofs.Common.{◌≡◌, ℕ, zero, suc, ◌<◌, ◌≤◌, Bool, true, false, cond, not, ◌&&◌, ◌||◌, T, eqb, leb, List, [], ◌∷◌, ◌++◌, length, get_or, take, drop, replicate, ℤ, neg_ℤ, ◌≤ℤ◌, is_some, Some, None, Ok, Err, Decides, Option, Result, sym, refl, ap, ◌∙◌, subst, ⊎_elim, arith}
use lib.Signed.{le_z}
use Rattle.std.specs.List.{AllByRecursion}
use Rattle.std.specs.Str.{bytes_eq}
use Rattle.std.proofs.ByRecursion.{All-push, Decides-by_and}
use Rattle.std.proofs.lemmas.Slice.Eq.{bytes_eq-Decides}
use Rattle.std.proofs.lemmas.List.{drop_at}
use Rattle.std.proofs.lemmas.Bool.{both_ways, cases_Bool, cases_eq, cond-true, cond-false, and_from, and_parts, or_from, or_parts, not-true, not_from_false, leb-true, le-leb, eqb-true}
use Rattle.std.proofs.lemmas.Bool.Decides.{Decides-and, Decides-or, nat_tests}
use Rattle.alphabet.specs.declared.bounds.Asked.{Asked}
use Rattle.alphabet.specs.declared.bounds.Asked.TheVariants.{Anyvalue, Zero, Nonzero}
use Rattle.alphabet.specs.declared.bounds.Bounds.{Bounds}
use Rattle.alphabet.specs.declared.fault.SheetFault.{SheetFault}
use Rattle.alphabet.specs.declared.fault.SheetFault.TheVariants.{BadLayout, BadName, BadRow}
use Rattle.alphabet.specs.Carrying.{furthest, bounds_right}
use Rattle.alphabet.specs.Every.{every}
use Rattle.alphabet.specs.Names.{is_letter, is_among, operator_words}
use Rattle.alphabet.specs.RightAlphabets.{Letter}
use Rattle.alphabet.specs.RightSheets.{LaidOut, Holds, RightName, RightRow, RightBelow, Tells, AnswerTells}
use Rattle.alphabet.specs.Sheets.{symbols_said, name_field, row_field, letters_of, is_space, well_formed, name_in, sheet_name, sheet_names, name_right, number_in, asked_by, bounds_asking, row_bounds, sheet_row, symbol_fault, or_else, first_fault, unless, load_answer, layout_right}
use Rattle.alphabet.proofs.Fields.{layout_decides}
use Rattle.alphabet.proofs.Lettering.{letters_are}
use Rattle.alphabet.proofs.Reading.{clear_at, name_refused, row_refused}

-- Names.

decides_leb : (a b : ℕ) → Decides (leb a b) (a ≤ b)
decides_leb a b = (leb-true a b, le-leb a b)

letter_decides : (b : ℕ) → Decides (is_letter b) (Letter b)
letter_decides b =
    Decides-or (leb 65 b && leb b 90) (leb 97 b && leb b 122)
    (Decides-and (leb 65 b) (leb b 90) (decides_leb 65 b) (decides_leb b 90))
    (Decides-and (leb 97 b) (leb b 122) (decides_leb 97 b) (decides_leb b 122))

pub letters_decide : (bs : List ℕ) → Decides (every is_letter bs) (AllByRecursion Letter bs)
letters_decide = Decides-by_and is_letter Letter (every is_letter) letter_decides refl (λ _ _. refl)

-- spaces and nothing else
spaces_are : (bs : List ℕ) → every is_space bs ≡ true → bs ≡ replicate (length bs) 32
spaces_are [] t = refl
spaces_are (b ∷ bs) t =
    let parts = and_parts (is_space b) (every is_space bs) t in
    λ i. eqb-true b 32 parts.0 i ∷ spaces_are bs parts.1 i

spaces_pass : (k : ℕ) → every is_space (replicate k 32) ≡ true
spaces_pass zero = refl
spaces_pass (suc k) = spaces_pass k

-- bytes begin with their letters
begins_so : (bs : List ℕ) → bs ≡ letters_of bs ++ drop (length (letters_of bs)) bs
begins_so [] = refl
begins_so (b ∷ bs) =
    let rest = begins_so bs in
    elim (is_letter b) as (λ t. (b ∷ bs) ≡ cond t (b ∷ letters_of bs) [] ++ drop (length (cond t (b ∷ letters_of bs) [])) (b ∷ bs)) [
      | true ↦ ap (λ xs. b ∷ xs) rest
      | false ↦ refl
    ]

formed_decides : (bs : List ℕ) → Decides (well_formed bs) (Holds bs (letters_of bs))
formed_decides bs =
    let word = letters_of bs in
    let rest = drop (length word) bs in (
      λ t.
          let parts = and_parts (leb 1 (length word)) (every is_space rest) t in
          record {
            letters = (letters_decide word).0 (letters_are bs);
            some_letters = leb-true 1 (length word) parts.0;
            padding = length rest;
            padded = begins_so bs ∙ ap (λ r. word ++ r) (spaces_are rest parts.1);
          },
      λ h.
          let behind : rest ≡ replicate h.padding 32 =
          ap (drop (length word)) h.padded ∙ drop_at word (replicate h.padding 32) (length word) refl in
          and_from (leb 1 (length word)) (every is_space rest) (le-leb 1 (length word) h.some_letters)
          (ap (every is_space) behind ∙ spaces_pass h.padding),
    )

-- no word of the list is this one
pub none_decides : (xs : List (List ℕ)) (word : List ℕ) → Decides (not (is_among xs word)) (AllByRecursion (λ x. x ≡ word → ⊥) xs)
none_decides [] word = (λ _. tt, λ _. refl)
none_decides (x ∷ xs) word = (
  λ t.
      let parts = or_parts (bytes_eq x word) (is_among xs word) (not-true (bytes_eq x word || is_among xs word) t) in
      (λ e. both_ways (bytes_eq x word) parts.0 ((bytes_eq-Decides x word).1 e), (none_decides xs word).0 (not_from_false (is_among xs word) parts.1)),
  λ a.
      let first : bytes_eq x word ≡ false =
      ⊎_elim (λ t. absurd (a.0 ((bytes_eq-Decides x word).0 t))) (λ f. f) (cases_Bool (bytes_eq x word)) in
      not_from_false (bytes_eq x word || is_among xs word)
      (or_from (bytes_eq x word) (is_among xs word) first (not-true (is_among xs word) ((none_decides xs word).1 a.1))),
)

-- no symbol below n has this name
all_parts : (P : List ℕ → Type 0) (xs : List (List ℕ)) (y : List ℕ) → AllByRecursion P (xs ++ y ∷ []) → AllByRecursion P xs × P y
all_parts P [] y a = (tt, a.0)
all_parts P (x ∷ xs) y a = let r = all_parts P xs y a.1 in ((a.0, r.0), r.1)

module _ (s : List ℕ) (P : List ℕ → Type 0) where
  below_from : (n : ℕ) → AllByRecursion P (sheet_names s n) → (i : ℕ) → i < n → P (sheet_name s i)
  below_from zero a i h = absurd (omega arith)
  below_from (suc n) a i h =
      let parts = all_parts P (sheet_names s n) (sheet_name s n) a in
      ⊎_elim (λ e. subst (λ k. P (sheet_name s k)) (sym e) parts.1) (λ ne. below_from n parts.0 i (omega arith)) (cases_eq i n)

  all_below : (n : ℕ) → ((i : ℕ) → i < n → P (sheet_name s i)) → AllByRecursion P (sheet_names s n)
  all_below zero f = tt
  all_below (suc n) f = All-push P (sheet_names s n) (sheet_name s n) (all_below n (λ i h. f i (omega arith))) (f n (omega arith))

some_when : {X : Type 0} (t : Bool) (x : X) → is_some (cond t (Some x) None) ≡ t
some_when true x = refl
some_when false x = refl

pub name_decides : (s : List ℕ) (j : ℕ) → Decides (name_right s j) (RightName s j)
name_decides s j =
    let field = name_field s j in
    let word = sheet_name s j in
    let apart : List ℕ → Type 0 = λ x. x ≡ word → ⊥ in
    let when = some_when (well_formed field && not (is_among operator_words word)) word in (
      λ t.
          let parts = and_parts (is_some (name_in field)) (not (is_among (sheet_names s j) word)) t in
          let formed = and_parts (well_formed field) (not (is_among operator_words word)) (sym when ∙ parts.0) in
          record {
            held = (formed_decides field).0 formed.0;
            no_operator = (none_decides operator_words word).0 formed.1;
            no_repeat = below_from s apart j ((none_decides (sheet_names s j) word).0 parts.1);
          },
      λ r.
          and_from (is_some (name_in field)) (not (is_among (sheet_names s j) word))
          (when ∙ and_from (well_formed field) (not (is_among operator_words word)) ((formed_decides field).1 r.held) ((none_decides operator_words word).1 r.no_operator))
          ((none_decides (sheet_names s j) word).1 (all_below s apart j r.no_repeat)),
    )

-- Rows.

truth : (b : Bool) → T b → b ≡ true
truth true t = refl
truth false t = absurd t

pub leZ_decides : (a b : ℤ) → Decides (le_z a b) (a ≤ℤ b)
leZ_decides a b = (λ t. record { le = subst T (sym t) tt }, λ h. truth (le_z a b) h.le)

asked_decides : (b : ℕ) → Decides (is_some (asked_by b)) (b ≤ 2)
asked_decides b = go (eqb b 0) (eqb b 1) (eqb b 2) refl refl refl
  where
    go : (x y z : Bool) → eqb b 0 ≡ x → eqb b 1 ≡ y → eqb b 2 ≡ z
        → Decides (is_some (cond x (Some Anyvalue) (cond y (Some Zero) (cond z (Some Nonzero) None)))) (b ≤ 2)
    go true y z e f g = (λ _. omega (arith, eqb-true b 0 e), λ _. refl)
    go false true z e f g = (λ _. omega (arith, eqb-true b 1 f), λ _. refl)
    go false false true e f g = (λ _. omega (arith, eqb-true b 2 g), λ _. refl)
    go false false false e f g = (λ t. absurd (both_ways false refl t), λ h. grind (arith, nat_tests))

-- bounds stand in a row where it asks twice what there is, and where its ends are right
asking : (low high : ℤ) (first last : Option Asked)
    → is_some (bounds_asking low high first last)
    ≡ ((is_some first && is_some last) && (le_z low high && (le_z (neg_ℤ furthest) low && le_z high furthest)))
asking low high (Some first) (Some last) =
    let x : Bounds = record { low = low; high = high; first = first; last = last } in
    some_when (bounds_right x) x
asking low high (Some first) None = refl
asking low high None (Some last) = refl
asking low high None None = refl

pub row_decides : (bs : List ℕ) → Decides (is_some (row_bounds bs)) (RightRow bs)
row_decides bs =
    let low = number_in (take 8 bs) in
    let high = number_in (take 8 (drop 8 bs)) in
    let first = asked_by (get_or bs 16 0) in
    let last = asked_by (get_or bs 17 0) in
    let both = is_some first && is_some last in
    let ends = le_z (neg_ℤ furthest) low && le_z high furthest in (
      λ t.
          let parts = and_parts both (le_z low high && ends) (sym (asking low high first last) ∙ t) in
          let asks = and_parts (is_some first) (is_some last) parts.0 in
          let ordered = and_parts (le_z low high) ends parts.1 in
          let far = and_parts (le_z (neg_ℤ furthest) low) (le_z high furthest) ordered.1 in
          record {
            ordered = (leZ_decides low high).0 ordered.0;
            low_enough = (leZ_decides (neg_ℤ furthest) low).0 far.0;
            high_enough = (leZ_decides high furthest).0 far.1;
            asks_first = (asked_decides (get_or bs 16 0)).0 asks.0;
            asks_last = (asked_decides (get_or bs 17 0)).0 asks.1;
          },
      λ r.
          asking low high first last
          ∙ and_from both (le_z low high && ends)
          (and_from (is_some first) (is_some last) ((asked_decides (get_or bs 16 0)).1 r.asks_first) ((asked_decides (get_or bs 17 0)).1 r.asks_last))
          (and_from (le_z low high) ends ((leZ_decides low high).1 r.ordered)
          (and_from (le_z (neg_ℤ furthest) low) (le_z high furthest)
          ((leZ_decides (neg_ℤ furthest) low).1 r.low_enough) ((leZ_decides high furthest).1 r.high_enough))),
    )

-- Faults.

module _ (s : List ℕ) where
  clear_right : (n : ℕ) → first_fault s n ≡ None → RightBelow s n
  clear_right zero e j h = absurd (omega arith)
  clear_right (suc n) e j h =
      let c = clear_at s n e in
      ⊎_elim
      (λ is. subst (λ k. RightName s k × RightRow (row_field s k)) (sym is) ((name_decides s n).0 c.name, (row_decides (row_field s n)).0 c.row))
      (λ ne. clear_right n c.before j (omega arith))
      (cases_eq j n)

  right_clear : (n : ℕ) → RightBelow s n → first_fault s n ≡ None
  right_clear zero r = refl
  right_clear (suc n) r =
      let here = r n (omega arith) in
      ap (λ o. or_else o (symbol_fault s n)) (right_clear n (λ j h. r j (omega arith)))
      ∙ cond-true (name_right s n) (cond (is_some (sheet_row s n)) None (Some (BadRow n))) (Some (BadName n)) ((name_decides s n).1 here.0)
      ∙ cond-true (is_some (sheet_row s n)) None (Some (BadRow n)) ((row_decides (row_field s n)).1 here.1)

  -- a fault tells of its symbol
  at_symbol : (l : LaidOut s) (n : ℕ) → n < symbols_said s → RightBelow s n → (t u : Bool) → name_right s n ≡ t → is_some (sheet_row s n) ≡ u
      → (f : SheetFault) → cond t (cond u None (Some (BadRow n))) (Some (BadName n)) ≡ Some f → Tells s (Err f)
  at_symbol l n h below true true a b f e = absurd (let z : ◌≡◌ {A = ℕ} 0 1 = cc in omega arith)
  at_symbol l n h below true false a b f e =
      let is : BadRow n ≡ f = cc in
      subst (λ g. Tells s (Err g)) is
      (l, h, below, (name_decides s n).0 a, λ r. both_ways (is_some (sheet_row s n)) b ((row_decides (row_field s n)).1 r))
  at_symbol l n h below false u a b f e =
      let is : BadName n ≡ f = cc in
      subst (λ g. Tells s (Err g)) is (l, h, below, λ r. both_ways (name_right s n) a ((name_decides s n).1 r))

  fault_tells : (l : LaidOut s) (n : ℕ) → n ≤ symbols_said s → (f : SheetFault) → first_fault s n ≡ Some f → Tells s (Err f)
  fault_tells l zero h f e = absurd (let z : ◌≡◌ {A = ℕ} 0 1 = cc in omega arith)
  fault_tells l (suc n) h f e = go (first_fault s n) refl (fault_tells l n (omega arith)) e
    where
      go : (o : Option SheetFault) → first_fault s n ≡ o → ((g : SheetFault) → first_fault s n ≡ Some g → Tells s (Err g))
          → or_else o (symbol_fault s n) ≡ Some f → Tells s (Err f)
      go (Some g) is before e = before f (is ∙ e)
      go None is before e = at_symbol l n h (clear_right n is) (name_right s n) (is_some (sheet_row s n)) refl refl f e

  -- the answer tells what is so
  tells_so : Tells s (load_answer s)
  tells_so = laid (layout_right s) refl
    where
      found : LaidOut s → (o : Option SheetFault) → first_fault s (symbols_said s) ≡ o → Tells s (unless o)
      found l None e = (l, clear_right (symbols_said s) e)
      found l (Some f) e = fault_tells l (symbols_said s) (omega arith) f e

      laid : (t : Bool) → layout_right s ≡ t → Tells s (cond t (unless (first_fault s (symbols_said s))) (Err BadLayout))
      laid true e = found ((layout_decides s).0 e) (first_fault s (symbols_said s)) refl
      laid false e = λ l. both_ways (layout_right s) e ((layout_decides s).1 l)

  -- and it alone does
  only_so : (r : Result (Unit {0}) SheetFault) → Tells s r → r ≡ load_answer s
  only_so (Ok u) t =
      sym (cond-true (layout_right s) (unless (first_fault s (symbols_said s))) (Err BadLayout) ((layout_decides s).1 t.0)
      ∙ ap unless (right_clear (symbols_said s) t.1))
  only_so (Err BadLayout) t =
      let wrong : layout_right s ≡ false =
      ⊎_elim (λ e. absurd (t ((layout_decides s).0 e))) (λ f. f) (cases_Bool (layout_right s)) in
      sym (cond-false (layout_right s) (unless (first_fault s (symbols_said s))) (Err BadLayout) wrong)
  only_so (Err (BadName j)) t =
      let wrong : name_right s j ≡ false =
      ⊎_elim (λ e. absurd (t.3 ((name_decides s j).0 e))) (λ f. f) (cases_Bool (name_right s j)) in
      sym (name_refused s j t.1 (right_clear j t.2) wrong ((layout_decides s).1 t.0))
  only_so (Err (BadRow j)) t =
      let wrong : is_some (sheet_row s j) ≡ false =
      ⊎_elim (λ e. absurd (t.4 ((row_decides (row_field s j)).0 e))) (λ f. f) (cases_Bool (is_some (sheet_row s j))) in
      sym (row_refused s j t.1 (right_clear j t.2) ((name_decides s j).1 t.3) wrong ((layout_decides s).1 t.0))

pub answer_tells : AnswerTells
answer_tells s r = (λ e. subst (Tells s) (sym e) (tells_so s), only_so s r)
