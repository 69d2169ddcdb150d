-- Symbols read from a sheet one after another, up to the first fault.
use Rattle.std.proofs.Common.{◌≡◌, ℕ, zero, suc, ◌+◌, ◌-◌, ◌<◌, ◌≤◌, Bool, true, false, cond, not, ◌&&◌, leb, List, [], ◌∷◌, ◌++◌, length, get_or, take, drop, ℤ, is_some, Some, None, Err, Option, sym, refl, ap, ◌∙◌, ap₂, add-zero, add-suc, add-one, arith}
use Rattle.std.specs.Option.{option_to_list}
use Rattle.std.proofs.lemmas.List.{length-append, map-append}
use Rattle.std.proofs.lemmas.Bool.{cond-true, cond-false, and_from, and_parts, and_right, not-true, not_from_true, not_from_false, le-leb, both_ways}
use Rattle.alphabet.specs.declared.bounds.Asked.{Asked}
use Rattle.alphabet.specs.declared.bounds.Bounds.{Bounds}
use Rattle.alphabet.specs.declared.fault.SheetFault.{SheetFault}
use Rattle.alphabet.specs.declared.fault.SheetFault.TheVariants.{BadLayout, BadName, BadRow}
use Rattle.alphabet.specs.declared.symbol.Symbol.{Symbol}
use Rattle.alphabet.specs.Carrying.{bounds_right}
use Rattle.alphabet.specs.Every.{every}
use Rattle.alphabet.specs.Names.{is_letter, is_among, index_of, may_name, all_distinct, operator_words}
use Rattle.alphabet.specs.RightSheets.{LaidOut}
use Rattle.alphabet.specs.Sheets.{symbols_said, name_field, letters_of, is_space, well_formed, name_in, sheet_name, sheet_names, name_right, bounds_asking, asked_by, row_field, sheet_row, sheet_rows, symbol_fault, or_else, first_fault, unless, load_answer, layout_right, number_in}
use Rattle.alphabet.specs.Spelling.{spelling, spellings, bounds_in}
use Rattle.alphabet.proofs.Distinct.{distinct_push}
use Rattle.alphabet.proofs.Fields.{length_name}
use Rattle.alphabet.proofs.Finding.{some_among}
use Rattle.alphabet.proofs.Lettering.{letters_fit, letters_are}

-- a name that a field has is made of its letters
name_in_letters : (bs word : List ℕ) → Some word ≡ name_in bs → word ≡ letters_of bs
name_in_letters bs word e = go (well_formed bs && not (is_among operator_words (letters_of bs))) e
  where
    go : (t : Bool) → ◌≡◌ {A = Option (List ℕ)} (Some word) (cond t (Some (letters_of bs)) None) → word ≡ letters_of bs
    go true e = cc
    go false e = absurd (let z : ◌≡◌ {A = ℕ} 0 1 = cc in omega arith)

-- a field has no name
pub nameless : (s : List ℕ) (j : ℕ) (field : List ℕ) → field ≡ name_field s j → None ≡ name_in field → name_right s j ≡ false
nameless s j field at none =
    ap (λ o. is_some o && not (is_among (sheet_names s j) (sheet_name s j))) (sym (none ∙ ap name_in at))

-- a field has a name, which the earlier symbols have too or have not
module _ (s : List ℕ) (j : ℕ) (field word : List ℕ) (at : field ≡ name_field s j) (in_field : Some word ≡ name_in field) where
  is : Some word ≡ name_in (name_field s j)
  is = in_field ∙ ap name_in at

  named : is_some (name_in (name_field s j)) ≡ true
  named = ap is_some (sym is)

  pub word_is : word ≡ sheet_name s j
  word_is = name_in_letters (name_field s j) word is

  pub a_repeat : is_among (sheet_names s j) word ≡ true → name_right s j ≡ false
  a_repeat t =
      and_right (is_some (name_in (name_field s j))) (not (is_among (sheet_names s j) (sheet_name s j)))
      (not_from_true (is_among (sheet_names s j) (sheet_name s j)) (ap (is_among (sheet_names s j)) (sym word_is) ∙ t))

  pub fresh : is_among (sheet_names s j) word ≡ false → name_right s j ≡ true
  fresh f =
      and_from (is_some (name_in (name_field s j))) (not (is_among (sheet_names s j) (sheet_name s j))) named
      (not_from_false (is_among (sheet_names s j) (sheet_name s j)) (ap (is_among (sheet_names s j)) (sym word_is) ∙ f))

-- what is answered where a test passes tells of the test
pub no_answer : {X : Type 0} (t : Bool) (x : X) → None ≡ cond t (Some x) None → t ≡ false
no_answer true x e = absurd (let z : ◌≡◌ {A = ℕ} 0 1 = cc in omega arith)
no_answer false x e = refl

pub an_answer : {X : Type 0} (t : Bool) (x y : X) → Some y ≡ cond t (Some x) None → (t ≡ true) × (y ≡ x)
an_answer true x y e = (refl, cc)
an_answer false x y e = absurd (let z : ◌≡◌ {A = ℕ} 0 1 = cc in omega arith)

-- a name fits into sixteen letters
pub name_short : (s : List ℕ) → LaidOut s → (j : ℕ) → j < symbols_said s → length (sheet_name s j) ≤ 16
name_short s l j h = omega (arith, letters_fit (name_field s j), length_name s l j h, l.narrow)

-- a word that has an index among the earlier names is among them
pub told : (xs ys : List (List ℕ)) (word : List ℕ) (o : Option ℕ) (t : Bool) → o ≡ index_of xs word → xs ≡ ys → is_some o ≡ t → is_among ys word ≡ t
told xs ys word o t e is some = ap (λ zs. is_among zs word) (sym is) ∙ sym (some_among 0 xs word) ∙ ap is_some (sym e) ∙ some

-- The first fault is the first of all of them too.
fault_stays : (s : List ℕ) (n d : ℕ) (f : SheetFault) → first_fault s n ≡ Some f → first_fault s (n + d) ≡ Some f
fault_stays s n zero f e = ap (first_fault s) (add-zero n) ∙ e
fault_stays s n (suc d) f e =
    ap (first_fault s) (add-suc n d) ∙ ap (λ o. or_else o (symbol_fault s (n + d))) (fault_stays s n d f e)

module _ (s : List ℕ) (n : ℕ) (h : n < symbols_said s) (clear : first_fault s n ≡ None) where
  faulty : (f : SheetFault) → symbol_fault s n ≡ Some f → layout_right s ≡ true → load_answer s ≡ Err f
  faulty f e laid =
      let at : first_fault s (suc n) ≡ Some f = ap (λ o. or_else o (symbol_fault s n)) clear ∙ e in
      let far : suc n + (symbols_said s - suc n) ≡ symbols_said s = omega arith in
      cond-true (layout_right s) (unless (first_fault s (symbols_said s))) (Err BadLayout) laid
      ∙ ap (λ m. unless (first_fault s m)) (sym far) ∙ ap unless (fault_stays s (suc n) (symbols_said s - suc n) f at)

  pub name_refused : name_right s n ≡ false → layout_right s ≡ true → load_answer s ≡ Err (BadName n)
  name_refused f = faulty (BadName n) (cond-false (name_right s n) (cond (is_some (sheet_row s n)) None (Some (BadRow n))) (Some (BadName n)) f)

  pub row_refused : name_right s n ≡ true → is_some (sheet_row s n) ≡ false → layout_right s ≡ true → load_answer s ≡ Err (BadRow n)
  row_refused t e =
      faulty (BadRow n)
      (cond-true (name_right s n) (cond (is_some (sheet_row s n)) None (Some (BadRow n))) (Some (BadName n)) t
      ∙ cond-false (is_some (sheet_row s n)) None (Some (BadRow n)) e)

-- The symbols below n were read, and have no fault.
pub record Read (s : List ℕ) (n : ℕ) (symbols : List Symbol) : Type 0 where
  pub count : length symbols ≡ n
  pub words : spellings symbols ≡ sheet_names s n
  pub bounds : bounds_in symbols ≡ sheet_rows s n
  pub clear : first_fault s n ≡ None

pub read_more : (s : List ℕ) (n : ℕ) (symbols : List Symbol) → Read s n symbols
    → (symbol : Symbol) → name_right s n ≡ true → spelling symbol.name ≡ sheet_name s n → Some symbol.bounds ≡ sheet_row s n
    → Read s (n + 1) (symbols ++ symbol ∷ [])
read_more s n symbols r symbol right spelt is =
    record {
      count = length-append symbols (symbol ∷ []) ∙ omega (arith, r.count);
      words =
          map-append (λ x. spelling x.name) symbols (symbol ∷ [])
          ∙ ap₂ (λ xs x. xs ++ x ∷ []) r.words spelt ∙ sym (ap (sheet_names s) (add-one n));
      bounds =
          map-append (λ x. x.bounds) symbols (symbol ∷ [])
          ∙ ap₂ (λ xs o. xs ++ option_to_list o) r.bounds is ∙ sym (ap (sheet_rows s) (add-one n));
      clear =
          ap (first_fault s) (add-one n) ∙ ap (λ o. or_else o (symbol_fault s n)) r.clear
          ∙ cond-true (name_right s n) (cond (is_some (sheet_row s n)) None (Some (BadRow n))) (Some (BadName n)) right
          ∙ ap (λ o. cond (is_some o) None (Some (BadRow n))) (sym is);
    }

-- Without a fault, what was read keeps what every alphabet keeps.
every_append : {X : Type 0} (test : X → Bool) (xs ys : List X) → every test xs ≡ true → every test ys ≡ true → every test (xs ++ ys) ≡ true
every_append test [] ys t u = u
every_append test (x ∷ xs) ys t u =
    let parts = and_parts (test x) (every test xs) t in
    and_from (test x) (every test (xs ++ ys)) parts.0 (every_append test xs ys parts.1 u)

-- no fault up to a symbol means none before it, and a right name and row there
pub record Clear (s : List ℕ) (n : ℕ) : Type 0 where
  pub before : first_fault s n ≡ None
  pub name : name_right s n ≡ true
  pub row : is_some (sheet_row s n) ≡ true

pub clear_at : (s : List ℕ) (n : ℕ) → first_fault s (suc n) ≡ None → Clear s n
clear_at s n e = go (first_fault s n) (name_right s n) (is_some (sheet_row s n)) refl refl refl e
  where
    go : (o : Option SheetFault) (t u : Bool) → first_fault s n ≡ o → name_right s n ≡ t → is_some (sheet_row s n) ≡ u
        → or_else o (cond t (cond u None (Some (BadRow n))) (Some (BadName n))) ≡ None → Clear s n
    go None true true a b c e = record { before = a; name = b; row = c }
    go None true false a b c e = absurd (let z : ◌≡◌ {A = ℕ} 0 1 = cc in omega arith)
    go None false u a b c e = absurd (let z : ◌≡◌ {A = ℕ} 0 1 = cc in omega arith)
    go (Some f) t u a b c e = absurd (let z : ◌≡◌ {A = ℕ} 0 1 = cc in omega arith)

pub names_distinct : (s : List ℕ) (n : ℕ) → first_fault s n ≡ None → all_distinct (sheet_names s n) ≡ true
names_distinct s zero e = refl
names_distinct s (suc n) e =
    let c = clear_at s n e in
    let parts = and_parts (is_some (name_in (name_field s n))) (not (is_among (sheet_names s n) (sheet_name s n))) c.name in
    distinct_push (sheet_names s n) (sheet_name s n) (names_distinct s n c.before) (not-true (is_among (sheet_names s n) (sheet_name s n)) parts.1)

-- the name in a field of at most sixteen bytes may name a symbol
name_may : (bs : List ℕ) → length (letters_of bs) ≤ 16 → is_some (name_in bs) ≡ true → may_name (letters_of bs) ≡ true
name_may bs h t = go (well_formed bs && not (is_among operator_words (letters_of bs))) refl t
  where
    go : (u : Bool) → (well_formed bs && not (is_among operator_words (letters_of bs))) ≡ u → is_some (cond u (Some (letters_of bs)) None) ≡ true
        → may_name (letters_of bs) ≡ true
    go false e t = absurd (both_ways false refl t)
    go true e t =
        let word = letters_of bs in
        let parts = and_parts (well_formed bs) (not (is_among operator_words word)) e in
        let formed = and_parts (leb 1 (length word)) (every is_space (drop (length word) bs)) parts.0 in
        and_from (leb 1 (length word) && leb (length word) 16) (every is_letter word && not (is_among operator_words word))
        (and_from (leb 1 (length word)) (leb (length word) 16) formed.0 (le-leb (length word) 16 h))
        (and_from (every is_letter word) (not (is_among operator_words word)) (letters_are bs) parts.1)

pub names_may : (s : List ℕ) → LaidOut s → (n : ℕ) → n ≤ symbols_said s → first_fault s n ≡ None → every may_name (sheet_names s n) ≡ true
names_may s l zero h e = refl
names_may s l (suc n) h e =
    let c = clear_at s n e in
    let parts = and_parts (is_some (name_in (name_field s n))) (not (is_among (sheet_names s n) (sheet_name s n))) c.name in
    every_append may_name (sheet_names s n) (sheet_name s n ∷ []) (names_may s l n (omega arith) c.before)
    (and_from (may_name (sheet_name s n)) true (name_may (name_field s n) (name_short s l n h) parts.0) refl)

-- the bounds in a row are right
row_is_right : (low high : ℤ) (first last : Option Asked) → every bounds_right (option_to_list (bounds_asking low high first last)) ≡ true
row_is_right low high (Some first) (Some last) = go (bounds_right x) refl
  where
    x : Bounds
    x = record { low = low; high = high; first = first; last = last }

    go : (t : Bool) → bounds_right x ≡ t → every bounds_right (option_to_list (cond t (Some x) None)) ≡ true
    go true e = and_from (bounds_right x) true e refl
    go false e = refl
row_is_right low high (Some first) None = refl
row_is_right low high None (Some last) = refl
row_is_right low high None None = refl

pub rows_right : (s : List ℕ) (n : ℕ) → every bounds_right (sheet_rows s n) ≡ true
rows_right s zero = refl
rows_right s (suc n) =
    every_append bounds_right (sheet_rows s n) (option_to_list (sheet_row s n)) (rows_right s n)
    (row_is_right (number_in (take 8 (row_field s n))) (number_in (take 8 (drop 8 (row_field s n)))) (asked_by (get_or (row_field s n) 16 0)) (asked_by (get_or (row_field s n) 17 0)))
