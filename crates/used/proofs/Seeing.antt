-- Fitting sees no symbols but those that a query uses.
use Rattle.std.proofs.Common.{◌≡◌, ℕ, suc, ◌^◌, ◌<◌, ◌≤◌, Bool, true, false, ◌⊎◌, inl, inr, ltb, ◌&&◌, ◌||◌, eqb, List, [], ◌∷◌, ◌++◌, length, get_or, sym, refl, ap, ◌∙◌, ap₂, arith}
use lib.Bits.{bit_or}
use Rattle.std.specs.List.{fold}
use Rattle.std.specs.Bool.{if◌then◌else◌}
use Rattle.query.specs.Kinds.{same_kind}
use Rattle.std.proofs.lemmas.Bool.{cases_lt, lt-ltb, le-ltb, or_left, or_right, eq-eqb, ne_eqb}
use Rattle.std.proofs.lemmas.Bool.Decides.{nat_tests}
use Rattle.word.proofs.Bits.{has_none}
use Rattle.ends.proofs.Digits.{has_or, has_power}
use Rattle.word.specs.Words.{has}
use Rattle.query.specs.declared.node.Kind.{Kind}
use Rattle.query.specs.declared.node.Kind.TheVariants.{Symbol, Any, Concat, Exact, Atleast, Atmost, In, Precisely, Noless, Nomore, And, Or, Inorder}
use Rattle.query.specs.declared.node.Node.{Node}
use Rattle.query.specs.Tree.{Query, node, Queries, none, more, records, records_each}
use Rattle.shape.specs.Fits.{Rule, only, exactly, at_least, at_most, whole, fits, fits_each}
use Rattle.used.specs.Uses.{is_symbol, symbol_word, used_in, uses, uses_each, UsedByRecords, SeesOnlyUsed}

or_assoc : (x y z : Bool) → ((x || y) || z) ≡ (x || (y || z))
or_assoc true y z = refl
or_assoc false y z = refl

used_append : (xs ys : List Node) (j : ℕ) → used_in (xs ++ ys) j ≡ (used_in xs j || used_in ys j)
unfolding used_in
used_append [] ys j = refl
used_append (x ∷ xs) ys j =
    ap (λ (t : Bool). is_symbol x.kind x.number j || t) (used_append xs ys j)
    ∙ sym (or_assoc (is_symbol x.kind x.number j) (used_in xs j) (used_in ys j))

mutual
  unfolding used_in uses records

  pub used_by_records : UsedByRecords
  used_by_records (node k n p l qs) j = ap (λ (t : Bool). is_symbol k n j || t) (used_by_each qs j)

  used_by_each : (qs : Queries) (j : ℕ) → used_in (records_each qs) j ≡ uses_each qs j
  used_by_each none j = refl
  used_by_each (more q qs) j = used_append (records q) (records_each qs) j ∙ ap₂ ◌||◌ (used_by_records q j) (used_by_each qs j)

or_none : (x : Bool) → x ≡ (x || false)
or_none true = refl
or_none false = refl

-- a whole of a kind sees the words only through their number, but for a symbol
module _ (words others : List ℕ) (same : length words ≡ length others) where
  whole_same : (k : Kind) (n : ℕ) (Ps : List Rule) → ((a : ℕ) → is_symbol k n n ≡ true → has (get_or words a 0) n ≡ has (get_or others a 0) n) →
      whole words k n Ps ≡ whole others k n Ps
  whole_same Symbol n Ps h = λ i s a b. eqb b (suc a) && h a (eq-eqb n n refl) i
  whole_same Any n Ps h = refl
  whole_same Concat n Ps h = refl
  whole_same Exact n Ps h = ap (λ (m : ℕ). exactly m (only Ps) n) same
  whole_same Atleast n Ps h = ap (λ (m : ℕ). at_least m (only Ps) n) same
  whole_same Atmost n Ps h = ap (λ (m : ℕ). at_most m (only Ps) n) same
  whole_same In n Ps h = refl
  whole_same Precisely n Ps h = refl
  whole_same Noless n Ps h = refl
  whole_same Nomore n Ps h = refl
  whole_same And n Ps h = refl
  whole_same Or n Ps h = refl
  whole_same Inorder n Ps h = refl

  mutual
    unfolding fits uses

    sees : (q : Query) → ((a j : ℕ) → uses q j ≡ true → has (get_or words a 0) j ≡ has (get_or others a 0) j) → fits words q ≡ fits others q
    sees (node k n p l qs) h =
        whole_same k n (fits_each words qs) (λ a e. h a n (or_left (is_symbol k n n) (uses_each qs n) e))
        ∙ ap (whole others k n) (sees_each qs (λ a j e. h a j (or_right (is_symbol k n j) (uses_each qs j) e)))

    sees_each : (qs : Queries) → ((a j : ℕ) → uses_each qs j ≡ true → has (get_or words a 0) j ≡ has (get_or others a 0) j) → fits_each words qs ≡ fits_each others qs
    sees_each none h = refl
    sees_each (more q qs) h =
        ap₂ ◌∷◌ (sees q (λ a j e. h a j (or_left (uses q j) (uses_each qs j) e))) (sees_each qs (λ a j e. h a j (or_right (uses q j) (uses_each qs j) e)))

pub sees_only_used : SeesOnlyUsed
sees_only_used q words others same h s a b = ap (λ (P : Rule). P s a b) (sees words others same q h)

-- a record's word has just its symbol
word_has : (x : Node) (j : ℕ) → j < 32 → has (symbol_word x) j ≡ is_symbol x.kind x.number j
word_has x j l = go (same_kind x.kind Symbol) (cases_lt x.number 32)
  where
    swap : eqb j x.number ≡ eqb x.number j
    swap = grind (arith, nat_tests)

    go : (t : Bool) → (x.number < 32) ⊎ (32 ≤ x.number) → has (if t && ltb x.number 32 then 2 ^ x.number else 0) j ≡ (t && eqb x.number j)
    go false h = has_none j
    go true (inl h) = ap (λ (t : Bool). has (if t then 2 ^ x.number else 0) j) (lt-ltb x.number 32 h) ∙ has_power x.number j ∙ swap
    go true (inr h) = ap (λ (t : Bool). has (if t then 2 ^ x.number else 0) j) (le-ltb x.number 32 h) ∙ has_none j ∙ sym (ne_eqb x.number j (λ e. omega arith))

-- the words of all records in one
abbrev pub gathered : ℕ → List Node → ℕ
gathered w xs = fold (λ (v : ℕ) (x : Node). bit_or v (symbol_word x)) w xs

pub gathered_has : (xs : List Node) (w j : ℕ) → j < 32 → has (gathered w xs) j ≡ (has w j || used_in xs j)
unfolding used_in
gathered_has [] w j l = or_none (has w j)
gathered_has (x ∷ xs) w j l =
    gathered_has xs (bit_or w (symbol_word x)) j l
    ∙ ap (λ (t : Bool). t || used_in xs j) (has_or w (symbol_word x) j ∙ ap (λ (t : Bool). has w j || t) (word_has x j l))
    ∙ or_assoc (has w j) (is_symbol x.kind x.number j) (used_in xs j)

pub gathered_all : (xs : List Node) (j : ℕ) → j < 32 → has (gathered 0 xs) j ≡ used_in xs j
gathered_all xs j l = gathered_has xs 0 j l ∙ ap (λ (t : Bool). t || used_in xs j) (has_none j)
