-- The limits told of words and those told of the query that they spell are the same.
use Rattle.std.proofs.Common.{◌≡◌, ℕ, suc, pred, ◌+◌, ◌≤◌, min, max, Bool, true, false, cond, not, ◌&&◌, eqb, ltb, leb, List, [], ◌∷◌, ◌++◌, length, Some, Ok, sym, refl, ap, ◌∙◌, subst, ap₂, inl, inr, zero-add, arith, rules}
use Rattle.std.proofs.lemmas.List.{length-append}
use Rattle.std.proofs.lemmas.Bool.{and_parts, and_from, cond-true, cond-false, ne_eqb, leb-true, le-leb, ltb-true, lt-ltb, cases_eq}
use Rattle.query.specs.declared.node.Kind.{Kind}
use Rattle.query.specs.declared.node.Role.{Role}
use Rattle.query.specs.declared.node.Role.TheVariants.{Shape}
use Rattle.query.specs.declared.node.Stage.TheVariants.{Read}
use Rattle.query.specs.Tree.{Query, node, Queries, none, more, count, records, records_each, levels, levels_each}
use Rattle.query.specs.Rules.{allows, part_role, parts_right, number_right, record_right, keeps, keeps_each, well}
use Rattle.words.specs.Words.{name, number, opens, closes, size}
use Rattle.grammar.specs.declared.types.Point.TheVariants.{Inside}
use Rattle.grammar.specs.Names.{kind_named, natural, extra_zero, small}
use Rattle.grammar.specs.Spelling.{Said, lparen, rparen, counts, names, Placed, said, is_symbol, takes_number, number_words, spell, spell_each, number_free, formed, formed_each}
use Rattle.grammar.specs.Limits.{Tally, nothing, note, is_in, level_of, number_fits, name_fits, all_fit}
use Rattle.grammar.specs.Machine.{State, state, run, start, done}
use Rattle.grammar.specs.Reading.{plain, Spells}
use Rattle.grammar.proofs.Forward.{moves, written, written_each, symbol_none, some_same}
use Rattle.grammar.proofs.Language.{spelt}
use Rattle.grammar.proofs.Counting.{start_agrees}
use Rattle.grammar.proofs.Runs.{runs, took, done_follows}

-- how many names are among words
abbrev named_in : List Said → ℕ
named_in [] = 0
named_in (lparen ∷ ws) = named_in ws
named_in (rparen ∷ ws) = named_in ws
named_in (counts n ∷ ws) = named_in ws
named_in (names k p l ∷ ws) = suc (named_in ws)

-- the highest level of a name, with so many parentheses open in front
abbrev high : ℕ → List Said → ℕ
high d [] = 0
high d (lparen ∷ ws) = high (suc d) ws
high d (rparen ∷ ws) = high (pred d) ws
high d (counts n ∷ ws) = high d ws
high d (names k p l ∷ ws) = max (d + cond (is_symbol k) 1 0) (high d ws)

-- each number is one that its kind takes, and each symbol lies in a text of so many bytes; b tells whether `in` stands in front
abbrev rights : ℕ → Bool → List Said → Bool
rights t b [] = true
rights t b (lparen ∷ ws) = rights t false ws
rights t b (rparen ∷ ws) = rights t false ws
rights t b (counts n ∷ ws) = (leb n 255 && not (b && eqb n 0)) && rights t false ws
rights t b (names k p l ∷ ws) = cond (is_symbol k) (leb (p + l) t) true && rights t (is_in k) ws

named_number : (k : Kind) (n : ℕ) (ws : List Said) → named_in (number_words k n ws) ≡ named_in ws
named_number k n ws = go (takes_number k)
  where
    go : (t : Bool) → named_in (cond t (counts n ∷ ws) ws) ≡ named_in ws
    go true = refl
    go false = refl

high_number : (d : ℕ) (k : Kind) (n : ℕ) (ws : List Said) → high d (number_words k n ws) ≡ high d ws
high_number d k n ws = go (takes_number k)
  where
    go : (t : Bool) → high d (cond t (counts n ∷ ws) ws) ≡ high d ws
    go true = refl
    go false = refl

-- what a query that is formed has, taken apart
record Parts (r : Role) (k : Kind) (n : ℕ) (qs : Queries) : Type 0 where
  allowed : allows r k ≡ true
  some : parts_right k (count qs) ≡ true
  free : number_free k n ≡ true
  each : formed_each (part_role k) qs ≡ true

formed_parts : (r : Role) (k : Kind) (n p l : ℕ) (qs : Queries) → formed r (node k n p l qs) ≡ true → Parts r k n qs
unfolding formed
formed_parts r k n p l qs f =
    let f1 = and_parts (allows r k && parts_right k (count qs)) (number_free k n && formed_each (part_role k) qs) f in
    let f2 = and_parts (allows r k) (parts_right k (count qs)) f1.0 in
    let f3 = and_parts (number_free k n) (formed_each (part_role k) qs) f1.1 in
    record { allowed = f2.0; some = f2.1; free = f3.0; each = f3.1 }

mutual
  unfolding spell formed records

  -- as many names as records
  named_spell : (q : Query) (r : Role) (ws : List Said) → formed r q ≡ true → named_in (spell q ws) ≡ length (records q) + named_in ws
  named_spell (node k n p l qs) r ws f =
      let h = formed_parts r k n p l qs f in
      go (is_symbol k) refl h.some h.free (named_each qs (part_role k) (rparen ∷ ws) h.each)
    where
      go : (t : Bool) → is_symbol k ≡ t → parts_right k (count qs) ≡ true → number_free k n ≡ true → named_in (spell_each qs (rparen ∷ ws)) ≡ length (records_each qs) + named_in ws →
          named_in (cond t (names k p l ∷ ws) (lparen ∷ names k p l ∷ number_words k n (spell_each qs (rparen ∷ ws)))) ≡ suc (length (records_each qs)) + named_in ws
      go true s pr free e = let z = ap (λ x. length (records_each x)) (symbol_none k qs s pr) in omega arith
      go false s pr free e = let z = named_number k n (spell_each qs (rparen ∷ ws)) in omega arith

  named_each : (qs : Queries) (r : Role) (ws : List Said) → formed_each r qs ≡ true → named_in (spell_each qs ws) ≡ length (records_each qs) + named_in ws
  named_each none r ws f = sym (zero-add (named_in ws))
  named_each (more q qs) r ws f =
      let h = and_parts (formed r q) (formed_each r qs) f in
      let a = named_spell q r (spell_each qs ws) h.0 in
      let b = named_each qs r ws h.1 in
      let c = length-append (records q) (records_each qs) in
      omega arith

mutual
  unfolding spell formed levels

  -- names stand as high as the query has levels
  high_spell : (q : Query) (r : Role) (d : ℕ) (ws : List Said) → formed r q ≡ true → high d (spell q ws) ≡ max (d + levels q) (high d ws)
  high_spell (node k n p l qs) r d ws f =
      let h = formed_parts r k n p l qs f in
      go (is_symbol k) refl h.some h.free (high_each qs (part_role k) (suc d) (rparen ∷ ws) h.each)
    where
      go : (t : Bool) → is_symbol k ≡ t → parts_right k (count qs) ≡ true → number_free k n ≡ true →
          max (suc d) (high (suc d) (spell_each qs (rparen ∷ ws))) ≡ max (suc d + levels_each qs) (high d ws) →
          high d (cond t (names k p l ∷ ws) (lparen ∷ names k p l ∷ number_words k n (spell_each qs (rparen ∷ ws)))) ≡ max (d + suc (levels_each qs)) (high d ws)
      go true s pr free e =
          let z = ap (λ x. levels_each x) (symbol_none k qs s pr) in
          ap (λ i. max (d + i) (high d ws)) (cond-true (is_symbol k) 1 0 s) ∙ omega arith
      go false s pr free e =
          let z = high_number (suc d) k n (spell_each qs (rparen ∷ ws)) in
          ap (λ i. max (suc d + i) (high (suc d) (number_words k n (spell_each qs (rparen ∷ ws))))) (cond-false (is_symbol k) 1 0 s) ∙ omega arith

  high_each : (qs : Queries) (r : Role) (d : ℕ) (ws : List Said) → formed_each r qs ≡ true → max d (high d (spell_each qs ws)) ≡ max (d + levels_each qs) (high d ws)
  high_each none r d ws f = omega arith
  high_each (more q qs) r d ws f =
      let h = and_parts (formed r q) (formed_each r qs) f in
      let a = high_spell q r d (spell_each qs ws) h.0 in
      let b = high_each qs r d ws h.1 in
      omega arith

and_assoc : (a b c : Bool) → ((a && b) && c) ≡ (a && (b && c))
and_assoc true b c = refl
and_assoc false b c = refl

and_true : (a : Bool) → (a && true) ≡ a
and_true true = refl
and_true false = refl

not_zero : (n : ℕ) → (leb n 255 && not (eqb n 0)) ≡ (ltb 0 n && leb n 255)
not_zero n = elim (cases_eq n 0) [
  | inl z ↦ subst (λ i. (leb i 255 && not (eqb i 0)) ≡ (ltb 0 i && leb i 255)) (sym z) refl
  | inr p ↦ ap (λ b. leb n 255 && not b) (ne_eqb n 0 p) ∙ and_true (leb n 255) ∙ ap (λ b. b && leb n 255) (sym (lt-ltb 0 n (omega arith)))
]

-- the number behind an operator word
number_spelt : (k : Kind) (t n p l : ℕ) (ws : List Said) → is_symbol k ≡ false → number_free k n ≡ true → rights t (is_in k) (number_words k n ws) ≡ (number_right (Read t) k n p l && rights t false ws)
number_spelt k t n p l ws s free = search (rules, and_true, not_zero)

symbol_number : (k : Kind) (t n p l : ℕ) → is_symbol k ≡ true → number_free k n ≡ true → (is_in k ≡ false) × (leb (p + l) t ≡ number_right (Read t) k n p l)
symbol_number k t n p l s free = search rules

record_spelt : (r : Role) (k : Kind) (t n p l m : ℕ) → allows r k ≡ true → parts_right k m ≡ true → record_right (Read t) r (record { kind = k; number = n; parts = m; place = p; length = l }) ≡ number_right (Read t) k n p l
record_spelt r k t n p l m a b = ap₂ (λ x y. x && (y && number_right (Read t) k n p l)) a b

mutual
  unfolding spell formed keeps

  -- numbers and symbols are right just where the query keeps the rules
  keeps_spell : (q : Query) (r : Role) (t : ℕ) (b : Bool) (ws : List Said) → formed r q ≡ true → rights t b (spell q ws) ≡ (keeps (Read t) r q && rights t false ws)
  keeps_spell (node k n p l qs) r t b ws f =
      let h = formed_parts r k n p l qs f in
      go (is_symbol k) refl h.some h.free (record_spelt r k t n p l (count qs) h.allowed h.some) (keeps_spelt qs (part_role k) t (rparen ∷ ws) h.each)
    where
      go : (s : Bool) → is_symbol k ≡ s → parts_right k (count qs) ≡ true → number_free k n ≡ true →
          record_right (Read t) r (record { kind = k; number = n; parts = count qs; place = p; length = l }) ≡ number_right (Read t) k n p l →
          rights t false (spell_each qs (rparen ∷ ws)) ≡ (keeps_each (Read t) (part_role k) qs && rights t false ws) →
          rights t b (cond s (names k p l ∷ ws) (lparen ∷ names k p l ∷ number_words k n (spell_each qs (rparen ∷ ws))))
          ≡ ((record_right (Read t) r (record { kind = k; number = n; parts = count qs; place = p; length = l }) && keeps_each (Read t) (part_role k) qs) && rights t false ws)
      go true s pr free e each =
          let h = symbol_number k t n p l s free in
          let v = symbol_none k qs s pr in
          ap₂ (λ x y. x && rights t y ws) (cond-true (is_symbol k) (leb (p + l) t) true s ∙ h.1 ∙ sym e) h.0
          ∙ ap (λ x. x && rights t false ws) (sym (and_true _) ∙ ap (λ x. record_right (Read t) r (record { kind = k; number = n; parts = count qs; place = p; length = l }) && keeps_each (Read t) (part_role k) x) (sym v))
      go false s pr free e each =
          ap (λ x. x && rights t (is_in k) (number_words k n (spell_each qs (rparen ∷ ws)))) (cond-false (is_symbol k) (leb (p + l) t) true s)
          ∙ number_spelt k t n p l (spell_each qs (rparen ∷ ws)) s free
          ∙ ap₂ (λ x y. x && y) (sym e) each
          ∙ sym (and_assoc _ (keeps_each (Read t) (part_role k) qs) (rights t false ws))

  keeps_spelt : (qs : Queries) (r : Role) (t : ℕ) (ws : List Said) → formed_each r qs ≡ true → rights t false (spell_each qs ws) ≡ (keeps_each (Read t) r qs && rights t false ws)
  keeps_spelt none r t ws f = refl
  keeps_spelt (more q qs) r t ws f =
      let h = and_parts (formed r q) (formed_each r qs) f in
      keeps_spell q r t false (spell_each qs ws) h.0
      ∙ ap (λ x. keeps (Read t) r q && x) (keeps_spelt qs r t ws h.1)
      ∙ sym (and_assoc (keeps (Read t) r q) (keeps_each (Read t) r qs) (rights t false ws))

number_kept : (k : Kind) (t n p l : ℕ) → number_right (Read t) k n p l ≡ true → number_free k n ≡ true
number_kept k t n p l e = search rules

mutual
  unfolding formed keeps

  -- a query that keeps the rules is one that a text can stand for
  pub formed_kept : (q : Query) (r : Role) (t : ℕ) → keeps (Read t) r q ≡ true → formed r q ≡ true
  formed_kept (node k n p l qs) r t e =
      let a = and_parts (record_right (Read t) r (record { kind = k; number = n; parts = count qs; place = p; length = l })) (keeps_each (Read t) (part_role k) qs) e in
      let b = and_parts (allows r k) (parts_right k (count qs) && number_right (Read t) k n p l) a.0 in
      let c = and_parts (parts_right k (count qs)) (number_right (Read t) k n p l) b.1 in
      and_from _ _ (and_from _ _ b.0 c.0) (and_from _ _ (number_kept k t n p l c.1) (each_kept qs (part_role k) t a.1))

  each_kept : (qs : Queries) (r : Role) (t : ℕ) → keeps_each (Read t) r qs ≡ true → formed_each r qs ≡ true
  each_kept none r t e = refl
  each_kept (more q qs) r t e =
      let a = and_parts (keeps (Read t) r q) (keeps_each (Read t) r qs) e in
      and_from _ _ (formed_kept q r t a.0) (each_kept qs r t a.1)

-- each word lies in a text of so many bytes
abbrev pub Within : ℕ → List Placed → Type 0
Within t [] = Unit {0}
Within t (w ∷ ws) = (w.0 + size w.1 ≤ t) × Within t ws

record Limits (t : ℕ) (y : Tally) (ws : List Placed) : Type 0 where
  names_are : y.named + named_in (said ws) ≤ 64
  levels_are : high y.open_now (said ws) ≤ 16
  right : rights t y.after_in (said ws) ≡ true
  plain_are : plain ws ≡ true

-- words within the limits one by one are so all together
fit_limits : (ws : List Placed) (t : ℕ) (y : Tally) → y.named ≤ 64 → Within t ws → all_fit y ws ≡ true → Limits t y ws
unfolding small
fit_limits [] t y h w f = record { names_are = omega arith; levels_are = omega arith; right = refl; plain_are = refl }
fit_limits ((p, name bs) ∷ ws) t y h w f =
    let a = and_parts (name_fits y (names (kind_named bs) p (length bs))) (all_fit (note y (names (kind_named bs) p (length bs))) ws) f in
    let b = and_parts (ltb y.named 64) (leb (level_of (kind_named bs) y) 16) a.0 in
    let x = ltb-true y.named 64 b.0 in
    let z = leb-true (level_of (kind_named bs) y) 16 b.1 in
    let r = fit_limits ws t (note y (names (kind_named bs) p (length bs))) (omega arith) w.1 a.1 in
    let n = r.names_are in
    let g = r.levels_are in
    record {
      names_are = omega arith;
      levels_are = omega arith;
      right = and_from _ _ (symbol_in (is_symbol (kind_named bs)) (le-leb (p + length bs) t w.0)) r.right;
      plain_are = r.plain_are;
    }
  where
    symbol_in : (s : Bool) → leb (p + length bs) t ≡ true → cond s (leb (p + length bs) t) true ≡ true
    symbol_in true e = e
    symbol_in false e = refl
fit_limits ((p, number bs) ∷ ws) t y h w f =
    let a = and_parts (number_fits y (number bs) && true) (all_fit (note y (counts (natural bs))) ws) f in
    let b = and_parts (number_fits y (number bs)) true a.0 in
    let c = and_parts (small bs) (not (y.after_in && eqb (natural bs) 0)) b.0 in
    let d = and_parts (not (extra_zero bs)) (leb (natural bs) 255) c.0 in
    let r = fit_limits ws t (note y (counts (natural bs))) h w.1 a.1 in
    record { names_are = r.names_are; levels_are = r.levels_are; right = and_from _ _ (and_from _ _ d.1 c.1) r.right; plain_are = and_from _ _ d.0 r.plain_are }
fit_limits ((p, opens) ∷ ws) t y h w f =
    let r = fit_limits ws t (note y lparen) h w.1 f in
    record { names_are = r.names_are; levels_are = r.levels_are; right = r.right; plain_are = r.plain_are }
fit_limits ((p, closes) ∷ ws) t y h w f =
    let r = fit_limits ws t (note y rparen) h w.1 f in
    record { names_are = r.names_are; levels_are = r.levels_are; right = r.right; plain_are = r.plain_are }

limits_fit : (ws : List Placed) (t : ℕ) (y : Tally) → Limits t y ws → all_fit y ws ≡ true
unfolding small
limits_fit [] t y h = refl
limits_fit ((p, name bs) ∷ ws) t y h =
    let n = h.names_are in
    let g = h.levels_are in
    and_from _ _ (and_from _ _ (lt-ltb y.named 64 (omega arith)) (le-leb (level_of (kind_named bs) y) 16 (omega arith)))
    (limits_fit ws t (note y (names (kind_named bs) p (length bs)))
    (record { names_are = omega arith; levels_are = omega arith; right = (and_parts (cond (is_symbol (kind_named bs)) (leb (p + length bs) t) true) _ h.right).1; plain_are = h.plain_are }))
limits_fit ((p, number bs) ∷ ws) t y h =
    let r = and_parts (leb (natural bs) 255 && not (y.after_in && eqb (natural bs) 0)) _ h.right in
    let s = and_parts (leb (natural bs) 255) (not (y.after_in && eqb (natural bs) 0)) r.0 in
    let q = and_parts (not (extra_zero bs)) (plain ws) h.plain_are in
    and_from _ _ (and_from _ _ (and_from _ _ (and_from _ _ q.0 s.0) s.1) refl)
    (limits_fit ws t (note y (counts (natural bs))) (record { names_are = h.names_are; levels_are = h.levels_are; right = r.1; plain_are = q.1 }))
limits_fit ((p, opens) ∷ ws) t y h = limits_fit ws t (note y lparen) (record { names_are = h.names_are; levels_are = h.levels_are; right = h.right; plain_are = h.plain_are })
limits_fit ((p, closes) ∷ ws) t y h = limits_fit ws t (note y rparen) (record { names_are = h.names_are; levels_are = h.levels_are; right = h.right; plain_are = h.plain_are })

mutual
  unfolding records

  some_records : (q : Query) → 1 ≤ length (records q)
  some_records (node k n p l qs) = omega arith

  count_le : (qs : Queries) → count qs ≤ length (records_each qs)
  count_le none = omega arith
  count_le (more q qs) = let a = some_records q in let b = count_le qs in let c = length-append (records q) (records_each qs) in omega arith

  -- with few records no count of parts stops short
  written_is : (q : Query) → length (records q) ≤ 64 → written q ≡ records q
  written_is (node k n p l qs) h =
      let c = count_le qs in
      let e : min (count qs) 255 ≡ count qs = omega arith in
      ap₂ (λ m xs. record { kind = k; number = n; parts = m; place = p; length = l } ∷ xs) e (written_each_is qs (omega arith))

  written_each_is : (qs : Queries) → length (records_each qs) ≤ 64 → written_each qs ≡ records_each qs
  written_each_is none h = refl
  written_each_is (more q qs) h =
      let c = length-append (records q) (records_each qs) in
      ap₂ (λ xs ys. xs ++ ys) (written_is q (omega arith)) (written_each_is qs (omega arith))

-- the words of a query within the limits are read into its records
pub accepts : (ws : List Placed) (t : ℕ) (q : Query) → Spells t q ws → run ws start ≡ Ok (state Inside [] (records q))
unfolding well
accepts ws t q s =
    let a = and_parts (keeps (Read t) Shape q) _ s.limited in
    let b = and_parts (leb (levels q) 16) (leb (length (records q)) 64) a.1 in
    let f = formed_kept q Shape t a.0 in
    let few = leb-true (length (records q)) 64 b.1 in
    let low = leb-true (levels q) 16 b.0 in
    let x = named_spell q Shape [] f in
    let y = high_spell q Shape 0 [] f in
    let z = keeps_spell q Shape t false [] f in
    let u = s.spelling in
    let n = ap named_in u in
    let g = ap (high 0) u in
    let fit = limits_fit ws t nothing (record { names_are = omega arith; levels_are = omega arith; right = ap (rights t false) (sym u) ∙ z ∙ and_from _ _ a.0 refl; plain_are = s.plainly }) in
    runs ws nothing start _ start_agrees fit (ap (λ w. moves w (Some start)) (sym u) ∙ spelt q f)
    ∙ ap (λ xs. Ok (state Inside [] xs)) (written_is q few)

-- words that are all taken, up to the end of a text, are those of a query within the limits, and are read into its records
pub accepted : (ws : List Placed) (t : ℕ) (S : State) → Within t ws → run ws start ≡ Ok S → done S ≡ true → (q : Query) × Spells t q ws × (S ≡ state Inside [] (records q))
unfolding well
accepted ws t S w e d =
    let f = done_follows ws S e d in
    let h = took ws nothing start S start_agrees e in
    let m = fit_limits ws t nothing (omega arith) w h.1 in
    let q = f.0 in
    let x = named_spell q Shape [] f.1 in
    let y = high_spell q Shape 0 [] f.1 in
    let z = keeps_spell q Shape t false [] f.1 in
    let n = ap named_in f.2 in
    let g = ap (high 0) f.2 in
    let mn = m.names_are in
    let ml = m.levels_are in
    let few : length (records q) ≤ 64 = omega arith in
    let low : levels q ≤ 16 = omega arith in
    let kept : keeps (Read t) Shape q ≡ true = (and_parts (keeps (Read t) Shape q) true (sym z ∙ ap (rights t false) f.2 ∙ m.right)).0 in (
      q,
      record { spelling = f.2; limited = and_from _ _ kept (and_from _ _ (le-leb (levels q) 16 low) (le-leb (length (records q)) 64 few)); plainly = m.plain_are },
      some_same S _ (sym h.0 ∙ ap (λ l. moves l (Some start)) (sym f.2) ∙ spelt q f.1) ∙ ap (λ xs. state Inside [] xs) (written_is q few),
    )
