-- The text of a bound query, read and bound again, gives an equal query.
use Rattle.std.proofs.Common.{◌≡◌, ℕ, zero, suc, ◌+◌, ◌/◌, ◌%◌, ◌<◌, ◌≤◌, max, Bool, true, false, cond, not, ◌&&◌, ◌||◌, ltb, leb, List, [], ◌∷◌, ◌++◌, length, get_or, take, drop, Some, None, sym, refl, ap, ◌∙◌, subst, ap₂, inl, inr, rules, append_assoc, append-nil, arith}
use Rattle.std.specs.Str.{bytes_eq}
use Rattle.std.proofs.lemmas.Slice.Eq.{bytes_eq-Decides}
use Rattle.std.proofs.lemmas.List.{length-append, take_at, drop_at}
use Rattle.std.proofs.lemmas.Bool.{cases_lt, and_parts, and_from, cond-true, cond-false, lt-ltb, le-ltb, leb-true, eq-eqb, ne_eqb, not-true, or_parts, both_ways}
use Rattle.alphabet.proofs.Distinct.{named_found}
use Rattle.alphabet.specs.Every.{every}
use Rattle.alphabet.specs.Names.{index_of, all_distinct, is_letter, is_among, operator_words, may_name}
use Rattle.query.specs.declared.node.Kind.{Kind}
use Rattle.query.specs.declared.node.Kind.TheVariants.{Symbol}
use Rattle.query.specs.declared.node.Node.{Node}
use Rattle.query.specs.declared.node.Role.{Role}
use Rattle.query.proofs.Alike.{same_kind_refl}
use Rattle.query.specs.declared.node.Stage.TheVariants.{Read, Bound}
use Rattle.query.specs.Tree.{Query, node, Queries, none, more, count, records, records_each, levels, levels_each, alike, alike_each}
use Rattle.query.specs.declared.node.Role.TheVariants.{Shape}
use Rattle.query.specs.Rules.{allows, parts_right, part_role, number_right, record_right, keeps, keeps_each, well}
use Rattle.query.specs.Stands.{query_in}
use Rattle.query.proofs.Standing.{is_query_found}
use Rattle.words.specs.Words.{Stream, word, stream, opens}
use Rattle.words.proofs.Lexing.{parted, letters, Digits, name_front, number_front}
use Rattle.grammar.specs.Names.{operator_word, operators, named_among, kind_named, natural, extra_zero}
use Rattle.grammar.specs.Spelling.{Said, lparen, rparen, counts, names, said, is_symbol, takes_number, number_words, spell, spell_each}
use Rattle.grammar.specs.Reading.{plain}
use Rattle.text.specs.Binding.{numbered_by, missing, name_fault, or_else, unknown}
use Rattle.text.specs.Promise.{placed, ending}
use Rattle.text.proofs.Bound.{none_or, bind_tree, bind_each, bind_records, bound_well}
use Rattle.grammar.proofs.Forward.{symbol_none}
use Rattle.text.specs.Written.{ReadsBack}
use Rattle.writer.specs.Writing.{numeral, number_text, head_text, text_of, parts_text}

word_letters : (k : Kind) → letters (operator_word k) ≡ true
word_letters k = search rules

word_some : (k : Kind) → is_symbol k ≡ false → 0 < length (operator_word k)
word_some k e = search rules

-- each operator is named by its own word
word_names : (k : Kind) → is_symbol k ≡ false → kind_named (operator_word k) ≡ k
unfolding kind_named
word_names k e = search rules

-- the digits of a number stand for it, without an extra zero
numeral_natural : (n : ℕ) → n ≤ 255 → (natural (numeral n) ≡ n) × (extra_zero (numeral n) ≡ false) × Digits (numeral n) × (0 < length (numeral n))
numeral_natural n h = elim (cases_lt n 10) [
  | inl a ↦
      let e : (48 + n) ∷ [] ≡ numeral n = sym (cond-true (ltb n 10) _ _ (lt-ltb n 10 a)) in
      subst (λ ds. (natural ds ≡ n) × (extra_zero ds ≡ false) × Digits ds × (0 < length ds)) e (omega arith, refl, ((omega arith, omega arith), tt), omega arith)
  | inr b ↦ elim (cases_lt n 100) [
    | inl a ↦
        let e : (48 + n / 10) ∷ (48 + n % 10) ∷ [] ≡ numeral n = sym (cond-false (ltb n 10) _ _ (le-ltb n 10 b) ∙ cond-true (ltb n 100) _ _ (lt-ltb n 100 a)) in
        subst (λ ds. (natural ds ≡ n) × (extra_zero ds ≡ false) × Digits ds × (0 < length ds)) e
        (omega arith, ne_eqb (48 + n / 10) 48 (omega arith), ((omega arith, omega arith), ((omega arith, omega arith), tt)), omega arith)
    | inr a ↦
        let e : (48 + n / 100) ∷ (48 + n / 10 % 10) ∷ (48 + n % 10) ∷ [] ≡ numeral n = sym (cond-false (ltb n 10) _ _ (le-ltb n 10 b) ∙ cond-false (ltb n 100) _ _ (le-ltb n 100 a)) in
        subst (λ ds. (natural ds ≡ n) × (extra_zero ds ≡ false) × Digits ds × (0 < length ds)) e
        (omega arith, ne_eqb (48 + n / 100) 48 (omega arith), ((omega arith, omega arith), ((omega arith, omega arith), ((omega arith, omega arith), tt))), omega arith)
  ]
]

-- one stream says what another does, with words in front
record Reads (s s' : Stream) (f : List Said → List Said) : Type 0 where
  says_it : said (placed s) ≡ f (said (placed s'))
  plain_it : plain (placed s) ≡ plain (placed s')
  ends_it : ending s ≡ ending s'

reads_then : {s s' s'' : Stream} {f g : List Said → List Said} → Reads s s' f → Reads s' s'' g → Reads s s'' (λ ws. f (g ws))
reads_then {s} {s'} {s''} {f} {g} a b = record { says_it = a.says_it ∙ ap f b.says_it; plain_it = a.plain_it ∙ b.plain_it; ends_it = a.ends_it ∙ b.ends_it }

reads_from : {s t s' : Stream} (f : List Said → List Said) → s ≡ t → Reads t s' f → Reads s s' f
reads_from {s} {t} {s'} f e a = subst (λ x. Reads x s' f) (sym e) a

reads_to : {s s' t : Stream} (f : List Said → List Said) → s' ≡ t → Reads s s' f → Reads s t f
reads_to {s} {s'} {t} f e a = subst (λ x. Reads s x f) e a

reads_as : {s s' : Stream} (f g : List Said → List Said) → ((ws : List Said) → f ws ≡ g ws) → Reads s s' f → Reads s s' g
reads_as {s} {s'} f g e a = record { says_it = a.says_it ∙ e (said (placed s')); plain_it = a.plain_it; ends_it = a.ends_it }

reads_none : (s : Stream) → Reads s s (λ ws. ws)
reads_none s = record { says_it = refl; plain_it = refl; ends_it = refl }

-- the number of a kind that goes with one
number_reads : (k : Kind) (n q : ℕ) (bs : List ℕ) → n ≤ 255 → parted bs ≡ true → Reads (stream q (number_text k n ++ bs)) (stream (q + length (number_text k n)) bs) (number_words k n)
number_reads k n q bs h e = go (takes_number k)
  where
    go : (t : Bool) → Reads (stream q (cond t (32 ∷ numeral n) [] ++ bs)) (stream (q + length (cond t (32 ∷ numeral n) [])) bs) (λ ws. cond t (counts n ∷ ws) ws)
    go true =
        let d = numeral_natural n h in
        let z : q + 1 + length (numeral n) ≡ q + suc (length (numeral n)) = omega arith in
        reads_to (λ ws. counts n ∷ ws) (ap (λ i. stream i bs) z)
        (reads_from (λ ws. counts n ∷ ws) (number_front (q + 1) (numeral n) bs d.2 d.3 e)
        (record { says_it = ap (λ i. counts i ∷ said (placed (stream (q + 1 + length (numeral n)) bs))) d.0; plain_it = ap (λ b. not b && plain (placed (stream (q + 1 + length (numeral n)) bs))) d.1; ends_it = refl }))
    go false =
        let z : q ≡ q + 0 = omega arith in
        reads_to (λ ws. ws) (ap (λ i. stream i bs) z) (reads_none (stream q bs))

number_parted : (k : Kind) (n : ℕ) (bs : List ℕ) → parted bs ≡ true → parted (number_text k n ++ bs) ≡ true
number_parted k n bs e = go (takes_number k)
  where
    go : (t : Bool) → parted (cond t (32 ∷ numeral n) [] ++ bs) ≡ true
    go true = refl
    go false = e

-- a parenthesis, the operator word and the number
head_reads : (k : Kind) (n p : ℕ) (bs : List ℕ) → is_symbol k ≡ false → n ≤ 255 → parted bs ≡ true → Reads (stream p (head_text k n ++ bs)) (stream (p + length (head_text k n)) bs) (λ ws. lparen ∷ names k (p + 1) (length (operator_word k)) ∷ number_words k n ws)
head_reads k n p bs s h e =
    let w = operator_word k in
    let f = name_front (p + 1) w (number_text k n ++ bs) (word_letters k) (word_some k s) (number_parted k n bs e) in
    let z : p + 1 + length w + length (number_text k n) ≡ p + length (head_text k n) = (let a = length-append w (number_text k n) in omega arith) in
    reads_to _ (ap (λ i. stream i bs) z)
    (reads_as (λ ws. lparen ∷ names (kind_named w) (p + 1) (length w) ∷ number_words k n ws) _ (λ ws. ap (λ j. lparen ∷ names j (p + 1) (length w) ∷ number_words k n ws) (word_names k s))
    (reads_from (λ ws. lparen ∷ names (kind_named w) (p + 1) (length w) ∷ number_words k n ws) (ap (λ l. word p opens (stream (p + 1) l)) (append_assoc w (number_text k n) bs) ∙ ap (word p opens) f)
    (let r = number_reads k n (p + 1 + length w) bs h e in
    record { says_it = ap (λ ws. lparen ∷ names (kind_named w) (p + 1) (length w) ∷ ws) r.says_it; plain_it = r.plain_it; ends_it = r.ends_it })))

letters_same : (bs : List ℕ) → letters bs ≡ every is_letter bs
letters_same [] = refl
letters_same (b ∷ bs) = ap (λ t. is_letter b && t) (letters_same bs)

among_kinds : List Kind → List ℕ → Bool
among_kinds [] w = false
among_kinds (k ∷ ks) w = bytes_eq (operator_word k) w || among_kinds ks w

not_among : (ks : List Kind) (w : List ℕ) → among_kinds ks w ≡ false → named_among ks w ≡ Symbol
unfolding among_kinds
not_among [] w e = refl
not_among (k ∷ ks) w e =
    let a = or_parts (bytes_eq (operator_word k) w) (among_kinds ks w) e in
    cond-false (bytes_eq w (operator_word k)) _ _ (go (bytes_eq w (operator_word k)) refl a.0) ∙ not_among ks w a.1
  where
    go : (t : Bool) → bytes_eq w (operator_word k) ≡ t → bytes_eq (operator_word k) w ≡ false → bytes_eq w (operator_word k) ≡ false
    go true q f = absurd (both_ways (bytes_eq (operator_word k) w) f ((bytes_eq-Decides (operator_word k) w).1 (sym ((bytes_eq-Decides w (operator_word k)).0 q))))
    go false q f = q

-- the name of a symbol is no operator word
name_names : (w : List ℕ) → may_name w ≡ true → (kind_named w ≡ Symbol) × (letters w ≡ true) × (0 < length w)
unfolding kind_named operator_words among_kinds
name_names w e =
    let a = and_parts (leb 1 (length w) && leb (length w) 16) (every is_letter w && not (is_among operator_words w)) e in
    let b = and_parts (every is_letter w) (not (is_among operator_words w)) a.1 in
    let c = leb-true 1 (length w) (and_parts (leb 1 (length w)) (leb (length w) 16) a.0).0 in
    (not_among operators w (not-true (is_among operator_words w) b.1), letters_same w ∙ b.0, c)

name_may : (ns : List (List ℕ)) (j : ℕ) → every may_name ns ≡ true → j < length ns → may_name (get_or ns j []) ≡ true
name_may [] j e h = absurd (omega arith)
name_may (x ∷ xs) zero e h = (and_parts (may_name x) (every may_name xs) e).0
name_may (x ∷ xs) (suc j) e h = name_may xs j (and_parts (may_name x) (every may_name xs) e).1 (omega arith)

parts_parted : (ns : List (List ℕ)) (qs : Queries) (bs : List ℕ) → parted (parts_text ns qs ++ bs) ≡ true
unfolding text_of
parts_parted ns none bs = refl
parts_parted ns (more q qs) bs = refl

small_number : (k : Kind) (m n p l : ℕ) → is_symbol k ≡ false → number_right (Bound m) k n p l ≡ true → n ≤ 255
small_number k m n p l s e = search rules

symbol_bound : (k : Kind) (m n p l : ℕ) → is_symbol k ≡ true → number_right (Bound m) k n p l ≡ true → n < m
symbol_bound k m n p l s e = search rules

is_symbol_is : (k : Kind) → is_symbol k ≡ true → k ≡ Symbol
is_symbol_is k e = search rules

record Kept (m : ℕ) (r : Role) (k : Kind) (n p l : ℕ) (qs : Queries) : Type 0 where
  allowed : allows r k ≡ true
  some : parts_right k (count qs) ≡ true
  right : number_right (Bound m) k n p l ≡ true
  each : keeps_each (Bound m) (part_role k) qs ≡ true

kept_parts : (m : ℕ) (r : Role) (k : Kind) (n p l : ℕ) (qs : Queries) → keeps (Bound m) r (node k n p l qs) ≡ true → Kept m r k n p l qs
unfolding keeps
kept_parts m r k n p l qs e =
    let a = and_parts (record_right (Bound m) r (record { kind = k; number = n; parts = count qs; place = p; length = l })) (keeps_each (Bound m) (part_role k) qs) e in
    let b = and_parts (allows r k) (parts_right k (count qs) && number_right (Bound m) k n p l) a.0 in
    let c = and_parts (parts_right k (count qs)) (number_right (Bound m) k n p l) b.1 in
    record { allowed = b.0; some = c.0; right = c.1; each = a.1 }

spell_symbol : (k : Kind) (n p l : ℕ) (qs : Queries) (ws : List Said) → is_symbol k ≡ true → spell (node k n p l qs) ws ≡ names k p l ∷ ws
unfolding spell
spell_symbol k n p l qs ws s = cond-true (is_symbol k) _ _ s

spell_operator : (k : Kind) (n p l : ℕ) (qs : Queries) (ws : List Said) → is_symbol k ≡ false → spell (node k n p l qs) ws ≡ lparen ∷ names k p l ∷ number_words k n (spell_each qs (rparen ∷ ws))
unfolding spell
spell_operator k n p l qs ws s = cond-false (is_symbol k) _ _ s

symbol_keeps : (k : Kind) (p l t : ℕ) (r : Role) → is_symbol k ≡ true → allows r k ≡ true → p + l ≤ t → keeps (Read t) r (node k 255 p l none) ≡ true
unfolding keeps
symbol_keeps k p l t r s a h = search rules

read_number : (k : Kind) (m t n o l p j : ℕ) → is_symbol k ≡ false → number_right (Bound m) k n o l ≡ true → number_right (Read t) k n p j ≡ true
read_number k m t n o l p j s e = search rules

abbrev sym_node : Kind → ℕ → ℕ → Node
sym_node k p l = record { kind = k; number = 255; parts = 0; place = p; length = l }

abbrev op_node : Kind → ℕ → ℕ → ℕ → ℕ → Node
op_node k n m p l = record { kind = k; number = n; parts = m; place = p; length = l }

module _ (ns : List (List ℕ)) (may : every may_name ns ≡ true) where
  abbrev mutual
    -- the query as its text is read, from place p on: symbols are not bound, and words stand where they are written
    pub at_place : ℕ → Query → Query
    at_place p (node k n o l qs) = cond (is_symbol k) (node k 255 p (length (get_or ns n [])) none) (node k n (p + 1) (length (operator_word k)) (each_place (p + length (head_text k n)) qs))

    pub each_place : ℕ → Queries → Queries
    each_place p none = none
    each_place p (more q qs) = more (at_place (p + 1) q) (each_place (p + 1 + length (text_of ns q)) qs)

  mutual
    unfolding text_of spell keeps

    text_reads : (q : Query) (r : Role) (p : ℕ) (bs : List ℕ) → keeps (Bound (length ns)) r q ≡ true → parted bs ≡ true → Reads (stream p (text_of ns q ++ bs)) (stream (p + length (text_of ns q)) bs) (spell (at_place p q))
    text_reads (node k n o l qs) r p bs e d = go (is_symbol k) refl (kept_parts (length ns) r k n o l qs e) (λ i h. parts_read qs (part_role k) i bs h)
      where
        go : (t : Bool) → is_symbol k ≡ t → Kept (length ns) r k n o l qs →
            ((i : ℕ) → keeps_each (Bound (length ns)) (part_role k) qs ≡ true → Reads (stream i (parts_text ns qs ++ bs)) (stream (i + length (parts_text ns qs)) bs) (λ ws. spell_each (each_place i qs) (rparen ∷ ws))) →
            Reads (stream p ((cond t (get_or ns n []) (head_text k n) ++ cond t [] (parts_text ns qs)) ++ bs)) (stream (p + length (cond t (get_or ns n []) (head_text k n) ++ cond t [] (parts_text ns qs))) bs)
            (spell (cond t (node k 255 p (length (get_or ns n [])) none) (node k n (p + 1) (length (operator_word k)) (each_place (p + length (head_text k n)) qs))))
        go true s h parts =
            let w = get_or ns n [] in
            let g = name_names w (name_may ns n may (symbol_bound k (length ns) n o l s h.right)) in
            subst (λ x. Reads (stream p (x ++ bs)) (stream (p + length x) bs) (spell (node k 255 p (length w) none))) (sym (append-nil w))
            (reads_from _ (name_front p w bs g.1 g.2 d)
            (record { says_it = ap (λ j. names j p (length w) ∷ said (placed (stream (p + length w) bs))) (g.0 ∙ sym (is_symbol_is k s)) ∙ sym (spell_symbol k 255 p (length w) none _ s); plain_it = refl; ends_it = refl }))
        go false s h parts =
            let ht = head_text k n in
            let pt = parts_text ns qs in
            let z : p + length ht + length pt ≡ p + length (ht ++ pt) = (let a = length-append ht pt in omega arith) in
            reads_to _ (ap (λ i. stream i bs) z)
            (reads_as (λ ws. lparen ∷ names k (p + 1) (length (operator_word k)) ∷ number_words k n (spell_each (each_place (p + length ht) qs) (rparen ∷ ws))) _ (λ ws. sym (spell_operator k n (p + 1) (length (operator_word k)) (each_place (p + length ht) qs) ws s))
            (reads_from _ (ap (stream p) (append_assoc ht pt bs))
            (reads_then (head_reads k n p (pt ++ bs) s (small_number k (length ns) n o l s h.right) (parts_parted ns qs bs)) (parts (p + length ht) h.each))))

    parts_read : (qs : Queries) (r : Role) (p : ℕ) (bs : List ℕ) → keeps_each (Bound (length ns)) r qs ≡ true → Reads (stream p (parts_text ns qs ++ bs)) (stream (p + length (parts_text ns qs)) bs) (λ ws. spell_each (each_place p qs) (rparen ∷ ws))
    parts_read none r p bs e = record { says_it = refl; plain_it = refl; ends_it = refl }
    parts_read (more q qs) r p bs e =
        let a = and_parts (keeps (Bound (length ns)) r q) (keeps_each (Bound (length ns)) r qs) e in
        let z : p + 1 + length (text_of ns q) + length (parts_text ns qs) ≡ p + suc (length (text_of ns q ++ parts_text ns qs)) = (let b = length-append (text_of ns q) (parts_text ns qs) in omega arith) in
        reads_to _ (ap (λ i. stream i bs) z)
        (reads_from _ (ap (stream (p + 1)) (append_assoc (text_of ns q) (parts_text ns qs) bs))
        (reads_then (text_reads q r (p + 1) (parts_text ns qs ++ bs) a.0 (parts_parted ns qs bs)) (parts_read qs r (p + 1 + length (text_of ns q)) bs a.1)))

  count_place : (p : ℕ) (qs : Queries) → count (each_place p qs) ≡ count qs
  count_place p none = refl
  count_place p (more q qs) = ap suc (count_place (p + 1 + length (text_of ns q)) qs)

  mutual
    unfolding text_of keeps

    place_keeps : (q : Query) (r : Role) (p t : ℕ) → keeps (Bound (length ns)) r q ≡ true → p + length (text_of ns q) ≤ t → keeps (Read t) r (at_place p q) ≡ true
    place_keeps (node k n o l qs) r p t e h = go (is_symbol k) refl (kept_parts (length ns) r k n o l qs e) h (λ i g. place_each qs (part_role k) i t g)
      where
        go : (b : Bool) → is_symbol k ≡ b → Kept (length ns) r k n o l qs → p + length (cond b (get_or ns n []) (head_text k n) ++ cond b [] (parts_text ns qs)) ≤ t →
            ((i : ℕ) → keeps_each (Bound (length ns)) (part_role k) qs ≡ true → i + length (parts_text ns qs) ≤ t → keeps_each (Read t) (part_role k) (each_place i qs) ≡ true) →
            keeps (Read t) r (cond b (node k 255 p (length (get_or ns n [])) none) (node k n (p + 1) (length (operator_word k)) (each_place (p + length (head_text k n)) qs))) ≡ true
        go true s g h parts = symbol_keeps k p (length (get_or ns n [])) t r s g.allowed (let a = length-append (get_or ns n []) [] in omega arith)
        go false s g h parts =
            let a = length-append (head_text k n) (parts_text ns qs) in
            and_from _ _ (and_from _ _ g.allowed (and_from _ _ (ap (parts_right k) (count_place (p + length (head_text k n)) qs) ∙ g.some) (read_number k (length ns) t n o l (p + 1) (length (operator_word k)) s g.right)))
            (parts (p + length (head_text k n)) g.each (omega arith))

    place_each : (qs : Queries) (r : Role) (p t : ℕ) → keeps_each (Bound (length ns)) r qs ≡ true → p + length (parts_text ns qs) ≤ t → keeps_each (Read t) r (each_place p qs) ≡ true
    place_each none r p t e h = refl
    place_each (more q qs) r p t e h =
        let a = and_parts (keeps (Bound (length ns)) r q) (keeps_each (Bound (length ns)) r qs) e in
        let b = length-append (text_of ns q) (parts_text ns qs) in
        and_from _ _ (place_keeps q r (p + 1) t a.0 (omega arith)) (place_each qs r (p + 1 + length (text_of ns q)) t a.1 (omega arith))

  mutual
    unfolding levels keeps

    place_levels : (q : Query) (r : Role) (p : ℕ) → keeps (Bound (length ns)) r q ≡ true → levels (at_place p q) ≡ levels q
    place_levels (node k n o l qs) r p e = go (is_symbol k) refl (kept_parts (length ns) r k n o l qs e) (λ i g. place_levels_each qs (part_role k) i g)
      where
        go : (b : Bool) → is_symbol k ≡ b → Kept (length ns) r k n o l qs → ((i : ℕ) → keeps_each (Bound (length ns)) (part_role k) qs ≡ true → levels_each (each_place i qs) ≡ levels_each qs) →
            levels (cond b (node k 255 p (length (get_or ns n [])) none) (node k n (p + 1) (length (operator_word k)) (each_place (p + length (head_text k n)) qs))) ≡ suc (levels_each qs)
        go true s g parts = ap (λ x. suc (levels_each x)) (sym (symbol_none k qs s g.some))
        go false s g parts = ap suc (parts (p + length (head_text k n)) g.each)

    place_levels_each : (qs : Queries) (r : Role) (p : ℕ) → keeps_each (Bound (length ns)) r qs ≡ true → levels_each (each_place p qs) ≡ levels_each qs
    place_levels_each none r p e = refl
    place_levels_each (more q qs) r p e =
        let a = and_parts (keeps (Bound (length ns)) r q) (keeps_each (Bound (length ns)) r qs) e in
        ap₂ max (place_levels q r (p + 1) a.0) (place_levels_each qs r (p + 1 + length (text_of ns q)) a.1)

  mutual
    unfolding records keeps

    place_records : (q : Query) (r : Role) (p : ℕ) → keeps (Bound (length ns)) r q ≡ true → length (records (at_place p q)) ≡ length (records q)
    place_records (node k n o l qs) r p e = go (is_symbol k) refl (kept_parts (length ns) r k n o l qs e) (λ i g. place_records_each qs (part_role k) i g)
      where
        go : (b : Bool) → is_symbol k ≡ b → Kept (length ns) r k n o l qs → ((i : ℕ) → keeps_each (Bound (length ns)) (part_role k) qs ≡ true → length (records_each (each_place i qs)) ≡ length (records_each qs)) →
            length (records (cond b (node k 255 p (length (get_or ns n [])) none) (node k n (p + 1) (length (operator_word k)) (each_place (p + length (head_text k n)) qs)))) ≡ suc (length (records_each qs))
        go true s g parts = ap (λ x. suc (length (records_each x))) (sym (symbol_none k qs s g.some))
        go false s g parts = ap suc (parts (p + length (head_text k n)) g.each)

    place_records_each : (qs : Queries) (r : Role) (p : ℕ) → keeps_each (Bound (length ns)) r qs ≡ true → length (records_each (each_place p qs)) ≡ length (records_each qs)
    place_records_each none r p e = refl
    place_records_each (more q qs) r p e =
        let a = and_parts (keeps (Bound (length ns)) r q) (keeps_each (Bound (length ns)) r qs) e in
        let x = place_records q r (p + 1) a.0 in
        let y = place_records_each qs r (p + 1 + length (text_of ns q)) a.1 in
        let u = length-append (records (at_place (p + 1) q)) (records_each (each_place (p + 1 + length (text_of ns q)) qs)) in
        let v = length-append (records q) (records_each qs) in
        omega arith

  unknown_both : (text : List ℕ) (xs ys : List Node) → unknown ns text xs ≡ None → unknown ns text ys ≡ None → unknown ns text (xs ++ ys) ≡ None
  unknown_both text [] ys a b = b
  unknown_both text (x ∷ xs) ys a b = let c = none_or (name_fault ns text x) (unknown ns text xs) a in ap₂ or_else c.0 (unknown_both text xs ys c.1 b)

  -- each name is found again, and the bound query is equal
  module _ (apart : all_distinct ns ≡ true) (text : List ℕ) where
    mutual
      unfolding text_of records keeps alike

      back : (q : Query) (r : Role) (pre post : List ℕ) (p : ℕ) → length pre ≡ p → text ≡ pre ++ (text_of ns q ++ post) → keeps (Bound (length ns)) r q ≡ true →
          (unknown ns text (records (at_place p q)) ≡ None) × (alike (bind_tree ns text (at_place p q)) q ≡ true)
      back (node k n o l qs) r pre post p is e h = go (is_symbol k) refl (kept_parts (length ns) r k n o l qs h) e (λ f i j g. back_each qs (part_role k) f post i j g)
        where
          go : (b : Bool) → is_symbol k ≡ b → Kept (length ns) r k n o l qs → text ≡ pre ++ ((cond b (get_or ns n []) (head_text k n) ++ cond b [] (parts_text ns qs)) ++ post) →
              ((f : List ℕ) (i : ℕ) → length f ≡ i → text ≡ f ++ (parts_text ns qs ++ post) → keeps_each (Bound (length ns)) (part_role k) qs ≡ true →
              (unknown ns text (records_each (each_place i qs)) ≡ None) × (alike_each (bind_each ns text (each_place i qs)) qs ≡ true)) →
              (unknown ns text (records (cond b (node k 255 p (length (get_or ns n [])) none) (node k n (p + 1) (length (operator_word k)) (each_place (p + length (head_text k n)) qs)))) ≡ None)
              × (alike (bind_tree ns text (cond b (node k 255 p (length (get_or ns n [])) none) (node k n (p + 1) (length (operator_word k)) (each_place (p + length (head_text k n)) qs)))) (node k n o l qs) ≡ true)
          go true s g e parts =
              let w = get_or ns n [] in
              let at : take (length w) (drop p text) ≡ w =
              ap (λ y. take (length w) (drop p y)) (e ∙ ap (λ y. pre ++ (y ++ post)) (append-nil w)) ∙ ap (take (length w)) (drop_at pre (w ++ post) p is) ∙ take_at w post (length w) refl in
              let found : index_of ns (take (length w) (drop p text)) ≡ Some n =
              ap (index_of ns) at ∙ named_found ns apart w n (cond-true (ltb n (length ns)) _ None (lt-ltb n (length ns) (symbol_bound k (length ns) n o l s g.right))) in (
                ap (λ y. or_else y None) (cond-true (is_symbol k) _ None s ∙ ap (λ y. missing y (sym_node k p (length w))) found),
                and_from _ _ (and_from _ _ (same_kind_refl k) (eq-eqb _ n (ap (λ y. y.number) (cond-true (is_symbol k) (numbered_by (index_of ns (take (length w) (drop p text))) (sym_node k p (length w))) (sym_node k p (length w)) s ∙ ap (λ y. numbered_by y (sym_node k p (length w))) found))))
                    (ap (alike_each none) (symbol_none k qs s g.some)),
              )
          go false s g e parts =
              let ht = head_text k n in
              let b = parts (pre ++ ht) (p + length ht) (length-append pre ht ∙ ap (λ i. i + length ht) is) (e ∙ ap (λ y. pre ++ y) (append_assoc ht (parts_text ns qs) post) ∙ sym (append_assoc pre ht (parts_text ns qs ++ post))) g.each in (
                ap₂ or_else (cond-false (is_symbol k) _ None s) b.0,
                and_from _ _ (and_from _ _ (same_kind_refl k) (eq-eqb _ n (ap (λ y. y.number) (cond-false (is_symbol k) _ (op_node k n (count (each_place (p + length ht) qs)) (p + 1) (length (operator_word k))) s)))) b.1,
              )

      back_each : (qs : Queries) (r : Role) (pre post : List ℕ) (p : ℕ) → length pre ≡ p → text ≡ pre ++ (parts_text ns qs ++ post) → keeps_each (Bound (length ns)) r qs ≡ true →
          (unknown ns text (records_each (each_place p qs)) ≡ None) × (alike_each (bind_each ns text (each_place p qs)) qs ≡ true)
      back_each none r pre post p is e h = (refl, refl)
      back_each (more q qs) r pre post p is e h =
          let a = and_parts (keeps (Bound (length ns)) r q) (keeps_each (Bound (length ns)) r qs) h in
          let f = pre ++ 32 ∷ [] in
          let lf : length f ≡ p + 1 = length-append pre (32 ∷ []) ∙ ap (λ i. i + 1) is in
          let t = text_of ns q in
          let e₁ : text ≡ f ++ (t ++ (parts_text ns qs ++ post)) = e ∙ ap (λ y. pre ++ 32 ∷ y) (append_assoc t (parts_text ns qs) post) ∙ sym (append_assoc pre (32 ∷ []) (t ++ (parts_text ns qs ++ post))) in
          let b = back q r f (parts_text ns qs ++ post) (p + 1) lf e₁ a.0 in
          let c = back_each qs r (f ++ t) post (p + 1 + length t) (length-append f t ∙ ap (λ i. i + length t) lf) (e₁ ∙ sym (append_assoc f t (parts_text ns qs ++ post))) a.1 in
          (unknown_both text (records (at_place (p + 1) q)) (records_each (each_place (p + 1 + length t) qs)) b.0 c.0, and_from _ _ b.1 c.1)

-- the text of a bound query reads back as the query
pub rereads : (ns : List (List ℕ)) (may : every may_name ns ≡ true) → all_distinct ns ≡ true → (q : Query) → well (Bound (length ns)) q ≡ true → length (text_of ns q) ≤ 4096 → ReadsBack ns q (text_of ns q)
unfolding well
rereads ns may apart q e short =
    let text = text_of ns q in
    let a = and_parts (keeps (Bound (length ns)) Shape q) (leb (levels q) 16 && leb (length (records q)) 64) e in
    let b = and_parts (leb (levels q) 16) (leb (length (records q)) 64) a.1 in
    let read = at_place ns may 0 q in
    let r = text_reads ns may q Shape 0 [] a.0 refl in
    let z = append-nil text in
    let w = back ns may apart text q Shape [] [] 0 refl (sym z) a.0 in
    let l : well (Read (length text)) read ≡ true =
    and_from _ _ (place_keeps ns may q Shape 0 (length text) a.0 (omega arith)) (and_from _ _ (ap (λ i. leb i 16) (place_levels ns may q Shape 0 a.0) ∙ b.0) (ap (λ i. leb i 64) (place_records ns may q Shape 0 a.0) ∙ b.1)) in
    record {
      read = read;
      stands = record {
        short = short;
        clean = ap (λ x. ending (stream 0 x)) (sym z) ∙ r.ends_it;
        spells = record {
          spelling = sym (ap (λ x. said (placed (stream 0 x))) (sym z) ∙ r.says_it);
          limited = l;
          plainly = ap (λ x. plain (placed (stream 0 x))) (sym z) ∙ r.plain_it;
        };
      };
      known = w.0;
      same = ap (λ x. alike x q) (ap query_in (sym (bind_records ns text read)) ∙ (is_query_found (Bound (length ns)) (bind_tree ns text read) (bound_well ns text read (length text) l w.0)).1) ∙ w.1;
    }
