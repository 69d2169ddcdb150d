-- The words of a query are read, one after another, into its records.
use Rattle.std.proofs.Common.{◌≡◌, ℕ, zero, suc, ◌+◌, ◌≤◌, min, Bool, true, false, cond, ◌&&◌, eqb, ltb, List, [], ◌∷◌, ◌++◌, length, Some, None, Option, sym, refl, ap, ◌∙◌, subst, ap₂, append_assoc, append-nil, zero-add, arith, rules}
use Rattle.std.proofs.lemmas.Option.{none-some}
use Rattle.std.proofs.lemmas.Bool.{and_parts, cond-true, cond-false, eqb-true, ltb-true, false≢true}
use Rattle.query.specs.declared.node.Kind.{Kind}
use Rattle.query.specs.declared.node.Kind.TheVariants.{Symbol, Any, Concat, Exact, Atleast, Atmost, In, Precisely, Noless, Nomore, And, Or, Inorder}
use Rattle.query.specs.declared.node.Node.{Node}
use Rattle.query.specs.declared.node.Role.{Role}
use Rattle.query.proofs.Alike.{same_kind_is}
use Rattle.query.specs.Tree.{Query, node, Queries, none, more, count}
use Rattle.query.specs.Rules.{allows, part_role, parts_right}
use Rattle.grammar.specs.declared.types.Need.{Need}
use Rattle.grammar.specs.declared.types.Need.TheVariants.{Number, One, Least, More, Close}
use Rattle.grammar.specs.declared.types.Level.{Level}
use Rattle.grammar.specs.declared.types.Point.{Point}
use Rattle.grammar.specs.declared.types.Point.TheVariants.{Start, Opened, Inside}
use Rattle.grammar.specs.Spelling.{Said, lparen, rparen, counts, names, is_symbol, takes_number, number_words, spell, spell_each, number_free, formed, formed_each}
use Rattle.grammar.specs.Machine.{State, state, level, first_need, after_part, change, counted, numbered, begun, begin, begin_at, open_part, leaf, head, close_need, move}

-- one word more, where the words before were read
abbrev pub move_on : Option State → Said → Option State
move_on None w = None
move_on (Some S) w = move S w

-- words in turn
abbrev pub moves : List Said → Option State → Option State
moves [] o = o
moves (w ∷ ws) o = moves ws (move_on o w)

pub moves_append : (xs ys : List Said) (o : Option State) → moves (xs ++ ys) o ≡ moves ys (moves xs o)
moves_append [] ys o = refl
moves_append (x ∷ xs) ys o = moves_append xs ys (move_on o x)

pub moves_none : (ws : List Said) → moves ws None ≡ None
moves_none [] = refl
moves_none (w ∷ ws) = moves_none ws

pub some_same : {A : Type 0} (x y : A) → ◌≡◌ {A = Option A} (Some x) (Some y) → x ≡ y
some_same x y e = cc

abbrev mutual
  -- the records of a query as reading leaves them, with a count of parts that stops at 255
  pub written : Query → List Node
  written (node k n p l qs) = record { kind = k; number = n; parts = min (count qs) 255; place = p; length = l } ∷ written_each qs

  pub written_each : Queries → List Node
  written_each none = []
  written_each (more q qs) = written q ++ written_each qs

-- the record with so many parts more
abbrev bump : ℕ → Node → Node
bump zero x = x
bump (suc m) x = bump m (counted x)

bump_is : (m : ℕ) (k : Kind) (n j p l : ℕ) → j ≤ 255 →
    bump m (record { kind = k; number = n; parts = j; place = p; length = l }) ≡ record { kind = k; number = n; parts = min (j + m) 255; place = p; length = l }
bump_is zero k n j p l h = let e : j ≡ min (j + 0) 255 = omega arith in ap (λ i. record { kind = k; number = n; parts = i; place = p; length = l }) e
bump_is (suc m) k n j p l h =
    let e : min (min (j + 1) 255 + m) 255 ≡ min (j + suc m) 255 = omega arith in
    bump_is m k n (min (j + 1) 255) p l (omega arith) ∙ ap (λ i. record { kind = k; number = n; parts = i; place = p; length = l }) e

pub change_end : (f : Node → Node) (xs : List Node) (x : Node) (ys : List Node) → change f (xs ++ x ∷ ys) (length xs) ≡ xs ++ f x ∷ ys
change_end f [] x ys = refl
change_end f (a ∷ xs) x ys = ap (λ l. a ∷ l) (change_end f xs x ys)

abbrev grown : State → List Node → State
grown T xs = state T.point T.levels (T.out ++ xs)

-- the record of an operator word with its number
abbrev headed : Kind → ℕ → ℕ → ℕ → Node
headed k n p l = record { kind = k; number = n; parts = 0; place = p; length = l }

-- what a parenthesis wants behind its operator word and number
abbrev part_need : Kind → Need
part_need k = cond (takes_number k) One (first_need k)

number_first : (k : Kind) → takes_number k ≡ true → first_need k ≡ Number
number_first k e = search rules

pub symbol_is : (k : Kind) → is_symbol k ≡ true → k ≡ Symbol
symbol_is k s = same_kind_is k Symbol s

no_parts : (qs : Queries) → eqb (count qs) 0 ≡ true → qs ≡ none
no_parts none e = refl
no_parts (more q qs) e = absurd (let z = eqb-true (suc (count qs)) 0 e in omega arith)

-- what a symbol has: no parts, and 255 for its number
pub symbol_none : (k : Kind) (qs : Queries) → is_symbol k ≡ true → parts_right k (count qs) ≡ true → qs ≡ none
symbol_none k qs s e = no_parts qs (ap (λ j. parts_right j (count qs)) (sym (symbol_is k s)) ∙ e)

symbol_255 : (k : Kind) (n : ℕ) → is_symbol k ≡ true → number_free k n ≡ true → n ≡ 255
symbol_255 k n s f = eqb-true n 255 (ap (λ j. number_free j n) (sym (symbol_is k s)) ∙ f)

-- what a parenthesis wants after so many parts
abbrev then_parts : Option Need → ℕ → Option Need
then_parts None m = None
then_parts (Some N) zero = Some N
then_parts (Some N) (suc m) = then_parts (after_part N) m

-- after so many parts the parenthesis may close
abbrev Closes : Need → ℕ → Type 0
Closes N m = (M : Need) × (then_parts (Some N) m ≡ Some M) × ((vs : List Level) (out : List Node) → close_need M vs out ≡ Some (state Inside vs out))

more_parts : (m : ℕ) → then_parts (Some More) m ≡ Some More
more_parts zero = refl
more_parts (suc m) = more_parts m

many_closes : (m : ℕ) → Closes More m
many_closes m = (More, more_parts m, λ vs out. refl)

least_closes : (m : ℕ) → ltb 0 m ≡ true → Closes Least m
least_closes zero e = absurd (let z = ltb-true 0 0 e in omega arith)
least_closes (suc m) e = (More, more_parts m, λ vs out. refl)

one_closes : (m : ℕ) → eqb m 1 ≡ true → Closes One m
one_closes m e = subst (Closes One) (sym (eqb-true m 1 e)) (Close, refl, λ vs out. refl)

-- with as many parts as its kind takes it may
closes_after : (k : Kind) (m : ℕ) → is_symbol k ≡ false → parts_right k m ≡ true → Closes (part_need k) m
closes_after Symbol m s e = absurd (false≢true (sym s))
closes_after Any m s e = many_closes m
closes_after Concat m s e = least_closes m e
closes_after Exact m s e = one_closes m e
closes_after Atleast m s e = one_closes m e
closes_after Atmost m s e = one_closes m e
closes_after In m s e = one_closes m e
closes_after Precisely m s e = one_closes m e
closes_after Noless m s e = one_closes m e
closes_after Nomore m s e = one_closes m e
closes_after And m s e = least_closes m e
closes_after Or m s e = least_closes m e
closes_after Inorder m s e = least_closes m e

-- an operator word behind its opening parenthesis
head_moves : (k : Kind) (p l : ℕ) (r : Role) (vs : List Level) (xs : List Node) → is_symbol k ≡ false → allows r k ≡ true →
    move (state (Opened r) vs xs) (names k p l) ≡ Some (state Inside (level k (first_need k) (length xs) ∷ vs) (xs ++ headed k 0 p l ∷ []))
head_moves k p l r vs xs s a =
    cond-false (is_symbol k) (leaf k p l (begin (state (Opened r) vs xs))) (head k p l (Opened r) vs xs) s
    ∙ cond-true (allows r k) _ None a
    ∙ ap (λ i. Some (state Inside (level k (first_need k) (length xs) ∷ vs) (xs ++ headed k i p l ∷ []))) (cond-false (is_symbol k) 255 0 s)

-- then its number, where the kind goes with one
number_moves : (k : Kind) (n p l : ℕ) (vs : List Level) (xs : List Node) (ws : List Said) → is_symbol k ≡ false → number_free k n ≡ true →
    moves (number_words k n ws) (Some (state Inside (level k (first_need k) (length xs) ∷ vs) (xs ++ headed k 0 p l ∷ [])))
    ≡ moves ws (Some (state Inside (level k (part_need k) (length xs) ∷ vs) (xs ++ headed k n p l ∷ [])))
number_moves k n p l vs xs ws s free = go (takes_number k) refl
  where
    go : (t : Bool) → takes_number k ≡ t →
        moves (number_words k n ws) (Some (state Inside (level k (first_need k) (length xs) ∷ vs) (xs ++ headed k 0 p l ∷ [])))
        ≡ moves ws (Some (state Inside (level k (part_need k) (length xs) ∷ vs) (xs ++ headed k n p l ∷ [])))
    go true e =
        ap (λ w. moves w (Some (state Inside (level k (first_need k) (length xs) ∷ vs) (xs ++ headed k 0 p l ∷ [])))) (cond-true (takes_number k) (counts n ∷ ws) ws e)
        ∙ ap (λ N. moves (counts n ∷ ws) (Some (state Inside (level k N (length xs) ∷ vs) (xs ++ headed k 0 p l ∷ [])))) (number_first k e)
        ∙ ap₂ (λ N (ys : List Node). moves ws (Some (state Inside (level k N (length xs) ∷ vs) ys))) (sym (cond-true (takes_number k) One (first_need k) e)) (change_end (numbered n) xs (headed k 0 p l) [])
    go false e =
        let z : 0 ≡ n = sym (eqb-true n 0 (ap (λ i. eqb n i) (sym (cond-false (is_symbol k) 255 0 s)) ∙ sym (cond-false (takes_number k) true (eqb n (cond (is_symbol k) 255 0)) e) ∙ free)) in
        ap (λ w. moves w (Some (state Inside (level k (first_need k) (length xs) ∷ vs) (xs ++ headed k 0 p l ∷ [])))) (cond-false (takes_number k) (counts n ∷ ws) ws e)
        ∙ ap₂ (λ N i. moves ws (Some (state Inside (level k N (length xs) ∷ vs) (xs ++ headed k i p l ∷ [])))) (sym (cond-false (takes_number k) One (first_need k) e)) z

begun_inside : (o : Option Need) (v : Level) (vs : List Level) (out : List Node) (r : Role) (T : State) → begun o v vs out ≡ Some (r, T) → T.point ≡ Inside
begun_inside None v vs out r T e = absurd (none-some (r, T) e)
begun_inside (Some N) v vs out r T e = ap (λ b. b.1.point) (sym (some_same _ (r, T) e))

-- once a part has begun, the reading stands inside
pub begins_inside : (S : State) (r : Role) (T : State) → begin S ≡ Some (r, T) → T.point ≡ Inside
begins_inside S r T e = go S.point S.levels e
  where
    go : (pt : Point) (vs : List Level) → begin_at pt vs S.out ≡ Some (r, T) → T.point ≡ Inside
    go Start vs e = ap (λ b. b.1.point) (sym (some_same _ (r, T) e))
    go (Opened o) vs e = absurd (none-some (r, T) e)
    go Inside [] e = absurd (none-some (r, T) e)
    go Inside (v ∷ vs) e = begun_inside (after_part v.need) v vs S.out r T e

-- the parts of a parenthesis that stands open are read
abbrev PartsRead : Kind → Queries → List Said → Type 0
PartsRead k qs ws =
    (N M : Need) (vs : List Level) (xs : List Node) (x : Node) (ys : List Node) → then_parts (Some N) (count qs) ≡ Some M →
    moves (spell_each qs ws) (Some (state Inside (level k N (length xs) ∷ vs) (xs ++ x ∷ ys)))
    ≡ moves ws (Some (state Inside (level k M (length xs) ∷ vs) (xs ++ bump (count qs) x ∷ (ys ++ written_each qs))))

mutual
  unfolding spell formed

  -- a query that may stand in the role of the part that begins is read into its records
  pub forward : (q : Query) (r : Role) (S T : State) (ws : List Said) → formed r q ≡ true → begin S ≡ Some (r, T) →
      moves (spell q ws) (Some S) ≡ moves ws (Some (grown T (written q)))
  forward (node k n p l qs) r S T ws f b =
      let f1 = and_parts (allows r k && parts_right k (count qs)) (number_free k n && formed_each (part_role k) qs) f in
      let f2 = and_parts (allows r k) (parts_right k (count qs)) f1.0 in
      let f3 = and_parts (number_free k n) (formed_each (part_role k) qs) f1.1 in
      go (is_symbol k) refl f2.0 f2.1 f3.0 (λ N M vs xs x ys. forward_each qs k N M vs xs x ys (rparen ∷ ws) f3.1)
    where
      go : (t : Bool) → is_symbol k ≡ t → allows r k ≡ true → parts_right k (count qs) ≡ true → number_free k n ≡ true → PartsRead k qs (rparen ∷ ws) →
          moves (cond (is_symbol k) (names k p l ∷ ws) (lparen ∷ names k p l ∷ number_words k n (spell_each qs (rparen ∷ ws)))) (Some S)
          ≡ moves ws (Some (grown T (written (node k n p l qs))))
      go true s a pr free parts =
          ap (λ w. moves w (Some S)) (cond-true (is_symbol k) (names k p l ∷ ws) _ s)
          ∙ ap (moves ws) (cond-true (is_symbol k) (leaf k p l (begin S)) (head k p l S.point S.levels S.out) s ∙ ap (leaf k p l) b ∙ cond-true (allows r k) _ None a)
          ∙ ap₂ (λ i rs. moves ws (Some (grown T (record { kind = k; number = i; parts = min (count rs) 255; place = p; length = l } ∷ written_each rs)))) (cond-true (is_symbol k) 255 0 s ∙ sym (symbol_255 k n s free)) (sym (symbol_none k qs s pr))
      go false s a pr free parts =
          let c = closes_after k (count qs) s pr in
          let rest = spell_each qs (rparen ∷ ws) in
          let xs = T.out in
          ap (λ w. moves w (Some S)) (cond-false (is_symbol k) (names k p l ∷ ws) (lparen ∷ names k p l ∷ number_words k n rest) s)
          ∙ ap (λ o. moves (names k p l ∷ number_words k n rest) (open_part o)) b
          ∙ ap (moves (number_words k n rest)) (head_moves k p l r T.levels xs s a)
          ∙ number_moves k n p l T.levels xs rest s free
          ∙ parts (part_need k) c.0 T.levels xs (headed k n p l) [] c.1
          ∙ ap (moves ws) (c.2 T.levels (xs ++ bump (count qs) (headed k n p l) ∷ written_each qs))
          ∙ ap (λ x. moves ws (Some (state Inside T.levels (xs ++ x ∷ written_each qs)))) (bump_is (count qs) k n 0 p l (omega arith))
          ∙ ap₂ (λ pt j. moves ws (Some (state pt T.levels (xs ++ record { kind = k; number = n; parts = min j 255; place = p; length = l } ∷ written_each qs)))) (sym (begins_inside S r T b)) (zero-add (count qs))

  pub forward_each : (qs : Queries) (k : Kind) (N M : Need) (vs : List Level) (xs : List Node) (x : Node) (ys : List Node) (ws : List Said) →
      formed_each (part_role k) qs ≡ true → then_parts (Some N) (count qs) ≡ Some M →
      moves (spell_each qs ws) (Some (state Inside (level k N (length xs) ∷ vs) (xs ++ x ∷ ys)))
      ≡ moves ws (Some (state Inside (level k M (length xs) ∷ vs) (xs ++ bump (count qs) x ∷ (ys ++ written_each qs))))
  forward_each none k N M vs xs x ys ws f e =
      ap₂ (λ O (zs : List Node). moves ws (Some (state Inside (level k O (length xs) ∷ vs) (xs ++ x ∷ zs)))) (some_same N M e) (sym (append-nil ys))
  forward_each (more q qs) k N M vs xs x ys ws f e =
      let f1 = and_parts (formed (part_role k) q) (formed_each (part_role k) qs) f in
      go (after_part N) refl e (λ T. forward q (part_role k) (state Inside (level k N (length xs) ∷ vs) (xs ++ x ∷ ys)) T (spell_each qs ws) f1.0)
      (λ O ys'. forward_each qs k O M vs xs (counted x) ys' ws f1.1)
    where
      go : (o : Option Need) → after_part N ≡ o → then_parts o (count qs) ≡ Some M →
          ((T : State) → begin (state Inside (level k N (length xs) ∷ vs) (xs ++ x ∷ ys)) ≡ Some (part_role k, T) →
          moves (spell q (spell_each qs ws)) (Some (state Inside (level k N (length xs) ∷ vs) (xs ++ x ∷ ys))) ≡ moves (spell_each qs ws) (Some (grown T (written q)))) →
          ((O : Need) (zs : List Node) → then_parts (Some O) (count qs) ≡ Some M →
          moves (spell_each qs ws) (Some (state Inside (level k O (length xs) ∷ vs) (xs ++ counted x ∷ zs)))
          ≡ moves ws (Some (state Inside (level k M (length xs) ∷ vs) (xs ++ bump (count qs) (counted x) ∷ (zs ++ written_each qs))))) →
          moves (spell q (spell_each qs ws)) (Some (state Inside (level k N (length xs) ∷ vs) (xs ++ x ∷ ys)))
          ≡ moves ws (Some (state Inside (level k M (length xs) ∷ vs) (xs ++ bump (count qs) (counted x) ∷ (ys ++ (written q ++ written_each qs)))))
      go None is e one rest = absurd (none-some M e)
      go (Some O) is e one rest =
          let i = length xs in
          one (state Inside (level k O i ∷ vs) (change counted (xs ++ x ∷ ys) i)) (ap (λ o. begun o (level k N i) vs (xs ++ x ∷ ys)) is)
          ∙ ap (λ (zs : List Node). moves (spell_each qs ws) (Some (state Inside (level k O i ∷ vs) zs)))
          (ap (λ (zs : List Node). zs ++ written q) (change_end counted xs x ys) ∙ append_assoc xs (counted x ∷ ys) (written q))
          ∙ rest O (ys ++ written q) e
          ∙ ap (λ (zs : List Node). moves ws (Some (state Inside (level k M i ∷ vs) (xs ++ bump (count qs) (counted x) ∷ zs)))) (append_assoc ys (written q) (written_each qs))
