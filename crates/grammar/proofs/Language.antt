-- The words that can be read to the end are those of the queries, and whatever was read can be continued to such.
use Rattle.std.proofs.Common.{◌≡◌, ℕ, suc, Bool, true, false, cond, eqb, ltb, List, [], ◌∷◌, ◌++◌, length, Some, None, Option, sym, refl, ap, ◌∙◌, subst, arith}
use Rattle.std.proofs.lemmas.Option.{none-some}
use Rattle.std.proofs.lemmas.Bool.{and_from, cond-true, eqb-true, eq-eqb, lt-ltb, false≢true}
use Rattle.query.specs.declared.node.Kind.{Kind}
use Rattle.query.specs.declared.node.Kind.TheVariants.{Symbol, Any, Concat, Exact, Atleast, Atmost, In, Precisely, Noless, Nomore, And, Or, Inorder}
use Rattle.query.specs.declared.node.Node.{Node}
use Rattle.query.specs.declared.node.Role.{Role}
use Rattle.query.specs.declared.node.Role.TheVariants.{Shape, Window, Count}
use Rattle.query.specs.Tree.{Query, node, Queries, none, more, count}
use Rattle.query.specs.Rules.{allows, part_role, parts_right}
use Rattle.grammar.specs.declared.types.Need.{Need}
use Rattle.grammar.specs.declared.types.Need.TheVariants.{Number, One, Least, More, Close}
use Rattle.grammar.specs.declared.types.Level.{Level}
use Rattle.grammar.specs.declared.types.Point.{Point}
use Rattle.grammar.specs.declared.types.Point.TheVariants.{Start, Opened, Inside}
use Rattle.grammar.specs.Spelling.{Said, lparen, rparen, counts, names, is_symbol, spell, spell_each, number_free, formed, formed_each, Follows, Begins}
use Rattle.grammar.specs.Machine.{State, state, level, first_need, after_part, fresh, begun, begin, begin_at, open_part, leaf, head, count_need, count_at, close_need, close_at, move, start, done, done_at}
use Rattle.grammar.proofs.Forward.{symbol_is, moves, moves_append, moves_none, some_same, begins_inside, written, forward}

-- so many parts are what is still wanted
abbrev takes : Need → ℕ → Bool
takes Number m = eqb m 1
takes One m = eqb m 1
takes Least m = ltb 0 m
takes More m = true
takes Close m = eqb m 0

abbrev lead : Need → ℕ → List Said → List Said
lead Number n ws = counts n ∷ ws
lead One n ws = ws
lead Least n ws = ws
lead More n ws = ws
lead Close n ws = ws

-- the words begin with all that a parenthesis still wants, and its end
record Filled (k : Kind) (N : Need) (Next : List Said → Type 0) (ws : List Said) : Type 0 where
  qs : Queries
  n : ℕ
  rest : List Said
  right : formed_each (part_role k) qs ≡ true
  all : takes N (count qs) ≡ true
  words : ws ≡ lead N n (spell_each qs (rparen ∷ rest))
  next : Next rest

-- the words are all that the open levels want, one after another
abbrev Laid : List Level → List Said → Type 0
Laid [] ws = ws ≡ []
Laid (v ∷ vs) ws = Filled v.kind v.need (Laid vs) ws

abbrev LaidAt : Point → List Level → List Said → Type 0
LaidAt Start vs ws = (q : Query) × (rest : List Said) × (formed Shape q ≡ true) × (ws ≡ spell q rest) × Laid vs rest
LaidAt (Opened r) vs ws = (q : Query) × (rest : List Said) × (formed r q ≡ true) × (lparen ∷ ws ≡ spell q rest) × Laid vs rest
LaidAt Inside vs ws = Laid vs ws

abbrev LaidIn : State → List Said → Type 0
LaidIn S ws = LaidAt S.point S.levels ws

-- one query more in front of the parts
more_filled : (k : Kind) (N M : Need) (Next : List Said → Type 0) (q : Query) (ws rest : List Said) → ((m : ℕ) → takes M m ≡ true → takes N (suc m) ≡ true) →
    ((n : ℕ) (l : List Said) → lead M n l ≡ l) → ((n : ℕ) (l : List Said) → l ≡ lead N n l) →
    formed (part_role k) q ≡ true → ws ≡ spell q rest → Filled k M Next rest → Filled k N Next ws
unfolding spell formed
more_filled k N M Next q ws rest t bare bare' f e h = record {
  qs = more q h.qs;
  n = 0;
  rest = h.rest;
  right = and_from _ _ f h.right;
  all = t (count h.qs) h.all;
  words = e ∙ ap (spell q) (h.words ∙ bare h.n _) ∙ bare' 0 _;
  next = h.next;
}

role_of : {T : State} {r r' : Role} {U : State} → ◌≡◌ {A = Option (Role × State)} (Some (r, U)) (Some (r', T)) → r ≡ r'
role_of {T} {r} {r'} {U} e = ap (λ b. b.0) (some_same (r, U) (r', T) e)

levels_of : {T : State} {r r' : Role} {U : State} → ◌≡◌ {A = Option (Role × State)} (Some (r, U)) (Some (r', T)) → U.levels ≡ T.levels
levels_of {T} {r} {r'} {U} e = ap (λ b. b.1.levels) (some_same (r, U) (r', T) e)

begun_back : (N : Need) (v : Level) (vs : List Level) (out : List Node) (r : Role) (T : State) (q : Query) (ws rest : List Said) → begun (after_part N) v vs out ≡ Some (r, T) →
    formed r q ≡ true → ws ≡ spell q rest → Laid T.levels rest → Filled v.kind N (Laid vs) ws
begun_back Number v vs out r T q ws rest b f e h = absurd (none-some (r, T) b)
begun_back One v vs out r T q ws rest b f e h =
    more_filled v.kind One Close (Laid vs) q ws rest (λ m z. eq-eqb (suc m) 1 (ap suc (eqb-true m 0 z))) (λ n l. refl) (λ n l. refl)
    (subst (λ o. formed o q ≡ true) (sym (role_of b)) f) e (subst (λ us. Laid us rest) (sym (levels_of b)) h)
begun_back Least v vs out r T q ws rest b f e h =
    more_filled v.kind Least More (Laid vs) q ws rest (λ m z. lt-ltb 0 (suc m) (omega arith)) (λ n l. refl) (λ n l. refl)
    (subst (λ o. formed o q ≡ true) (sym (role_of b)) f) e (subst (λ us. Laid us rest) (sym (levels_of b)) h)
begun_back More v vs out r T q ws rest b f e h =
    more_filled v.kind More More (Laid vs) q ws rest (λ m z. refl) (λ n l. refl) (λ n l. refl)
    (subst (λ o. formed o q ≡ true) (sym (role_of b)) f) e (subst (λ us. Laid us rest) (sym (levels_of b)) h)
begun_back Close v vs out r T q ws rest b f e h = absurd (none-some (r, T) b)

-- a query stands where a part begins
part_back : (S : State) (r : Role) (T : State) (q : Query) (ws rest : List Said) → begin S ≡ Some (r, T) →
    formed r q ≡ true → ws ≡ spell q rest → Laid T.levels rest → LaidIn S ws
part_back S r T q ws rest b f e h = go S.point S.levels b
  where
    go : (pt : Point) (vs : List Level) → begin_at pt vs S.out ≡ Some (r, T) → LaidAt pt vs ws
    go Start vs b = (q, rest, subst (λ o. formed o q ≡ true) (sym (role_of b)) f, e, subst (λ us. Laid us rest) (sym (levels_of b)) h)
    go (Opened o) vs b = absurd (none-some (r, T) b)
    go Inside [] b = absurd (none-some (r, T) b)
    go Inside (v ∷ vs) b = begun_back v.need v vs S.out r T q ws rest b f e h

open_back : (S T : State) (ws : List Said) → open_part (begin S) ≡ Some T → LaidIn T ws → LaidIn S (lparen ∷ ws)
open_back S T ws e h = go (begin S) refl e
  where
    go : (o : Option (Role × State)) → begin S ≡ o → open_part o ≡ Some T → LaidIn S (lparen ∷ ws)
    go None b e = absurd (none-some T e)
    go (Some u) b e =
        let l : LaidAt (Opened u.0) u.1.levels ws = subst (λ U. LaidIn U ws) (sym (some_same _ T e)) h in
        part_back S u.0 u.1 l.0 (lparen ∷ ws) l.1 b l.2 l.3 l.4

node_formed : (k : Kind) (n p l : ℕ) (qs : Queries) (r : Role) → allows r k ≡ true → parts_right k (count qs) ≡ true → number_free k n ≡ true →
    formed_each (part_role k) qs ≡ true → formed r (node k n p l qs) ≡ true
unfolding formed
node_formed k n p l qs r a pr free f = and_from _ _ (and_from _ _ a pr) (and_from _ _ free f)

symbol_formed : (k : Kind) (p l : ℕ) (r : Role) → is_symbol k ≡ true → allows r k ≡ true → formed r (node k 255 p l none) ≡ true
unfolding formed
symbol_formed k p l r s a =
    let e : Symbol ≡ k = sym (symbol_is k s) in
    subst (λ j. formed r (node j 255 p l none) ≡ true) e (node_formed Symbol 255 p l none r (subst (λ j. allows r j ≡ true) (symbol_is k s) a) refl refl refl)

symbol_spelt : (k : Kind) (n p l : ℕ) (qs : Queries) (ws : List Said) → is_symbol k ≡ true → names k p l ∷ ws ≡ spell (node k n p l qs) ws
unfolding spell
symbol_spelt k n p l qs ws s = sym (cond-true (is_symbol k) (names k p l ∷ ws) _ s)

leaf_back : (k : Kind) (p l : ℕ) (S T : State) (ws : List Said) → is_symbol k ≡ true → leaf k p l (begin S) ≡ Some T → LaidIn T ws → LaidIn S (names k p l ∷ ws)
leaf_back k p l S T ws s e h = go (begin S) refl e
  where
    go : (o : Option (Role × State)) → begin S ≡ o → leaf k p l o ≡ Some T → LaidIn S (names k p l ∷ ws)
    go None b e = absurd (none-some T e)
    go (Some u) b e = stand (allows u.0 k) refl e
      where
        stand : (t : Bool) → allows u.0 k ≡ t → cond t (Some (state u.1.point u.1.levels (u.1.out ++ fresh k p l ∷ []))) None ≡ Some T → LaidIn S (names k p l ∷ ws)
        stand true a e =
            let laid : LaidAt u.1.point u.1.levels ws = subst (λ U. LaidIn U ws) (sym (some_same _ T e)) h in
            part_back S u.0 u.1 (node k 255 p l none) (names k p l ∷ ws) ws b (symbol_formed k p l u.0 s a) (symbol_spelt k 255 p l none ws s)
            (subst (λ pt. LaidAt pt u.1.levels ws) (begins_inside S u.0 u.1 b) laid)
        stand false a e = absurd (none-some T e)

-- an operator word and what its parenthesis wants are a query without the parenthesis in front
head_filled : (k : Kind) (p l : ℕ) (r : Role) (vs : List Level) (ws : List Said) → is_symbol k ≡ false → allows r k ≡ true → Filled k (first_need k) (Laid vs) ws → LaidAt (Opened r) vs (names k p l ∷ ws)
unfolding spell
head_filled Symbol p l r vs ws s a h = absurd (false≢true (sym s))
head_filled Any p l r vs ws s a h = (node Any 0 p l h.qs, h.rest, node_formed Any 0 p l h.qs r a refl refl h.right, ap (λ w. lparen ∷ names Any p l ∷ w) h.words, h.next)
head_filled Concat p l r vs ws s a h = (node Concat 0 p l h.qs, h.rest, node_formed Concat 0 p l h.qs r a h.all refl h.right, ap (λ w. lparen ∷ names Concat p l ∷ w) h.words, h.next)
head_filled Exact p l r vs ws s a h = (node Exact h.n p l h.qs, h.rest, node_formed Exact h.n p l h.qs r a h.all refl h.right, ap (λ w. lparen ∷ names Exact p l ∷ w) h.words, h.next)
head_filled Atleast p l r vs ws s a h = (node Atleast h.n p l h.qs, h.rest, node_formed Atleast h.n p l h.qs r a h.all refl h.right, ap (λ w. lparen ∷ names Atleast p l ∷ w) h.words, h.next)
head_filled Atmost p l r vs ws s a h = (node Atmost h.n p l h.qs, h.rest, node_formed Atmost h.n p l h.qs r a h.all refl h.right, ap (λ w. lparen ∷ names Atmost p l ∷ w) h.words, h.next)
head_filled In p l r vs ws s a h = (node In h.n p l h.qs, h.rest, node_formed In h.n p l h.qs r a h.all refl h.right, ap (λ w. lparen ∷ names In p l ∷ w) h.words, h.next)
head_filled Precisely p l r vs ws s a h = (node Precisely h.n p l h.qs, h.rest, node_formed Precisely h.n p l h.qs r a h.all refl h.right, ap (λ w. lparen ∷ names Precisely p l ∷ w) h.words, h.next)
head_filled Noless p l r vs ws s a h = (node Noless h.n p l h.qs, h.rest, node_formed Noless h.n p l h.qs r a h.all refl h.right, ap (λ w. lparen ∷ names Noless p l ∷ w) h.words, h.next)
head_filled Nomore p l r vs ws s a h = (node Nomore h.n p l h.qs, h.rest, node_formed Nomore h.n p l h.qs r a h.all refl h.right, ap (λ w. lparen ∷ names Nomore p l ∷ w) h.words, h.next)
head_filled And p l r vs ws s a h = (node And 0 p l h.qs, h.rest, node_formed And 0 p l h.qs r a h.all refl h.right, ap (λ w. lparen ∷ names And p l ∷ w) h.words, h.next)
head_filled Or p l r vs ws s a h = (node Or 0 p l h.qs, h.rest, node_formed Or 0 p l h.qs r a h.all refl h.right, ap (λ w. lparen ∷ names Or p l ∷ w) h.words, h.next)
head_filled Inorder p l r vs ws s a h = (node Inorder 0 p l h.qs, h.rest, node_formed Inorder 0 p l h.qs r a h.all refl h.right, ap (λ w. lparen ∷ names Inorder p l ∷ w) h.words, h.next)

head_back : (k : Kind) (p l : ℕ) (S T : State) (ws : List Said) → is_symbol k ≡ false → head k p l S.point S.levels S.out ≡ Some T → LaidIn T ws → LaidIn S (names k p l ∷ ws)
head_back k p l S T ws s e h = go S.point e
  where
    go : (pt : Point) → head k p l pt S.levels S.out ≡ Some T → LaidAt pt S.levels (names k p l ∷ ws)
    go Start e = absurd (none-some T e)
    go (Opened r) e = stand (allows r k) refl e
      where
        stand : (t : Bool) → allows r k ≡ t → cond t (Some (state Inside (level k (first_need k) (length S.out) ∷ S.levels) (S.out ++ fresh k p l ∷ []))) None ≡ Some T → LaidAt (Opened r) S.levels (names k p l ∷ ws)
        stand true a e = head_filled k p l r S.levels ws s a (subst (λ U. LaidIn U ws) (sym (some_same _ T e)) h)
        stand false a e = absurd (none-some T e)
    go Inside e = absurd (none-some T e)

count_back : (n : ℕ) (N : Need) (v : Level) (vs : List Level) (out : List Node) (T : State) (ws : List Said) → count_need N n v vs out ≡ Some T → LaidIn T ws → Filled v.kind N (Laid vs) (counts n ∷ ws)
count_back n Number v vs out T ws e h =
    let f : Filled v.kind One (Laid vs) ws = subst (λ U. LaidIn U ws) (sym (some_same _ T e)) h in
    record { qs = f.qs; n = n; rest = f.rest; right = f.right; all = f.all; words = ap (λ w. counts n ∷ w) f.words; next = f.next }
count_back n One v vs out T ws e h = absurd (none-some T e)
count_back n Least v vs out T ws e h = absurd (none-some T e)
count_back n More v vs out T ws e h = absurd (none-some T e)
count_back n Close v vs out T ws e h = absurd (none-some T e)

close_back : (N : Need) (k : Kind) (vs : List Level) (out : List Node) (T : State) (ws : List Said) → close_need N vs out ≡ Some T → LaidIn T ws → Filled k N (Laid vs) (rparen ∷ ws)
unfolding spell formed
close_back Number k vs out T ws e h = absurd (none-some T e)
close_back One k vs out T ws e h = absurd (none-some T e)
close_back Least k vs out T ws e h = absurd (none-some T e)
close_back More k vs out T ws e h = record { qs = none; n = 0; rest = ws; right = refl; all = refl; words = refl; next = subst (λ U. LaidIn U ws) (sym (some_same _ T e)) h }
close_back Close k vs out T ws e h = record { qs = none; n = 0; rest = ws; right = refl; all = refl; words = refl; next = subst (λ U. LaidIn U ws) (sym (some_same _ T e)) h }

-- what can follow a word can follow what was before it, with the word in front
move_back : (S T : State) (w : Said) (ws : List Said) → move S w ≡ Some T → LaidIn T ws → LaidIn S (w ∷ ws)
move_back S T lparen ws e h = open_back S T ws e h
move_back S T rparen ws e h = go S.point S.levels e
  where
    go : (pt : Point) (vs : List Level) → close_at pt vs S.out ≡ Some T → LaidAt pt vs (rparen ∷ ws)
    go Start vs e = absurd (none-some T e)
    go (Opened r) vs e = absurd (none-some T e)
    go Inside [] e = absurd (none-some T e)
    go Inside (v ∷ vs) e = close_back v.need v.kind vs S.out T ws e h
move_back S T (counts n) ws e h = go S.point S.levels e
  where
    go : (pt : Point) (vs : List Level) → count_at n pt vs S.out ≡ Some T → LaidAt pt vs (counts n ∷ ws)
    go Start vs e = absurd (none-some T e)
    go (Opened r) vs e = absurd (none-some T e)
    go Inside [] e = absurd (none-some T e)
    go Inside (v ∷ vs) e = count_back n v.need v vs S.out T ws e h
move_back S T (names k p l) ws e h = go (is_symbol k) refl e
  where
    go : (t : Bool) → is_symbol k ≡ t → cond t (leaf k p l (begin S)) (head k p l S.point S.levels S.out) ≡ Some T → LaidIn S (names k p l ∷ ws)
    go true s e = leaf_back k p l S T ws s e h
    go false s e = head_back k p l S T ws s e h

done_laid : (S : State) → done S ≡ true → LaidIn S []
done_laid S d = go S.point S.levels d
  where
    go : (pt : Point) (vs : List Level) → done_at pt vs ≡ true → LaidAt pt vs []
    go Start vs d = absurd (false≢true d)
    go (Opened r) vs d = absurd (false≢true d)
    go Inside [] d = refl
    go Inside (v ∷ vs) d = absurd (false≢true d)

back : (ws : List Said) (S T : State) → moves ws (Some S) ≡ Some T → done T ≡ true → LaidIn S ws
back [] S T e d = done_laid S (ap done (some_same S T e) ∙ d)
back (w ∷ ws) S T e d = go (move S w) refl e (λ U e. back ws U T e d)
  where
    go : (o : Option State) → move S w ≡ o → moves ws o ≡ Some T → ((U : State) → moves ws (Some U) ≡ Some T → LaidIn U ws) → LaidIn S (w ∷ ws)
    go None m e rest = absurd (none-some T (sym (moves_none ws) ∙ e))
    go (Some U) m e rest = move_back S U w ws m (rest U e)

-- words that can be read to the end follow the grammar
pub follows : (ws : List Said) (T : State) → moves ws (Some start) ≡ Some T → done T ≡ true → Follows ws
follows ws T e d =
    let h : LaidAt Start [] ws = back ws start T e d in
    (h.0, h.2, sym (h.3 ∙ ap (spell h.0) h.4))

-- a small query for each role
abbrev filler : Role → Query
filler Shape = node Symbol 255 0 0 none
filler Window = node Precisely 0 0 0 (more (node Symbol 255 0 0 none) none)
filler Count = node Precisely 0 0 0 (more (node Symbol 255 0 0 none) none)

filler_formed : (r : Role) → formed r (filler r) ≡ true
unfolding formed
filler_formed Shape = refl
filler_formed Window = refl
filler_formed Count = refl

-- some words end the text
abbrev Ends : Option State → Type 0
Ends o = (rest : List Said) × (T : State) × (moves rest o ≡ Some T) × (done T ≡ true)

-- a part, and then words that end it
part_ends : (S : State) (r : Role) (T : State) → begin S ≡ Some (r, T) → ((out : List Node) → Ends (Some (state T.point T.levels out))) → Ends (Some S)
part_ends S r T b next =
    let h = next (T.out ++ written (filler r)) in
    (spell (filler r) h.0, h.1, forward (filler r) r S T h.0 (filler_formed r) b ∙ h.2, h.3)

word_ends : (S T : State) (w : Said) → move S w ≡ Some T → Ends (Some T) → Ends (Some S)
word_ends S T w m h = (w ∷ h.0, h.1, ap (moves h.0) m ∙ h.2, h.3)

close_ends : (k : Kind) (i : ℕ) (vs : List Level) (out : List Node) → ((out : List Node) → Ends (Some (state Inside vs out))) → Ends (Some (state Inside (level k Close i ∷ vs) out))
close_ends k i vs out next = word_ends _ _ rparen refl (next out)

more_ends : (k : Kind) (i : ℕ) (vs : List Level) (out : List Node) → ((out : List Node) → Ends (Some (state Inside vs out))) → Ends (Some (state Inside (level k More i ∷ vs) out))
more_ends k i vs out next = word_ends _ _ rparen refl (next out)

one_ends : (k : Kind) (i : ℕ) (vs : List Level) (out : List Node) → ((out : List Node) → Ends (Some (state Inside vs out))) → Ends (Some (state Inside (level k One i ∷ vs) out))
one_ends k i vs out next = part_ends _ (part_role k) _ refl (λ out. close_ends k i vs out next)

level_ends : (k : Kind) (N : Need) (i : ℕ) (vs : List Level) (out : List Node) → ((out : List Node) → Ends (Some (state Inside vs out))) → Ends (Some (state Inside (level k N i ∷ vs) out))
level_ends k Number i vs out next = word_ends _ _ (counts 0) refl (one_ends k i vs _ next)
level_ends k One i vs out next = one_ends k i vs out next
level_ends k Least i vs out next = part_ends _ (part_role k) _ refl (λ out. more_ends k i vs out next)
level_ends k More i vs out next = more_ends k i vs out next
level_ends k Close i vs out next = close_ends k i vs out next

inside_ends : (vs : List Level) (out : List Node) → Ends (Some (state Inside vs out))
inside_ends [] out = ([], state Inside [] out, refl, refl)
inside_ends (v ∷ vs) out = level_ends v.kind v.need v.node vs out (inside_ends vs)

opened_ends : (r : Role) (vs : List Level) (out : List Node) → Ends (Some (state (Opened r) vs out))
opened_ends Shape vs out = word_ends _ _ (names Any 0 0) refl (inside_ends (level Any More (length out) ∷ vs) _)
opened_ends Window vs out = word_ends _ _ (names Precisely 0 0) refl (inside_ends (level Precisely Number (length out) ∷ vs) _)
opened_ends Count vs out = word_ends _ _ (names Precisely 0 0) refl (inside_ends (level Precisely Number (length out) ∷ vs) _)

state_ends : (S : State) → Ends (Some S)
state_ends S = go S.point
  where
    go : (pt : Point) → Ends (Some (state pt S.levels S.out))
    go Start = part_ends (state Start S.levels S.out) Shape _ refl (inside_ends S.levels)
    go (Opened r) = opened_ends r S.levels S.out
    go Inside = inside_ends S.levels S.out

-- words that can be read can be continued
pub begins : (ws : List Said) (S : State) → moves ws (Some start) ≡ Some S → Begins ws
begins ws S e =
    let h = state_ends S in
    (h.0, follows (ws ++ h.0) h.1 (moves_append ws h.0 (Some start) ∙ ap (moves h.0) e ∙ h.2) h.3)

-- what words that spell a query are read into
pub spelt : (q : Query) → formed Shape q ≡ true → moves (spell q []) (Some start) ≡ Some (state Inside [] (written q))
spelt q f = forward q Shape start (state Inside [] []) [] f refl

-- words that can be continued can be read
pub goes : (ws : List Said) → Begins ws → (S : State) × (moves ws (Some start) ≡ Some S)
goes ws b = go (moves ws (Some start)) refl
  where
    go : (o : Option State) → moves ws (Some start) ≡ o → (S : State) × (moves ws (Some start) ≡ Some S)
    go None e =
        absurd (none-some _ (sym (moves_none b.0) ∙ ap (moves b.0) (sym e) ∙ sym (moves_append ws b.0 (Some start)) ∙ ap (λ w. moves w (Some start)) (sym b.1.2) ∙ spelt b.1.0 b.1.1))
    go (Some S) e = (S, e)

-- words that follow the grammar are read to the end
pub finishes : (ws : List Said) (S : State) → Follows ws → moves ws (Some start) ≡ Some S → done S ≡ true
finishes ws S f e = ap done (some_same S _ (sym e ∙ ap (λ w. moves w (Some start)) (sym f.2) ∙ spelt f.0 f.1))
