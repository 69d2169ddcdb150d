-- What is counted over the words agrees with what is kept in mind while they are read.
use Rattle.std.proofs.Common.{◌≡◌, ℕ, zero, suc, pred, ◌+◌, Bool, true, false, cond, ◌&&◌, ltb, leb, List, [], ◌∷◌, ◌++◌, length, Some, None, Option, sym, refl, ap, ◌∙◌, subst, ap₂, arith, rules}
use Rattle.std.proofs.lemmas.Option.{none-some}
use Rattle.std.proofs.lemmas.List.{length-append}
use Rattle.query.specs.declared.node.Kind.{Kind}
use Rattle.query.specs.declared.node.Node.{Node}
use Rattle.query.specs.declared.node.Role.{Role}
use Rattle.query.specs.Rules.{allows}
use Rattle.words.specs.Words.{Lexeme, name, number, opens, closes}
use Rattle.grammar.specs.declared.types.Need.{Need}
use Rattle.grammar.specs.declared.types.Need.TheVariants.{Number, One, Least, More, Close}
use Rattle.grammar.specs.declared.types.Level.{Level}
use Rattle.grammar.specs.declared.types.Point.{Point}
use Rattle.grammar.specs.declared.types.Point.TheVariants.{Start, Opened, Inside}
use Rattle.grammar.specs.Names.{kind_named, natural}
use Rattle.grammar.specs.Spelling.{Said, lparen, rparen, counts, names, Placed, said_by, is_symbol}
use Rattle.grammar.specs.Limits.{Tally, nothing, note, note_all, is_in, level_of, number_fits, name_fits}
use Rattle.grammar.specs.Machine.{State, state, level, first_need, after_part, change, counted, numbered, fresh, begun, begin, begin_at, open_part, leaf, head, count_need, count_at, close_need, close_at, move, start, number_right, room}
use Rattle.grammar.proofs.Forward.{moves, moves_none, some_same, begins_inside}

-- a part of the level has begun, so its number was read
abbrev Set : Need → Type 0
Set Number = ⊥
Set One = Unit {0}
Set Least = Unit {0}
Set More = Unit {0}
Set Close = Unit {0}

abbrev Settled : List Level → Type 0
Settled [] = Unit {0}
Settled (v ∷ vs) = Set v.need × Settled vs

-- a level that wants its number stands right behind its operator word
abbrev Told : Bool → Need → Kind → Type 0
Told b Number k = b ≡ is_in k
Told b One k = Unit {0}
Told b Least k = Unit {0}
Told b More k = Unit {0}
Told b Close k = Unit {0}

abbrev KnownInside : Bool → List Level → Type 0
KnownInside b [] = Unit {0}
KnownInside b (v ∷ vs) = Told b v.need v.kind × Settled vs

abbrev Known : Bool → Point → List Level → Type 0
Known b Start vs = Settled vs
Known b (Opened r) vs = Settled vs
Known b Inside vs = KnownInside b vs

-- how many parentheses are open
abbrev depth_at : Point → List Level → ℕ
depth_at Start vs = length vs
depth_at (Opened r) vs = suc (length vs)
depth_at Inside vs = length vs

abbrev depth : State → ℕ
depth S = depth_at S.point S.levels

pub record Agrees (t : Tally) (S : State) : Type 0 where
  pub records_are : length S.out ≡ t.named
  pub depth_is : depth S ≡ t.open_now
  pub known : Known t.after_in S.point S.levels

told_set : (b : Bool) (N : Need) (k : Kind) → Set N → Told b N k
told_set b Number k s = absurd s
told_set b One k s = tt
told_set b Least k s = tt
told_set b More k s = tt
told_set b Close k s = tt

settled_known : (b : Bool) (vs : List Level) → Settled vs → KnownInside b vs
settled_known b [] s = tt
settled_known b (v ∷ vs) s = (told_set b v.need v.kind s.0, s.1)

told_first : (k : Kind) → Told (is_in k) (first_need k) k
told_first k = search rules

set_after : (N M : Need) → after_part N ≡ Some M → Set M
set_after Number M e = absurd (none-some M e)
set_after One M e = subst Set (some_same Close M e) tt
set_after Least M e = subst Set (some_same More M e) tt
set_after More M e = subst Set (some_same More M e) tt
set_after Close M e = absurd (none-some M e)

pub change_length : (f : Node → Node) (xs : List Node) (i : ℕ) → length (change f xs i) ≡ length xs
change_length f [] i = refl
change_length f (x ∷ xs) zero = refl
change_length f (x ∷ xs) (suc i) = ap suc (change_length f xs i)

-- where a part begins, no record comes and no parenthesis opens or closes
record Same (S U : State) : Type 0 where
  outs : length U.out ≡ length S.out
  deep : length U.levels ≡ length S.levels
  flat : depth S ≡ length S.levels
  calm : Settled U.levels

begun_same : (o : Option Need) (v : Level) (vs : List Level) (out : List Node) (r : Role) (U : State) → ((M : Need) → o ≡ Some M → Set M) → Settled vs → begun o v vs out ≡ Some (r, U) →
    (length U.out ≡ length out) × (length U.levels ≡ suc (length vs)) × Settled U.levels
begun_same None v vs out r U m s e = absurd (none-some (r, U) e)
begun_same (Some M) v vs out r U m s e =
    let same = some_same _ (r, U) e in (
      ap (λ b. length b.1.out) (sym same) ∙ change_length counted out v.node,
      ap (λ b. length b.1.levels) (sym same),
      subst (λ (b : Role × State). Settled b.1.levels) same (m M refl, s),
    )

begin_same : (b : Bool) (S : State) (r : Role) (U : State) → Known b S.point S.levels → begin S ≡ Some (r, U) → Same S U
begin_same b S r U k e = go S.point S.levels k e
  where
    go : (pt : Point) (vs : List Level) → Known b pt vs → begin_at pt vs S.out ≡ Some (r, U) → Same (state pt vs S.out) U
    go Start vs k e =
        let same = some_same (_, state Inside vs S.out) (r, U) e in
        record { outs = ap (λ b. length b.1.out) (sym same); deep = ap (λ b. length b.1.levels) (sym same); flat = refl; calm = subst (λ (b : Role × State). Settled b.1.levels) same k }
    go (Opened o) vs k e = absurd (none-some (r, U) e)
    go Inside [] k e = absurd (none-some (r, U) e)
    go Inside (v ∷ vs) k e =
        let h = begun_same (after_part v.need) v vs S.out r U (set_after v.need) k.1 e in
        record { outs = h.0; deep = h.1; flat = refl; calm = h.2 }

open_agrees : (t : Tally) (S T : State) → Agrees t S → open_part (begin S) ≡ Some T → Agrees (note t lparen) T
open_agrees t S T a e = go (begin S) refl e
  where
    go : (o : Option (Role × State)) → begin S ≡ o → open_part o ≡ Some T → Agrees (note t lparen) T
    go None b e = absurd (none-some T e)
    go (Some u) b e =
        let h = begin_same t.after_in S u.0 u.1 a.known b in
        subst (Agrees (note t lparen)) (some_same _ T e)
        (record { records_are = h.outs ∙ a.records_are; depth_is = ap suc (h.deep ∙ sym h.flat ∙ a.depth_is); known = h.calm })

leaf_agrees : (k : Kind) (p l : ℕ) (t : Tally) (S T : State) → Agrees t S → leaf k p l (begin S) ≡ Some T → Agrees (note t (names k p l)) T
leaf_agrees k p l t S T a e = go (begin S) refl e
  where
    go : (o : Option (Role × State)) → begin S ≡ o → leaf k p l o ≡ Some T → Agrees (note t (names k p l)) T
    go None b e = absurd (none-some T e)
    go (Some u) b e = stand (allows u.0 k) e
      where
        stand : (s : Bool) → cond s (Some (state u.1.point u.1.levels (u.1.out ++ fresh k p l ∷ []))) None ≡ Some T → Agrees (note t (names k p l)) T
        stand true e =
            let h = begin_same t.after_in S u.0 u.1 a.known b in
            let i : Inside ≡ u.1.point = sym (begins_inside S u.0 u.1 b) in
            let z = length-append u.1.out (fresh k p l ∷ []) in
            let ho = h.outs in
            let ar = a.records_are in
            subst (Agrees (note t (names k p l))) (some_same _ T e)
            (record {
              records_are = z ∙ omega arith;
              depth_is = subst (λ pt. depth_at pt u.1.levels ≡ t.open_now) i (h.deep ∙ sym h.flat ∙ a.depth_is);
              known = subst (λ pt. Known (is_in k) pt u.1.levels) i (settled_known (is_in k) u.1.levels h.calm);
            })
        stand false e = absurd (none-some T e)

head_agrees : (k : Kind) (p l : ℕ) (t : Tally) (S T : State) → Agrees t S → head k p l S.point S.levels S.out ≡ Some T → Agrees (note t (names k p l)) T
head_agrees k p l t S T a e = go S.point a.depth_is a.known e
  where
    go : (pt : Point) → depth_at pt S.levels ≡ t.open_now → Known t.after_in pt S.levels → head k p l pt S.levels S.out ≡ Some T → Agrees (note t (names k p l)) T
    go Start d w e = absurd (none-some T e)
    go (Opened r) d w e = stand (allows r k) e
      where
        stand : (s : Bool) → cond s (Some (state Inside (level k (first_need k) (length S.out) ∷ S.levels) (S.out ++ fresh k p l ∷ []))) None ≡ Some T → Agrees (note t (names k p l)) T
        stand true e =
            let z = length-append S.out (fresh k p l ∷ []) in
            let ar = a.records_are in
            subst (Agrees (note t (names k p l))) (some_same _ T e) (record { records_are = z ∙ omega arith; depth_is = d; known = (told_first k, w) })
        stand false e = absurd (none-some T e)
    go Inside d w e = absurd (none-some T e)

count_agrees : (n : ℕ) (N : Need) (t : Tally) (v : Level) (vs : List Level) (out : List Node) (T : State) → length out ≡ t.named → suc (length vs) ≡ t.open_now → Settled vs → count_need N n v vs out ≡ Some T → Agrees (note t (counts n)) T
count_agrees n Number t v vs out T o d s e = subst (Agrees (note t (counts n))) (some_same _ T e) (record { records_are = change_length (numbered n) out v.node ∙ o; depth_is = d; known = (tt, s) })
count_agrees n One t v vs out T o d s e = absurd (none-some T e)
count_agrees n Least t v vs out T o d s e = absurd (none-some T e)
count_agrees n More t v vs out T o d s e = absurd (none-some T e)
count_agrees n Close t v vs out T o d s e = absurd (none-some T e)

close_agrees : (N : Need) (t : Tally) (vs : List Level) (out : List Node) (T : State) → length out ≡ t.named → suc (length vs) ≡ t.open_now → Settled vs → close_need N vs out ≡ Some T → Agrees (note t rparen) T
close_agrees Number t vs out T o d s e = absurd (none-some T e)
close_agrees One t vs out T o d s e = absurd (none-some T e)
close_agrees Least t vs out T o d s e = absurd (none-some T e)
close_agrees More t vs out T o d s e = subst (Agrees (note t rparen)) (some_same _ T e) (record { records_are = o; depth_is = ap pred d; known = settled_known false vs s })
close_agrees Close t vs out T o d s e = subst (Agrees (note t rparen)) (some_same _ T e) (record { records_are = o; depth_is = ap pred d; known = settled_known false vs s })

-- one word more keeps the count
pub move_agrees : (t : Tally) (S T : State) (w : Said) → Agrees t S → move S w ≡ Some T → Agrees (note t w) T
move_agrees t S T lparen a e = open_agrees t S T a e
move_agrees t S T rparen a e = go S.point S.levels a.depth_is a.known e
  where
    go : (pt : Point) (vs : List Level) → depth_at pt vs ≡ t.open_now → Known t.after_in pt vs → close_at pt vs S.out ≡ Some T → Agrees (note t rparen) T
    go Start vs d k e = absurd (none-some T e)
    go (Opened r) vs d k e = absurd (none-some T e)
    go Inside [] d k e = absurd (none-some T e)
    go Inside (v ∷ vs) d k e = close_agrees v.need t vs S.out T a.records_are d k.1 e
move_agrees t S T (counts n) a e = go S.point S.levels a.depth_is a.known e
  where
    go : (pt : Point) (vs : List Level) → depth_at pt vs ≡ t.open_now → Known t.after_in pt vs → count_at n pt vs S.out ≡ Some T → Agrees (note t (counts n)) T
    go Start vs d k e = absurd (none-some T e)
    go (Opened r) vs d k e = absurd (none-some T e)
    go Inside [] d k e = absurd (none-some T e)
    go Inside (v ∷ vs) d k e = count_agrees n v.need t v vs S.out T a.records_are d k.1 e
move_agrees t S T (names k p l) a e = go (is_symbol k) e
  where
    go : (s : Bool) → cond s (leaf k p l (begin S)) (head k p l S.point S.levels S.out) ≡ Some T → Agrees (note t (names k p l)) T
    go true e = leaf_agrees k p l t S T a e
    go false e = head_agrees k p l t S T a e

pub moves_agree : (ws : List Said) (t : Tally) (S T : State) → Agrees t S → moves ws (Some S) ≡ Some T → Agrees (note_all t ws) T
moves_agree [] t S T a e = subst (Agrees t) (some_same S T e) a
moves_agree (w ∷ ws) t S T a e = go (move S w) refl e (λ U b. moves_agree ws (note t w) U T b)
  where
    go : (o : Option State) → move S w ≡ o → moves ws o ≡ Some T → ((U : State) → Agrees (note t w) U → moves ws (Some U) ≡ Some T → Agrees (note_all (note t w) ws) T) → Agrees (note_all (note t w) ws) T
    go None m e rest = absurd (none-some T (sym (moves_none ws) ∙ e))
    go (Some U) m e rest = rest U (move_agrees t S U w a m) e

pub start_agrees : Agrees nothing start
start_agrees = record { records_are = refl; depth_is = refl; known = tt }

count_told : (n : ℕ) (N : Need) (b : Bool) (v : Level) (vs : List Level) (out : List Node) (T : State) → Told b N v.kind → count_need N n v vs out ≡ Some T → is_in v.kind ≡ b
count_told n Number b v vs out T k e = sym k
count_told n One b v vs out T k e = absurd (none-some T e)
count_told n Least b v vs out T k e = absurd (none-some T e)
count_told n More b v vs out T k e = absurd (none-some T e)
count_told n Close b v vs out T k e = absurd (none-some T e)

-- a number is checked alike by what is kept in mind and by what is counted
pub number_same : (t : Tally) (S T : State) (w : Placed) → Agrees t S → move S (said_by w) ≡ Some T → number_right S w.1 ≡ number_fits t w.1
number_same t S T w a e = go w.1 e
  where
    go : (l : Lexeme) → move S (said_by (w.0, l)) ≡ Some T → number_right S l ≡ number_fits t l
    go (name bs) e = refl
    go (number bs) e = at S.point S.levels a.known e
      where
        at : (pt : Point) (vs : List Level) → Known t.after_in pt vs → count_at (natural bs) pt vs S.out ≡ Some T → number_right (state pt vs S.out) (number bs) ≡ number_fits t (number bs)
        at Start vs k e = absurd (none-some T e)
        at (Opened r) vs k e = absurd (none-some T e)
        at Inside [] k e = absurd (none-some T e)
        at Inside (v ∷ vs) k e = ap (λ b. number_fits (record { named = 0; open_now = 0; after_in = b }) (number bs)) (count_told (natural bs) v.need t.after_in v vs S.out T k.0 e)
    go opens e = refl
    go closes e = refl

begin_flat : (S : State) (u : Role × State) → begin S ≡ Some u → depth S ≡ length S.levels
begin_flat S u e = go S.point e
  where
    go : (pt : Point) → begin_at pt S.levels S.out ≡ Some u → depth_at pt S.levels ≡ length S.levels
    go Start e = refl
    go (Opened r) e = absurd (none-some u e)
    go Inside e = refl

-- the level of a name is one more than the levels that are open around it
name_level : (k : Kind) (p l : ℕ) (S T : State) → move S (names k p l) ≡ Some T → depth S + cond (is_symbol k) 1 0 ≡ suc (length S.levels)
name_level k p l S T e = go (is_symbol k) e
  where
    leaf_level : (o : Option (Role × State)) → begin S ≡ o → leaf k p l o ≡ Some T → depth S + 1 ≡ suc (length S.levels)
    leaf_level None b e = absurd (none-some T e)
    leaf_level (Some u) b e = let z = begin_flat S u b in omega arith

    head_level : (pt : Point) → head k p l pt S.levels S.out ≡ Some T → depth_at pt S.levels + 0 ≡ suc (length S.levels)
    head_level Start e = absurd (none-some T e)
    head_level (Opened r) e = omega arith
    head_level Inside e = absurd (none-some T e)

    go : (s : Bool) → cond s (leaf k p l (begin S)) (head k p l S.point S.levels S.out) ≡ Some T → depth S + cond s 1 0 ≡ suc (length S.levels)
    go true e = leaf_level (begin S) refl e
    go false e = head_level S.point e

-- and so is the room for a record
pub room_same : (t : Tally) (S T : State) (w : Placed) → Agrees t S → move S (said_by w) ≡ Some T → room S w.1 ≡ name_fits t (said_by w)
room_same t S T w a e = go w.1 e
  where
    go : (l : Lexeme) → move S (said_by (w.0, l)) ≡ Some T → room S l ≡ name_fits t (said_by (w.0, l))
    go (name bs) e =
        let d : suc (length S.levels) ≡ level_of (kind_named bs) t = sym (name_level (kind_named bs) w.0 (length bs) S T e) ∙ ap (λ i. i + cond (is_symbol (kind_named bs)) 1 0) a.depth_is in
        ap₂ (λ i j. ltb i 64 && leb j 16) a.records_are d
    go (number bs) e = refl
    go opens e = refl
    go closes e = refl
