-- What the walk through a query knows at each record, by its kind, and at each of its parts.
use Rattle.std.proofs.Common.{◌≡◌, ℕ, ◌+◌, ◌-◌, ◌<◌, ◌≤◌, Bool, true, false, List, [], ◌∷◌, length, sym, refl, ap, ◌∙◌, subst, arith}
use Rattle.std.proofs.lemmas.Bool.{false≢true, eqb-true, ltb-true}
use Rattle.query.specs.declared.node.Kind.{Kind}
use Rattle.query.specs.declared.node.Kind.TheVariants.{Symbol, Any, Concat, Exact, Atleast, Atmost, In, Precisely, Noless, Nomore, And, Or, Inorder}
use Rattle.query.specs.declared.node.Node.{Node}
use Rattle.query.specs.declared.node.Role.{Role}
use Rattle.query.specs.declared.node.Role.TheVariants.{Shape, Window}
use Rattle.query.specs.Rules.{allows, part_role, parts_right}
use Rattle.query.specs.Stands.{at, next_at}
use Rattle.shape.specs.Fits.{Rule, one_of, all_of, sequence, one_after_another, whole, fits}
use Rattle.tables.specs.declared.table.Table.{Table}
use Rattle.wholes.specs.declared.view.View.{View}
use Rattle.wholes.specs.declared.view.View.TheVariants.{Own}
use Rattle.wholes.specs.declared.view.Many.{Many}
use Rattle.wholes.specs.Shows.{carrying, repeated, counting, windowed, Shows, Later}
use Rattle.walk.specs.declared.kept.Kept.{Kept}
use Rattle.walk.specs.Walk.{Stands, EachStands, rule, rules, many_of, repeats, RightFrom}
use Rattle.walk.proofs.Walking.{first, Opened, rules_more, rules_none}

-- a table seen from each stretch's own start
pub shows_own : (t : Table) (P : Rule) (v : View) (to n : ℕ) → v ≡ Own → to ≤ n → Shows t P Own n n → Shows t P v to n
shows_own t P v to n e l h =
    subst (λ (k : View). Shows t P k to n) (sym e)
    (record {
      sound = h.sound;
      full = λ a b f. (let u = f.high in h.full a b (record { low = f.low; up = f.up; high = omega arith; fit = f.fit }));
    })

-- what may follow, for the same number of pieces
pub later_as : (t : Table) (P : Rule) (many other : Many) (n : ℕ) → other ≡ many → Later t P many n → Later t P other n
later_as t P many other n e h = subst (λ (m : Many). Later t P m n) (sym e) h

pub right_on : (k : Kept) (ns : List Node) (words : List ℕ) (i j : ℕ) → i ≤ j → RightFrom k ns words i → RightFrom k ns words j
right_on k ns words i j l h = record { few = h.few; right = λ x u. h.right x (omega arith) }

module _ (words : List ℕ) (d : ℕ) (ns : List Node) (r : Role) (i : ℕ) (o : Opened d ns r i) where
  abbrev K : Kind
  K = (at ns i).kind

  abbrev N : ℕ
  N = (at ns i).number

  -- a query fits as a whole of its kind
  pub rule_whole : rule words ns i ≡ whole words K N (rules words ns (at ns i).parts (i + 1))
  unfolding fits
  rule_whole = ap (fits words) o.tree

  as_kind : (k : Kind) → K ≡ k → rule words ns i ≡ whole words k N (rules words ns (at ns i).parts (i + 1))
  as_kind k e = rule_whole ∙ ap (λ (x : Kind). whole words x N (rules words ns (at ns i).parts (i + 1))) e

  pub as_symbol : K ≡ Symbol → rule words ns i ≡ carrying words N
  as_symbol e = as_kind Symbol e

  pub as_any : K ≡ Any → rule words ns i ≡ one_of (rules words ns (at ns i).parts (i + 1))
  as_any e = as_kind Any e

  pub as_concat : K ≡ Concat → rule words ns i ≡ sequence (rules words ns (at ns i).parts (i + 1))
  as_concat e = as_kind Concat e

  pub as_and : K ≡ And → rule words ns i ≡ all_of (rules words ns (at ns i).parts (i + 1))
  as_and e = as_kind And e

  pub as_or : K ≡ Or → rule words ns i ≡ one_of (rules words ns (at ns i).parts (i + 1))
  as_or e = as_kind Or e

  pub as_inorder : K ≡ Inorder → rule words ns i ≡ one_after_another (rules words ns (at ns i).parts (i + 1))
  as_inorder e = as_kind Inorder e

  -- the parts, in the role that the kind gives them
  pub parts_in : (q : Role) (k : Kind) → K ≡ k → part_role k ≡ q → EachStands (d - 1) ns q (at ns i).parts (i + 1)
  parts_in q k e s = subst (λ (x : Role). EachStands (d - 1) ns x (at ns i).parts (i + 1)) (ap part_role e ∙ s) o.each

  pub some_parts : K ≡ Concat → 0 < (at ns i).parts
  some_parts e = ltb-true 0 (at ns i).parts (subst (λ (k : Kind). parts_right k (at ns i).parts ≡ true) e o.parts)

  -- the only part
  pub only_part : (q : Role) → d ≤ 16 → (at ns i).parts ≡ 1 → part_role K ≡ q → Stands (d - 1) ns q (i + 1)
  only_part q l one s =
      (first (d - 1) ns q (at ns i).parts 0 (i + 1) (omega arith) (omega arith) (subst (λ (x : Role). EachStands (d - 1) ns x (at ns i).parts (i + 1)) s o.each)).here

  pub only_rule : (at ns i).parts ≡ 1 → rules words ns (at ns i).parts (i + 1) ≡ rule words ns (i + 1) ∷ []
  only_rule one =
      rules_more words ns (at ns i).parts 0 (i + 1) (omega arith)
      ∙ ap (λ (x : List Rule). rule words ns (i + 1) ∷ x) (rules_none words ns 0 (next_at 16 ns (i + 1)) refl)

  one_of_in : K ≡ In → (at ns i).parts ≡ 1
  one_of_in e = eqb-true (at ns i).parts 1 (subst (λ (k : Kind). parts_right k (at ns i).parts ≡ true) e o.parts)

  pub as_in : K ≡ In → rule words ns i ≡ windowed (rule words ns (i + 1)) N
  as_in e = as_kind In e ∙ ap (λ (Ps : List Rule). whole words In N Ps) (only_rule (one_of_in e))

  pub part_of_in : d ≤ 16 → K ≡ In → Stands (d - 1) ns Window (i + 1)
  part_of_in l e = only_part Window l (one_of_in e) (ap part_role e)

-- the kinds that are left where a shape is none of four others: the repeats
pub repeat_kind : (k : Kind) → allows Shape k ≡ true → (k ≡ Symbol → ⊥) → (k ≡ Any → ⊥) → (k ≡ Concat → ⊥) → (k ≡ In → ⊥) → repeats k ≡ true
repeat_kind Symbol a s y c n = absurd (s refl)
repeat_kind Any a s y c n = absurd (y refl)
repeat_kind Concat a s y c n = absurd (c refl)
repeat_kind Exact a s y c n = refl
repeat_kind Atleast a s y c n = refl
repeat_kind Atmost a s y c n = refl
repeat_kind In a s y c n = absurd (n refl)
repeat_kind Precisely a s y c n = absurd (false≢true a)
repeat_kind Noless a s y c n = absurd (false≢true a)
repeat_kind Nomore a s y c n = absurd (false≢true a)
repeat_kind And a s y c n = absurd (false≢true a)
repeat_kind Or a s y c n = absurd (false≢true a)
repeat_kind Inorder a s y c n = absurd (false≢true a)

repeat_whole : (words : List ℕ) (k : Kind) (n : ℕ) (P : Rule) → repeats k ≡ true → whole words k n (P ∷ []) ≡ repeated (length words) P (many_of k n)
repeat_whole words Symbol n P e = absurd (false≢true e)
repeat_whole words Any n P e = absurd (false≢true e)
repeat_whole words Concat n P e = absurd (false≢true e)
repeat_whole words Exact n P e = refl
repeat_whole words Atleast n P e = refl
repeat_whole words Atmost n P e = refl
repeat_whole words In n P e = absurd (false≢true e)
repeat_whole words Precisely n P e = absurd (false≢true e)
repeat_whole words Noless n P e = absurd (false≢true e)
repeat_whole words Nomore n P e = absurd (false≢true e)
repeat_whole words And n P e = absurd (false≢true e)
repeat_whole words Or n P e = absurd (false≢true e)
repeat_whole words Inorder n P e = absurd (false≢true e)

pub repeat_part : (k : Kind) (m : ℕ) → repeats k ≡ true → parts_right k m ≡ true → (m ≡ 1) × (part_role k ≡ Shape)
repeat_part Symbol m e p = absurd (false≢true e)
repeat_part Any m e p = absurd (false≢true e)
repeat_part Concat m e p = absurd (false≢true e)
repeat_part Exact m e p = (eqb-true m 1 p, refl)
repeat_part Atleast m e p = (eqb-true m 1 p, refl)
repeat_part Atmost m e p = (eqb-true m 1 p, refl)
repeat_part In m e p = absurd (false≢true e)
repeat_part Precisely m e p = absurd (false≢true e)
repeat_part Noless m e p = absurd (false≢true e)
repeat_part Nomore m e p = absurd (false≢true e)
repeat_part And m e p = absurd (false≢true e)
repeat_part Or m e p = absurd (false≢true e)
repeat_part Inorder m e p = absurd (false≢true e)

-- the kinds that are left where a window's part is none of three others: the counts
abbrev counts : Kind → Bool
counts Symbol = false
counts Any = false
counts Concat = false
counts Exact = false
counts Atleast = false
counts Atmost = false
counts In = false
counts Precisely = true
counts Noless = true
counts Nomore = true
counts And = false
counts Or = false
counts Inorder = false

count_kind : (k : Kind) → allows Window k ≡ true → (k ≡ And → ⊥) → (k ≡ Or → ⊥) → (k ≡ Inorder → ⊥) → counts k ≡ true
count_kind Symbol a n o i = absurd (false≢true a)
count_kind Any a n o i = absurd (false≢true a)
count_kind Concat a n o i = absurd (false≢true a)
count_kind Exact a n o i = absurd (false≢true a)
count_kind Atleast a n o i = absurd (false≢true a)
count_kind Atmost a n o i = absurd (false≢true a)
count_kind In a n o i = absurd (false≢true a)
count_kind Precisely a n o i = refl
count_kind Noless a n o i = refl
count_kind Nomore a n o i = refl
count_kind And a n o i = absurd (n refl)
count_kind Or a n o i = absurd (o refl)
count_kind Inorder a n o i = absurd (i refl)

count_whole : (words : List ℕ) (k : Kind) (n : ℕ) (P : Rule) → counts k ≡ true → whole words k n (P ∷ []) ≡ counting P (many_of k n)
count_whole words Symbol n P e = absurd (false≢true e)
count_whole words Any n P e = absurd (false≢true e)
count_whole words Concat n P e = absurd (false≢true e)
count_whole words Exact n P e = absurd (false≢true e)
count_whole words Atleast n P e = absurd (false≢true e)
count_whole words Atmost n P e = absurd (false≢true e)
count_whole words In n P e = absurd (false≢true e)
count_whole words Precisely n P e = refl
count_whole words Noless n P e = refl
count_whole words Nomore n P e = refl
count_whole words And n P e = absurd (false≢true e)
count_whole words Or n P e = absurd (false≢true e)
count_whole words Inorder n P e = absurd (false≢true e)

count_part : (k : Kind) (m : ℕ) → counts k ≡ true → parts_right k m ≡ true → (m ≡ 1) × (part_role k ≡ Shape)
count_part Symbol m e p = absurd (false≢true e)
count_part Any m e p = absurd (false≢true e)
count_part Concat m e p = absurd (false≢true e)
count_part Exact m e p = absurd (false≢true e)
count_part Atleast m e p = absurd (false≢true e)
count_part Atmost m e p = absurd (false≢true e)
count_part In m e p = absurd (false≢true e)
count_part Precisely m e p = (eqb-true m 1 p, refl)
count_part Noless m e p = (eqb-true m 1 p, refl)
count_part Nomore m e p = (eqb-true m 1 p, refl)
count_part And m e p = absurd (false≢true e)
count_part Or m e p = absurd (false≢true e)
count_part Inorder m e p = absurd (false≢true e)

module _ (words : List ℕ) (d : ℕ) (ns : List Node) (i : ℕ) (l : d ≤ 16) where
  -- a repeat and its part
  pub as_repeat : (o : Opened d ns Shape i) → repeats (at ns i).kind ≡ true →
      (Stands (d - 1) ns Shape (i + 1))
      × (rule words ns i ≡ repeated (length words) (rule words ns (i + 1)) (many_of (at ns i).kind (at ns i).number))
  as_repeat o e =
      let p = repeat_part (at ns i).kind (at ns i).parts e o.parts in (
        only_part words d ns Shape i o Shape l p.0 p.1,
        rule_whole words d ns Shape i o
            ∙ ap (whole words (at ns i).kind (at ns i).number) (only_rule words d ns Shape i o p.0)
            ∙ repeat_whole words (at ns i).kind (at ns i).number (rule words ns (i + 1)) e,
      )

  -- a count and its part
  pub as_count : (o : Opened d ns Window i) → ((at ns i).kind ≡ And → ⊥) → ((at ns i).kind ≡ Or → ⊥) → ((at ns i).kind ≡ Inorder → ⊥) →
      (Stands (d - 1) ns Shape (i + 1))
      × (rule words ns i ≡ counting (rule words ns (i + 1)) (many_of (at ns i).kind (at ns i).number))
  as_count o x y z =
      let e = count_kind (at ns i).kind o.kind_right x y z in
      let p = count_part (at ns i).kind (at ns i).parts e o.parts in (
        only_part words d ns Window i o Shape l p.0 p.1,
        rule_whole words d ns Window i o
            ∙ ap (whole words (at ns i).kind (at ns i).number) (only_rule words d ns Window i o p.0)
            ∙ count_whole words (at ns i).kind (at ns i).number (rule words ns (i + 1)) e,
      )
