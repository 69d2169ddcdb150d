-- The parts of a query that stands in records.
use Rattle.std.proofs.Common.{◌≡◌, ℕ, zero, suc, ◌+◌, ◌-◌, ◌<◌, ◌≤◌, true, ◌&&◌, ltb, leb, List, [], ◌∷◌, length, drop, Some, None, Option, sym, refl, ap, ◌∙◌, subst, ap₂, inl, inr, arith}
use Rattle.std.proofs.lemmas.Bool.{and_parts, and_from, false≢true, cases_lt, cases_eq, lt-ltb, leb-true, eqb-true, cond-true}
use Rattle.query.specs.declared.node.Node.{Node}
use Rattle.query.specs.declared.node.Role.{Role}
use Rattle.query.specs.declared.node.Role.TheVariants.{Shape, Window, Count}
use Rattle.query.specs.declared.node.Stage.{Stage}
use Rattle.query.specs.Kinds.{kind_number}
use Rattle.query.specs.Tree.{Query, node, more, records}
use Rattle.query.specs.Rules.{allows, part_role, parts_right, record_right}
use Rattle.query.specs.Stands.{at, skips, parts_from, next_at, tree_at, and_then, ends, end_at, is_at, is_query}
use Rattle.query.proofs.Standing.{sound, found, end_parts}
use Rattle.shape.specs.Fits.{fits}
use Rattle.walk.specs.Walk.{Stands, EachStands, rule, rules}

none_some : {A : Type 0} (j : ℕ) → ◌≡◌ {A = Option ℕ} None (Some j) → A
none_some j e = absurd (let z : ◌≡◌ {A = ℕ} 0 1 = cc in omega arith)

some_same : (i j : ℕ) → ◌≡◌ {A = Option ℕ} (Some i) (Some j) → i ≡ j
some_same i j e = cc

some_records : (q : Query) → 0 < length (records q)
unfolding records
some_records (node k n p l qs) = omega arith

-- with more levels left the same query stands there
pub record Same (g : Stage) (d e : ℕ) (ns : List Node) (r : Role) (i j : ℕ) : Type 0 where
  pub end : end_at g e ns r i ≡ Some j
  pub tree : tree_at e ns i ≡ tree_at d ns i
  pub next : next_at e ns i ≡ j
  pub further : i < j

pub same : (g : Stage) (d e : ℕ) (ns : List Node) (r : Role) (i j : ℕ) → end_at g d ns r i ≡ Some j → d ≤ e → Same g d e ns r i j
same g d e ns r i j h l =
    let w = sound g d ns r i j h in
    let deep = w.deep in
    let f = found (tree_at d ns i) g e ns r i (drop j ns) w.kept (omega arith) w.here in
    let m = found (tree_at d ns i) g d ns r i (drop j ns) w.kept deep w.here in
    let x = f.far in
    let y = m.far in
    let z = w.next in
    let n : next_at e ns i ≡ j = omega arith in
    let p = some_records (tree_at d ns i) in
    record { end = f.ending ∙ ap (λ (k : ℕ). Some k) n; tree = f.tree; next = n; further = omega arith }

-- the first of several queries, and the others
pub record First (d : ℕ) (ns : List Node) (r : Role) (k i : ℕ) : Type 0 where
  pub here : Stands d ns r i
  pub rest : EachStands d ns r k (next_at 16 ns i)
  pub further : i < next_at 16 ns i

pub first : (d : ℕ) (ns : List Node) (r : Role) (m k i : ℕ) → d ≤ 16 → m ≡ suc k → EachStands d ns r m i → First d ns r k i
first d ns r zero k i l e h = absurd (omega arith)
first d ns r (suc m) k i l e h = go (end_at h.0 d ns r i) refl h.2
  where
    go : (o : Option ℕ) → end_at h.0 d ns r i ≡ o → and_then o (λ x. ends (end_at h.0 d ns r) m x) ≡ Some h.1 → First d ns r k i
    go None o q = none_some h.1 q
    go (Some x) o q =
        let s = same h.0 d 16 ns r i x o l in
        let n = s.next in
        let u = s.further in
        let km : m ≡ k = omega arith in
        record {
          here = (h.0, x, o);
          rest = (h.0, h.1, ap₂ (λ (c y : ℕ). ends (end_at h.0 d ns r) c y) (sym km) n ∙ q);
          further = omega arith;
        }

-- the parts are the same with more levels left
each_same : (g : Stage) (d : ℕ) (ns : List Node) (r : Role) (k i j : ℕ) → d ≤ 15 → ends (end_at g d ns r) k i ≡ Some j →
    (parts_from (tree_at 15 ns) (next_at 15 ns) k i ≡ parts_from (tree_at 16 ns) (next_at 16 ns) k i)
    × (skips (next_at 15 ns) k i ≡ skips (next_at 16 ns) k i)
each_same g d ns r zero i j l h = (refl, refl)
each_same g d ns r (suc k) i j l h = go (end_at g d ns r i) refl h (λ m. each_same g d ns r k m j l)
  where
    go : (o : Option ℕ) → end_at g d ns r i ≡ o → and_then o (λ x. ends (end_at g d ns r) k x) ≡ Some j →
        ((m : ℕ) → ends (end_at g d ns r) k m ≡ Some j →
        (parts_from (tree_at 15 ns) (next_at 15 ns) k m ≡ parts_from (tree_at 16 ns) (next_at 16 ns) k m)
        × (skips (next_at 15 ns) k m ≡ skips (next_at 16 ns) k m)) →
        (more (tree_at 15 ns i) (parts_from (tree_at 15 ns) (next_at 15 ns) k (next_at 15 ns i))
        ≡ more (tree_at 16 ns i) (parts_from (tree_at 16 ns) (next_at 16 ns) k (next_at 16 ns i)))
        × (skips (next_at 15 ns) k (next_at 15 ns i) ≡ skips (next_at 16 ns) k (next_at 16 ns i))
    go None o q rest = none_some j q
    go (Some m) o q rest =
        let a = same g d 15 ns r i m o (omega arith) in
        let b = same g d 16 ns r i m o (omega arith) in
        let e = rest m q in (
          ap₂ more (a.tree ∙ sym b.tree)
              (ap (parts_from (tree_at 15 ns) (next_at 15 ns) k) a.next ∙ e.0 ∙ ap (parts_from (tree_at 16 ns) (next_at 16 ns) k) (sym b.next)),
          ap (skips (next_at 15 ns) k) a.next ∙ e.1 ∙ ap (skips (next_at 16 ns) k) (sym b.next),
        )

-- what is known of a query that stands at record i
pub record Opened (d : ℕ) (ns : List Node) (r : Role) (i : ℕ) : Type 0 where
  pub deep : 0 < d
  pub inside : i < length ns
  pub kind_right : allows r (at ns i).kind ≡ true
  pub parts : parts_right (at ns i).kind (at ns i).parts ≡ true
  pub each : EachStands (d - 1) ns (part_role (at ns i).kind) (at ns i).parts (i + 1)
  pub tree : tree_at 16 ns i ≡ node (at ns i).kind (at ns i).number (at ns i).place (at ns i).length (parts_from (tree_at 16 ns) (next_at 16 ns) (at ns i).parts (i + 1))
  pub next : next_at 16 ns i ≡ skips (next_at 16 ns) (at ns i).parts (i + 1)

pub opened : (d : ℕ) (ns : List Node) (r : Role) (i : ℕ) → d ≤ 16 → Stands d ns r i → Opened d ns r i
unfolding end_at tree_at next_at
opened zero ns r i l h = none_some h.1 h.2
opened (suc d) ns r i l h =
    let p = end_parts h.0 d ns r i h.1 h.2 in
    let b = and_parts (allows r (at ns i).kind) _ p.1 in
    let c = and_parts (parts_right (at ns i).kind (at ns i).parts) _ b.1 in
    let e : suc d - 1 ≡ d = omega arith in
    let s = each_same h.0 d ns (part_role (at ns i).kind) (at ns i).parts (i + 1) h.1 (omega arith) p.2 in
    record {
      deep = omega arith;
      inside = p.0;
      kind_right = b.0;
      parts = c.0;
      each = subst (λ (x : ℕ). EachStands x ns (part_role (at ns i).kind) (at ns i).parts (i + 1)) (sym e) (h.0, h.1, p.2);
      tree = ap (node (at ns i).kind (at ns i).number (at ns i).place (at ns i).length) s.0;
      next = s.1;
    }

-- it stands there with all levels left too
pub lifted : (d : ℕ) (ns : List Node) (r : Role) (i : ℕ) → d ≤ 16 → Stands d ns r i → Stands 16 ns r i
lifted d ns r i l h = (h.0, h.1, (same h.0 d 16 ns r i h.1 h.2 l).end)

-- it may stand there in any other role that its kind may have
pub in_role : (d : ℕ) (ns : List Node) (r q : Role) (i : ℕ) → allows q (at ns i).kind ≡ true → Stands d ns r i → Stands d ns q i
unfolding end_at
in_role zero ns r q i a h = h
in_role (suc d) ns r q i a h =
    let p = end_parts h.0 d ns r i h.1 h.2 in
    let b = and_parts (allows r (at ns i).kind) _ p.1 in
    (h.0, h.1, cond-true (ltb i (length ns) && record_right h.0 q (at ns i)) _ None (and_from _ _ (lt-ltb i (length ns) p.0) (and_from _ _ a b.1)) ∙ p.2)

-- a count may stand wherever a window's part may
pub count_window : (d : ℕ) (ns : List Node) (i : ℕ) → d ≤ 16 → Stands d ns Count i → Stands d ns Window i
count_window d ns i l h =
    in_role d ns Count Window i (and_parts (leb 7 (kind_number (at ns i).kind)) _ (opened d ns Count i l h).kind_right).0 h

-- every record of a query that stands in records is the first of a query that stands there
module _ (g : Stage) (ns : List Node) where
  within_each : (d : ℕ) (r : Role) → ((i j x : ℕ) → end_at g d ns r i ≡ Some j → i ≤ x → x < j → (q : Role) × Stands d ns q x) →
      (k i j x : ℕ) → ends (end_at g d ns r) k i ≡ Some j → i ≤ x → x < j → (q : Role) × Stands d ns q x
  within_each d r one zero i j x h l u = absurd (let e = some_same i j h in omega arith)
  within_each d r one (suc k) i j x h l u = go (end_at g d ns r i) refl h (λ m f. within_each d r one k m j x f)
    where
      go : (o : Option ℕ) → end_at g d ns r i ≡ o → and_then o (λ y. ends (end_at g d ns r) k y) ≡ Some j →
          ((m : ℕ) → ends (end_at g d ns r) k m ≡ Some j → m ≤ x → x < j → (q : Role) × Stands d ns q x) → (q : Role) × Stands d ns q x
      go None o h rest = none_some j h
      go (Some m) o h rest = elim (cases_lt x m) [
        | inl v ↦ one i m x o l v
        | inr v ↦ rest m h v u
      ]

  pub within : (d : ℕ) (r : Role) (i j x : ℕ) → end_at g d ns r i ≡ Some j → i ≤ x → x < j → (q : Role) × Stands d ns q x
  unfolding end_at
  within zero r i j x h l u = none_some j h
  within (suc d) r i j x h l u = elim (cases_eq x i) [
    | inl e ↦ (r, (g, j, subst (λ (y : ℕ). end_at g (suc d) ns r y ≡ Some j) (sym e) h))
    | inr n ↦
        (let p = end_parts g d ns r i j h in
        let f = within_each d (part_role (at ns i).kind) (λ a b c. within d (part_role (at ns i).kind) a b c) (at ns i).parts (i + 1) j x p.2 (omega arith) u in
        (f.0, (f.1.0, f.1.1, (same f.1.0 d (suc d) ns f.0 x f.1.1 f.1.2 (omega arith)).end)))
  ]

-- records that are a query
pub query_stands : (g : Stage) (ns : List Node) → is_query g ns ≡ true → (length ns ≤ 64) × (end_at g 16 ns Shape 0 ≡ Some (length ns))
unfolding is_query
query_stands g ns e =
    let b = and_parts (leb (length ns) 64) _ e in
    (leb-true (length ns) 64 b.0, go (end_at g 16 ns Shape 0) refl b.1)
  where
    go : (o : Option ℕ) → end_at g 16 ns Shape 0 ≡ o → is_at o (length ns) ≡ true → end_at g 16 ns Shape 0 ≡ Some (length ns)
    go None o h = absurd (false≢true h)
    go (Some j) o h = o ∙ ap (λ (k : ℕ). Some k) (eqb-true j (length ns) h)

-- the rules of parts, one by one
pub rules_more : (words : List ℕ) (ns : List Node) (m k i : ℕ) → m ≡ suc k → rules words ns m i ≡ rule words ns i ∷ rules words ns k (next_at 16 ns i)
unfolding fits
rules_more words ns zero k i e = absurd (omega arith)
rules_more words ns (suc m) k i e = let s : m ≡ k = omega arith in ap (λ (x : ℕ). rule words ns i ∷ rules words ns x (next_at 16 ns i)) s

pub rules_none : (words : List ℕ) (ns : List Node) (m i : ℕ) → m ≡ 0 → rules words ns m i ≡ []
unfolding fits
rules_none words ns zero i e = refl
rules_none words ns (suc m) i e = absurd (omega arith)

-- so many parts are left, the next at record p
pub record Left (d : ℕ) (ns : List Node) (r : Role) (first m p : ℕ) : Type 0 where
  pub each : EachStands d ns r m p
  pub further : first ≤ p

pub left_more : (d : ℕ) (ns : List Node) (r : Role) (start m k p : ℕ) → d ≤ 16 → m ≡ suc k → Left d ns r start m p → Left d ns r start k (next_at 16 ns p)
left_more d ns r start m k p l e h =
    let f = first d ns r m k p l e h.each in
    let u = f.further in
    let v = h.further in
    record { each = f.rest; further = omega arith }
