-- One rule applied in a query, and rules applied until none applies.
use Rattle.std.proofs.Common.{◌≡◌, ℕ, suc, ◌+◌, ◌-◌, ◌<◌, ◌≤◌, Bool, true, ◌||◌, List, ◌∷◌, ◌++◌, length, take, replicate, Some, None, sym, refl, ap, ◌∙◌, subst, append_assoc, append-nil, arith}
use Rattle.std.proofs.lemmas.List.{length-append, take_at, replicate-append-replicate}
use Rattle.std.proofs.lemmas.Bool.{or_from}
use Rattle.query.specs.declared.node.Kind.{Kind}
use Rattle.query.specs.declared.node.Node.{Node}
use Rattle.query.specs.declared.node.Role.{Role}
use Rattle.query.specs.declared.node.Stage.{Stage}
use Rattle.query.specs.Tree.{Query, node, Queries, more, count, records, records_each, levels, levels_each}
use Rattle.query.specs.Rules.{part_role, keeps, keeps_each}
use Rattle.query.specs.Stands.{blank, at, next_at}
use Rattle.query.proofs.Standing.{found}
use Rattle.rules.specs.Applies.{parts_of, applies, applies_in}
use Rattle.rules.specs.Parts.{join}
use Rattle.rules.specs.Places.{Here, Stands, KeptWithin}
use Rattle.rules.specs.Shorter.{Shorter}
use Rattle.rules.proofs.Parts.{count_join, records_join, size_join, size_more, size_node, levels_join, levels_more, levels_node}
use Rattle.rules.proofs.Shorter.{keeps_parts, each_keeps, more_keeps, shorter_in}
use Rattle.rules.proofs.Cursor.{Passed, passed_start, passed_next, passed_more, passed_end, whole_of, row_head, here_inside}
use Rattle.tidy.specs.declared.change.Change.{Change}
use Rattle.tidy.specs.Changes.{Changes}
use Rattle.tidy.specs.Edits.{replaced, Makeable, Made, Steps}
use Rattle.tidy.specs.Promise.{Settled, Settles}
use Rattle.tidy.proofs.Editing.{own, own_first, around, here_long}

-- a query kept within levels stands, and has a level
pub within_stands : (d : ℕ) (ns : List Node) (i : ℕ) → KeptWithin d ns i → Stands ns i
within_stands d ns i h = (h.0, h.3, h.4, h.8)

pub within_deep : (d : ℕ) (ns : List Node) (i : ℕ) → KeptWithin d ns i → 1 ≤ d
within_deep d ns i h = go h.3 h.6
  where
    go : (q : Query) → levels q ≤ d → 1 ≤ d
    go (node k n p len qs) l = let a = levels_node k n p len qs in omega arith

-- the parts of the query at index i have been passed, up to the next, and no rule applies in them
abbrev pub Progress : ℕ → List Node → ℕ → ℕ → ℕ → Type 0
Progress d ns i k next =
    (s : Stage) (o : Role) (q : Query) (rest : List Node) → keeps s o q ≡ true → levels q ≤ d → Here ns i q rest →
    Passed applies_in ns (at ns i).parts (i + 1) k next (parts_of q) rest

pub progress_start : (d : ℕ) (ns : List Node) (i : ℕ) → Progress d ns i 0 (i + 1)
progress_start d ns i s o (node k n p l ps) rest kept deep h =
    let v = whole_of ns i k n p l ps rest h in
    passed_start applies_in ns (at ns i).parts (i + 1) ps rest (sym (ap (λ (x : Node). x.parts) v.here)) v.parts

-- a part of a query that has been reached
pub record Reached (ns : List Node) (i next : ℕ) (s : Stage) (o : Role) (q : Query) (rest : List Node) : Type 0 where
  pub k : Kind
  pub n : ℕ
  pub p : ℕ
  pub l : ℕ
  pub before : Queries
  pub part : Query
  pub behind : Queries
  pub is : q ≡ node k n p l (join before (more part behind))
  pub keep : keeps s (part_role k) part ≡ true
  pub deep : suc (levels part) ≤ levels q
  pub small : length (records part) ≤ length (records q)
  pub here : Here ns next part (records_each behind ++ rest)
  pub place : next ≡ i + 1 + length (records_each before)

module _ (d : ℕ) (ns : List Node) (i k next : ℕ) (w : Progress d ns i k next) where
  pub reached : k < (at ns i).parts → (s : Stage) (o : Role) (q : Query) (rest : List Node) → keeps s o q ≡ true → levels q ≤ d → Here ns i q rest →
      Reached ns i next s o q rest
  reached l s o (node K n p len ps) rest kept deep h =
      let v = whole_of ns i K n p len ps rest h in
      let u = passed_next applies_in ns (at ns i).parts (i + 1) ps rest k next (w s o (node K n p len ps) rest kept deep h) l in
      let e = u.3 in
      let a = keeps_parts s o K n p len ps kept in
      let b = each_keeps s (part_role K) u.0 (more u.1 u.2) (subst (λ (qs : Queries). keeps_each s (part_role K) qs ≡ true) e a.each) in
      let c = more_keeps s (part_role K) u.1 u.2 b.1 in
      let l0 = levels_node K n p len ps in
      let l1 = ap levels_each e in
      let l2 = levels_join u.0 (more u.1 u.2) in
      let l3 = levels_more u.1 u.2 in
      let s0 = size_node K n p len ps in
      let s1 = ap (λ (qs : Queries). length (records_each qs)) e in
      let s2 = size_join u.0 (more u.1 u.2) in
      let s3 = size_more u.1 u.2 in
      record {
        k = K;
        n = n;
        p = p;
        l = len;
        before = u.0;
        part = u.1;
        behind = u.2;
        is = ap (node K n p len) e;
        keep = c.0;
        deep = omega arith;
        small = omega arith;
        here = row_head ns next u.1 u.2 rest u.5;
        place = u.6;
      }

-- the part that comes next is kept, with a level less
pub next_within : (d : ℕ) (ns : List Node) (i k next : ℕ) → Progress d ns i k next → k < (at ns i).parts → KeptWithin d ns i → KeptWithin (d - 1) ns next
next_within d ns i k next w l kt =
    let r = reached d ns i k next w l kt.1 kt.2 kt.3 kt.4 kt.5 kt.6 kt.8 in
    let a = r.deep in
    let b = r.small in
    let c = kt.6 in
    let e = kt.7 in
    (here_inside ns next r.part _ r.here, kt.1, part_role r.k, r.part, records_each r.behind ++ kt.4, r.keep, omega arith, omega arith, r.here)

spread : (A B C F rest fill : List Node) (x : Node) → (A ++ (x ∷ B)) ++ (C ++ ((F ++ rest) ++ fill)) ≡ A ++ (x ∷ (B ++ (C ++ (F ++ (rest ++ fill)))))
spread A B C F rest fill x = simp append_assoc

new_records : (xs : Queries) (q : Query) (ts : Queries) (rest : List Node) → records_each (join xs (more q ts)) ++ rest ≡ records_each xs ++ (records q ++ (records_each ts ++ rest))
unfolding records
new_records xs q ts rest = ap (λ (z : List Node). z ++ rest) (records_join xs (more q ts)) ∙ simp append_assoc

-- where a part has given way to a shorter one, so has the whole
pub step_inside : (d : ℕ) (ns after : List Node) (i k next : ℕ) → Progress d ns i k next → k < (at ns i).parts →
    Steps (d - 1) ns after next None → Steps d ns after i None
step_inside d ns after i k next w l step s o q rest kept deep h =
    let r = reached d ns i k next w l s o q rest kept deep h in
    let dp = r.deep in
    let t = step s (part_role r.k) r.part (records_each r.behind ++ rest) r.keep (omega arith) r.here in
    let q' = node r.k r.n r.p r.l (join r.before (more t.0 r.behind)) in
    let short = shorter_in r.k r.n r.p r.l r.before r.behind r.part t.0 t.1 in (
      q',
      subst (λ (x : Query). Shorter x q') (sym r.is) short,
      t.2 ∙ whole_replaced ns i next q rest h r t.0,
    )
  where
    whole_replaced : (ns : List Node) (i next : ℕ) (q : Query) (rest : List Node) → Here ns i q rest → (r : Reached ns i next s o q rest) (part' : Query) →
        replaced ns next r.part part' (records_each r.behind ++ rest) ≡ replaced ns i q (node r.k r.n r.p r.l (join r.before (more part' r.behind))) rest
    whole_replaced ns i next q rest h r part' =
        let old = join r.before (more r.part r.behind) in
        let new = join r.before (more part' r.behind) in
        let A = take i ns in
        let B = records_each r.before in
        let F = records_each r.behind in
        let h' = subst (λ (x : Query). Here ns i x rest) r.is h in
        let x : Node = own r.k r.n (count old) r.p r.l in
        let counts : count old ≡ count new = count_join r.before (more r.part r.behind) ∙ sym (count_join r.before (more part' r.behind)) in
        let long = here_long ns i q rest h in
        let lined : ns ≡ (A ++ (x ∷ B)) ++ (records_each (more r.part r.behind) ++ rest) =
        around ns i r.k r.n r.p r.l old rest h'
        ∙ ap (λ (z : List Node). A ++ (x ∷ z)) (ap (λ (z : List Node). z ++ rest) (records_join r.before (more r.part r.behind)) ∙ append_assoc B (records_each (more r.part r.behind)) rest)
        ∙ sym (append_assoc A (x ∷ B) (records_each (more r.part r.behind) ++ rest)) in
        let front : length (A ++ (x ∷ B)) ≡ next = (let a = length-append A (x ∷ B) in let b = r.place in omega arith) in
        let taken : take next ns ≡ A ++ (x ∷ B) = ap (take next) lined ∙ take_at (A ++ (x ∷ B)) (records_each (more r.part r.behind) ++ rest) next front in
        let gone : length (records r.part) - length (records part') ≡ length (records q) - length (records (node r.k r.n r.p r.l new)) =
        (let a = ap (λ (z : Query). length (records z)) r.is in
        let b = size_node r.k r.n r.p r.l old in
        let c = size_node r.k r.n r.p r.l new in
        let d = size_join r.before (more r.part r.behind) in
        let e = size_join r.before (more part' r.behind) in
        let f = size_more r.part r.behind in
        let g = size_more part' r.behind in
        omega arith) in
        let fill = replicate (length (records r.part) - length (records part')) blank in
        ap (λ (z : List Node). z ++ (records part' ++ ((F ++ rest) ++ fill))) taken
        ∙ spread A B (records part') F rest fill x
        ∙ ap (λ (z : List Node). A ++ (x ∷ z)) (sym (new_records r.before part' r.behind (rest ++ fill)))
        ∙ ap (λ (m : ℕ). A ++ (own r.k r.n m r.p r.l ∷ (records_each new ++ (rest ++ fill)))) counts
        ∙ ap (λ (z : List Node). A ++ z) (own_first r.k r.n r.p r.l new (rest ++ fill))
        ∙ ap (λ (m : ℕ). A ++ (records (node r.k r.n r.p r.l new) ++ (rest ++ replicate m blank))) gone

-- where no rule applies in a part, it is passed
pub step_passed : (d : ℕ) (ns after : List Node) (i k next j : ℕ) → KeptWithin d ns i → Progress d ns i k next → k < (at ns i).parts →
    Steps (d - 1) ns after next (Some j) → (after ≡ ns) × Progress d ns i (k + 1) j
unfolding applies
step_passed d ns after i k next j kt w l step = (same, on)
  where
    same : after ≡ ns
    same =
        let r = reached d ns i k next w l kt.1 kt.2 kt.3 kt.4 kt.5 kt.6 kt.8 in
        let a = r.deep in
        let b = kt.6 in
        (step kt.1 (part_role r.k) r.part (records_each r.behind ++ kt.4) r.keep (omega arith) r.here).1

    on : Progress d ns i (k + 1) j
    on s o (node K n p len ps) rest kept deep h =
        passed_more applies_in ns (at ns i).parts (i + 1) ps rest k next (w s o (node K n p len ps) rest kept deep h) j l
        (λ xs q ts e c r.
        let a = keeps_parts s o K n p len ps kept in
        let b = each_keeps s (part_role K) xs (more q ts) (subst (λ (qs : Queries). keeps_each s (part_role K) qs ≡ true) e a.each) in
        let f = more_keeps s (part_role K) q ts b.1 in
        let l0 = levels_node K n p len ps in
        let l1 = ap levels_each e in
        let l2 = levels_join xs (more q ts) in
        let l3 = levels_more q ts in
        let t = step s (part_role K) q (records_each ts ++ rest) f.0 (omega arith) (row_head ns next q ts rest r) in
        (t.2, ap (λ (x : Bool). x || applies_in ts) t.0))

module _ (d : ℕ) (ns : List Node) (i : ℕ) where
  -- a rule applies to the whole itself
  pub step_change : (c : Change) → KeptWithin d ns i → Changes ns i (Some c) → Makeable ns i c
  step_change c kt f =
      let m = f kt.1 kt.2 kt.3 kt.4 kt.5 kt.8 in
      (kt.0, kt.3, kt.4, m.0, kt.8, m.1, kt.7, m.2.fewer)

  pub step_changed : (c : Change) (after : List Node) → Changes ns i (Some c) → Made ns i c after → Steps d ns after i None
  step_changed c after f made s o q rest kept deep h =
      let m = f s o q rest kept h in
      (m.0, m.2, made q rest m.0 h m.1 m.2.fewer)

  -- no rule applies to the whole or in its parts
  pub step_done : (k next : ℕ) → Progress d ns i k next → (at ns i).parts ≤ k → Changes ns i None → Steps d ns ns i (Some next)
  unfolding applies
  step_done k next w l f s o (node K n p len ps) rest kept deep h =
      let e = passed_end applies_in ns (at ns i).parts (i + 1) ps rest k next (w s o (node K n p len ps) rest kept deep h) l refl in
      let a = e.1 in
      let b = size_node K n p len ps in
      (or_from _ _ (f s o (node K n p len ps) rest kept h) e.0, refl, omega arith)

-- Until none applies

pub settled_start : (q : Query) → Settled q q
settled_start q = record { same = λ words s a b l. refl; fewer = omega arith; flatter = omega arith; kept = λ s o e. e }

pub settled_more : (q r t : Query) → Settled q r → Shorter r t → Settled q t
settled_more q r t a b =
    let x = a.fewer in
    let y = b.fewer in
    let u = a.flatter in
    let v = b.flatter in
    record {
      same = λ words s c d l. a.same words s c d l ∙ b.same words s c d l;
      fewer = omega arith;
      flatter = omega arith;
      kept = λ s o e. b.kept s o (a.kept s o e);
    }

-- the query at the head of the sheet has given way to another that says the same
abbrev pub Settling : List Node → List Node → Type 0
Settling ns now_is =
    (s : Stage) (o : Role) (q : Query) (rest : List Node) → keeps s o q ≡ true → levels q ≤ 16 → Here ns 0 q rest →
    (r : Query) × Settled q r × Here now_is 0 r (rest ++ replicate (length (records q) - length (records r)) blank)

pub settling_start : (ns : List Node) → Settling ns ns
settling_start ns s o q rest kept deep h =
    let z : length (records q) - length (records q) ≡ 0 = omega arith in
    (q, settled_start q, h ∙ ap (λ (x : List Node). records q ++ x) (sym (append-nil rest)) ∙ ap (λ (m : ℕ). records q ++ (rest ++ replicate m blank)) (sym z))

-- it is still kept
pub settling_within : (ns now_is : List Node) → length now_is ≡ length ns → KeptWithin 16 ns 0 → Settling ns now_is → KeptWithin 16 now_is 0
settling_within ns now_is same kt w =
    let v = w kt.1 kt.2 kt.3 kt.4 kt.5 kt.6 kt.8 in
    let a = v.1.flatter in
    let b = v.1.fewer in
    let c = kt.6 in
    let d = kt.7 in
    let e = kt.0 in
    (omega arith, kt.1, kt.2, v.0, kt.4 ++ replicate (length (records kt.3) - length (records v.0)) blank, v.1.kept kt.1 kt.2 kt.5, omega arith, omega arith, v.2)

pub settling_more : (ns now_is after : List Node) → Settling ns now_is → Steps 16 now_is after 0 None → Settling ns after
settling_more ns now_is after w step s o q rest kept deep h =
    let v = w s o q rest kept deep h in
    let a = v.1.flatter in
    let b = v.1.fewer in
    let fill = rest ++ replicate (length (records q) - length (records v.0)) blank in
    let t = step s o v.0 fill (v.1.kept s o kept) (omega arith) v.2 in
    let c = t.1.fewer in
    let n : length (records q) - length (records v.0) + (length (records v.0) - length (records t.0)) ≡ length (records q) - length (records t.0) = omega arith in (
      t.0,
      settled_more q v.0 t.0 v.1 t.1,
      t.2
          ∙ ap (λ (x : List Node). records t.0 ++ x)
          (append_assoc rest (replicate (length (records q) - length (records v.0)) blank) (replicate (length (records v.0) - length (records t.0)) blank)
          ∙ ap (λ (x : List Node). rest ++ x) (replicate-append-replicate (length (records q) - length (records v.0)) (length (records v.0) - length (records t.0)) blank)
          ∙ ap (λ (m : ℕ). rest ++ replicate m blank) n),
    )

-- how many records the query at the head of a sheet has
abbrev pub size_now : List Node → ℕ
size_now ns = next_at 16 ns 0

pub settling_less : (now_is after : List Node) → KeptWithin 16 now_is 0 → Steps 16 now_is after 0 None → size_now after < size_now now_is
settling_less now_is after kt step =
    let t = step kt.1 kt.2 kt.3 kt.4 kt.5 kt.6 kt.8 in
    let a = (found kt.3 kt.1 16 now_is kt.2 0 kt.4 kt.5 kt.6 kt.8).far in
    let b = t.1.flatter in
    let c = kt.6 in
    let e = (found t.0 kt.1 16 after kt.2 0 _ (t.1.kept kt.1 kt.2 kt.5) (omega arith) t.2).far in
    let f = t.1.fewer in
    omega arith

pub settling_end : (ns now_is after : List Node) (m : ℕ) → Settling ns now_is → Steps 16 now_is after 0 (Some m) → Settles ns after m
settling_end ns now_is after m w step s o q rest kept deep h =
    let v = w s o q rest kept deep h in
    let a = v.1.flatter in
    let t = step s o v.0 (rest ++ replicate (length (records q) - length (records v.0)) blank) (v.1.kept s o kept) (omega arith) v.2 in
    let b = t.2 in
    (v.0, v.1, t.0, omega arith, t.1 ∙ v.2)
