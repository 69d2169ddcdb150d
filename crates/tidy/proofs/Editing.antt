-- Records cut out of a sheet, and what a change of records makes of the query that they are.
use Rattle.std.proofs.Common.{◌≡◌, ℕ, suc, ◌+◌, ◌-◌, ◌<◌, ◌≤◌, List, [], ◌∷◌, ◌++◌, length, take, drop, set, replicate, sym, refl, ap, ◌∙◌, subst, ap₂, append_assoc, append-nil, arith}
use Rattle.std.proofs.lemmas.List.{length-append, length-drop, length-take-le, take-append-drop, take_all, drop_all, take_at, drop_at, set_at}
use Rattle.std.specs.List.{copy_within}
use Rattle.std.proofs.lemmas.List.Edits.{take-paste}
use borrow.Rule.Slice.PartMut.{put_mid, mid_of, post_of}
use Rattle.query.specs.declared.node.Kind.{Kind}
use Rattle.query.specs.declared.node.Kind.TheVariants.{Any}
use Rattle.query.specs.declared.node.Node.{Node}
use Rattle.query.specs.Tree.{Query, node, Queries, none, more, count, records, records_each}
use Rattle.query.specs.Stands.{blank, at}
use Rattle.rules.specs.Parts.{join, renamed}
use Rattle.rules.specs.Places.{Here, Stands, Ends}
use Rattle.rules.proofs.Parts.{count_join, records_join, size_join, size_more, size_node}
use Rattle.rules.proofs.Cursor.{whole_of, here_after, here_inside, part_of_row, row_head}
use Rattle.rules.proofs.Walking.{none_long, row_long}
use Rattle.tidy.specs.declared.head.Head.{Head}
use Rattle.tidy.specs.declared.change.Change.TheVariants.{Lift, Clear, Unnest, Join}
use Rattle.tidy.specs.Changes.{Joins}
use Rattle.tidy.specs.Edits.{cut_out, replaced, Makeable, Made}

-- what is left once those behind have been copied down and the end has been filled
pub cut_copied : (ns moved filled : List Node) (from to : ℕ) {x : Node} → from ≤ to → to ≤ length ns → length moved ≡ length ns →
    moved ≡ copy_within ns to (length ns) from →
    filled ≡ replicate (length (mid_of (length moved - (to - from)) (length moved - (length moved - (to - from))) moved)) x → x ≡ blank →
    put_mid (length moved - (to - from)) (length moved - (length moved - (to - from))) moved filled ≡ cut_out ns from to
cut_copied ns moved filled from to l u n m f b =
    let d = length-drop to ns in
    let at_kept : length moved - (to - from) ≡ from + (length ns - to) = omega arith in
    let front : take (length moved - (to - from)) moved ≡ take from ns ++ drop to ns =
    ap₂ (λ (k : ℕ) (xs : List Node). take k xs) at_kept m
    ∙ take-paste ns from (drop to ns) (length ns - to) (omega arith) (omega arith)
    ∙ ap (λ (xs : List Node). take from ns ++ xs) (take_all (length ns - to) (drop to ns) (omega arith)) in
    let gap = length moved - (length moved - (to - from)) in
    let e = length-drop (length moved - (to - from)) moved in
    let many : length (mid_of (length moved - (to - from)) gap moved) ≡ to - from =
    length-take-le gap (drop (length moved - (to - from)) moved) (omega arith) ∙ omega arith in
    ap₂ (λ (xs ys : List Node). xs ++ (ys ++ post_of (length moved - (to - from)) gap moved)) front
    (f ∙ ap₂ (λ (k : ℕ) (y : Node). replicate k y) many b)
    ∙ ap (λ (xs : List Node). (take from ns ++ drop to ns) ++ (replicate (to - from) blank ++ xs))
    (drop_all gap (drop (length moved - (to - from)) moved) (omega arith))
    ∙ ap (λ (xs : List Node). (take from ns ++ drop to ns) ++ xs) (append-nil (replicate (to - from) blank))
    ∙ append_assoc (take from ns) (drop to ns) (replicate (to - from) blank)

-- Cutting a piece out of a list

pub cut_piece : (P D E : List Node) (from to : ℕ) → length P ≡ from → from + length D ≡ to → cut_out (P ++ (D ++ E)) from to ≡ P ++ (E ++ replicate (length D) blank)
cut_piece P D E from to p d =
    let n : to - from ≡ length D = omega arith in
    let long : length (P ++ D) ≡ to = length-append P D ∙ omega arith in
    ap₂ (λ (x y : List Node). x ++ (y ++ replicate (to - from) blank)) (take_at P (D ++ E) from p) (ap (drop to) (sym (append_assoc P D E)) ∙ drop_at (P ++ D) E to long)
    ∙ ap (λ (m : ℕ). P ++ (E ++ replicate m blank)) n

-- The sheet around a query

-- the record of a whole
abbrev pub own : Kind → ℕ → ℕ → ℕ → ℕ → Node
own k n m p l = record { kind = k; number = n; parts = m; place = p; length = l }

pub here_long : (ns : List Node) (i : ℕ) (q : Query) (rest : List Node) → Here ns i q rest → length (take i ns) ≡ i
here_long ns i q rest h = let v = here_inside ns i q rest h in length-take-le i ns (omega arith)

pub around : (ns : List Node) (i : ℕ) (k : Kind) (n p l : ℕ) (ps : Queries) (rest : List Node) → Here ns i (node k n p l ps) rest →
    ns ≡ take i ns ++ (own k n (count ps) p l ∷ (records_each ps ++ rest))
unfolding records
around ns i k n p l ps rest h = sym (take-append-drop i ns) ∙ ap (λ (x : List Node). take i ns ++ x) h

-- Lift

records_one : (r : Query) → records_each (more r none) ≡ records r
unfolding records
records_one r = append-nil (records r)

pub lift_made : (ns after : List Node) (i : ℕ) → after ≡ cut_out ns i (i + 1) → Made ns i Lift after
lift_made ns after i e q rest q' h m f =
    let h' = subst (λ (x : Query). Here ns i x rest) m.was h in
    let A = take i ns in
    let size : length (records q) - length (records q') ≡ 1 =
    (let a = ap (λ (x : Query). length (records x)) m.was in let b = size_node m.k m.n m.p m.l (more q' none) in let c = size_more q' none in omega (arith, none_long)) in
    e ∙ ap (λ (x : List Node). cut_out x i (i + 1)) (around ns i m.k m.n m.p m.l (more q' none) rest h')
    ∙ cut_piece A (own m.k m.n 1 m.p m.l ∷ []) (records_each (more q' none) ++ rest) i (i + 1) (here_long ns i q rest h) refl
    ∙ ap (λ (x : List Node). A ++ x) (append_assoc (records_each (more q' none)) rest (replicate 1 blank) ∙ ap (λ (x : List Node). x ++ (rest ++ replicate 1 blank)) (records_one q'))
    ∙ ap (λ (x : ℕ). A ++ (records q' ++ (rest ++ replicate x blank))) (sym size)

-- Clear

pub clear_made : (ns after : List Node) (i end : ℕ) → Ends ns i end → after ≡ cut_out (set ns i (own Any 0 0 (at ns i).place (at ns i).length)) (i + 1) end → Made ns i Clear after
unfolding records
clear_made ns after i end ends e q rest q' h m f =
    let h' = subst (λ (x : Query). Here ns i x rest) m.was h in
    let v = whole_of ns i m.k m.n m.p m.l m.qs rest h' in
    let A = take i ns in
    let x : Node = own Any 0 0 m.p m.l in
    let is : own Any 0 0 (at ns i).place (at ns i).length ≡ x = ap (λ (z : Node). own Any 0 0 z.place z.length) v.here in
    let long = here_long ns i q rest h in
    let size = size_node m.k m.n m.p m.l m.qs in
    let stop = ends (node m.k m.n m.p m.l m.qs) rest h' in
    let set_is : set ns i x ≡ (A ++ (x ∷ [])) ++ (records_each m.qs ++ rest) =
    ap (λ (z : List Node). set z i x) (around ns i m.k m.n m.p m.l m.qs rest h')
    ∙ set_at A (own m.k m.n (count m.qs) m.p m.l) (records_each m.qs ++ rest) x i long ∙ sym (append_assoc A (x ∷ []) (records_each m.qs ++ rest)) in
    let front : length (A ++ (x ∷ [])) ≡ i + 1 = length-append A (x ∷ []) ∙ ap (λ (z : ℕ). z + 1) long in
    let gone : length (records q) - length (records q') ≡ length (records_each m.qs) =
    (let a = ap (λ (z : Query). length (records z)) m.was in let b = ap (λ (z : Query). length (records z)) m.now_is in omega arith) in
    e ∙ ap (λ (z : Node). cut_out (set ns i z) (i + 1) end) is ∙ ap (λ (z : List Node). cut_out z (i + 1) end) set_is
    ∙ cut_piece (A ++ (x ∷ [])) (records_each m.qs) rest (i + 1) end front (omega arith)
    ∙ append_assoc A (x ∷ []) (rest ++ replicate (length (records_each m.qs)) blank)
    ∙ ap₂ (λ (z : Query) (y : ℕ). A ++ (records z ++ (rest ++ replicate y blank))) (sym m.now_is) (sym gone)

-- Unnest

pub unnest_made : (ns after : List Node) (i j : ℕ) →
    after ≡ cut_out (set ns i (own (at ns i).kind (at ns i).number ((at ns i).parts - 1 + (at ns j).parts) (at ns i).place (at ns i).length)) j (j + 1) → Made ns i (Unnest j) after
unfolding records
unnest_made ns after i j e q rest q' h m f =
    let h' = subst (λ (x : Query). Here ns i x rest) m.was h in
    let v = whole_of ns i m.k m.n m.p m.l _ rest h' in
    let A = take i ns in
    let B = records_each m.before in
    let inner : Node = own m.k m.m (count m.inner) m.p' m.l' in
    let E = records_each m.inner ++ (records_each m.behind ++ rest) in
    let at_j = part_of_row m.before (more (node m.k m.m m.p' m.l' m.inner) m.behind) ns (i + 1) rest v.parts in
    let w = whole_of ns (i + 1 + length B) m.k m.m m.p' m.l' m.inner (records_each m.behind ++ rest)
    (row_head ns (i + 1 + length B) (node m.k m.m m.p' m.l' m.inner) m.behind rest at_j) in
    let inner-is : (at ns j).parts ≡ count m.inner = ap (λ (z : ℕ). (at ns z).parts) m.place ∙ ap (λ (z : Node). z.parts) w.here in
    let parts_is : (at ns i).parts ≡ count (join m.before (more (node m.k m.m m.p' m.l' m.inner) m.behind)) = ap (λ (z : Node). z.parts) v.here in
    let new : (at ns i).parts - 1 + (at ns j).parts ≡ count (join m.before (join m.inner m.behind)) =
    (let a = count_join m.before (more (node m.k m.m m.p' m.l' m.inner) m.behind) in
    let b = count_join m.before (join m.inner m.behind) in let c = count_join m.inner m.behind in omega arith) in
    let x : Node = own m.k m.n (count (join m.before (join m.inner m.behind))) m.p m.l in
    let is : own (at ns i).kind (at ns i).number ((at ns i).parts - 1 + (at ns j).parts) (at ns i).place (at ns i).length ≡ x =
    ap₂ (λ (z : Node) (y : ℕ). own z.kind z.number y z.place z.length) v.here new in
    let long = here_long ns i q rest h in
    let inside : records_each (join m.before (more (node m.k m.m m.p' m.l' m.inner) m.behind)) ++ rest ≡ B ++ (inner ∷ E) =
    ap (λ (z : List Node). z ++ rest) (records_join m.before (more (node m.k m.m m.p' m.l' m.inner) m.behind))
    ∙ append_assoc B (inner ∷ (records_each m.inner ++ records_each m.behind)) rest
    ∙ ap (λ (z : List Node). B ++ (inner ∷ z)) (append_assoc (records_each m.inner) (records_each m.behind) rest) in
    let set_is : set ns i x ≡ (A ++ (x ∷ B)) ++ (inner ∷ E) =
    ap (λ (z : List Node). set z i x) (around ns i m.k m.n m.p m.l _ rest h')
    ∙ set_at A _ _ x i long ∙ ap (λ (z : List Node). A ++ (x ∷ z)) inside ∙ sym (append_assoc A (x ∷ B) (inner ∷ E)) in
    let front : length (A ++ (x ∷ B)) ≡ j = (let a = length-append A (x ∷ B) in let b = m.place in omega arith) in
    let gone : length (records q) - length (records q') ≡ 1 =
    (let a = ap (λ (z : Query). length (records z)) m.was in
    let b = ap (λ (z : Query). length (records z)) m.now_is in
    let c = size_join m.before (more (node m.k m.m m.p' m.l' m.inner) m.behind) in
    let d = size_more (node m.k m.m m.p' m.l' m.inner) m.behind in
    let g = size_join m.before (join m.inner m.behind) in
    let o = size_join m.inner m.behind in
    omega arith) in
    let tail : (A ++ (x ∷ B)) ++ (E ++ replicate 1 blank) ≡ A ++ ((x ∷ records_each (join m.before (join m.inner m.behind))) ++ (rest ++ replicate 1 blank)) =
    append_assoc A (x ∷ B) (E ++ replicate 1 blank)
    ∙ ap (λ (z : List Node). A ++ (x ∷ z))
    (ap (λ (z : List Node). B ++ z)
    (append_assoc (records_each m.inner) (records_each m.behind ++ rest) (replicate 1 blank)
    ∙ ap (λ (z : List Node). records_each m.inner ++ z) (append_assoc (records_each m.behind) rest (replicate 1 blank))
    ∙ sym (append_assoc (records_each m.inner) (records_each m.behind) (rest ++ replicate 1 blank)))
    ∙ sym (append_assoc B (records_each m.inner ++ records_each m.behind) (rest ++ replicate 1 blank))
    ∙ ap (λ (z : List Node). z ++ (rest ++ replicate 1 blank)) (sym (records_join m.before (join m.inner m.behind) ∙ ap (λ (z : List Node). B ++ z) (records_join m.inner m.behind)))) in
    e ∙ ap (λ (z : Node). cut_out (set ns i z) j (j + 1)) is ∙ ap (λ (z : List Node). cut_out z j (j + 1)) set_is
    ∙ cut_piece (A ++ (x ∷ B)) (inner ∷ []) E j (j + 1) front refl ∙ tail
    ∙ ap₂ (λ (z : Query) (y : ℕ). A ++ (records z ++ (rest ++ replicate y blank))) (sym m.now_is) (sym gone)

-- the numbers that unnesting works with
pub unnest_room : (ns : List Node) (i j : ℕ) → Makeable ns i (Unnest j) →
    (j < length ns) × (1 ≤ (at ns i).parts) × ((at ns i).parts - 1 + (at ns j).parts ≤ 255)
unnest_room ns i j mk =
    let m = mk.5 in
    let h' = subst (λ (x : Query). Here ns i x mk.2) m.was mk.4 in
    let v = whole_of ns i m.k m.n m.p m.l _ mk.2 h' in
    let inner = node m.k m.m m.p' m.l' m.inner in
    let at_j = part_of_row m.before (more inner m.behind) ns (i + 1) mk.2 v.parts in
    let w = whole_of ns (i + 1 + length (records_each m.before)) m.k m.m m.p' m.l' m.inner (records_each m.behind ++ mk.2)
    (row_head ns (i + 1 + length (records_each m.before)) inner m.behind mk.2 at_j) in
    let inner-is : (at ns j).parts ≡ count m.inner = ap (λ (z : ℕ). (at ns z).parts) m.place ∙ ap (λ (z : Node). z.parts) w.here in
    let parts_is : (at ns i).parts ≡ count (join m.before (more inner m.behind)) = ap (λ (z : Node). z.parts) v.here in
    let place = m.place in
    let inside = w.inside in
    let a = count_join m.before (more inner m.behind) in
    let few = mk.6 in
    let b = ap (λ (z : Query). length (records z)) m.was in
    let c = size_node m.k m.n m.p m.l (join m.before (more inner m.behind)) in
    let d = row_long (join m.before (more inner m.behind)) in
    let e = size_join m.before (more inner m.behind) in
    let f = size_more inner m.behind in
    let g = size_node m.k m.m m.p' m.l' m.inner in
    let o = row_long m.inner in
    let r = row_long m.before in
    let t = row_long m.behind in
    (omega arith, omega arith, omega arith)

-- Join

-- where the parts of a whole stand that are joined
module _ (ns : List Node) (i x y : ℕ) (K : Kind) (N : ℕ) (q q' : Query) (rest : List Node) (h : Here ns i q rest) (m : Joins i x y K N q q') where
  abbrev behind_x : Queries
  behind_x = join m.between (more m.later m.behind)

  pub join_whole : Here ns i (node m.k m.n m.p m.l (join m.before (more m.earlier behind_x))) rest
  join_whole = subst (λ (z : Query). Here ns i z rest) m.was h

  pub join_x : Here ns x m.earlier (records_each behind_x ++ rest)
  join_x =
      subst (λ (z : ℕ). Here ns z m.earlier (records_each behind_x ++ rest)) (sym m.place)
      (row_head ns (i + 1 + length (records_each m.before)) m.earlier behind_x rest
      (part_of_row m.before (more m.earlier behind_x) ns (i + 1) rest (whole_of ns i m.k m.n m.p m.l _ rest join_whole).parts))

  pub join_y : Here ns y m.later (records_each m.behind ++ rest)
  join_y =
      subst (λ (z : ℕ). Here ns z m.later (records_each m.behind ++ rest)) (sym m.place')
      (row_head ns (x + length (records m.earlier) + length (records_each m.between)) m.later m.behind rest
      (part_of_row m.between (more m.later m.behind) ns (x + length (records m.earlier)) rest (here_after ns x m.earlier (records_each behind_x ++ rest) join_x)))

  pub join_parts : (at ns i).parts ≡ count m.before + suc (count m.between + suc (count m.behind))
  join_parts =
      let v = whole_of ns i m.k m.n m.p m.l _ rest join_whole in
      let a = count_join m.before (more m.earlier behind_x) in
      let b = count_join m.between (more m.later m.behind) in
      ap (λ (z : Node). z.parts) v.here ∙ a ∙ ap (λ (z : ℕ). count m.before + suc z) b

pub join_room : (ns : List Node) (i x y : ℕ) (t : Head) → Makeable ns i (Join x y t) → (x < length ns) × (1 ≤ (at ns i).parts) × Stands ns y
join_room ns i x y t mk =
    let hx = join_x ns i x y t.kind t.number mk.1 mk.3 mk.2 mk.4 mk.5 in
    let hy = join_y ns i x y t.kind t.number mk.1 mk.3 mk.2 mk.4 mk.5 in
    let parts = join_parts ns i x y t.kind t.number mk.1 mk.3 mk.2 mk.4 mk.5 in
    let m = mk.5 in (
      here_inside ns x m.earlier _ hx,
      omega arith,
      (here_inside ns y m.later _ hy, m.later, records_each m.behind ++ mk.2, hy),
    )

-- the records of a whole with a row, a query, a row, a query and a row behind it
joined_records : (xs : Queries) (k : Kind) (n p l : ℕ) (ps rs : Queries) (r : Query) (ts : Queries) (rest : List Node) →
    records_each (join xs (more (node k n p l ps) (join rs (more r ts)))) ++ rest
    ≡ records_each xs ++ (own k n (count ps) p l ∷ ((records_each ps ++ records_each rs) ++ (records r ++ (records_each ts ++ rest))))
unfolding records
joined_records xs k n p l ps rs r ts rest =
    ap (λ (z : List Node). z ++ rest)
    (records_join xs (more (node k n p l ps) (join rs (more r ts)))
    ∙ ap (λ (z : List Node). records_each xs ++ (own k n (count ps) p l ∷ (records_each ps ++ z))) (records_join rs (more r ts)))
    ∙ simp append_assoc

kept_records : (xs : Queries) (k : Kind) (n p l : ℕ) (ps rs ts : Queries) (rest : List Node) →
    records_each (join xs (more (node k n p l ps) (join rs ts))) ++ rest
    ≡ records_each xs ++ (own k n (count ps) p l ∷ ((records_each ps ++ records_each rs) ++ (records_each ts ++ rest)))
unfolding records
kept_records xs k n p l ps rs ts rest =
    ap (λ (z : List Node). z ++ rest)
    (records_join xs (more (node k n p l ps) (join rs ts))
    ∙ ap (λ (z : List Node). records_each xs ++ (own k n (count ps) p l ∷ (records_each ps ++ z))) (records_join rs ts))
    ∙ simp append_assoc

-- a long row of records, put into the groups of the query that they are
spread : (A B C D rest fill : List Node) (x y : Node) → ((A ++ (x ∷ B)) ++ (y ∷ C)) ++ ((D ++ rest) ++ fill) ≡ A ++ (x ∷ (B ++ (y ∷ (C ++ (D ++ (rest ++ fill))))))
spread A B C D rest fill x y = simp append_assoc

pub own_first : (k : Kind) (n p l : ℕ) (qs : Queries) (rest : List Node) → own k n (count qs) p l ∷ (records_each qs ++ rest) ≡ records (node k n p l qs) ++ rest
unfolding records
own_first k n p l qs rest = refl

pub join_made : (ns after : List Node) (i x y end : ℕ) (t : Head) → Ends ns y end →
    after ≡ cut_out (set (set ns i (own (at ns i).kind (at ns i).number ((at ns i).parts - 1) (at ns i).place (at ns i).length)) x
    (own t.kind t.number (at ns x).parts (at ns x).place (at ns x).length)) y end → Made ns i (Join x y t) after
join_made ns after i x y end t ends e q rest q' h m f = go m.earlier refl
  where
    K : Kind
    K = t.kind

    N : ℕ
    N = t.number

    whole_here : Here ns i (node m.k m.n m.p m.l (join m.before (more m.earlier (join m.between (more m.later m.behind))))) rest
    whole_here = subst (λ (z : Query). Here ns i z rest) m.was h

    go : (u : Query) → m.earlier ≡ u → after ≡ replaced ns i q q' rest
    go (node k n p l ps) is =
        let A = take i ns in
        let B = records_each m.before in
        let C = records_each ps ++ records_each m.between in
        let L = records m.later in
        let E = records_each m.behind ++ rest in
        let new = join m.before (more (node K N p l ps) (join m.between m.behind)) in
        let long = here_long ns i q rest h in
        let v = whole_of ns i m.k m.n m.p m.l (join m.before (more m.earlier (join m.between (more m.later m.behind)))) rest whole_here in
        let after-x = records_each (join m.between (more m.later m.behind)) ++ rest in
        let hx = subst (λ (z : Query). Here ns x z after-x) is (join_x ns i x y K N q q' rest h m) in
        let w = whole_of ns x k n p l ps after-x hx in
        let parts = join_parts ns i x y K N q q' rest h m in
        let count-new : (at ns i).parts - 1 ≡ count new =
        (let a = count_join m.before (more (node K N p l ps) (join m.between m.behind)) in let b = count_join m.between m.behind in omega arith) in
        let r1 : Node = own m.k m.n (count new) m.p m.l in
        let r2 : Node = own K N (count ps) p l in
        let r1-is : own (at ns i).kind (at ns i).number ((at ns i).parts - 1) (at ns i).place (at ns i).length ≡ r1 =
        ap₂ (λ (z : Node) (c : ℕ). own z.kind z.number c z.place z.length) v.here count-new in
        let r2-is : own K N (at ns x).parts (at ns x).place (at ns x).length ≡ r2 = ap (λ (z : Node). own K N z.parts z.place z.length) w.here in
        let inside : ns ≡ A ++ (own m.k m.n (count (join m.before (more m.earlier (join m.between (more m.later m.behind))))) m.p m.l ∷ (B ++ (own k n (count ps) p l ∷ (C ++ (L ++ E))))) =
        around ns i m.k m.n m.p m.l _ rest whole_here
        ∙ ap (λ (z : List Node). A ++ (own m.k m.n (count (join m.before (more m.earlier (join m.between (more m.later m.behind))))) m.p m.l ∷ z))
        (ap (λ (z : Query). records_each (join m.before (more z (join m.between (more m.later m.behind)))) ++ rest) is
        ∙ joined_records m.before k n p l ps m.between m.later m.behind rest) in
        let once : set ns i r1 ≡ (A ++ (r1 ∷ B)) ++ (own k n (count ps) p l ∷ (C ++ (L ++ E))) =
        ap (λ (z : List Node). set z i r1) inside ∙ set_at A _ (B ++ (own k n (count ps) p l ∷ (C ++ (L ++ E)))) r1 i long ∙ sym (append_assoc A (r1 ∷ B) (own k n (count ps) p l ∷ (C ++ (L ++ E)))) in
        let front : length (A ++ (r1 ∷ B)) ≡ x = (let a = length-append A (r1 ∷ B) in let b = m.place in omega arith) in
        let twice : set (set ns i r1) x r2 ≡ ((A ++ (r1 ∷ B)) ++ (r2 ∷ C)) ++ (L ++ E) =
        ap (λ (z : List Node). set z x r2) once ∙ set_at (A ++ (r1 ∷ B)) (own k n (count ps) p l) (C ++ (L ++ E)) r2 x front ∙ sym (append_assoc (A ++ (r1 ∷ B)) (r2 ∷ C) (L ++ E)) in
        let size : length (records m.earlier) ≡ suc (length (records_each ps)) = ap (λ (z : Query). length (records z)) is ∙ size_node k n p l ps in
        let back : length ((A ++ (r1 ∷ B)) ++ (r2 ∷ C)) ≡ y =
        (let a = length-append (A ++ (r1 ∷ B)) (r2 ∷ C) in let b = length-append (records_each ps) (records_each m.between) in let c = m.place' in omega arith) in
        let stop : y + length L ≡ end = sym (ends m.later (records_each m.behind ++ rest) (join_y ns i x y K N q q' rest h m)) in
        let now_is : q' ≡ node m.k m.n m.p m.l new =
        m.now_is ∙ ap (λ (z : Query). node m.k m.n m.p m.l (join m.before (more (renamed z K N) (join m.between m.behind)))) is in
        let gone : length (records q) - length (records q') ≡ length L =
        (let a = ap (λ (z : Query). length (records z)) m.was in
        let b = ap (λ (z : Query). length (records z)) now_is in
        let c = size_node m.k m.n m.p m.l (join m.before (more m.earlier (join m.between (more m.later m.behind)))) in
        let d = size_node m.k m.n m.p m.l new in
        let g = size_join m.before (more m.earlier (join m.between (more m.later m.behind))) in
        let o = size_more m.earlier (join m.between (more m.later m.behind)) in
        let r = size_join m.between (more m.later m.behind) in
        let s = size_more m.later m.behind in
        let t = size_join m.before (more (node K N p l ps) (join m.between m.behind)) in
        let u = size_more (node K N p l ps) (join m.between m.behind) in
        let j = size_join m.between m.behind in
        let z = size_node K N p l ps in
        omega arith) in
        let tail : ((A ++ (r1 ∷ B)) ++ (r2 ∷ C)) ++ (E ++ replicate (length L) blank) ≡ A ++ (records (node m.k m.n m.p m.l new) ++ (rest ++ replicate (length L) blank)) =
        spread A B C (records_each m.behind) rest (replicate (length L) blank) r1 r2
        ∙ ap (λ (z : List Node). A ++ (r1 ∷ z)) (sym (kept_records m.before K N p l ps m.between m.behind (rest ++ replicate (length L) blank)))
        ∙ ap (λ (z : List Node). A ++ z) (own_first m.k m.n m.p m.l new (rest ++ replicate (length L) blank)) in
        e ∙ ap₂ (λ (a b : Node). cut_out (set (set ns i a) x b) y end) r1-is r2-is ∙ ap (λ (z : List Node). cut_out z y end) twice
        ∙ cut_piece ((A ++ (r1 ∷ B)) ++ (r2 ∷ C)) L E y end back stop ∙ tail
        ∙ ap₂ (λ (z : Query) (g : ℕ). A ++ (records z ++ (rest ++ replicate g blank))) (sym now_is) (sym gone)
