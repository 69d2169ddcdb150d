-- The query that stands in records, and the records of a query.
use Rattle.std.proofs.Common.{◌≡◌, ℕ, zero, suc, ◌+◌, ◌<◌, ◌≤◌, Bool, true, false, cond, ◌&&◌, ltb, leb, List, [], ◌∷◌, ◌++◌, length, drop, Some, None, Decides, Option, sym, refl, ap, ◌∙◌, subst, ap₂, inl, inr, append_assoc, append-nil, le_of_eq, arith}
use Rattle.std.proofs.lemmas.List.{drop_more, drop_all, length-append}
use Rattle.std.proofs.lemmas.Bool.{cases_lt, and_parts, and_from, ltb-true, lt-ltb, leb-true, le-leb, eqb-true, eq-eqb, cond-true, false≢true}
use Rattle.query.specs.declared.node.Node.{Node}
use Rattle.query.specs.declared.node.Role.{Role}
use Rattle.query.specs.declared.node.Role.TheVariants.{Shape}
use Rattle.query.specs.declared.node.Stage.{Stage}
use Rattle.query.specs.Tree.{Query, node, Queries, none, more, count, records, records_each, levels, levels_each}
use Rattle.query.specs.Rules.{record_right, part_role, keeps, keeps_each, well, AreQuery}
use Rattle.query.specs.Laws.{ReadsBack}
use Rattle.query.specs.Stands.{blank, at, skips, parts_from, next_at, tree_at, and_then, ends, end_at, is_at, is_query, query_in}

-- what stands at an index, from what is left of the list there
pub drop_head : (ns : List Node) (i : ℕ) (x : Node) (xs : List Node) → drop i ns ≡ x ∷ xs →
    (i < length ns) × (at ns i ≡ x) × (drop (i + 1) ns ≡ xs)
drop_head ns i x xs e = elim (cases_lt i (length ns)) [
  | inl l ↦
      let m = drop_more ns i blank l in
      (l, (cc), (cc))
  | inr g ↦
      let n : drop i ns ≡ [] = drop_all i ns g in
      let z : 0 ≡ suc (length xs) = ap length (sym n ∙ e) in
      absurd (omega arith)
]

pub count_parts : (tree : ℕ → Query) (next : ℕ → ℕ) (k i : ℕ) → count (parts_from tree next k i) ≡ k
count_parts tree next zero i = refl
count_parts tree next (suc k) i = ap suc (count_parts tree next k (next i))

-- a query that keeps the rules stands at index i, and index j comes after it
pub record Sound (s : Stage) (d : ℕ) (ns : List Node) (r : Role) (i j : ℕ) : Type 0 where
  pub kept : keeps s r (tree_at d ns i) ≡ true
  pub deep : levels (tree_at d ns i) ≤ d
  pub next : next_at d ns i ≡ j
  pub here : drop i ns ≡ records (tree_at d ns i) ++ drop j ns

-- the same of k queries one after another
pub record SoundEach (s : Stage) (d : ℕ) (ns : List Node) (r : Role) (k i j : ℕ) : Type 0 where
  pub kept : keeps_each s r (parts_from (tree_at d ns) (next_at d ns) k i) ≡ true
  pub deep : levels_each (parts_from (tree_at d ns) (next_at d ns) k i) ≤ d
  pub next : skips (next_at d ns) k i ≡ j
  pub here : drop i ns ≡ records_each (parts_from (tree_at d ns) (next_at d ns) k i) ++ drop j ns

some_same : (i j : ℕ) → ◌≡◌ {A = Option ℕ} (Some i) (Some j) → i ≡ j
some_same i j e = cc

none_some : (j : ℕ) → ◌≡◌ {A = Option ℕ} None (Some j) → ⊥
none_some j e = cc

module _ (s : Stage) (d : ℕ) (ns : List Node) (r : Role) (whole : (i j : ℕ) → end_at s d ns r i ≡ Some j → Sound s d ns r i j) where
  pub sound_each : (k i j : ℕ) → ends (end_at s d ns r) k i ≡ Some j → SoundEach s d ns r k i j
  unfolding keeps levels records
  sound_each zero i j e =
      let ij = some_same i j e in
      record { kept = refl; deep = omega arith; next = ij; here = ap (λ (x : ℕ). drop x ns) ij }
  sound_each (suc k) i j e = go (end_at s d ns r i) refl e (λ m. sound_each k m j)
    where
      go : (o : Option ℕ) → end_at s d ns r i ≡ o → and_then o (λ m. ends (end_at s d ns r) k m) ≡ Some j →
          ((m : ℕ) → ends (end_at s d ns r) k m ≡ Some j → SoundEach s d ns r k m j) → SoundEach s d ns r (suc k) i j
      go None o e rest = absurd (none_some j e)
      go (Some m) o e rest =
          let f = whole i m o in
          let g : SoundEach s d ns r k (next_at d ns i) j =
          subst (λ (x : ℕ). SoundEach s d ns r k x j) (sym f.next) (rest m e) in
          let b : drop m ns ≡ drop (next_at d ns i) ns = ap (λ (x : ℕ). drop x ns) (sym f.next) in
          record {
            kept = and_from _ _ f.kept g.kept;
            deep = let fd = f.deep in let gd = g.deep in omega arith;
            next = g.next;
            here = f.here ∙ ap (λ (x : List Node). records (tree_at d ns i) ++ x) (b ∙ g.here) ∙ sym (append_assoc (records (tree_at d ns i)) _ (drop j ns));
          }

-- what a right end tells of the record at index i and of its parts
pub end_parts : (s : Stage) (d : ℕ) (ns : List Node) (r : Role) (i j : ℕ) → end_at s (suc d) ns r i ≡ Some j →
    (i < length ns) × (record_right s r (at ns i) ≡ true)
    × (ends (end_at s d ns (part_role (at ns i).kind)) (at ns i).parts (i + 1) ≡ Some j)
unfolding end_at
end_parts s d ns r i j e = go (ltb i (length ns) && record_right s r (at ns i)) refl e
  where
    go : (t : Bool) → (ltb i (length ns) && record_right s r (at ns i)) ≡ t →
        cond t (ends (end_at s d ns (part_role (at ns i).kind)) (at ns i).parts (i + 1)) None ≡ Some j →
        (i < length ns) × (record_right s r (at ns i) ≡ true)
        × (ends (end_at s d ns (part_role (at ns i).kind)) (at ns i).parts (i + 1) ≡ Some j)
    go true t e = let p = and_parts _ _ t in (ltb-true i (length ns) p.0, p.1, e)
    go false t e = absurd (none_some j e)

pub sound : (s : Stage) (d : ℕ) (ns : List Node) (r : Role) (i j : ℕ) → end_at s d ns r i ≡ Some j → Sound s d ns r i j
unfolding end_at keeps levels records next_at tree_at
sound s zero ns r i j e = absurd (none_some j e)
sound s (suc d) ns r i j e =
    let p = end_parts s d ns r i j e in
    let w = sound_each s d ns (part_role (at ns i).kind) (sound s d ns (part_role (at ns i).kind)) (at ns i).parts (i + 1) j p.2 in
    let m : count (parts_from (tree_at d ns) (next_at d ns) (at ns i).parts (i + 1)) ≡ (at ns i).parts =
    count_parts (tree_at d ns) (next_at d ns) (at ns i).parts (i + 1) in
    record {
      kept = and_from _ _ (subst (λ (n : ℕ). record_right s r (record { kind = (at ns i).kind; number = (at ns i).number; parts = n; place = (at ns i).place; length = (at ns i).length }) ≡ true) (sym m) p.1) w.kept;
      deep = let wd = w.deep in omega arith;
      next = w.next;
      here =
          drop_more ns i blank p.0 ∙
          ap₂ (λ (n : ℕ) (x : List Node). record { kind = (at ns i).kind; number = (at ns i).number; parts = n; place = (at ns i).place; length = (at ns i).length } ∷ x) (sym m) w.here;
    }

-- the records of a query that keeps the rules, at index i, give it back
pub record Found (s : Stage) (d : ℕ) (ns : List Node) (r : Role) (i : ℕ) (q : Query) (rest : List Node) : Type 0 where
  pub ending : end_at s d ns r i ≡ Some (next_at d ns i)
  pub tree : tree_at d ns i ≡ q
  pub after : drop (next_at d ns i) ns ≡ rest
  pub far : next_at d ns i ≡ i + length (records q)

pub record FoundEach (s : Stage) (d : ℕ) (ns : List Node) (r : Role) (i : ℕ) (qs : Queries) (rest : List Node) : Type 0 where
  pub ending : ends (end_at s d ns r) (count qs) i ≡ Some (skips (next_at d ns) (count qs) i)
  pub trees : parts_from (tree_at d ns) (next_at d ns) (count qs) i ≡ qs
  pub after : drop (skips (next_at d ns) (count qs) i) ns ≡ rest
  pub far : skips (next_at d ns) (count qs) i ≡ i + length (records_each qs)

mutual
  unfolding keeps levels records end_at next_at tree_at

  pub found : (q : Query) (s : Stage) (d : ℕ) (ns : List Node) (r : Role) (i : ℕ) (rest : List Node) →
      keeps s r q ≡ true → levels q ≤ d → drop i ns ≡ records q ++ rest → Found s d ns r i q rest
  found (node k n p l qs) s zero ns r i rest kept deep e = absurd (omega arith)
  found (node k n p l qs) s (suc d) ns r i rest kept deep e =
      let h = drop_head ns i _ _ e in
      let b = and_parts (record_right s r (record { kind = k; number = n; parts = count qs; place = p; length = l })) (keeps_each s (part_role k) qs) kept in
      let f = found_each qs s d ns (part_role k) (i + 1) rest b.1 (omega arith) h.2 in
      let right : record_right s r (at ns i) ≡ true = subst (λ (x : Node). record_right s r x ≡ true) (sym h.1) b.0 in
      let ok : (ltb i (length ns) && record_right s r (at ns i)) ≡ true = and_from _ _ (lt-ltb i (length ns) h.0) right in
      let fe = f.ending in
      let ff = f.far in
      record {
        ending = cond-true _ _ _ ok ∙ subst (λ (x : Node). ends (end_at s d ns (part_role x.kind)) x.parts (i + 1) ≡ Some (skips (next_at d ns) x.parts (i + 1))) (sym h.1) fe;
        tree = ap (λ (x : Node). node x.kind x.number x.place x.length (parts_from (tree_at d ns) (next_at d ns) x.parts (i + 1))) h.1
            ∙ ap (node k n p l) f.trees;
        after = ap (λ (x : Node). drop (skips (next_at d ns) x.parts (i + 1)) ns) h.1 ∙ f.after;
        far = ap (λ (x : Node). skips (next_at d ns) x.parts (i + 1)) h.1 ∙ ff ∙ omega arith;
      }

  pub found_each : (qs : Queries) (s : Stage) (d : ℕ) (ns : List Node) (r : Role) (i : ℕ) (rest : List Node) →
      keeps_each s r qs ≡ true → levels_each qs ≤ d → drop i ns ≡ records_each qs ++ rest → FoundEach s d ns r i qs rest
  found_each none s d ns r i rest kept deep e = record { ending = refl; trees = refl; after = e; far = omega arith }
  found_each (more q qs) s d ns r i rest kept deep e =
      let b = and_parts _ _ kept in
      let f = found q s d ns r i (records_each qs ++ rest) b.0 (omega arith) (e ∙ append_assoc (records q) (records_each qs) rest) in
      let g = found_each qs s d ns r (next_at d ns i) rest b.1 (omega arith) f.after in
      let ff = f.far in
      let gf = g.far in
      let la = length-append (records q) (records_each qs) in
      record {
        ending = ap (λ (o : Option ℕ). and_then o (λ m. ends (end_at s d ns r) (count qs) m)) f.ending ∙ g.ending;
        trees = ap₂ more f.tree g.trees;
        after = g.after;
        far = gf ∙ omega arith;
      }

-- the check of records, in both directions
pub is_query_sound : (s : Stage) (ns : List Node) → is_query s ns ≡ true → (records (query_in ns) ≡ ns) × (well s (query_in ns) ≡ true)
unfolding is_query query_in well
is_query_sound s ns e =
    let b = and_parts _ _ e in
    go (end_at s 16 ns Shape 0) refl b.1 b.0
  where
    go : (o : Option ℕ) → end_at s 16 ns Shape 0 ≡ o → is_at o (length ns) ≡ true → leb (length ns) 64 ≡ true →
        (records (tree_at 16 ns 0) ≡ ns) × ((keeps s Shape (tree_at 16 ns 0) && (leb (levels (tree_at 16 ns 0)) 16 && leb (length (records (tree_at 16 ns 0))) 64)) ≡ true)
    go None o e few = absurd (false≢true e)
    go (Some j) o e few =
        let w = sound s 16 ns Shape 0 j o in
        let all : length ns ≤ j = le_of_eq (sym (eqb-true j (length ns) e)) in
        let same : records (tree_at 16 ns 0) ≡ ns =
        sym (w.here ∙ ap (λ (x : List Node). records (tree_at 16 ns 0) ++ x) (drop_all j ns all) ∙ append-nil (records (tree_at 16 ns 0))) in (
          same,
          and_from _ _ w.kept (and_from _ _ (le-leb _ 16 w.deep) (ap (λ (x : List Node). leb (length x) 64) same ∙ few)),
        )

pub is_query_found : (s : Stage) (q : Query) → well s q ≡ true → (is_query s (records q) ≡ true) × (query_in (records q) ≡ q)
unfolding is_query query_in well
is_query_found s q e =
    let b = and_parts _ _ e in
    let c = and_parts _ _ b.1 in
    let f = found q s 16 (records q) Shape 0 [] b.0 (leb-true (levels q) 16 c.0) (sym (append-nil (records q))) in
    let ff = f.far in
    (and_from _ _ c.1 (ap (λ (o : Option ℕ). is_at o (length (records q))) f.ending ∙ eq-eqb _ _ (omega arith)), f.tree)

pub decides_query : (s : Stage) (ns : List Node) → Decides (is_query s ns) (AreQuery s ns)
decides_query s ns = (
  λ e. let h = is_query_sound s ns e in (query_in ns, h.0, h.1),
  λ h. subst (λ (x : List Node). is_query s x ≡ true) h.1 (is_query_found s h.0 h.2).0,
)

pub reads_back : ReadsBack
reads_back s q e = (is_query_found s q e).1
