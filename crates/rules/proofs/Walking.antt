-- How long a row is, when rows are equal, and where a window is in one.
use Rattle.std.proofs.Common.{◌≡◌, suc, ◌≤◌, Bool, true, false, ◌&&◌, ◌||◌, List, [], ◌∷◌, ◌++◌, length, refl, ap, ◌∙◌, ap₂, arith}
use Rattle.query.specs.declared.node.Kind.TheVariants.{In}
use Rattle.query.specs.declared.node.Node.{Node}
use Rattle.query.specs.Kinds.{same_kind}
use Rattle.query.specs.Tree.{Query, node, Queries, none, more, count, records, records_each, alike, alike_each}
use Rattle.rules.specs.Applies.{windowed, windowed_each}
use Rattle.rules.specs.Places.{any_window}
use Rattle.rules.proofs.Parts.{size_more, size_node}

-- a row is as long as its queries are many, or longer
pub row_long : (qs : Queries) → count qs ≤ length (records_each qs)
row_long none = omega arith
row_long (more (node k n p l ps) qs) =
    let a = size_more (node k n p l ps) qs in
    let b = size_node k n p l ps in
    let c = row_long qs in
    omega arith

pub none_long : length (records_each none) ≡ 0
unfolding records
none_long = refl

-- rows of other lengths are not equal
pub alike_count : (qs rs : Queries) → (count qs ≡ count rs → ⊥) → alike_each qs rs ≡ false
unfolding alike
alike_count none none h = absurd (h refl)
alike_count none (more r rs) h = refl
alike_count (more q qs) none h = refl
alike_count (more q qs) (more r rs) h = and_last (alike q r) _ (alike_count qs rs (λ e. h (ap suc e)))
  where
    and_last : (x y : Bool) → y ≡ false → (x && y) ≡ false
    and_last true y e = e
    and_last false y e = refl

-- a window among the records

window_append : (ns ms : List Node) → any_window (ns ++ ms) ≡ (any_window ns || any_window ms)
window_append [] ms = refl
window_append (n ∷ ns) ms = ap (λ (t : Bool). same_kind n.kind In || t) (window_append ns ms) ∙ or_group (same_kind n.kind In) (any_window ns) (any_window ms)
  where
    or_group : (x y z : Bool) → (x || (y || z)) ≡ ((x || y) || z)
    or_group true y z = refl
    or_group false y z = refl

mutual
  unfolding records windowed

  pub window_records : (q : Query) → any_window (records q) ≡ windowed q
  window_records (node k n p l qs) = ap (λ (t : Bool). same_kind k In || t) (window_records_each qs)

  pub window_records_each : (qs : Queries) → any_window (records_each qs) ≡ windowed_each qs
  window_records_each none = refl
  window_records_each (more q qs) =
      window_append (records q) (records_each qs) ∙ ap₂ (λ (t u : Bool). t || u) (window_records q) (window_records_each qs)
