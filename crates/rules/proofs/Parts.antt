-- Parts put together: what they fit, how many they are, their records and levels, and the rules that they keep.
use Rattle.std.proofs.Common.{◌≡◌, ℕ, suc, ◌+◌, max, Bool, true, false, ◌&&◌, List, ◌∷◌, ◌++◌, length, sym, refl, ap, ◌∙◌, ap₂, append_assoc, arith}
use Rattle.std.proofs.lemmas.List.{length-append}
use Rattle.query.specs.declared.node.Kind.{Kind}
use Rattle.query.specs.declared.node.Node.{Node}
use Rattle.query.specs.declared.node.Role.{Role}
use Rattle.query.specs.declared.node.Stage.{Stage}
use Rattle.query.specs.Tree.{Query, node, Queries, none, more, count, records, records_each, levels, levels_each, alike, alike_each, bare, bare_each}
use Rattle.query.specs.Rules.{keeps, keeps_each}
use Rattle.query.proofs.Alike.{alike_bare, alike_bare_each}
use Rattle.shape.specs.Fits.{Rule, whole, fits, fits_each}
use Rattle.rules.specs.Parts.{join}

pub count_join : (qs rs : Queries) → count (join qs rs) ≡ count qs + count rs
count_join none rs = omega arith
count_join (more q qs) rs = let h = count_join qs rs in omega arith

pub records_join : (qs rs : Queries) → records_each (join qs rs) ≡ records_each qs ++ records_each rs
unfolding records
records_join none rs = refl
records_join (more q qs) rs =
    ap (λ (x : List Node). records q ++ x) (records_join qs rs) ∙ sym (append_assoc (records q) (records_each qs) (records_each rs))

-- how many records there are
pub size_join : (qs rs : Queries) → length (records_each (join qs rs)) ≡ length (records_each qs) + length (records_each rs)
size_join qs rs = ap length (records_join qs rs) ∙ length-append (records_each qs) (records_each rs)

pub size_more : (q : Query) (qs : Queries) → length (records_each (more q qs)) ≡ length (records q) + length (records_each qs)
unfolding records
size_more q qs = length-append (records q) (records_each qs)

pub size_node : (k : Kind) (n p l : ℕ) (qs : Queries) → length (records (node k n p l qs)) ≡ suc (length (records_each qs))
unfolding records
size_node k n p l qs = refl

pub levels_join : (qs rs : Queries) → levels_each (join qs rs) ≡ max (levels_each qs) (levels_each rs)
unfolding levels
levels_join none rs = omega arith
levels_join (more q qs) rs = let h = levels_join qs rs in omega arith

pub levels_more : (q : Query) (qs : Queries) → levels_each (more q qs) ≡ max (levels q) (levels_each qs)
unfolding levels
levels_more q qs = refl

pub levels_node : (k : Kind) (n p l : ℕ) (qs : Queries) → levels (node k n p l qs) ≡ suc (levels_each qs)
unfolding levels
levels_node k n p l qs = refl

and_group : (x y z : Bool) → (x && (y && z)) ≡ ((x && y) && z)
and_group true y z = refl
and_group false y z = refl

pub keeps_join : (s : Stage) (o : Role) (qs rs : Queries) → keeps_each s o (join qs rs) ≡ (keeps_each s o qs && keeps_each s o rs)
unfolding keeps
keeps_join s o none rs = refl
keeps_join s o (more q qs) rs =
    ap (λ (t : Bool). keeps s o q && t) (keeps_join s o qs rs) ∙ and_group (keeps s o q) (keeps_each s o qs) (keeps_each s o rs)

module _ (words : List ℕ) where
  pub fits_join : (qs rs : Queries) → fits_each words (join qs rs) ≡ fits_each words qs ++ fits_each words rs
  unfolding fits
  fits_join none rs = refl
  fits_join (more q qs) rs = ap (λ (Ps : List Rule). fits words q ∷ Ps) (fits_join qs rs)

  mutual
    unfolding fits bare

    bare_fits : (q : Query) → fits words (bare q) ≡ fits words q
    bare_fits (node k n p l qs) = ap (whole words k n) (bare_fits_each qs)

    bare_fits_each : (qs : Queries) → fits_each words (bare_each qs) ≡ fits_each words qs
    bare_fits_each none = refl
    bare_fits_each (more q qs) = ap₂ (λ (P : Rule) (Ps : List Rule). P ∷ Ps) (bare_fits q) (bare_fits_each qs)

  -- equal queries are one and the same rule
  pub alike_fits : (q r : Query) → alike q r ≡ true → fits words q ≡ fits words r
  alike_fits q r e = sym (bare_fits q) ∙ ap (fits words) (alike_bare q r e) ∙ bare_fits r

  pub alike_fits_each : (qs rs : Queries) → alike_each qs rs ≡ true → fits_each words qs ≡ fits_each words rs
  alike_fits_each qs rs e = sym (bare_fits_each qs) ∙ ap (fits_each words) (alike_bare_each qs rs e) ∙ bare_fits_each rs
