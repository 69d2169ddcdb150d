-- Queries that are equal but for the places of their words.
use Rattle.std.proofs.Common.{◌≡◌, ℕ, Bool, true, ◌&&◌, eqb, [], ◌∷◌, get_or, sym, refl, ap, ◌∙◌, ap₂, rules}
use Rattle.std.proofs.lemmas.Bool.{and_parts, and_from, eqb-true, eq-eqb, false≢true}
use Rattle.query.specs.declared.node.Kind.{Kind}
use Rattle.query.specs.declared.node.Kind.TheVariants.{Symbol, Any, Concat, Exact, Atleast, Atmost, In, Precisely, Noless, Nomore, And, Or, Inorder}
use Rattle.query.specs.Kinds.{kind_number, same_kind}
use Rattle.query.specs.Tree.{Query, node, Queries, none, more, alike, alike_each, bare, bare_each}
use Rattle.query.specs.Laws.{EqualButForWords}

-- the kind that has a number
abbrev kind_of : ℕ → Kind
kind_of n = get_or (Symbol ∷ Any ∷ Concat ∷ Exact ∷ Atleast ∷ Atmost ∷ In ∷ Precisely ∷ Noless ∷ Nomore ∷ And ∷ Or ∷ Inorder ∷ []) n Symbol

kind_back : (k : Kind) → kind_of (kind_number k) ≡ k
kind_back k = search rules

-- no two kinds have one number
pub same_kind_is : (k l : Kind) → same_kind k l ≡ true → k ≡ l
same_kind_is k l e = sym (kind_back k) ∙ ap kind_of (eqb-true (kind_number k) (kind_number l) e) ∙ kind_back l

pub same_kind_refl : (k : Kind) → same_kind k k ≡ true
same_kind_refl k = eq-eqb (kind_number k) (kind_number k) refl

mutual
  unfolding alike bare

  pub alike_bare : (q r : Query) → alike q r ≡ true → bare q ≡ bare r
  alike_bare (node k n p l qs) (node k' n' p' l' qs') e =
      let b = and_parts (same_kind k k' && eqb n n') (alike_each qs qs') e in
      let c = and_parts (same_kind k k') (eqb n n') b.0 in
      let f = alike_bare_each qs qs' b.1 in
      let m = eqb-true n n' c.1 in
      let k = same_kind_is k k' c.0 in
      cc

  pub alike_bare_each : (qs rs : Queries) → alike_each qs rs ≡ true → bare_each qs ≡ bare_each rs
  alike_bare_each none none e = refl
  alike_bare_each none (more r rs) e = absurd (false≢true e)
  alike_bare_each (more q qs) none e = absurd (false≢true e)
  alike_bare_each (more q qs) (more r rs) e =
      let b = and_parts (alike q r) (alike_each qs rs) e in
      ap₂ more (alike_bare q r b.0) (alike_bare_each qs rs b.1)

mutual
  unfolding alike

  pub alike_refl : (q : Query) → alike q q ≡ true
  alike_refl (node k n p l qs) = and_from _ _ (and_from _ _ (same_kind_refl k) (eq-eqb n n refl)) (alike_refl_each qs)

  pub alike_refl_each : (qs : Queries) → alike_each qs qs ≡ true
  alike_refl_each none = refl
  alike_refl_each (more q qs) = and_from _ _ (alike_refl q) (alike_refl_each qs)

-- the places of words are not looked at
mutual
  unfolding alike bare

  pub alike_blind : (q r : Query) → alike (bare q) (bare r) ≡ alike q r
  alike_blind (node k n p l qs) (node k' n' p' l' qs') =
      ap (λ (x : Bool). (same_kind k k' && eqb n n') && x) (alike_blind_each qs qs')

  pub alike_blind_each : (qs rs : Queries) → alike_each (bare_each qs) (bare_each rs) ≡ alike_each qs rs
  alike_blind_each none none = refl
  alike_blind_each none (more r rs) = refl
  alike_blind_each (more q qs) none = refl
  alike_blind_each (more q qs) (more r rs) = ap₂ (λ (x y : Bool). x && y) (alike_blind q r) (alike_blind_each qs rs)

pub equal_but_for_words : EqualButForWords
equal_but_for_words q r =
    (alike_bare q r, λ e. sym (alike_blind q r) ∙ ap (λ (x : Query). alike (bare q) x) (sym e) ∙ alike_refl (bare q))
