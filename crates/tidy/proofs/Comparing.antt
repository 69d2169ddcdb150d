-- Queries at the heads of two lists of records, compared record by record.
use Rattle.std.proofs.Common.{◌≡◌, ℕ, zero, suc, ◌+◌, ◌-◌, ◌<◌, ◌≤◌, min, Bool, true, false, ◌&&◌, eqb, List, [], ◌∷◌, length, take, drop, sym, refl, ap, ◌∙◌, ap₂, arith}
use Rattle.std.specs.List.{list_all, zip}
use Rattle.std.proofs.lemmas.List.{length-drop, drop_more, drop_all}
use Rattle.std.proofs.lemmas.Bool.{eqb-true, eqb-false, false≢true}
use Rattle.query.specs.declared.node.Node.{Node}
use Rattle.query.specs.Kinds.{same_kind}
use Rattle.query.specs.Stands.{blank, at}
use Rattle.rules.specs.Places.{same_record, stand_first, size_first}
use Rattle.rules.proofs.Firsts.{first_more, first_room}

-- whether so many queries at the heads of two lists are the same, record by record, as far as both go
abbrev pub same_heads : ℕ → List Node → List Node → Bool
same_heads m xs ys = list_all (λ (p : Node × Node). same_record p.0 p.1) (zip (take (size_first m xs) xs) (take (size_first m ys) ys))

pub heads_none : (m : ℕ) (xs ys : List Node) → m ≡ 0 → same_heads m xs ys ≡ true
unfolding size_first
heads_none zero xs ys e = refl
heads_none (suc m) xs ys e = absurd (omega arith)

heads_left : (m : ℕ) (ys : List Node) → same_heads m [] ys ≡ true
unfolding size_first
heads_left zero ys = refl
heads_left (suc m) ys = refl

heads_right : (m : ℕ) (xs : List Node) → same_heads m xs [] ≡ true
unfolding size_first
heads_right zero xs = refl
heads_right (suc m) [] = refl
heads_right (suc m) (x ∷ xs) = refl

-- records that are the same have as many parts
same_parts : (x y : Node) → same_record x y ≡ true → x.parts ≡ y.parts
same_parts x y e = go (same_kind x.kind y.kind) (eqb x.number y.number) (eqb x.parts y.parts) refl e
  where
    go : (a b t : Bool) → eqb x.parts y.parts ≡ t → (a && (b && t)) ≡ true → x.parts ≡ y.parts
    go true true true e h = eqb-true x.parts y.parts e
    go true true false e h = absurd (false≢true h)
    go true false t e h = absurd (false≢true h)
    go false b t e h = absurd (false≢true h)

-- the records at the heads are compared first
module _ (m : ℕ) (x y : Node) (xs ys : List Node) where
  heads_differ : same_record x y ≡ false → same_heads (suc m) (x ∷ xs) (y ∷ ys) ≡ false
  unfolding size_first
  heads_differ e = ap (λ (t : Bool). t && list_all (λ (p : Node × Node). same_record p.0 p.1) (zip (take (size_first (x.parts + m) xs) xs) (take (size_first (y.parts + m) ys) ys))) e

  heads_agree : same_record x y ≡ true → same_heads (suc m) (x ∷ xs) (y ∷ ys) ≡ same_heads (x.parts + m) xs ys
  unfolding size_first
  heads_agree e =
      ap (λ (t : Bool). t && list_all (λ (p : Node × Node). same_record p.0 p.1) (zip (take (size_first (x.parts + m) xs) xs) (take (size_first (y.parts + m) ys) ys))) e
      ∙ ap (λ (k : ℕ). list_all (λ (p : Node × Node). same_record p.0 p.1) (zip (take (size_first (x.parts + m) xs) xs) (take (size_first (k + m) ys) ys))) (sym (same_parts x y e))

-- one more record of each is compared
module _ (xs ys : List Node) (m k : ℕ) (x y : Node) (l : 0 < m) (u : k < length xs) (v : k < length ys) (f : x ≡ at xs k) (s : y ≡ at ys k) where
  heads_here : same_heads m (drop k xs) (drop k ys) ≡ same_heads (suc (m - 1)) (x ∷ drop (k + 1) xs) (y ∷ drop (k + 1) ys)
  heads_here =
      let n : m ≡ suc (m - 1) = omega arith in
      ap (λ (h : ℕ). same_heads h (drop k xs) (drop k ys)) n
      ∙ ap₂ (same_heads (suc (m - 1))) (drop_more xs k blank u) (drop_more ys k blank v)
      ∙ ap₂ (λ (a b : Node). same_heads (suc (m - 1)) (a ∷ drop (k + 1) xs) (b ∷ drop (k + 1) ys)) (sym f) (sym s)

  pub heads_unlike : same_record x y ≡ false → same_heads m (drop k xs) (drop k ys) ≡ false
  heads_unlike e = heads_here ∙ heads_differ (m - 1) x y (drop (k + 1) xs) (drop (k + 1) ys) e

  module _ (n j : ℕ) (p : n ≡ m - 1 + x.parts) (q : j ≡ k + 1) where
    pub heads_alike : same_record x y ≡ true → same_heads n (drop j xs) (drop j ys) ≡ same_heads m (drop k xs) (drop k ys)
    heads_alike e =
        let c : n ≡ x.parts + (m - 1) = omega arith in
        ap₂ (λ (a b : ℕ). same_heads a (drop b xs) (drop b ys)) c q
        ∙ sym (heads_agree (m - 1) x y (drop (k + 1) xs) (drop (k + 1) ys) e) ∙ sym heads_here

    pub heads_stand : stand_first m (drop k xs) ≡ true → stand_first n (drop j xs) ≡ true
    heads_stand st =
        ap₂ (λ (a b : ℕ). stand_first a (drop b xs)) (p ∙ ap (λ (z : Node). m - 1 + z.parts) f) q ∙ sym (first_more xs k m l u).0 ∙ st

    pub heads_room : stand_first m (drop k xs) ≡ true → n ≤ length xs
    heads_room st = let a = first_room n (drop j xs) (heads_stand st) in let b = length-drop j xs in omega arith

-- where the shorter list ends, nothing more is compared
pub heads_end : (xs ys : List Node) (m k : ℕ) → k ≡ min (length xs) (length ys) → same_heads m (drop k xs) (drop k ys) ≡ true
heads_end xs ys m k e = go (eqb k (length xs)) refl
  where
    go : (t : Bool) → eqb k (length xs) ≡ t → same_heads m (drop k xs) (drop k ys) ≡ true
    go true h =
        let a = eqb-true k (length xs) h in
        ap (λ (z : List Node). same_heads m z (drop k ys)) (drop_all k xs (omega arith)) ∙ heads_left m (drop k ys)
    go false h =
        let a = eqb-false k (length xs) h in
        ap (same_heads m (drop k xs)) (drop_all k ys (omega arith)) ∙ heads_right m (drop k xs)
