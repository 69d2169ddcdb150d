-- The list of the stretches inside a range that pass a test is the only one with all of them, each once, in order.
use Rattle.std.proofs.Common.{◌≡◌, ℕ, zero, suc, ◌+◌, ◌-◌, ◌<◌, ◌≤◌, Bool, true, false, cond, ◌⊎◌, List, [], ◌∷◌, ◌++◌, sym, refl, ap, ◌∙◌, subst, ap₂, inl, inr, arith}
use Rattle.std.proofs.lemmas.Bool.{cases_eq, false≢true}
use Rattle.shape.specs.declared.stretch.Stretch.{Stretch}
use Rattle.shape.specs.Ranges.{stretch, row_from, rows_from, inside}
use Rattle.shape.specs.Listing.{Among, Once, NotAfter, InOrder, Lists}

-- x comes before y
abbrev Before : Stretch → Stretch → Type 0
Before x y = (x.start < y.start) ⊎ ((x.start ≡ y.start) × (x.end < y.end))

-- each stretch comes before every later one
abbrev Rising : List Stretch → Type 0
Rising [] = Unit {0}
Rising (x ∷ xs) = ((y : Stretch) → Among y xs → Before x y) × Rising xs

rising_once : (l : List Stretch) → Rising l → Once l
rising_once [] r = tt
rising_once (x ∷ xs) r =
    (λ h. elim (r.0 x h) [ inl l ↦ omega arith | inr e ↦ (let f = e.1 in omega arith) ], rising_once xs r.1)

rising_order : (l : List Stretch) → Rising l → InOrder l
rising_order [] r = tt
rising_order (x ∷ xs) r =
    (λ y h. elim (r.0 y h) [ inl l ↦ inl l | inr e ↦ inr (e.0, (let f = e.1 in omega arith)) ], rising_order xs r.1)

among_append : (x : Stretch) (xs ys : List Stretch) → Among x (xs ++ ys) → Among x xs ⊎ Among x ys
among_append x [] ys h = inr h
among_append x (z ∷ xs) ys (inl e) = inl (inl e)
among_append x (z ∷ xs) ys (inr h) = elim (among_append x xs ys h) [ inl k ↦ inl (inr k) | inr k ↦ inr k ]

among_left : (x : Stretch) (xs ys : List Stretch) → Among x xs → Among x (xs ++ ys)
among_left x [] ys h = absurd h
among_left x (z ∷ xs) ys (inl e) = inl e
among_left x (z ∷ xs) ys (inr h) = inr (among_left x xs ys h)

among_right : (x : Stretch) (xs ys : List Stretch) → Among x ys → Among x (xs ++ ys)
among_right x [] ys h = h
among_right x (z ∷ xs) ys h = inr (among_right x xs ys h)

rising_append : (xs ys : List Stretch) → Rising xs → Rising ys → ((x y : Stretch) → Among x xs → Among y ys → Before x y) → Rising (xs ++ ys)
rising_append [] ys r t b = t
rising_append (x ∷ xs) ys r t b = (
  λ y h. elim (among_append y xs ys h) [ inl k ↦ r.0 y k | inr k ↦ b x y (inl refl) k ],
  rising_append xs ys r.1 t (λ z y h k. b z y (inr h) k),
)

-- two stretches with one start and one end are one
pub same_stretch : (x y : Stretch) → x.start ≡ y.start → x.end ≡ y.end → x ≡ y
same_stretch x y e f = λ i. record { start = e i; end = f i }

module _ (test : ℕ → ℕ → Bool) where
  -- what a row has
  pub row_has : (d x y : ℕ) (z : Stretch) → Among z (row_from d x y test) →
      (z.start ≡ x) × (y ≤ z.end) × (z.end < y + d) × (test z.start z.end ≡ true)
  unfolding row_from
  row_has zero x y z h = absurd h
  row_has (suc d) x y z h = go (test x y) refl h (row_has d x (suc y) z)
    where
      later : ((z.start ≡ x) × (suc y ≤ z.end) × (z.end < suc y + d) × (test z.start z.end ≡ true)) →
          (z.start ≡ x) × (y ≤ z.end) × (z.end < y + suc d) × (test z.start z.end ≡ true)
      later r = let l = r.1 in let u = r.2 in (r.0, omega arith, omega arith, r.3)

      go : (t : Bool) → test x y ≡ t → Among z (cond t (stretch x y ∷ row_from d x (suc y) test) (row_from d x (suc y) test)) →
          (Among z (row_from d x (suc y) test) → (z.start ≡ x) × (suc y ≤ z.end) × (z.end < suc y + d) × (test z.start z.end ≡ true)) →
          (z.start ≡ x) × (y ≤ z.end) × (z.end < y + suc d) × (test z.start z.end ≡ true)
      go true is (inl e) rest =
          let a = ap (λ (w : Stretch). w.start) e in
          let b = ap (λ (w : Stretch). w.end) e in
          (a, omega arith, omega arith, ap (λ (w : Stretch). test w.start w.end) e ∙ is)
      go true is (inr k) rest = later (rest k)
      go false is k rest = later (rest k)

  pub row_finds : (d x y : ℕ) (z : Stretch) → z.start ≡ x → y ≤ z.end → z.end < y + d → test z.start z.end ≡ true →
      Among z (row_from d x y test)
  unfolding row_from
  row_finds zero x y z e l u is = absurd (omega arith)
  row_finds (suc d) x y z e l u is = go (test x y) refl (λ m. row_finds d x (suc y) z e m (omega arith) is)
    where
      go : (t : Bool) → test x y ≡ t → (suc y ≤ z.end → Among z (row_from d x (suc y) test)) →
          Among z (cond t (stretch x y ∷ row_from d x (suc y) test) (row_from d x (suc y) test))
      go true was rest = elim (cases_eq z.end y) [ inl f ↦ inl (same_stretch z (stretch x y) e f) | inr o ↦ inr (rest (omega arith)) ]
      go false was rest = elim (cases_eq z.end y) [
        | inl f ↦ absurd (false≢true (sym was ∙ sym (ap₂ test e f) ∙ is))
        | inr o ↦ rest (omega arith)
      ]

  row_rising : (d x y : ℕ) → Rising (row_from d x y test)
  unfolding row_from
  row_rising zero x y = tt
  row_rising (suc d) x y = go (test x y) (row_rising d x (suc y))
    where
      go : (t : Bool) → Rising (row_from d x (suc y) test) → Rising (cond t (stretch x y ∷ row_from d x (suc y) test) (row_from d x (suc y) test))
      go true r = (λ w h. let m = row_has d x (suc y) w h in inr (sym m.0, m.1), r)
      go false r = r

  -- what the rows have
  pub rows_has : (d x b : ℕ) (z : Stretch) → Among z (rows_from d x b test) →
      (x ≤ z.start) × (z.start < x + d) × (z.start < z.end) × (z.end ≤ b) × (test z.start z.end ≡ true)
  unfolding rows_from
  rows_has zero x b z h = absurd h
  rows_has (suc d) x b z h = elim (among_append z (row_from (b - x) x (suc x) test) (rows_from d (suc x) b test) h) [
    | inl k ↦ (let m = row_has (b - x) x (suc x) z k in let e = m.0 in let l = m.1 in let u = m.2 in
        (omega arith, omega arith, omega arith, omega arith, m.3))
    | inr k ↦ (let m = rows_has d (suc x) b z k in let l = m.0 in let u = m.1 in (omega arith, omega arith, m.2, m.3, m.4))
  ]

  pub rows_finds : (d x b : ℕ) (z : Stretch) → x ≤ z.start → z.start < x + d → z.start < z.end → z.end ≤ b →
      test z.start z.end ≡ true → Among z (rows_from d x b test)
  unfolding rows_from
  rows_finds zero x b z l u o f is = absurd (omega arith)
  rows_finds (suc d) x b z l u o f is = elim (cases_eq z.start x) [
    | inl e ↦ among_left z _ _ (row_finds (b - x) x (suc x) z e (omega arith) (omega arith) is)
    | inr n ↦ among_right z (row_from (b - x) x (suc x) test) _ (rows_finds d (suc x) b z (omega arith) (omega arith) o f is)
  ]

  rows_rising : (d x b : ℕ) → Rising (rows_from d x b test)
  unfolding rows_from
  rows_rising zero x b = tt
  rows_rising (suc d) x b =
      rising_append (row_from (b - x) x (suc x) test) (rows_from d (suc x) b test) (row_rising (b - x) x (suc x)) (rows_rising d (suc x) b)
      (λ z w h k.
      let e = (row_has (b - x) x (suc x) z h).0 in
      let l = (rows_has d (suc x) b w k).0 in
      inl (omega arith))

  pub inside_lists : (a b : ℕ) → Lists test a b (inside test a b)
  inside_lists a b = record {
    exact = λ x. (
      λ h. (let m = rows_has (b - a) a b x h in (m.0, m.2, m.3, m.4)),
      λ h. (let l = h.0 in let u = h.1 in let f = h.2 in rows_finds (b - a) a b x l (omega arith) u f h.3),
    );
    once = rising_once _ (rows_rising (b - a) a b);
    ordered = rising_order _ (rows_rising (b - a) a b);
  }

-- neither comes after the other
not_after_both : (x y : Stretch) → NotAfter x y → NotAfter y x → x ≡ y
not_after_both x y (inl l) (inl m) = absurd (omega arith)
not_after_both x y (inl l) (inr m) = absurd (let e = m.0 in omega arith)
not_after_both x y (inr l) (inl m) = absurd (let e = l.0 in omega arith)
not_after_both x y (inr l) (inr m) = same_stretch x y l.0 (let u = l.1 in let v = m.1 in omega arith)

-- two lists with the same stretches, each once and in order, are one
pub only_one : (xs ys : List Stretch) → ((z : Stretch) → Among z xs → Among z ys) → ((z : Stretch) → Among z ys → Among z xs) →
    Once xs → Once ys → InOrder xs → InOrder ys → xs ≡ ys
only_one [] [] f g o p r s = refl
only_one [] (y ∷ ys) f g o p r s = absurd (g y (inl refl))
only_one (x ∷ xs) [] f g o p r s = absurd (f x (inl refl))
only_one (x ∷ xs) (y ∷ ys) f g o p r s =
    let e : x ≡ y = head (f x (inl refl)) (g y (inl refl)) in
    ap₂ ◌∷◌ e (only_one xs ys (λ z h. tail_of xs ys x y e o.0 z h (f z (inr h))) (λ z h. tail_of ys xs y x (sym e) p.0 z h (g z (inr h))) o.1 p.1 r.1 s.1)
  where
    head : (x ≡ y) ⊎ Among x ys → (y ≡ x) ⊎ Among y xs → x ≡ y
    head (inl e) k = e
    head (inr h) (inl e) = sym e
    head (inr h) (inr k) = not_after_both x y (r.0 y k) (s.0 x h)

    tail_of : (us vs : List Stretch) (u v : Stretch) → u ≡ v → (Among u us → ⊥) → (z : Stretch) → Among z us → (z ≡ v) ⊎ Among z vs → Among z vs
    tail_of us vs u v e n z h (inl w) = absurd (n (subst (λ (t : Stretch). Among t us) (w ∙ sym e) h))
    tail_of us vs u v e n z h (inr k) = k

pub lists_only : (test : ℕ → ℕ → Bool) (a b : ℕ) (xs ys : List Stretch) → Lists test a b xs → Lists test a b ys → xs ≡ ys
lists_only test a b xs ys h k =
    only_one xs ys (λ z m. (k.exact z).1 ((h.exact z).0 m)) (λ z m. (h.exact z).1 ((k.exact z).0 m)) h.once k.once h.ordered k.ordered
