-- The kinds that a rule speaks of, one by one, and the numbers of pieces of two repeats that make one.
use Rattle.std.proofs.Common.{◌≡◌, ℕ, ◌+◌, ◌≤◌, min, max, Bool, true, false, ◌||◌, eqb, ◌⊎◌, refl, inl, inr, arith}
use Rattle.std.proofs.lemmas.Bool.{false≢true, true≢false, cases_lt, leb-true, eqb-true, eqb-false}
use Rattle.query.specs.declared.node.Kind.{Kind}
use Rattle.query.specs.declared.node.Kind.TheVariants.{Symbol, Any, Concat, Exact, Atleast, Atmost, In, Precisely, Noless, Nomore, And, Or, Inorder}
use Rattle.query.specs.Kinds.{same_kind}
use Rattle.rules.specs.Applies.{repeats, unordered, gathers, merges}
use Rattle.rules.specs.Parts.{merged_kind, merged_number}
use Rattle.rules.proofs.Repeats.{Counts}

-- what holds of exact, atleast and atmost holds of each repeat
pub on_repeats : (C : Kind → Type 0) → C Exact → C Atleast → C Atmost → (k : Kind) → repeats k ≡ true → C k
on_repeats C x y z Symbol r = absurd (false≢true r)
on_repeats C x y z Any r = absurd (false≢true r)
on_repeats C x y z Concat r = absurd (false≢true r)
on_repeats C x y z Exact r = x
on_repeats C x y z Atleast r = y
on_repeats C x y z Atmost r = z
on_repeats C x y z In r = absurd (false≢true r)
on_repeats C x y z Precisely r = absurd (false≢true r)
on_repeats C x y z Noless r = absurd (false≢true r)
on_repeats C x y z Nomore r = absurd (false≢true r)
on_repeats C x y z And r = absurd (false≢true r)
on_repeats C x y z Or r = absurd (false≢true r)
on_repeats C x y z Inorder r = absurd (false≢true r)

pub on_gathers : (C : Kind → Type 0) → C Concat → C Any → C And → C Or → (k : Kind) → gathers k ≡ true → C k
on_gathers C w x y z Symbol r = absurd (false≢true r)
on_gathers C w x y z Any r = x
on_gathers C w x y z Concat r = w
on_gathers C w x y z Exact r = absurd (false≢true r)
on_gathers C w x y z Atleast r = absurd (false≢true r)
on_gathers C w x y z Atmost r = absurd (false≢true r)
on_gathers C w x y z In r = absurd (false≢true r)
on_gathers C w x y z Precisely r = absurd (false≢true r)
on_gathers C w x y z Noless r = absurd (false≢true r)
on_gathers C w x y z Nomore r = absurd (false≢true r)
on_gathers C w x y z And r = y
on_gathers C w x y z Or r = z
on_gathers C w x y z Inorder r = absurd (false≢true r)

pub on_unordered : (C : Kind → Type 0) → C Any → C And → C Or → (k : Kind) → unordered k ≡ true → C k
on_unordered C x y z Symbol r = absurd (false≢true r)
on_unordered C x y z Any r = x
on_unordered C x y z Concat r = absurd (false≢true r)
on_unordered C x y z Exact r = absurd (false≢true r)
on_unordered C x y z Atleast r = absurd (false≢true r)
on_unordered C x y z Atmost r = absurd (false≢true r)
on_unordered C x y z In r = absurd (false≢true r)
on_unordered C x y z Precisely r = absurd (false≢true r)
on_unordered C x y z Noless r = absurd (false≢true r)
on_unordered C x y z Nomore r = absurd (false≢true r)
on_unordered C x y z And r = y
on_unordered C x y z Or r = z
on_unordered C x y z Inorder r = absurd (false≢true r)

-- two repeats have the numbers of pieces of a third
abbrev pub Joins : Kind → ℕ → Kind → ℕ → Kind → ℕ → Type 0
Joins M m N n O o =
    (repeats O ≡ true)
    × ((j : ℕ) → (Counts M m j ⊎ Counts N n j) → Counts O o j)
    × ((j : ℕ) → Counts O o j → Counts M m j ⊎ Counts N n j)

last_or : (x : Bool) → (x || false) ≡ true → x ≡ true
last_or true e = refl
last_or false e = e

module _ (m n : ℕ) where
  atleast_atleast : Joins Atleast m Atleast n Atleast (min m n)
  atleast_atleast = (refl, into, back)
    where
      into : (j : ℕ) → (m ≤ j) ⊎ (n ≤ j) → min m n ≤ j
      into j (inl l) = omega arith
      into j (inr l) = omega arith

      back : (j : ℕ) → min m n ≤ j → (m ≤ j) ⊎ (n ≤ j)
      back j l = elim (cases_lt j m) [ inl u ↦ inr (omega arith) | inr u ↦ inl u ]

  atmost_atmost : Joins Atmost m Atmost n Atmost (max m n)
  atmost_atmost = (refl, into, back)
    where
      into : (j : ℕ) → (j ≤ m) ⊎ (j ≤ n) → j ≤ max m n
      into j (inl l) = omega arith
      into j (inr l) = omega arith

      back : (j : ℕ) → j ≤ max m n → (j ≤ m) ⊎ (j ≤ n)
      back j l = elim (cases_lt m j) [ inl u ↦ inr (omega arith) | inr u ↦ inl u ]

  exact_atleast : n ≤ m + 1 → Joins Exact m Atleast n Atleast (min m n)
  exact_atleast h = (refl, into, back)
    where
      into : (j : ℕ) → (j ≡ m) ⊎ (n ≤ j) → min m n ≤ j
      into j (inl l) = omega arith
      into j (inr l) = omega arith

      back : (j : ℕ) → min m n ≤ j → (j ≡ m) ⊎ (n ≤ j)
      back j l = elim (cases_lt j n) [ inl u ↦ inl (omega arith) | inr u ↦ inr u ]

  atleast_exact : m ≤ n + 1 → Joins Atleast m Exact n Atleast (min m n)
  atleast_exact h = (refl, into, back)
    where
      into : (j : ℕ) → (m ≤ j) ⊎ (j ≡ n) → min m n ≤ j
      into j (inl l) = omega arith
      into j (inr l) = omega arith

      back : (j : ℕ) → min m n ≤ j → (m ≤ j) ⊎ (j ≡ n)
      back j l = elim (cases_lt j m) [ inl u ↦ inr (omega arith) | inr u ↦ inl u ]

  exact_atmost : m ≤ n + 1 → Joins Exact m Atmost n Atmost (max m n)
  exact_atmost h = (refl, into, back)
    where
      into : (j : ℕ) → (j ≡ m) ⊎ (j ≤ n) → j ≤ max m n
      into j (inl l) = omega arith
      into j (inr l) = omega arith

      back : (j : ℕ) → j ≤ max m n → (j ≡ m) ⊎ (j ≤ n)
      back j l = elim (cases_lt n j) [ inl u ↦ inl (omega arith) | inr u ↦ inr u ]

  atmost_exact : n ≤ m + 1 → Joins Atmost m Exact n Atmost (max m n)
  atmost_exact h = (refl, into, back)
    where
      into : (j : ℕ) → (j ≤ m) ⊎ (j ≡ n) → j ≤ max m n
      into j (inl l) = omega arith
      into j (inr l) = omega arith

      back : (j : ℕ) → j ≤ max m n → (j ≤ m) ⊎ (j ≡ n)
      back j l = elim (cases_lt m j) [ inl u ↦ inr (omega arith) | inr u ↦ inl u ]

  atmost_atleast : n ≤ m + 1 → Joins Atmost m Atleast n Atleast 0
  atmost_atleast h = (refl, (λ j c. omega arith), back)
    where
      back : (j : ℕ) → 0 ≤ j → (j ≤ m) ⊎ (n ≤ j)
      back j l = elim (cases_lt m j) [ inl u ↦ inr (omega arith) | inr u ↦ inl u ]

  atleast_atmost : m ≤ n + 1 → Joins Atleast m Atmost n Atleast 0
  atleast_atmost h = (refl, (λ j c. omega arith), back)
    where
      back : (j : ℕ) → 0 ≤ j → (m ≤ j) ⊎ (j ≤ n)
      back j l = elim (cases_lt n j) [ inl u ↦ inl (omega arith) | inr u ↦ inr u ]

abbrev MakesOne : ℕ → ℕ → Kind → Kind → Type 0
MakesOne m n M N = merges M m N n ≡ true → Joins M m N n (merged_kind M N) (merged_number M m N n)

-- the numbers of pieces of two alternatives are those of what they become
pub merge_counts : (m n : ℕ) (M N : Kind) → repeats M ≡ true → repeats N ≡ true → MakesOne m n M N
merge_counts m n M N rM rN =
    on_repeats (λ K. MakesOne m n K N)
    (on_repeats (MakesOne m n Exact) (λ e. absurd (false≢true e))
    (λ e. exact_atleast m n (leb-true n (m + 1) (last_or _ (last_or _ e))))
    (λ e. exact_atmost m n (leb-true m (n + 1) (last_or _ (last_or _ e)))) N rN)
    (on_repeats (MakesOne m n Atleast) (λ e. atleast_exact m n (leb-true m (n + 1) (last_or _ e)))
    (λ e. atleast_atleast m n)
    (λ e. atleast_atmost m n (leb-true m (n + 1) e)) N rN)
    (on_repeats (MakesOne m n Atmost) (λ e. atmost_exact m n (leb-true n (m + 1) (last_or _ e)))
    (λ e. atmost_atleast m n (leb-true n (m + 1) (last_or _ e)))
    (λ e. atmost_atmost m n) N rN) M rM

-- atmost, or a number of 0: no pieces at all are allowed
pub may_be_null : (m : ℕ) (M : Kind) → repeats M ≡ true → (same_kind M Atmost || eqb m 0) ≡ true → Counts M m 0
may_be_null m M r =
    on_repeats (λ K. (same_kind K Atmost || eqb m 0) ≡ true → Counts K m 0) (λ e. let z = eqb-true m 0 e in omega arith)
    (λ e. let z = eqb-true m 0 e in omega arith) (λ e. omega arith) M r

pub never_null : (m : ℕ) (M : Kind) → repeats M ≡ true → (same_kind M Atmost || eqb m 0) ≡ false → Counts M m 0 → ⊥
never_null m M r =
    on_repeats (λ K. (same_kind K Atmost || eqb m 0) ≡ false → Counts K m 0 → ⊥) (λ e c. let z = eqb-false m 0 e in z (omega arith))
    (λ e c. let z = eqb-false m 0 e in z (omega arith)) (λ e c. true≢false e) M r

-- exact and atleast have no fewer pieces than they say
abbrev NotFewer : ℕ → Kind → Type 0
NotFewer m K = (repeats K ≡ true) × ((j : ℕ) → Counts K m j → m ≤ j) × Counts K m m

pub not_fewer : (m : ℕ) (K : Kind) → (same_kind K Exact || same_kind K Atleast) ≡ true → NotFewer m K
not_fewer m Symbol e = absurd (false≢true e)
not_fewer m Any e = absurd (false≢true e)
not_fewer m Concat e = absurd (false≢true e)
not_fewer m Exact e = (refl, (λ j c. omega arith), refl)
not_fewer m Atleast e = (refl, (λ j c. c), omega arith)
not_fewer m Atmost e = absurd (false≢true e)
not_fewer m In e = absurd (false≢true e)
not_fewer m Precisely e = absurd (false≢true e)
not_fewer m Noless e = absurd (false≢true e)
not_fewer m Nomore e = absurd (false≢true e)
not_fewer m And e = absurd (false≢true e)
not_fewer m Or e = absurd (false≢true e)
not_fewer m Inorder e = absurd (false≢true e)
