-- The runs of one symbol: what is left of them at each step, and what one step more or less makes of them.
use Rattle.std.specs.Prelude.{◌≡◌, ℕ, ◌+◌, ◌-◌, ◌*◌, ◌<◌, ◌≤◌, Bool, true, false, ◌&&◌, ◌||◌, List, [], ◌∷◌, length, ◌==◌, nat_le, nat_lt, refl}
use Rattle.std.proofs.Common.{⊎_elim, arith}
use Rattle.std.proofs.lemmas.Bool.{and_parts, and_from, cases_lt, cases_Bool, cond-true, cond-false, le-leb, lt-leb, lt-ltb, ltb-true, leb-true}
use Rattle.std.proofs.lemmas.Bool.Decides.{nat_tests}
use Rattle.book.specs.declared.run.Run.{Run}
use Rattle.book.specs.Runs.{past, left, carried, formed, Pushed, Popped}

module _ (n : ℕ) (run : Run) (runs : List Run) where
  -- what is known of the newest run, and what makes a list of runs
  pub opened : formed n (run ∷ runs) ≡ true → (0 < run.count) × (past run ≤ n) × (formed (run.start - 1) runs ≡ true)
  unfolding formed
  opened f =
      let (both, rest) = and_parts (nat_lt 0 run.count && nat_le (past run) n) (formed (run.start - 1) runs) f in
      let (some, low) = and_parts (nat_lt 0 run.count) (nat_le (past run) n) both in
      (ltb-true 0 run.count some, leb-true (past run) n low, rest)

  pub closed : 0 < run.count → past run ≤ n → formed (run.start - 1) runs ≡ true → formed n (run ∷ runs) ≡ true
  unfolding formed
  closed some low rest =
      and_from (nat_lt 0 run.count && nat_le (past run) n) (formed (run.start - 1) runs)
      (and_from (nat_lt 0 run.count) (nat_le (past run) n) (lt-ltb 0 run.count some) (le-leb (past run) n low)) rest

pub formed_more : (n m : ℕ) (runs : List Run) → n ≤ m → formed n runs ≡ true → formed m runs ≡ true
unfolding formed
formed_more n m [] h f = refl
formed_more n m (run ∷ runs) h f =
    let (some, low, rest) = opened n run runs f in
    closed m run runs some (omega arith) rest

-- at most every other step begins a run
pub few : (n : ℕ) (runs : List Run) → formed n runs ≡ true → 2 * length runs ≤ n + 1
few n [] f = omega arith
few n (run ∷ runs) f =
    let (some, low, rest) = opened n run runs f in
    let fewer = few (run.start - 1) runs rest in
    omega arith

pub left_in : (run : Run) (runs : List Run) (t : ℕ) → run.start ≤ t → left (run ∷ runs) t ≡ past run - t
unfolding left
left_in run runs t h = cond-true (nat_le run.start t) _ _ (le-leb run.start t h)

pub left_before : (run : Run) (runs : List Run) (t : ℕ) → t < run.start → left (run ∷ runs) t ≡ left runs t
unfolding left
left_before run runs t h = cond-false (nat_le run.start t) _ _ (lt-leb run.start t h)

-- no run has a step past the last
pub left_past : (n : ℕ) (runs : List Run) (t : ℕ) → formed n runs ≡ true → n ≤ t → left runs t ≡ 0
unfolding left
left_past n [] t f h = refl
left_past n (run ∷ runs) t f h =
    let (some, low, rest) = opened n run runs f in
    let here = left_in run runs t (omega arith) in
    omega arith

-- one step on, one less is left
pub left_next : (n : ℕ) (runs : List Run) (t : ℕ) → formed n runs ≡ true → 0 < left runs t → left runs (t + 1) + 1 ≡ left runs t
unfolding left
left_next n [] t f h = absurd (omega arith)
left_next n (run ∷ runs) t f h =
    let (some, low, rest) = opened n run runs f in
    ⊎_elim
    (λ (below : t < run.start).
    let was = left_before run runs t below in
    ⊎_elim (λ (still : t + 1 < run.start). let is = left_before run runs (t + 1) still in let more = left_next (run.start - 1) runs t rest (omega arith) in omega arith)
    (λ (now : run.start ≤ t + 1). let gap = left_past (run.start - 1) runs t rest (omega arith) in absurd (omega arith)) (cases_lt (t + 1) run.start))
    (λ (inside : run.start ≤ t). let was = left_in run runs t inside in let is = left_in run runs (t + 1) (omega arith) in omega arith)
    (cases_lt t run.start)

or_none : (b : Bool) → b ≡ (b || false)
or_none true = refl
or_none false = refl

-- the step behind the last does not carry the symbol
pub push_off : (n : ℕ) (runs : List Run) → formed n runs ≡ true → Pushed n false runs runs
push_off n runs f = (formed_more n (n + 1) runs (omega arith) f, λ t. or_none (carried runs t))

-- it does, and the newest run goes on
abbrev pub longer : Run → Run
longer run = record { start = run.start; count = run.count + 1 }

module _ (n : ℕ) (run : Run) (runs : List Run) (f : formed n (run ∷ runs) ≡ true) (reaches : past run ≡ n) where
  longer_carries : (t : ℕ) → carried (longer run ∷ runs) t ≡ (carried (run ∷ runs) t || (true && t == n))
  longer_carries t =
      let (some, low, rest) = opened n run runs f in
      ⊎_elim
      (λ (below : t < run.start). rw (left_before (longer run) runs t below, left_before run runs t below) (grind (arith, nat_tests)))
      (λ (inside : run.start ≤ t). rw (left_in (longer run) runs t inside, left_in run runs t inside) (grind (arith, nat_tests)))
      (cases_lt t run.start)

  pub push_on : Pushed n true (run ∷ runs) (longer run ∷ runs)
  push_on =
      let (some, low, rest) = opened n run runs f in
      (closed (n + 1) (longer run) runs (omega arith) (omega arith) rest, longer_carries)

-- it does, and a new run begins
abbrev pub begun : ℕ → Run
begun n = record { start = n; count = 1 }

module _ (n : ℕ) (runs : List Run) (f : formed (n - 1) runs ≡ true) where
  begun_carries : (t : ℕ) → carried (begun n ∷ runs) t ≡ (carried runs t || (true && t == n))
  begun_carries t =
      ⊎_elim
      (λ (below : t < n). rw (left_before (begun n) runs t below) (grind (arith, nat_tests)))
      (λ (inside : n ≤ t). rw (left_in (begun n) runs t inside, left_past (n - 1) runs t f (omega arith)) (grind (arith, nat_tests)))
      (cases_lt t n)

  pub push_new : Pushed n true runs (begun n ∷ runs)
  push_new = (closed (n + 1) (begun n) runs (omega arith) (omega arith) f, begun_carries)

-- the newest run ends before the last step, so all do
pub formed_less : (n : ℕ) (run : Run) (runs : List Run) → formed (n + 1) (run ∷ runs) ≡ true → past run ≤ n → formed n (run ∷ runs) ≡ true
formed_less n run runs f low =
    let (some, _, rest) = opened (n + 1) run runs f in
    closed n run runs some low rest

-- no run reaches the last step
pub pop_off : (n : ℕ) (runs : List Run) → formed n runs ≡ true → Popped n runs runs
pop_off n runs f = (
  f,
  λ t.
      ⊎_elim (λ (below : t < n). grind (arith, nat_tests, cases_Bool (carried runs t))) (λ (past-it : n ≤ t). rw (left_past n runs t f past-it) refl) (cases_lt t n),
)

-- the newest run does
abbrev pub shorter : Run → Run
shorter run = record { start = run.start; count = run.count - 1 }

module _ (n : ℕ) (run : Run) (runs : List Run) (f : formed (n + 1) (run ∷ runs) ≡ true) (reaches : n < past run) where
  -- and has other steps
  shorter_carries : 1 < run.count → (t : ℕ) → carried (shorter run ∷ runs) t ≡ (carried (run ∷ runs) t && nat_lt t n)
  shorter_carries more t =
      let (some, low, rest) = opened (n + 1) run runs f in
      ⊎_elim
      (λ (below : t < run.start). rw (left_before (shorter run) runs t below, left_before run runs t below) (grind (arith, nat_tests, cases_Bool (carried runs t))))
      (λ (inside : run.start ≤ t). rw (left_in (shorter run) runs t inside, left_in run runs t inside) (grind (arith, nat_tests)))
      (cases_lt t run.start)

  pub pop_on : 1 < run.count → Popped n (run ∷ runs) (shorter run ∷ runs)
  pop_on more =
      let (some, low, rest) = opened (n + 1) run runs f in
      (closed n (shorter run) runs (omega arith) (omega arith) rest, shorter_carries more)

  -- and has no other
  gone_carries : run.count ≡ 1 → (t : ℕ) → carried runs t ≡ (carried (run ∷ runs) t && nat_lt t n)
  gone_carries one t =
      let (some, low, rest) = opened (n + 1) run runs f in
      ⊎_elim
      (λ (below : t < run.start). rw (left_before run runs t below) (grind (arith, nat_tests, cases_Bool (carried runs t))))
      (λ (inside : run.start ≤ t). rw (left_in run runs t inside, left_past (run.start - 1) runs t rest (omega arith)) (grind (arith, nat_tests)))
      (cases_lt t run.start)

  pub pop_gone : run.count ≡ 1 → Popped n (run ∷ runs) runs
  pop_gone one =
      let (some, low, rest) = opened (n + 1) run runs f in
      (formed_more (run.start - 1) n runs (omega arith) rest, gone_carries one)
