-- The rows of a table.
use Rattle.std.proofs.Common.{◌≡◌, ℕ, zero, suc, ◌+◌, ◌-◌, ◌<◌, ◌≤◌, Bool, true, false, cond, ◌&&◌, ◌||◌, eqb, ltb, ◌⊎◌, ◌↔◌, List, [], ◌∷◌, length, get_or, set, replicate, Option, Some, None, Decides, sym, refl, ap, ◌∙◌, subst, ap₂, inl, inr, arith}
use Rattle.std.proofs.lemmas.List.{get_or-set_same, get_or-set_other, get_or_past, get_or-replicate}
use Rattle.std.proofs.lemmas.Bool.{cases_eq, cases_lt, eq-eqb, ne_eqb, lt-ltb, le-ltb, cond-true, cond-false, or_cases, or_left, or_right, false≢true}
use Rattle.std.proofs.lemmas.Bool.Decides.{nat_tests}
use Rattle.std.specs.List.{filter, range_with_len}
use Rattle.std.specs.Option.{is_none}
use Rattle.word.proofs.Bits.{has_none}
use Rattle.ends.specs.declared.Ends.{Ends}
use Rattle.ends.specs.Member.{member, nothing, Finds}
use Rattle.ends.proofs.Listing.{left_none, left_first}
use Rattle.tables.specs.declared.table.Table.{Table}
use Rattle.tables.specs.Holds.{within, holds, Held, Joined}

pub and_false : (x : Bool) → (x && false) ≡ false
and_false true = refl
and_false false = refl

pub nothing_none : (y : ℕ) → member nothing y ≡ false
unfolding member
nothing_none y = has_none _

-- there are no rows past the end
pub past : (rows : List Ends) (x y : ℕ) → length rows ≤ x → within rows x y ≡ false
unfolding within
past rows x y h = ap (λ (r : Ends). member r y) (get_or_past rows x nothing h) ∙ nothing_none y

-- a row that has an end is one of the table's
pub held_row : (t : Table) (x y : ℕ) → Held t x y → x < 256
held_row t x y h = elim (cases_lt x 256) [
  | inl l ↦ l
  | inr g ↦ absurd (false≢true (sym (past t.rows x y (let w = t.whole in omega arith)) ∙ h))
]

-- rows that are all alike
pub same_rows : (e : Ends) → ((y : ℕ) → member e y ≡ false) → (x y : ℕ) → within (replicate 256 e) x y ≡ false
unfolding within
same_rows e h x y = elim (cases_lt x 256) [
  | inl l ↦ ap (λ (r : Ends). member r y) (get_or-replicate 256 x e nothing l) ∙ h y
  | inr g ↦ ap (λ (r : Ends). member r y) (get_or_past (replicate 256 e) x nothing g) ∙ nothing_none y
]

-- one row is written
pub put_row : (rows : List Ends) (a : ℕ) (e : Ends) → a < length rows → (x y : ℕ) →
    within (set rows a e) x y ≡ cond (eqb x a) (member e y) (within rows x y)
unfolding within
put_row rows a e h x y = elim (cases_eq x a) [
  | inl q ↦
      ap (λ (i : ℕ). member (get_or (set rows a e) i nothing) y) q ∙ ap (λ (r : Ends). member r y) (get_or-set_same rows a e nothing h)
      ∙ sym (cond-true (eqb x a) (member e y) _ (eq-eqb x a q))
  | inr n ↦
      ap (λ (r : Ends). member r y) (get_or-set_other rows a x e nothing n) ∙ sym (cond-false (eqb x a) (member e y) _ (ne_eqb x a n))
]

-- the written row, and the others
pub put_here : (rows : List Ends) (a : ℕ) (e : Ends) → a < length rows → (y : ℕ) → within (set rows a e) a y ≡ member e y
put_here rows a e h y = put_row rows a e h a y ∙ cond-true (eqb a a) _ _ (eq-eqb a a refl)

pub put_there : (rows : List Ends) (a : ℕ) (e : Ends) → a < length rows → (x y : ℕ) → (x ≡ a → ⊥) → within (set rows a e) x y ≡ within rows x y
put_there rows a e h x y n = put_row rows a e h x y ∙ cond-false (eqb x a) _ _ (ne_eqb x a n)

-- one stretch more
pub put_one : (rows : List Ends) (a b : ℕ) (e : Ends) → a < length rows →
    ((y : ℕ) → member e y ≡ (eqb y b || member (get_or rows a nothing) y)) → (x y : ℕ) →
    within (set rows a e) x y ≡ ((eqb x a && eqb y b) || within rows x y)
unfolding within
put_one rows a b e h m x y = elim (cases_eq x a) [
  | inl q ↦
      put_row rows a e h x y ∙ cond-true (eqb x a) _ _ (eq-eqb x a q) ∙ m y
      ∙ sym (ap₂ (λ (u v : Bool). (u && eqb y b) || v) (eq-eqb x a q) (ap (λ (i : ℕ). member (get_or rows i nothing) y) q))
  | inr n ↦
      put_there rows a e h x y n ∙ sym (ap (λ (u : Bool). (u && eqb y b) || within rows x y) (ne_eqb x a n))
]

-- a loop upwards over the rows that has written those below a writes row a
pub rows_more : (rows : List Ends) (a : ℕ) (e : Ends) (new old : ℕ → ℕ → Bool) → a < length rows →
    ((y : ℕ) → within rows a y ≡ old a y → member e y ≡ new a y) →
    ((x y : ℕ) → within rows x y ≡ cond (ltb x a) (new x y) (old x y)) → (x y : ℕ) →
    within (set rows a e) x y ≡ cond (ltb x (a + 1)) (new x y) (old x y)
rows_more rows a e new old h m inv x y = elim (cases_eq x a) [
  | inl q ↦
      ap (λ (i : ℕ). within (set rows a e) i y) q ∙ put_here rows a e h y
      ∙ m y (inv a y ∙ cond-false (ltb a a) _ _ (le-ltb a a (omega arith)))
      ∙ ap (λ (i : ℕ). new i y) (sym q) ∙ sym (cond-true (ltb x (a + 1)) _ _ (lt-ltb x (a + 1) (omega arith)))
  | inr n ↦ put_there rows a e h x y n ∙ inv x y ∙ ap (λ (t : Bool). cond t (new x y) (old x y)) (same_test n)
]
  where
    same_test : (x ≡ a → ⊥) → ltb x a ≡ ltb x (a + 1)
    same_test n = grind (arith, nat_tests)

-- the same loop at its end
pub rows_all : (rows : List Ends) (n : ℕ) (new old : ℕ → ℕ → Bool) → length rows ≤ n →
    ((x y : ℕ) → n ≤ x → new x y ≡ false) →
    ((x y : ℕ) → within rows x y ≡ cond (ltb x n) (new x y) (old x y)) → (x y : ℕ) → within rows x y ≡ new x y
rows_all rows n new old h out inv x y = elim (cases_lt x n) [
  | inl l ↦ inv x y ∙ cond-true (ltb x n) _ _ (lt-ltb x n l)
  | inr g ↦ past rows x y (omega arith) ∙ sym (out x y g)
]

-- a loop that makes the rows of two tables joined
pub joined_more : (rows : List Ends) (a : ℕ) (e : Ends) (self later : Table) → a < length rows →
    ((b : ℕ) → Decides (member e b) ((c : ℕ) × (member (get_or self.rows a nothing) c ≡ true) × Held later c b)) →
    ((x y : ℕ) → x < a → Decides (within rows x y) (Joined (Held self) (Held later) x y)) →
    (x y : ℕ) → x < a + 1 → Decides (within (set rows a e) x y) (Joined (Held self) (Held later) x y)
unfolding within
joined_more rows a e self later h m inv x y l = elim (cases_eq x a) [
  | inl q ↦ (
    λ u. row_of q ((m y).0 (sym (put_here rows a e h y) ∙ ap (λ (i : ℕ). within (set rows a e) i y) (sym q) ∙ u)),
    λ j. ap (λ (i : ℕ). within (set rows a e) i y) q ∙ put_here rows a e h y ∙ (m y).1 (of_row q j),
  )
  | inr n ↦ (
    λ u. (inv x y (omega arith)).0 (sym (put_there rows a e h x y n) ∙ u),
    λ j. put_there rows a e h x y n ∙ (inv x y (omega arith)).1 j,
  )
]
  where
    row_of : x ≡ a → ((c : ℕ) × (member (get_or self.rows a nothing) c ≡ true) × Held later c y) → Joined (Held self) (Held later) x y
    row_of q (c, u, v) = (c, ap (λ (i : ℕ). holds self i c) q ∙ u, v)

    of_row : x ≡ a → Joined (Held self) (Held later) x y → (c : ℕ) × (member (get_or self.rows a nothing) c ≡ true) × Held later c y
    of_row q (c, u, v) = (c, ap (λ (i : ℕ). holds self i c) (sym q) ∙ u, v)

pub joined_all : (rows : List Ends) (n : ℕ) (self later : Table) → length rows ≤ n → n ≡ 256 →
    ((x y : ℕ) → x < n → Decides (within rows x y) (Joined (Held self) (Held later) x y)) →
    (x y : ℕ) → Decides (within rows x y) (Joined (Held self) (Held later) x y)
joined_all rows n self later h e inv x y = elim (cases_lt x n) [
  | inl l ↦ inv x y l
  | inr g ↦ (
    λ u. absurd (false≢true (sym (past rows x y (omega arith)) ∙ u)),
    λ j. absurd (let l = held_row self x j.0 j.1 in omega arith),
  )
]

-- one of these rows has the end
abbrev pub Reached : Table → List ℕ → ℕ → Type 0
Reached t [] b = ⊥
Reached t (c ∷ cs) b = Held t c b ⊎ Reached t cs b

-- what is gathered, with the rows of the starts that are left, gives the rows of all starts
abbrev pub Gathered : (ℕ → Bool) → Table → (ℕ → Bool) → List ℕ → Type 0
Gathered starts t all rest = (b : ℕ) → ((all b ≡ true) ⊎ Reached t rest b) ↔ ((c : ℕ) × (starts c ≡ true) × Held t c b)

-- the start that is found, and those behind it
abbrev pub ahead : (ℕ → Bool) → Option ℕ → List ℕ
ahead starts (Some c) = c ∷ filter starts (range_with_len (c + 1) (256 - (c + 1)))
ahead starts None = []

pub left_ahead : (starts : ℕ → Bool) (b : ℕ) (r : Option ℕ) → Finds starts b r → filter starts (range_with_len b (256 - b)) ≡ ahead starts r
left_ahead starts b (Some c) f = left_first starts b c f
left_ahead starts b None f = left_none starts b f

-- how many positions are left from the start that is found
abbrev pub to_come : Option ℕ → ℕ
to_come (Some c) = 256 - c
to_come None = 0

pub fewer : (starts : ℕ → Bool) (c : ℕ) (o r : Option ℕ) → o ≡ Some c → c < 256 → Finds starts (c + 1) r → to_come r < to_come o
fewer starts c o (Some d) e l f = subst (λ (x : Option ℕ). to_come (Some d) < to_come x) (sym e) (let a = f.1.above in omega arith)
fewer starts c o None e l f = subst (λ (x : Option ℕ). 0 < to_come x) (sym e) (omega arith)

module _ (starts : ℕ → Bool) (t : Table) where
  reached_in : (d x b : ℕ) → Reached t (filter starts (range_with_len x d)) b → (c : ℕ) × (starts c ≡ true) × Held t c b
  reached_in zero x b h = absurd h
  reached_in (suc d) x b h = here (reached_in d (x + 1) b) (starts x) refl h
    where
      here : (Reached t (filter starts (range_with_len (x + 1) d)) b → (c : ℕ) × (starts c ≡ true) × Held t c b) → (s : Bool) → starts x ≡ s →
          Reached t (cond s (x ∷ filter starts (range_with_len (x + 1) d)) (filter starts (range_with_len (x + 1) d))) b →
          (c : ℕ) × (starts c ≡ true) × Held t c b
      here r true e (inl u) = (x, e, u)
      here r true e (inr u) = r u
      here r false e u = r u

  reached_from : (d x c b : ℕ) → x ≤ c → c < x + d → starts c ≡ true → Held t c b → Reached t (filter starts (range_with_len x d)) b
  reached_from zero x c b l u s h = absurd (omega arith)
  reached_from (suc d) x c b l u s h = here (λ m. reached_from d (x + 1) c b m (omega arith) s h) (cases_eq c x) (starts x) refl
    where
      here : (x + 1 ≤ c → Reached t (filter starts (range_with_len (x + 1) d)) b) → (c ≡ x) ⊎ (c ≡ x → ⊥) → (v : Bool) → starts x ≡ v →
          Reached t (cond v (x ∷ filter starts (range_with_len (x + 1) d)) (filter starts (range_with_len (x + 1) d))) b
      here r (inl q) true e = inl (subst (λ (i : ℕ). Held t i b) q h)
      here r (inl q) false e = absurd (false≢true (sym e ∙ ap starts (sym q) ∙ s))
      here r (inr n) true e = inr (r (omega arith))
      here r (inr n) false e = r (omega arith)

  -- nothing is gathered yet
  pub gathered_none : (all : ℕ → Bool) → ((b : ℕ) → all b ≡ false) → Gathered starts t all (filter starts (range_with_len 0 256))
  gathered_none all none b = (
    elim [
      | inl u ↦ absurd (false≢true (sym (none b) ∙ u))
      | inr u ↦ reached_in 256 0 b u
    ],
    λ h. inr (reached_from 256 0 h.0 b (omega arith) (held_row t h.0 b h.2) h.1 h.2),
  )

  -- the row of the next start
  pub gathered_more : (all more : ℕ → Bool) (c : ℕ) (rest : List ℕ) → ((b : ℕ) → more b ≡ (all b || holds t c b)) →
      Gathered starts t all (c ∷ rest) → Gathered starts t more rest
  gathered_more all more c rest m g b = (
    elim [
      | inl u ↦ elim (or_cases (all b) (holds t c b) (sym (m b) ∙ u)) [
        | inl h ↦ (g b).0 (inl h)
        | inr h ↦ (g b).0 (inr (inl h))
      ]
      | inr u ↦ (g b).0 (inr (inr u))
    ],
    λ h. elim ((g b).1 h) [
      | inl u ↦ inl (m b ∙ or_left (all b) (holds t c b) u)
      | inr u ↦ elim u [
        | inl v ↦ inl (m b ∙ or_right (all b) (holds t c b) v)
        | inr v ↦ inr v
      ]
    ],
  )

  -- the same over all rows
  pub rows_gathered : (all more : ℕ → Bool) (a : ℕ) → ((b : ℕ) → more b ≡ (all b || holds t a b)) →
      ((b : ℕ) → Decides (all b) ((x : ℕ) × (x < a) × Held t x b)) → (b : ℕ) → Decides (more b) ((x : ℕ) × (x < a + 1) × Held t x b)
  rows_gathered all more a m g b = (
    λ u. elim (or_cases (all b) (holds t a b) (sym (m b) ∙ u)) [
      | inl h ↦ (let r = (g b).0 h in let o = r.1 in (r.0, omega arith, r.2))
      | inr h ↦ (a, omega arith, h)
    ],
    λ h. m b ∙ elim (cases_eq h.0 a) [
      | inl e ↦ or_right (all b) (holds t a b) (subst (λ (i : ℕ). Held t i b) e h.2)
      | inr n ↦ or_left (all b) (holds t a b) ((g b).1 (h.0, (let o = h.1 in omega arith), h.2))
    ],
  )

-- a row without an end
pub rests_none : (test : ℕ → Bool) (r : Option ℕ) → Finds test 0 r → is_none r ≡ true → (y : ℕ) → y < 256 → test y ≡ true → ⊥
rests_none test (Some x) f e y l h = false≢true e
rests_none test None f e y l h = false≢true (sym (f y (omega arith) l) ∙ h)

-- a row with an end
pub rests_some : (test : ℕ → Bool) (r : Option ℕ) → Finds test 0 r → is_none r ≡ false → ((y : ℕ) → y < 256 → test y ≡ true → ⊥) → ⊥
rests_some test (Some x) f e n = n x f.0 (f.1.found f.0)
rests_some test None f e n = false≢true (sym e)
