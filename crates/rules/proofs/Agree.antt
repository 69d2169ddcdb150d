-- Wholes whose parts agree up to the end of a line agree up to there too: what a part fits is all that a whole sees of it.
use Rattle.std.proofs.Common.{◌≡◌, ℕ, zero, suc, ◌+◌, ◌-◌, ◌<◌, ◌≤◌, Bool, true, false, cond, not, ◌&&◌, ◌||◌, eqb, leb, List, [], ◌∷◌, ◌++◌, length, sym, refl, ap, ◌∙◌, ap₂, inl, inr, arith}
use Rattle.std.proofs.lemmas.Bool.{cases_lt, ne_eqb, and_left}
use Rattle.query.specs.declared.node.Kind.{Kind}
use Rattle.query.specs.declared.node.Kind.TheVariants.{Symbol, Any, Concat, Exact, Atleast, Atmost, In, Precisely, Noless, Nomore, And, Or, Inorder}
use Rattle.shape.specs.declared.stretch.Stretch.{Stretch}
use Rattle.shape.specs.Ranges.{some_from, some, stretch, row_from, rows_from}
use Rattle.shape.specs.Fits.{Rule, only, one_of, all_of, sequence, chain, exactly, at_least, at_most, times, one_after_another, whole}

-- the two rules say the same of each stretch that ends on a line of n steps
abbrev pub Agree : ℕ → Rule → Rule → Type 0
Agree n P Q = (s a b : ℕ) → b ≤ n → P s a b ≡ Q s a b

abbrev pub AgreeEach : ℕ → List Rule → List Rule → Type 0
AgreeEach n [] [] = Unit {0}
AgreeEach n [] (Q ∷ Qs) = ⊥
AgreeEach n (P ∷ Ps) [] = ⊥
AgreeEach n (P ∷ Ps) (Q ∷ Qs) = Agree n P Q × AgreeEach n Ps Qs

from_agree : (f g : ℕ → Bool) (d x : ℕ) → ((c : ℕ) → x ≤ c → c < x + d → f c ≡ g c) → some_from d x f ≡ some_from d x g
unfolding some_from
from_agree f g zero x h = refl
from_agree f g (suc d) x h =
    ap₂ (λ (t r : Bool). elim t as (λ _. Bool) [ true ↦ true | false ↦ r ]) (h x (omega arith) (omega arith))
    (from_agree f g d (suc x) (λ c l u. h c (omega arith) (omega arith)))

-- tests that agree on a range find alike there
pub some_agree : (f g : ℕ → Bool) (a b : ℕ) → ((c : ℕ) → a ≤ c → c < b → f c ≡ g c) → some a b f ≡ some a b g
some_agree f g a b h = from_agree f g (b - a) a (λ c l u. h c l (omega arith))

row_agree : (f g : ℕ → ℕ → Bool) (d x y : ℕ) → ((z : ℕ) → y ≤ z → z < y + d → f x z ≡ g x z) → row_from d x y f ≡ row_from d x y g
unfolding row_from
row_agree f g zero x y h = refl
row_agree f g (suc d) x y h =
    ap₂ (λ (t : Bool) (r : List Stretch). cond t (stretch x y ∷ r) r) (h y (omega arith) (omega arith))
    (row_agree f g d x (suc y) (λ z l u. h z (omega arith) (omega arith)))

rows_agree : (f g : ℕ → ℕ → Bool) (d x b : ℕ) → ((x y : ℕ) → y ≤ b → f x y ≡ g x y) → rows_from d x b f ≡ rows_from d x b g
unfolding rows_from
rows_agree f g zero x b h = refl
rows_agree f g (suc d) x b h =
    ap₂ (λ (r s : List Stretch). r ++ s) (row_agree f g (b - x) x (suc x) (λ z l u. h x z (omega arith))) (rows_agree f g d (suc x) b h)

module _ (n : ℕ) where
  one_agree : (Ps Qs : List Rule) → AgreeEach n Ps Qs → Agree n (one_of Ps) (one_of Qs)
  one_agree [] [] h s a b l = refl
  one_agree [] (Q ∷ Qs) h s a b l = absurd h
  one_agree (P ∷ Ps) [] h s a b l = absurd h
  one_agree (P ∷ Ps) (Q ∷ Qs) h s a b l = ap₂ (λ (x y : Bool). x || y) (h.0 s a b l) (one_agree Ps Qs h.1 s a b l)

  all_agree : (Ps Qs : List Rule) → AgreeEach n Ps Qs → Agree n (all_of Ps) (all_of Qs)
  all_agree [] [] h s a b l = refl
  all_agree [] (Q ∷ Qs) h s a b l = absurd h
  all_agree (P ∷ Ps) [] h s a b l = absurd h
  all_agree (P ∷ Ps) (Q ∷ Qs) h s a b l = ap₂ (λ (x y : Bool). x && y) (h.0 s a b l) (all_agree Ps Qs h.1 s a b l)

  only_agree : (Ps Qs : List Rule) → AgreeEach n Ps Qs → Agree n (only Ps) (only Qs)
  only_agree [] [] h s a b l = refl
  only_agree [] (Q ∷ Qs) h s a b l = absurd h
  only_agree (P ∷ Ps) [] h s a b l = absurd h
  only_agree (P ∷ Ps) (Q ∷ Qs) h s a b l = h.0 s a b l

  pub sequence_agree : (Ps Qs : List Rule) → AgreeEach n Ps Qs → Agree n (sequence Ps) (sequence Qs)
  unfolding sequence
  sequence_agree [] [] h s a b l = refl
  sequence_agree [] (Q ∷ Qs) h s a b l = absurd h
  sequence_agree (P ∷ Ps) [] h s a b l = absurd h
  sequence_agree (P ∷ []) (Q ∷ []) h s a b l = h.0 s a b l
  sequence_agree (P ∷ []) (Q ∷ (R ∷ Qs)) h s a b l = absurd h.1
  sequence_agree (P ∷ (T ∷ Ps)) (Q ∷ []) h s a b l = absurd h.1
  sequence_agree (P ∷ (T ∷ Ps)) (Q ∷ (R ∷ Qs)) h s a b l =
      some_agree (λ c. P s a c && sequence (T ∷ Ps) c c b) (λ c. Q s a c && sequence (R ∷ Qs) c c b) a (suc b)
      (λ c m u. ap₂ (λ (x y : Bool). x && y) (h.0 s a c (omega arith)) (sequence_agree (T ∷ Ps) (R ∷ Qs) h.1 c c b l))

  chain_agree : (P Q : Rule) → Agree n P Q → (k : ℕ) → Agree n (chain P k) (chain Q k)
  unfolding chain
  chain_agree P Q h zero s a b l = refl
  chain_agree P Q h (suc k) s a b l =
      some_agree (λ c. P s a c && chain P k c c b) (λ c. Q s a c && chain Q k c c b) (suc a) (suc b)
      (λ c m u. ap₂ (λ (x y : Bool). x && y) (h s a c (omega arith)) (chain_agree P Q h k c c b l))

  -- no chain goes down
  chain_down : (P : Rule) (k s a b : ℕ) → b < a → chain P k s a b ≡ false
  unfolding chain some_from
  chain_down P zero s a b l = ne_eqb a b (λ e. omega arith)
  chain_down P (suc k) s a b l =
      let z : suc b - suc a ≡ 0 = omega arith in
      ap (λ (d : ℕ). some_from d (suc a) (λ c. P s a c && chain P k c c b)) z

  exactly_agree : (P Q : Rule) → Agree n P Q → (k : ℕ) → Agree n (exactly n P k) (exactly n Q k)
  unfolding exactly
  exactly_agree P Q h k s a b l = elim (cases_lt n a) [
    | inl g ↦ and_left (chain P k s a b) _ (chain_down P k s a b (omega arith)) ∙ sym (and_left (chain Q k s a b) _ (chain_down Q k s a b (omega arith)))
    | inr g ↦
        ap₂ (λ (x y : Bool). x && y) (chain_agree P Q h k s a b l)
        (ap₂ (λ (x y : Bool). not x && not y) (some_agree (λ z. P s z a) (λ z. Q s z a) s a (λ z m u. h s z a g))
        (some_agree (λ y. P b b y) (λ y. Q b b y) (suc b) (suc n) (λ y m u. h b b y (omega arith))))
  ]

  at_least_agree : (P Q : Rule) → Agree n P Q → (k : ℕ) → Agree n (at_least n P k) (at_least n Q k)
  unfolding at_least
  at_least_agree P Q h k s a b l =
      some_agree (λ j. exactly n P j s a b) (λ j. exactly n Q j s a b) k (suc (b - a)) (λ j m u. exactly_agree P Q h j s a b l)

  at_most_agree : (P Q : Rule) → Agree n P Q → (k : ℕ) → Agree n (at_most n P k) (at_most n Q k)
  unfolding at_most
  at_most_agree P Q h k s a b l =
      some_agree (λ j. exactly n P j s a b) (λ j. exactly n Q j s a b) 0 (suc k) (λ j m u. exactly_agree P Q h j s a b l)

  times_agree : (P Q : Rule) → Agree n P Q → (s a b : ℕ) → b ≤ n → times P s a b ≡ times Q s a b
  unfolding times
  times_agree P Q h s a b l = ap length (rows_agree (P s) (Q s) (b - a) a b (λ x y m. h s x y (omega arith)))

  turns_agree : (Ps Qs : List Rule) → AgreeEach n Ps Qs → Agree n (one_after_another Ps) (one_after_another Qs)
  unfolding one_after_another
  turns_agree [] [] h s a b l = refl
  turns_agree [] (Q ∷ Qs) h s a b l = absurd h
  turns_agree (P ∷ Ps) [] h s a b l = absurd h
  turns_agree (P ∷ Ps) (Q ∷ Qs) h s a b l =
      some_agree (λ x. some x (suc b) (λ y. P s x y && one_after_another Ps s y b)) (λ x. some x (suc b) (λ y. Q s x y && one_after_another Qs s y b)) a (suc b)
      (λ x m u.
      some_agree (λ y. P s x y && one_after_another Ps s y b) (λ y. Q s x y && one_after_another Qs s y b) x (suc b)
      (λ y v w. ap₂ (λ (t r : Bool). t && r) (h.0 s x y (omega arith)) (turns_agree Ps Qs h.1 s y b l)))

-- a whole of parts that agree
pub whole_agree : (words : List ℕ) (k : Kind) (m : ℕ) (Ps Qs : List Rule) → AgreeEach (length words) Ps Qs →
    Agree (length words) (whole words k m Ps) (whole words k m Qs)
whole_agree words Symbol m Ps Qs h s a b l = refl
whole_agree words Any m Ps Qs h s a b l = one_agree (length words) Ps Qs h s a b l
whole_agree words Concat m Ps Qs h s a b l = sequence_agree (length words) Ps Qs h s a b l
whole_agree words Exact m Ps Qs h s a b l = exactly_agree (length words) (only Ps) (only Qs) (only_agree (length words) Ps Qs h) m s a b l
whole_agree words Atleast m Ps Qs h s a b l = at_least_agree (length words) (only Ps) (only Qs) (only_agree (length words) Ps Qs h) m s a b l
whole_agree words Atmost m Ps Qs h s a b l = at_most_agree (length words) (only Ps) (only Qs) (only_agree (length words) Ps Qs h) m s a b l
whole_agree words In m Ps Qs h s a b l = ap (λ (t : Bool). eqb b (a + m) && t) (only_agree (length words) Ps Qs h s a b l)
whole_agree words Precisely m Ps Qs h s a b l = ap (λ (t : ℕ). eqb t m) (times_agree (length words) (only Ps) (only Qs) (only_agree (length words) Ps Qs h) s a b l)
whole_agree words Noless m Ps Qs h s a b l = ap (λ (t : ℕ). leb m t) (times_agree (length words) (only Ps) (only Qs) (only_agree (length words) Ps Qs h) s a b l)
whole_agree words Nomore m Ps Qs h s a b l = ap (λ (t : ℕ). leb t m) (times_agree (length words) (only Ps) (only Qs) (only_agree (length words) Ps Qs h) s a b l)
whole_agree words And m Ps Qs h s a b l = all_agree (length words) Ps Qs h s a b l
whole_agree words Or m Ps Qs h s a b l = one_agree (length words) Ps Qs h s a b l
whole_agree words Inorder m Ps Qs h s a b l = turns_agree (length words) Ps Qs h s a b l
