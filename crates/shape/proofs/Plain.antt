-- What each kind of shape fits, in plain logic.
use Rattle.std.proofs.Common.{◌≡◌, ℕ, zero, suc, ◌+◌, ◌-◌, ◌<◌, ◌≤◌, Bool, true, not, ◌&&◌, ◌||◌, eqb, List, [], ◌∷◌, length, get_or, Decides, sym, refl, ap, ◌∙◌, subst, inl, inr, arith}
use Rattle.std.proofs.lemmas.List.{get_or_past}
use Rattle.std.proofs.lemmas.Bool.{and_parts, and_from, or_cases, or_left, or_right, cases_lt, false≢true, eqb-true, eq-eqb, leb-true, le-leb}
use Rattle.std.proofs.lemmas.Bool.Decides.{Decides-like, Decides-and, Decides-not}
use Rattle.word.specs.Words.{has}
use Rattle.word.proofs.Bits.{has_none}
use Rattle.query.specs.Tree.{Query, Queries, none, more}
use Rattle.shape.specs.declared.stretch.Stretch.{Stretch}
use Rattle.shape.specs.Ranges.{some, inside}
use Rattle.shape.specs.Fits.{Rule, one_of, all_of, sequence, chain, exactly, at_least, at_most, times, one_after_another, fits, fits_each}
use Rattle.shape.specs.Listing.{listing, Lists, OnlyListing}
use Rattle.shape.specs.Laws.{Fits, Part, Pieces, InTurn, SymbolFits, AnyFits, ConcatOfOneFits, ConcatFits, ExactFits, ChainIsShort, AtleastFits, AtmostFits, InFits, PreciselyFits, NolessFits, NomoreFits, AndFits, OrFits, InorderFits}
use Rattle.shape.proofs.Ranges.{some_decides}
use Rattle.shape.proofs.Listing.{inside_lists, lists_only}

pub symbol_fits : SymbolFits
unfolding fits
symbol_fits words n p l qs s a b = (
  λ e.
      let h = and_parts (eqb b (suc a)) (has (get_or words a 0) n) e in
      (eqb-true b (suc a) h.0, there h.1, h.1),
  λ h. and_from (eqb b (suc a)) (has (get_or words a 0) n) (eq-eqb b (suc a) h.0) h.2,
)
  where
    there : has (get_or words a 0) n ≡ true → a < length words
    there e = elim (cases_lt a (length words)) [
      | inl u ↦ u
      | inr g ↦ absurd (false≢true (sym (ap (λ (w : ℕ). has w n) (get_or_past words a 0 g) ∙ has_none n) ∙ e))
    ]

-- one of the parts fits
one_fits : (words : List ℕ) (qs : Queries) (s a b : ℕ) →
    Decides (one_of (fits_each words qs) s a b) ((q : Query) × Part q qs × Fits words q s a b)
unfolding fits
one_fits words none s a b = (λ e. absurd (false≢true e), λ h. absurd h.1)
one_fits words (more q qs) s a b =
    let rest = one_fits words qs s a b in (
      λ e. elim (or_cases (fits words q s a b) (one_of (fits_each words qs) s a b) e) [
        | inl f ↦ (q, inl refl, f)
        | inr f ↦ (let r = rest.0 f in (r.0, inr r.1, r.2))
      ],
      λ h. here h.0 h.1 h.2 rest.1,
    )
  where
    here : (r : Query) → Part r (more q qs) → Fits words r s a b →
        (((t : Query) × Part t qs × Fits words t s a b) → one_of (fits_each words qs) s a b ≡ true) →
        (fits words q s a b || one_of (fits_each words qs) s a b) ≡ true
    here r (inl e) f rest = or_left (fits words q s a b) _ (subst (λ (t : Query). Fits words t s a b) e f)
    here r (inr k) f rest = or_right (fits words q s a b) _ (rest (r, k, f))

pub any_fits : AnyFits
unfolding fits
any_fits words n p l qs s a b = one_fits words qs s a b

pub or_fits : OrFits
unfolding fits
or_fits words n p l qs s a b = one_fits words qs s a b

all_fit : (words : List ℕ) (qs : Queries) (s a b : ℕ) →
    Decides (all_of (fits_each words qs) s a b) ((q : Query) → Part q qs → Fits words q s a b)
unfolding fits
all_fit words none s a b = (λ e q h. absurd h, λ h. refl)
all_fit words (more q qs) s a b =
    let rest = all_fit words qs s a b in (
      λ e r h.
          let b = and_parts (fits words q s a b) (all_of (fits_each words qs) s a b) e in
          each r h b.0 (rest.0 b.1),
      λ h. and_from (fits words q s a b) _ (h q (inl refl)) (rest.1 (λ r k. h r (inr k))),
    )
  where
    each : (r : Query) → Part r (more q qs) → Fits words q s a b → ((t : Query) → Part t qs → Fits words t s a b) → Fits words r s a b
    each r (inl e) f rest = subst (λ (t : Query). Fits words t s a b) (sym e) f
    each r (inr k) f rest = rest r k

pub and_fits : AndFits
unfolding fits
and_fits words n p l qs s a b = all_fit words qs s a b

pub concat_of_one_fits : ConcatOfOneFits
unfolding fits sequence
concat_of_one_fits words n p l q s a b = refl

pub concat_fits : ConcatFits
unfolding fits sequence
concat_fits words n p l q r rs s a b =
    Decides-like _
    (λ h.
    let e = and_parts (fits words q s a h.0) (sequence (fits_each words (more r rs)) h.0 h.0 b) h.3 in
    let u = h.2 in
    (h.0, h.1, omega arith, e.0, e.1))
    (λ h. (let u = h.2 in (h.0, h.1, omega arith, and_from (fits words q s a h.0) _ h.3 h.4)))
    (some_decides (λ c. fits words q s a c && sequence (fits_each words (more r rs)) c c b) a (suc b))

-- a chain does not go down
pieces_up : (P : Rule) (s a b : ℕ) (cs : List ℕ) → Pieces P s a cs b → a ≤ b
pieces_up P s a b [] h = omega arith
pieces_up P s a b (c ∷ cs) h = let l = h.0 in let u = pieces_up P c c b cs h.2 in omega arith

pub chain_decides : (P : Rule) (k s a b : ℕ) → Decides (chain P k s a b) ((cs : List ℕ) × (length cs ≡ k) × Pieces P s a cs b)
unfolding chain
chain_decides P zero s a b =
    (λ e. ([], refl, eqb-true a b e), λ h. none_left h.0 h.1 h.2)
  where
    none_left : (cs : List ℕ) → length cs ≡ 0 → Pieces P s a cs b → eqb a b ≡ true
    none_left [] z h = eq-eqb a b h
    none_left (c ∷ cs) z h = absurd (omega arith)
chain_decides P (suc k) s a b =
    Decides-like _
    (λ h.
    let e = and_parts (P s a h.0) (chain P k h.0 h.0 b) h.3 in
    let r = (chain_decides P k h.0 h.0 b).0 e.1 in
    (h.0 ∷ r.0, ap suc r.1, (h.1, e.0, r.2)))
    (λ h. first h.0 h.1 h.2 (λ c. (chain_decides P k c c b).1))
    (some_decides (λ c. P s a c && chain P k c c b) (suc a) (suc b))
  where
    first : (cs : List ℕ) → length cs ≡ suc k → Pieces P s a cs b →
        ((c : ℕ) → ((ds : List ℕ) × (length ds ≡ k) × Pieces P c c ds b) → chain P k c c b ≡ true) →
        (c : ℕ) × (suc a ≤ c) × (c < suc b) × ((P s a c && chain P k c c b) ≡ true)
    first [] z h rest = absurd (omega arith)
    first (c ∷ cs) z h rest =
        let u = pieces_up P c c b cs h.2 in
        (c, h.0, omega arith, and_from (P s a c) _ h.1 (rest c (cs, (let e : length cs ≡ k = omega arith in e), h.2)))

pub chain_is_short : ChainIsShort
chain_is_short P s a b [] h = omega arith
chain_is_short P s a b (c ∷ cs) h =
    let l = h.0 in
    let u = chain_is_short P c c b cs h.2 in
    let v = pieces_up P c c b cs h.2 in
    omega arith

-- no number of a range passes a test
none_decides : (test : ℕ → Bool) (a b : ℕ) → Decides (not (some a b test)) ((c : ℕ) → a ≤ c → c < b → test c ≡ true → ⊥)
none_decides test a b =
    Decides-like _ (λ n c l u e. n (c, l, u, e)) (λ n h. n h.0 h.1 h.2 h.3) (Decides-not _ (some_decides test a b))

pub exactly_decides : (n : ℕ) (P : Rule) (k s a b : ℕ) →
    Decides (exactly n P k s a b)
    ((cs : List ℕ) × (length cs ≡ k) × Pieces P s a cs b
    × ((z : ℕ) → s ≤ z → z < a → P s z a ≡ true → ⊥)
    × ((y : ℕ) → b < y → y ≤ n → P b b y ≡ true → ⊥))
unfolding exactly
exactly_decides n P k s a b =
    Decides-like _
    (λ h. (h.0.0, h.0.1, h.0.2, h.1.0, λ y l u. h.1.1 y l (omega arith)))
    (λ h. ((h.0, h.1, h.2), (h.3, λ y l u. h.4 y l (omega arith))))
    (Decides-and _ _ (chain_decides P k s a b)
    (Decides-and _ _ (none_decides (λ z. P s z a) s a) (none_decides (λ y. P b b y) (suc b) (suc n))))

pub exact_fits : ExactFits
unfolding fits
exact_fits words k p l q s a b = exactly_decides (length words) (fits words q) k s a b

pub atleast_fits : AtleastFits
unfolding fits at_least
atleast_fits words k p l q s a b =
    Decides-like _ (λ h. (h.0, h.1, h.3))
    (λ h.
    let e = (exactly_decides (length words) (fits words q) h.0 s a b).0 h.2 in
    let u = chain_is_short (fits words q) s a b e.0 e.2 in
    let m = e.1 in
    (h.0, h.1, omega arith, h.2))
    (some_decides (λ j. exactly (length words) (fits words q) j s a b) k (suc (b - a)))

pub atmost_fits : AtmostFits
unfolding fits at_most
atmost_fits words k p l q s a b =
    Decides-like _ (λ h. (let u = h.2 in (h.0, omega arith, h.3))) (λ h. (let u = h.1 in (h.0, omega arith, omega arith, h.2)))
    (some_decides (λ j. exactly (length words) (fits words q) j s a b) 0 (suc k))

pub in_fits : InFits
unfolding fits
in_fits words k p l q s a b = (
  λ e. (let h = and_parts (eqb b (a + k)) (fits words q s a b) e in (eqb-true b (a + k) h.0, h.1)),
  λ h. and_from (eqb b (a + k)) (fits words q s a b) (eq-eqb b (a + k) h.0) h.1,
)

-- a list of the stretches inside is as long as the count
counted : (P : Rule) (s a b : ℕ) (xs : List Stretch) → Lists (P s) a b xs → length xs ≡ times P s a b
unfolding times
counted P s a b xs h = ap length (lists_only (P s) a b xs (inside (P s) a b) h (inside_lists (P s) a b))

pub precisely_fits : PreciselyFits
unfolding fits times
precisely_fits words k p l q s a b = (
  λ e. (inside (fits words q s) a b, inside_lists (fits words q s) a b, eqb-true (times (fits words q) s a b) k e),
  λ h. eq-eqb (times (fits words q) s a b) k (sym (counted (fits words q) s a b h.0 h.1) ∙ h.2),
)

pub noless_fits : NolessFits
unfolding fits times
noless_fits words k p l q s a b = (
  λ e. (inside (fits words q s) a b, inside_lists (fits words q s) a b, leb-true k (times (fits words q) s a b) e),
  λ h. le-leb k (times (fits words q) s a b) (subst (λ (m : ℕ). k ≤ m) (counted (fits words q) s a b h.0 h.1) h.2),
)

pub nomore_fits : NomoreFits
unfolding fits times
nomore_fits words k p l q s a b = (
  λ e. (inside (fits words q s) a b, inside_lists (fits words q s) a b, leb-true (times (fits words q) s a b) k e),
  λ h. le-leb (times (fits words q) s a b) k (subst (λ (m : ℕ). m ≤ k) (counted (fits words q) s a b h.0 h.1) h.2),
)

turns_decide : (words : List ℕ) (qs : Queries) (s a b : ℕ) → Decides (one_after_another (fits_each words qs) s a b) (InTurn words qs s a b)
unfolding fits one_after_another
turns_decide words none s a b = (leb-true a b, le-leb a b)
turns_decide words (more q qs) s a b =
    Decides-like _
    (λ h.
    let k = (some_decides (λ y. fits words q s h.0 y && one_after_another (fits_each words qs) s y b) h.0 (suc b)).0 h.3 in
    let e = and_parts (fits words q s h.0 k.0) (one_after_another (fits_each words qs) s k.0 b) k.3 in
    (h.0, k.0, h.1, k.1, e.0, (turns_decide words qs s k.0 b).0 e.1))
    (λ h.
    let u : h.1 ≤ b = turn_up words qs s h.1 b h.5 in
    let v = h.3 in (
      h.0,
      h.2,
      omega arith,
      (some_decides (λ y. fits words q s h.0 y && one_after_another (fits_each words qs) s y b) h.0 (suc b)).1
          (h.1, h.3, omega arith, and_from (fits words q s h.0 h.1) _ h.4 ((turns_decide words qs s h.1 b).1 h.5)),
    ))
    (some_decides (λ x. some x (suc b) (λ y. fits words q s x y && one_after_another (fits_each words qs) s y b)) a (suc b))
  where
    turn_up : (words : List ℕ) (qs : Queries) (s a b : ℕ) → InTurn words qs s a b → a ≤ b
    turn_up words none s a b h = h
    turn_up words (more q qs) s a b h =
        let u = h.2 in let v = h.3 in let w = turn_up words qs s h.1 b h.5 in omega arith

pub inorder_fits : InorderFits
unfolding fits
inorder_fits words n p l qs s a b = turns_decide words qs s a b

pub only_listing : OnlyListing
unfolding listing
only_listing words q l = (
  λ h. lists_only (fits words q 0) 0 (length words) l _ h (inside_lists (fits words q 0) 0 (length words)),
  λ e. subst (λ (x : List Stretch). Lists (fits words q 0) 0 (length words) x) (sym e) (inside_lists (fits words q 0) 0 (length words)),
)
