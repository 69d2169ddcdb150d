-- Exact, atleast and atmost as one: chains of a number of pieces that the kind allows.
use Rattle.std.proofs.Common.{◌≡◌, ℕ, zero, suc, ◌-◌, ◌<◌, ◌≤◌, true, ◌||◌, ◌⊎◌, List, [], ◌∷◌, length, Decides, refl, subst, inl, inr, arith}
use Rattle.std.proofs.lemmas.Bool.{false≢true, cases_lt}
use Rattle.std.proofs.lemmas.Bool.Decides.{Decides-like, Decides-or, same_from_decides}
use Rattle.query.specs.declared.node.Kind.{Kind}
use Rattle.query.specs.declared.node.Kind.TheVariants.{Symbol, Any, Concat, Exact, Atleast, Atmost, In, Precisely, Noless, Nomore, And, Or, Inorder}
use Rattle.shape.specs.Fits.{Rule, only, exactly, at_least, at_most, whole}
use Rattle.shape.specs.Laws.{Pieces}
use Rattle.shape.proofs.Ranges.{some_decides}
use Rattle.shape.proofs.Plain.{exactly_decides, chain_is_short}
use Rattle.rules.specs.Applies.{repeats}
use Rattle.rules.proofs.Sequence.{meet, meet_decides}

-- how many pieces a repeat may have
abbrev pub Counts : Kind → ℕ → ℕ → Type 0
Counts Symbol k j = ⊥
Counts Any k j = ⊥
Counts Concat k j = ⊥
Counts Exact k j = j ≡ k
Counts Atleast k j = k ≤ j
Counts Atmost k j = j ≤ k
Counts In k j = ⊥
Counts Precisely k j = ⊥
Counts Noless k j = ⊥
Counts Nomore k j = ⊥
Counts And k j = ⊥
Counts Or k j = ⊥
Counts Inorder k j = ⊥

-- a chain of j pieces that none comes before or goes on from
abbrev pub Chain : ℕ → Rule → ℕ → ℕ → ℕ → ℕ → Type 0
Chain n P j s a b =
    (cs : List ℕ) × (length cs ≡ j) × Pieces P s a cs b
    × ((z : ℕ) → s ≤ z → z < a → P s z a ≡ true → ⊥)
    × ((y : ℕ) → b < y → y ≤ n → P b b y ≡ true → ⊥)

abbrev pub Repeat : ℕ → Kind → ℕ → Rule → ℕ → ℕ → ℕ → Type 0
Repeat n M k P s a b = (j : ℕ) × Counts M k j × Chain n P j s a b

pub pieces_up : (P : Rule) (s a b : ℕ) (cs : List ℕ) → Pieces P s a cs b → a ≤ b
pieces_up P s a b [] h = omega arith
pieces_up P s a b (c ∷ cs) h = let l = h.0 in let u = pieces_up P c c b cs h.2 in omega arith

exact_counts : (n : ℕ) (P : Rule) (k s a b : ℕ) → Decides (exactly n P k s a b) (Repeat n Exact k P s a b)
exact_counts n P k s a b =
    Decides-like _ (λ h. (k, refl, h)) (λ h. subst (λ (j : ℕ). Chain n P j s a b) h.1 h.2) (exactly_decides n P k s a b)

atleast_counts : (n : ℕ) (P : Rule) (k s a b : ℕ) → Decides (at_least n P k s a b) (Repeat n Atleast k P s a b)
unfolding at_least
atleast_counts n P k s a b =
    Decides-like _ (λ h. (h.0, h.1, (exactly_decides n P h.0 s a b).0 h.3))
    (λ h.
    let u = chain_is_short P s a b h.2.0 h.2.2 in
    let m = h.2.1 in
    (h.0, h.1, omega arith, (exactly_decides n P h.0 s a b).1 h.2))
    (some_decides (λ j. exactly n P j s a b) k (suc (b - a)))

atmost_counts : (n : ℕ) (P : Rule) (k s a b : ℕ) → Decides (at_most n P k s a b) (Repeat n Atmost k P s a b)
unfolding at_most
atmost_counts n P k s a b =
    Decides-like _ (λ h. (let u = h.2 in (h.0, omega arith, (exactly_decides n P h.0 s a b).0 h.3)))
    (λ h. (let u = h.1 in (h.0, omega arith, omega arith, (exactly_decides n P h.0 s a b).1 h.2)))
    (some_decides (λ j. exactly n P j s a b) 0 (suc k))

module _ (words : List ℕ) where
  pub repeat_decides : (M : Kind) (k : ℕ) (Ps : List Rule) (s a b : ℕ) → repeats M ≡ true →
      Decides (whole words M k Ps s a b) (Repeat (length words) M k (only Ps) s a b)
  repeat_decides Symbol k Ps s a b r = absurd (false≢true r)
  repeat_decides Any k Ps s a b r = absurd (false≢true r)
  repeat_decides Concat k Ps s a b r = absurd (false≢true r)
  repeat_decides Exact k Ps s a b r = exact_counts (length words) (only Ps) k s a b
  repeat_decides Atleast k Ps s a b r = atleast_counts (length words) (only Ps) k s a b
  repeat_decides Atmost k Ps s a b r = atmost_counts (length words) (only Ps) k s a b
  repeat_decides In k Ps s a b r = absurd (false≢true r)
  repeat_decides Precisely k Ps s a b r = absurd (false≢true r)
  repeat_decides Noless k Ps s a b r = absurd (false≢true r)
  repeat_decides Nomore k Ps s a b r = absurd (false≢true r)
  repeat_decides And k Ps s a b r = absurd (false≢true r)
  repeat_decides Or k Ps s a b r = absurd (false≢true r)
  repeat_decides Inorder k Ps s a b r = absurd (false≢true r)

  -- two repeats of one part are a third where its numbers are those of the two
  pub repeats_joined : (M N O : Kind) (m n o : ℕ) (Ps : List Rule) → repeats M ≡ true → repeats N ≡ true → repeats O ≡ true →
      ((j : ℕ) → (Counts M m j ⊎ Counts N n j) → Counts O o j) → ((j : ℕ) → Counts O o j → Counts M m j ⊎ Counts N n j) →
      (s a b : ℕ) → (whole words M m Ps s a b || whole words N n Ps s a b) ≡ whole words O o Ps s a b
  repeats_joined M N O m n o Ps rM rN rO into back s a b =
      same_from_decides _ _
      (Decides-like _ gathered parted (Decides-or _ _ (repeat_decides M m Ps s a b rM) (repeat_decides N n Ps s a b rN)))
      (repeat_decides O o Ps s a b rO)
    where
      gathered : Repeat (length words) M m (only Ps) s a b ⊎ Repeat (length words) N n (only Ps) s a b → Repeat (length words) O o (only Ps) s a b
      gathered (inl h) = (h.0, into h.0 (inl h.1), h.2)
      gathered (inr h) = (h.0, into h.0 (inr h.1), h.2)

      parted : Repeat (length words) O o (only Ps) s a b → Repeat (length words) M m (only Ps) s a b ⊎ Repeat (length words) N n (only Ps) s a b
      parted h = elim (back h.0 h.1) [
        | inl c ↦ inl (h.0, c, h.2)
        | inr c ↦ inr (h.0, c, h.2)
      ]

module _ (n : ℕ) (P : Rule) where
  -- a chain that goes up has a first piece
  pub first_piece : (j s a b : ℕ) → Chain n P j s a b → (0 < j) ⊎ (a < b) → (c : ℕ) × (a < c) × (c ≤ b) × (P s a c ≡ true)
  first_piece j s a b h some_left = go h.0 h.1 h.2 some_left
    where
      go : (cs : List ℕ) → length cs ≡ j → Pieces P s a cs b → (0 < j) ⊎ (a < b) → (c : ℕ) × (a < c) × (c ≤ b) × (P s a c ≡ true)
      go [] e p (inl l) = absurd (omega arith)
      go [] e p (inr l) = absurd (omega arith)
      go (c ∷ cs) e p l = (c, p.0, pieces_up P c c b cs p.2, p.1)

  -- a chain of no pieces is null
  pub no_piece : (s a b : ℕ) → Chain n P 0 s a b → a ≡ b
  no_piece s a b h = go h.0 h.1 h.2
    where
      go : (cs : List ℕ) → length cs ≡ 0 → Pieces P s a cs b → a ≡ b
      go [] e p = p
      go (c ∷ cs) e p = absurd (omega arith)

  pub some_piece : (j s a b : ℕ) → Chain n P j s a b → 0 < j → a < b
  some_piece j s a b h l = let f = first_piece j s a b h (inl l) in let u = f.1 in let v = f.2 in omega arith

  -- no chain can be followed by another that has a piece
  pub no_more : (j i s a c d : ℕ) → Chain n P j s a c → Chain n P i c c d → d ≤ n → (0 < i) ⊎ (c < d) → ⊥
  no_more j i s a c d h k l some_left =
      let f = first_piece i c c d k some_left in
      let u = f.2 in
      h.4 f.0 f.1 (omega arith) f.3

  -- where a chain ends, a chain of no pieces stands
  pub null_after : (j s a c : ℕ) → Chain n P j s a c → Chain n P 0 c c c
  null_after j s a c h = ([], refl, refl, (λ z l u e. absurd (omega arith)), h.4)

module _ (words : List ℕ) (M N : Kind) (m k : ℕ) (Ps : List Rule) (rM : repeats M ≡ true) (rN : repeats N ≡ true) where
  -- a repeat that may have no pieces, behind a repeat of the same part, is null there
  pub neighbour_goes : Counts N k 0 → (s a b : ℕ) → b ≤ length words → meet (whole words M m Ps) (whole words N k Ps) s a b ≡ whole words M m Ps s a b
  neighbour_goes z s a b l =
      same_from_decides _ _
      (Decides-like _
      (λ h.
      let f = (repeat_decides words M m Ps s a h.0 rM).0 h.3 in
      let g = (repeat_decides words N k Ps h.0 h.0 b rN).0 h.4 in
      subst (λ (c : ℕ). Repeat (length words) M m (only Ps) s a c) (here h.0 f.0 g.0 h.2 f.2 g.2) f)
      (λ h.
      let u = pieces_up (only Ps) s a b h.2.0 h.2.2 in (
        b,
        u,
        omega arith,
        (repeat_decides words M m Ps s a b rM).1 h,
        (repeat_decides words N k Ps b b b rN).1 (0, z, null_after (length words) (only Ps) h.0 s a b h.2),
      ))
      (meet_decides (whole words M m Ps) (whole words N k Ps) s a b))
      (repeat_decides words M m Ps s a b rM)
    where
      here : (c j i : ℕ) → c ≤ b → Chain (length words) (only Ps) j s a c → Chain (length words) (only Ps) i c c b → c ≡ b
      here c j i u f g = elim (cases_lt c b) [
        | inl v ↦ absurd (no_more (length words) (only Ps) j i s a c b f g l (inr v))
        | inr v ↦ omega arith
      ]

  -- a repeat that must have pieces fits nowhere behind a repeat of the same part
  pub neighbour_dead : (Counts N k 0 → ⊥) → (s a c d : ℕ) → d ≤ length words →
      whole words M m Ps s a c ≡ true → whole words N k Ps c c d ≡ true → ⊥
  neighbour_dead z s a c d l e f =
      let g = (repeat_decides words M m Ps s a c rM).0 e in
      let h = (repeat_decides words N k Ps c c d rN).0 f in
      no_more (length words) (only Ps) g.0 h.0 s a c d g.2 h.2 l (inl (pieces h.0 h.1))
    where
      pieces : (j : ℕ) → Counts N k j → 0 < j
      pieces zero h = absurd (z h)
      pieces (suc j) h = omega arith

module _ (words : List ℕ) (K M : Kind) (k m : ℕ) (Ps : List Rule) (rK : repeats K ≡ true) (rM : repeats M ≡ true) where
  -- a chain of repeats has no second one
  no_second : (s a b : ℕ) → b ≤ length words → (j : ℕ) → Chain (length words) (whole words M m Ps) j s a b → 1 < j → ⊥
  no_second s a b l j h u = go h.0 h.1 h.2
    where
      go : (cs : List ℕ) → length cs ≡ j → Pieces (whole words M m Ps) s a cs b → ⊥
      go [] e p = omega arith
      go (c ∷ []) e p = omega arith
      go (c ∷ (d ∷ cs)) e p =
          let f = (repeat_decides words M m Ps s a c rM).0 p.1 in
          let g = (repeat_decides words M m Ps c c d rM).0 p.2.1 in
          let v = pieces_up (whole words M m Ps) d d b cs p.2.2 in
          no_more (length words) (only Ps) f.0 g.0 s a c d f.2 g.2 (omega arith) (inr p.2.0)

  -- two or more repeats, one after another, fit nothing
  pub nested_dead : ((j : ℕ) → Counts K k j → 1 < j) → (s a b : ℕ) → b ≤ length words → whole words K k (whole words M m Ps ∷ []) s a b ≡ true → ⊥
  nested_dead two s a b l e =
      let h = (repeat_decides words K k (whole words M m Ps ∷ []) s a b rK).0 e in
      no_second s a b l h.0 h.2 (two h.0 h.1)

  -- a single repeat around a repeat that has pieces is that repeat, if what fits is also seen from its own start
  pub nested_goes : Counts K k 1 → ((j : ℕ) → Counts K k j → 0 < j) → ((j : ℕ) → Counts M m j → 0 < j) →
      ((s a b : ℕ) → only Ps s a b ≡ true → only Ps a a b ≡ true) →
      (s a b : ℕ) → b ≤ length words → whole words K k (whole words M m Ps ∷ []) s a b ≡ whole words M m Ps s a b
  nested_goes one some-outer some_inner own s a b l =
      same_from_decides _ _
      (Decides-like _ (λ h. inner h.0 h.1 h.2) outer (repeat_decides words K k (whole words M m Ps ∷ []) s a b rK))
      (repeat_decides words M m Ps s a b rM)
    where
      inner : (j : ℕ) → Counts K k j → Chain (length words) (whole words M m Ps) j s a b → Repeat (length words) M m (only Ps) s a b
      inner j c h = go h.0 h.1 h.2
        where
          go : (cs : List ℕ) → length cs ≡ j → Pieces (whole words M m Ps) s a cs b → Repeat (length words) M m (only Ps) s a b
          go [] e p = let u = some-outer j c in absurd (omega arith)
          go (d ∷ []) e p = (repeat_decides words M m Ps s a b rM).0 (subst (λ (x : ℕ). whole words M m Ps s a x ≡ true) p.2 p.1)
          go (d ∷ (f ∷ cs)) e p = absurd (no_second s a b l j h (omega arith))

      outer : Repeat (length words) M m (only Ps) s a b → Repeat (length words) K k (whole words M m Ps) s a b
      outer h =
          let up = some_piece (length words) (only Ps) h.0 s a b h.2 (some_inner h.0 h.1) in
          let f = first_piece (length words) (only Ps) h.0 s a b h.2 (inr up) in
          let v = f.2 in (
            1,
            one,
            (
              b ∷ [],
              refl,
              (up, (repeat_decides words M m Ps s a b rM).1 h, refl),
              (λ z low high e.
                  let g = (repeat_decides words M m Ps s z a rM).0 e in
                  g.2.4 f.0 f.1 (omega arith) (own s a f.0 f.3)),
              (λ y low high e.
                  let g = (repeat_decides words M m Ps b b y rM).0 e in
                  no_more (length words) (only Ps) h.0 g.0 s a b y h.2 g.2 high (inr low)),
            ),
          )
