-- Parts in sequence: what stands behind other parts may be replaced, put into one row, or make the whole fit nothing.
use Rattle.std.proofs.Common.{◌≡◌, ℕ, suc, ◌≤◌, Bool, true, ◌&&◌, List, [], ◌∷◌, ◌++◌, Decides, sym, refl, ap, ◌∙◌, append-nil, arith}
use Rattle.std.proofs.lemmas.Bool.{and_parts, and_from}
use Rattle.std.proofs.lemmas.Bool.Decides.{Decides-like, same_from_decides}
use Rattle.shape.specs.Ranges.{some}
use Rattle.shape.specs.Fits.{Rule, sequence}
use Rattle.shape.proofs.Ranges.{some_decides}
use Rattle.rules.proofs.Agree.{Agree, some_agree}

-- one rule up to some position, and another from there on, seen from there
abbrev pub meet : Rule → Rule → Rule
meet P Q s a b = some a (suc b) (λ c. let rest = Q c c b in P s a c && rest)

abbrev pub Meet : Rule → Rule → ℕ → ℕ → ℕ → Type 0
Meet P Q s a b = (c : ℕ) × (a ≤ c) × (c ≤ b) × (P s a c ≡ true) × (Q c c b ≡ true)

pub meet_decides : (P Q : Rule) (s a b : ℕ) → Decides (meet P Q s a b) (Meet P Q s a b)
meet_decides P Q s a b =
    Decides-like _
    (λ h. let e = and_parts (P s a h.0) (Q h.0 h.0 b) h.3 in let u = h.2 in (h.0, h.1, omega arith, e.0, e.1))
    (λ h. let u = h.2 in (h.0, h.1, omega arith, and_from (P s a h.0) _ h.3 h.4))
    (some_decides (λ c. P s a c && Q c c b) a (suc b))

-- what stands behind other parts may be replaced
pub behind : (n : ℕ) (Ps : List Rule) (X Y : Rule) (Xs Ys : List Rule) → Agree n (sequence (X ∷ Xs)) (sequence (Y ∷ Ys)) →
    Agree n (sequence (Ps ++ (X ∷ Xs))) (sequence (Ps ++ (Y ∷ Ys)))
unfolding sequence
behind n [] X Y Xs Ys h s a b l = h s a b l
behind n (P ∷ []) X Y Xs Ys h s a b l =
    some_agree (λ c. P s a c && sequence (X ∷ Xs) c c b) (λ c. P s a c && sequence (Y ∷ Ys) c c b) a (suc b)
    (λ c m u. ap (λ (t : Bool). P s a c && t) (h c c b l))
behind n (P ∷ (Q ∷ Ps)) X Y Xs Ys h s a b l =
    some_agree (λ c. P s a c && sequence (Q ∷ (Ps ++ (X ∷ Xs))) c c b) (λ c. P s a c && sequence (Q ∷ (Ps ++ (Y ∷ Ys))) c c b) a (suc b)
    (λ c m u. ap (λ (t : Bool). P s a c && t) (behind n (Q ∷ Ps) X Y Xs Ys h c c b l))

-- where what stands behind other parts fits nothing, the whole fits nothing
pub dead_behind : (n : ℕ) (Ps : List Rule) (X : Rule) (Xs : List Rule) → ((s a b : ℕ) → b ≤ n → sequence (X ∷ Xs) s a b ≡ true → ⊥) →
    (s a b : ℕ) → b ≤ n → sequence (Ps ++ (X ∷ Xs)) s a b ≡ true → ⊥
unfolding sequence
dead_behind n [] X Xs h s a b l e = h s a b l e
dead_behind n (P ∷ []) X Xs h s a b l e = let m = (meet_decides P (sequence (X ∷ Xs)) s a b).0 e in h m.0 m.0 b l m.4
dead_behind n (P ∷ (Q ∷ Ps)) X Xs h s a b l e =
    let m = (meet_decides P (sequence (Q ∷ (Ps ++ (X ∷ Xs)))) s a b).0 e in
    dead_behind n (Q ∷ Ps) X Xs h m.0 m.0 b l m.4

-- a part that fits nothing
pub dead_head : (X : Rule) (Xs : List Rule) → ((s a b : ℕ) → X s a b ≡ true → ⊥) → (s a b : ℕ) → sequence (X ∷ Xs) s a b ≡ true → ⊥
unfolding sequence
dead_head X [] h s a b e = h s a b e
dead_head X (Y ∷ Xs) h s a b e = let m = (meet_decides X (sequence (Y ∷ Xs)) s a b).0 e in h s a m.0 m.3

meet_group : (P Q R : Rule) (s a b : ℕ) → meet (meet P Q) R s a b ≡ meet P (meet Q R) s a b
meet_group P Q R s a b =
    same_from_decides _ _
    (Decides-like _
    (λ h.
    let k = (meet_decides P Q s a h.0).0 h.3 in
    let l = k.2 in
    let m = h.2 in
    (k.0, k.1, omega arith, k.3, (meet_decides Q R k.0 k.0 b).1 (h.0, k.2, h.2, k.4, h.4)))
    (λ h.
    let k = (meet_decides Q R h.0 h.0 b).0 h.4 in
    let l = k.1 in
    let m = h.1 in
    (k.0, omega arith, k.2, (meet_decides P Q s a k.0).1 (h.0, h.1, k.1, h.3, k.3), k.4))
    (meet_decides (meet P Q) R s a b))
    (meet_decides P (meet Q R) s a b)

-- a sequence at the head of another gives way to its parts
pub sequence_flat : (Q : Rule) (Qs Rs : List Rule) (s a b : ℕ) → sequence (sequence (Q ∷ Qs) ∷ Rs) s a b ≡ sequence (Q ∷ (Qs ++ Rs)) s a b
unfolding sequence
sequence_flat Q Qs [] s a b = ap (λ (Xs : List Rule). sequence (Q ∷ Xs) s a b) (sym (append-nil Qs))
sequence_flat Q [] (R ∷ Rs) s a b = refl
sequence_flat Q (T ∷ Qs) (R ∷ Rs) s a b =
    meet_group Q (sequence (T ∷ Qs)) (sequence (R ∷ Rs)) s a b
    ∙ some_agree (λ c. Q s a c && meet (sequence (T ∷ Qs)) (sequence (R ∷ Rs)) c c b) (λ c. Q s a c && sequence (T ∷ (Qs ++ (R ∷ Rs))) c c b) a (suc b)
    (λ c m u. ap (λ (t : Bool). Q s a c && t) (sequence_flat T Qs (R ∷ Rs) c c b))
