-- Pieces one after another: what may follow the first, and the tables of it.
use Rattle.std.proofs.Common.{◌≡◌, ℕ, zero, suc, ◌+◌, ◌-◌, ◌<◌, ◌≤◌, Bool, true, false, cond, ◌||◌, eqb, ◌⊎◌, List, [], ◌∷◌, ◌++◌, length, Decides, sym, refl, ap, ◌∙◌, subst, inl, inr, arith}
use Rattle.std.proofs.lemmas.Bool.{or_cases, or_left, or_right, false≢true, eqb-true, eq-eqb, leb-true, le-leb, ne_eqb, cases_eq, cases_Bool, cond-true, cond-false}
use Rattle.std.proofs.lemmas.List.{length-append}
use Rattle.std.proofs.lemmas.Bool.Decides.{Decides-like}
use Rattle.shape.specs.Fits.{Rule, exactly, at_least, at_most}
use Rattle.shape.specs.Laws.{Pieces}
use Rattle.shape.proofs.Ranges.{some_decides}
use Rattle.shape.proofs.Plain.{exactly_decides, chain_is_short}
use Rattle.tables.specs.declared.table.Table.{Table}
use Rattle.tables.specs.Holds.{holds, Held, Joined, Links}
use Rattle.tables.proofs.Linking.{links_split}
use Rattle.ends.specs.declared.Ends.{Ends}
use Rattle.ends.specs.Member.{member}
use Rattle.wholes.specs.declared.view.View.{View}
use Rattle.wholes.specs.declared.view.View.TheVariants.{From, Own}
use Rattle.wholes.specs.declared.view.Many.{Many}
use Rattle.wholes.specs.declared.view.Many.TheVariants.{Exactly, AtLeast, AtMost}
use Rattle.wholes.specs.Shows.{seen_from, lowest, allowed, repeated, Fit, Shows, Later, Stops, Row}

-- pieces do not go down
pub pieces_up : (P : Rule) (s a b : ℕ) (cs : List ℕ) → Pieces P s a cs b → a ≤ b
pieces_up P s a b [] h = omega arith
pieces_up P s a b (c ∷ cs) h = let l = h.0 in let u = pieces_up P c c b cs h.2 in omega arith

-- all that a repeat asks for of a stretch
pub record Chained (n : ℕ) (P : Rule) (many : Many) (s a b : ℕ) : Type 0 where
  pub cuts : List ℕ
  pub many_right : allowed many (length cuts) ≡ true
  pub pieces : Pieces P s a cuts b
  pub before : (z : ℕ) → s ≤ z → z < a → P s z a ≡ true → ⊥
  pub after : (y : ℕ) → b < y → y ≤ n → P b b y ≡ true → ⊥

pub repeated_decides : (n : ℕ) (P : Rule) (many : Many) (s a b : ℕ) → Decides (repeated n P many s a b) (Chained n P many s a b)
unfolding at_least at_most
repeated_decides n P (Exactly k) s a b =
    Decides-like _
    (λ h. record { cuts = h.0; many_right = eq-eqb (length h.0) k h.1; pieces = h.2; before = h.3; after = h.4 })
    (λ h. (h.cuts, eqb-true (length h.cuts) k h.many_right, h.pieces, h.before, h.after))
    (exactly_decides n P k s a b)
repeated_decides n P (AtLeast k) s a b =
    Decides-like _
    (λ h.
    let e = (exactly_decides n P h.0 s a b).0 h.3 in
    let l = h.1 in
    let m = e.1 in
    record { cuts = e.0; many_right = le-leb k (length e.0) (omega arith); pieces = e.2; before = e.3; after = e.4 })
    (λ h.
    let l = leb-true k (length h.cuts) h.many_right in
    let u = chain_is_short P s a b h.cuts h.pieces in
    (length h.cuts, l, omega arith, (exactly_decides n P (length h.cuts) s a b).1 (h.cuts, refl, h.pieces, h.before, h.after)))
    (some_decides (λ j. exactly n P j s a b) k (suc (b - a)))
repeated_decides n P (AtMost k) s a b =
    Decides-like _
    (λ h.
    let e = (exactly_decides n P h.0 s a b).0 h.3 in
    let l = h.2 in
    let m = e.1 in
    record { cuts = e.0; many_right = le-leb (length e.0) k (omega arith); pieces = e.2; before = e.3; after = e.4 })
    (λ h.
    let l = leb-true (length h.cuts) k h.many_right in
    (length h.cuts, omega arith, omega arith, (exactly_decides n P (length h.cuts) s a b).1 (h.cuts, refl, h.pieces, h.before, h.after)))
    (some_decides (λ j. exactly n P j s a b) 0 (suc k))

-- pieces, and then others
pieces_append : (P : Rule) (a c b : ℕ) (cs ds : List ℕ) → Pieces P a a cs c → Pieces P c c ds b → Pieces P a a (cs ++ ds) b
pieces_append P a c b [] ds h k = subst (λ (x : ℕ). Pieces P x x ds b) (sym h) k
pieces_append P a c b (x ∷ cs) ds h k = (h.0, h.1, pieces_append P x c b cs ds h.2 k)

-- the links of a table of pieces
module _ (P : Rule) (n : ℕ) (own piece : Table) (shown : Shows own P Own n n) (s256 : n < 256)
    (rises : (a b : ℕ) → Decides (holds piece a b) ((a < b) × (b < 256) × Held own a b)) where
  piece_fits : (a b : ℕ) → Held piece a b → (a < b) × (b ≤ n) × (P a a b ≡ true)
  piece_fits a b h = let r = (rises a b).0 h in let f = shown.sound a b r.2 in (r.0, f.high, f.fit)

  fits_piece : (a b : ℕ) → a < b → b ≤ n → P a a b ≡ true → Held piece a b
  fits_piece a b l u f = (rises a b).1 (l, omega arith, shown.full a b (record { low = omega arith; up = omega arith; high = u; fit = f }))

  pub links_pieces : (k a b : ℕ) → Links (Held piece) k a b → (cs : List ℕ) × (length cs ≡ k) × Pieces P a a cs b
  links_pieces zero a b h = ([], refl, h)
  links_pieces (suc k) a b h =
      let f = piece_fits a h.0 h.1 in
      let r = links_pieces k h.0 b h.2 in
      (h.0 ∷ r.0, ap suc r.1, (f.0, f.2, r.2))

  pub links_within : (k a b : ℕ) → a ≤ n → Links (Held piece) k a b → b ≤ n
  links_within zero a b l h = omega arith
  links_within (suc k) a b l h = links_within k h.0 b (piece_fits a h.0 h.1).1 h.2

  pub pieces_links : (a b : ℕ) (cs : List ℕ) → b ≤ n → Pieces P a a cs b → Links (Held piece) (length cs) a b
  pieces_links a b [] u h = h
  pieces_links a b (c ∷ cs) u h =
      let l = pieces_up P c c b cs h.2 in
      (c, fits_piece a c h.0 (omega arith) h.1, pieces_links c b cs u h.2)

  -- no pieces: none follows a first
  pub none_later : (t : Table) (many : Many) → (many ≡ Exactly 0) ⊎ (many ≡ AtMost 0) → ((a b : ℕ) → holds t a b ≡ false) → Later t P many n
  none_later t many e h = record {
    sound = λ c b u. absurd (false≢true (sym (h c b) ∙ u));
    full = λ c b cs u m p. absurd (elim e [
      | inl q ↦ (let l = eqb-true (suc (length cs)) 0 (ap (λ (k : Many). allowed k (suc (length cs))) (sym q) ∙ m) in omega arith)
      | inr q ↦ (let l = leb-true (suc (length cs)) 0 (ap (λ (k : Many). allowed k (suc (length cs))) (sym q) ∙ m) in omega arith)
    ]);
  }

  -- exactly k pieces
  pub exactly_later : (t : Table) (k less : ℕ) → k ≡ suc less →
      ((a b : ℕ) → Decides (holds t a b) ((a ≤ n) × Links (Held piece) less a b)) → Later t P (Exactly k) n
  exactly_later t k less e h = record {
    sound = λ c b u.
        let r = (h c b).0 u in
        let p = links_pieces less c b r.1 in
        let l = p.1 in
        (links_within less c b r.0 r.1, (p.0, eq-eqb (suc (length p.0)) k (omega arith), p.2));
    full = λ c b cs u m p.
        let l = eqb-true (suc (length cs)) k m in
        let q : length cs ≡ less = omega arith in
        let o = pieces_up P c c b cs p in
        (h c b).1 (omega arith, subst (λ (i : ℕ). Links (Held piece) i c b) q (pieces_links c b cs u p));
  }

  -- at least k
  pub at_least_later : (t p q : Table) (k : ℕ) →
      ((a b : ℕ) → Decides (holds p a b) ((a ≤ n) × Links (Held piece) (k - 1) a b)) →
      ((a b : ℕ) → Decides (holds q a b) ((a ≤ n) × ((m : ℕ) × Links (Held piece) m a b))) →
      ((a b : ℕ) → Decides (holds t a b) (Joined (Held p) (Held q) a b)) → Later t P (AtLeast k) n
  at_least_later t p q k hp hq h = record {
    sound = λ c b u.
        let j = (h c b).0 u in
        let x = (hp c j.0).0 j.1 in
        let y = (hq j.0 b).0 j.2 in
        let xs = links_pieces (k - 1) c j.0 x.1 in
        let ys = links_pieces y.1.0 j.0 b y.1.1 in
        let l = xs.1 in
        let e = length-append xs.0 ys.0 in (
          links_within y.1.0 j.0 b y.0 y.1.1,
          (xs.0 ++ ys.0, le-leb k (suc (length (xs.0 ++ ys.0))) (omega arith), pieces_append P c j.0 b xs.0 ys.0 xs.2 ys.2),
        );
    full = λ c b cs u m ps.
        let l = leb-true k (suc (length cs)) m in
        let o = pieces_up P c c b cs ps in
        let r = links_split (Held piece) (k - 1) (length cs - (k - 1)) (length cs) (omega arith) c b (pieces_links c b cs u ps) in
        let v : c ≤ n = omega arith in
        (h c b).1 (r.0, (hp c r.0).1 (v, r.1), (hq r.0 b).1 (links_within (k - 1) c r.0 v r.1, (length cs - (k - 1), r.2)));
  }

  module _ (still either : Table) (stays : (a b : ℕ) → Decides (holds still a b) ((a ≤ n) × (a ≡ b)))
      (both : (a b : ℕ) → holds either a b ≡ (holds still a b || holds piece a b)) where
    either_pieces : (k a b : ℕ) → Links (Held either) k a b → (cs : List ℕ) × (length cs ≤ k) × Pieces P a a cs b
    either_pieces zero a b h = ([], omega arith, h)
    either_pieces (suc k) a b h =
        let r = either_pieces k h.0 b h.2 in
        let l = r.1 in
        elim (or_cases (holds still a h.0) (holds piece a h.0) (sym (both a h.0) ∙ h.1)) [
          | inl e ↦ (r.0, omega arith, subst (λ (x : ℕ). Pieces P x x r.0 b) (sym ((stays a h.0).0 e).1) r.2)
          | inr e ↦ (let f = piece_fits a h.0 e in (h.0 ∷ r.0, omega arith, (f.0, f.2, r.2)))
        ]

    either_within : (k a b : ℕ) → a ≤ n → Links (Held either) k a b → b ≤ n
    either_within zero a b l h = omega arith
    either_within (suc k) a b l h =
        either_within k h.0 b
        (elim (or_cases (holds still a h.0) (holds piece a h.0) (sym (both a h.0) ∙ h.1)) [
          | inl e ↦ (let q = ((stays a h.0).0 e).1 in omega arith)
          | inr e ↦ (piece_fits a h.0 e).1
        ])
        h.2

    pieces_either : (k a b : ℕ) (cs : List ℕ) → length cs ≤ k → a ≤ n → b ≤ n → Pieces P a a cs b → Links (Held either) k a b
    pieces_either zero a b [] m l u h = h
    pieces_either zero a b (c ∷ cs) m l u h = absurd (omega arith)
    pieces_either (suc k) a b [] m l u h =
        (a, both a a ∙ or_left (holds still a a) _ ((stays a a).1 (l, refl)), pieces_either k a b [] (omega arith) l u h)
    pieces_either (suc k) a b (c ∷ cs) m l u h =
        let o = pieces_up P c c b cs h.2 in
        (c, both a c ∙ or_right (holds still a c) _ (fits_piece a c h.0 (omega arith) h.1), pieces_either k c b cs (omega arith) (omega arith) u h.2)

    -- at most k
    pub at_most_later : (t : Table) (k less : ℕ) → k ≡ suc less →
        ((a b : ℕ) → Decides (holds t a b) ((a ≤ n) × Links (Held either) less a b)) → Later t P (AtMost k) n
    at_most_later t k less e h = record {
      sound = λ c b u.
          let r = (h c b).0 u in
          let p = either_pieces less c b r.1 in
          let l = p.1 in
          (either_within less c b r.0 r.1, (p.0, le-leb (suc (length p.0)) k (omega arith), p.2));
      full = λ c b cs u m p.
          let l = leb-true (suc (length cs)) k m in
          let o = pieces_up P c c b cs p in
          (h c b).1 (omega arith, pieces_either less c b cs (omega arith) (omega arith) u p);
    }

-- the ends of opening pieces: where pieces are seen from one position, those that come before
abbrev pub Reached : View → Table → Ends → Type 0
Reached (From s) first reached = (b : ℕ) → Decides (member reached b) ((a : ℕ) × Held first a b)
Reached Own first reached = (b : ℕ) → member reached b ≡ false

pub reached_from : (v : View) (s : ℕ) (first : Table) (reached made : Ends) → v ≡ From s → reached ≡ made →
    ((b : ℕ) → Decides (member made b) ((a : ℕ) × Held first a b)) → Reached v first reached
reached_from v s first reached made e r h =
    subst (λ (k : View). Reached k first reached) (sym e) (subst (Reached (From s) first) (sym r) h)

pub reached_own : (v : View) (first : Table) (reached made : Ends) → v ≡ Own → reached ≡ made →
    ((b : ℕ) → member made b ≡ false) → Reached v first reached
reached_own v first reached made e r h =
    subst (λ (k : View). Reached k first reached) (sym e) (subst (Reached Own first) (sym r) h)

-- the stretches that begin below a
abbrev pub RepeatsBelow : ℕ → ℕ → Table → Ends → Table → Ends → Bool → Table → ℕ → Type 0
RepeatsBelow lo to first reached later stops null out a =
    (x y : ℕ) → Decides (holds out x y) ((x < a) × (lo ≤ x) × (x ≤ to) × (member reached x ≡ false) × Row first later stops null x y)

module _ (P : Rule) (many : Many) (v : View) (to n : ℕ) (opening first later : Table) (stops reached : Ends)
    (l : to ≤ n) (small : n < 256) (shown : Shows opening P v to n) (follows : Later later P many n) (ends : Stops stops P n)
    (rises : (a b : ℕ) → Decides (holds first a b) ((a < b) × (b < 256) × Held opening a b)) where
  first_fits : (a b : ℕ) → Held first a b → (a < b) × Fit P v n a b
  first_fits a b h = let r = (rises a b).0 h in (r.0, shown.sound a b r.2)

  fits_first : (a b : ℕ) → a < b → Fit P v to a b → Held first a b
  fits_first a b u f = let h = f.high in (rises a b).1 (u, omega arith, shown.full a b f)

  -- no piece comes before x
  none_before : (w : View) → w ≡ v → Reached w first reached → (x : ℕ) → x ≤ to → member reached x ≡ false →
      (z : ℕ) → seen_from w x ≤ z → z < x → P (seen_from w x) z x ≡ true → ⊥
  none_before (From s) e r x u f z lo hi p =
      let fit : Fit P v to z x = subst (λ (k : View). Fit P k to z x) e (record { low = lo; up = omega arith; high = u; fit = p }) in
      false≢true (sym f ∙ (r x).1 (z, fits_first z x hi fit))
  none_before Own e r x u f z lo hi p = omega arith

  before_none : (w : View) → w ≡ v → Reached w first reached → (x : ℕ) →
      ((z : ℕ) → seen_from w x ≤ z → z < x → P (seen_from w x) z x ≡ true → ⊥) → member reached x ≡ false
  before_none (From s) e r x clear = elim (cases_Bool (member reached x)) [
    | inl h ↦
        (let z = (r x).0 h in
        let q = first_fits z.0 x z.1 in
        let fit : Fit P (From s) n z.0 x = subst (λ (k : View). Fit P k n z.0 x) (sym e) q.1 in
        absurd (clear z.0 fit.low q.0 fit.fit))
    | inr h ↦ h
  ]
  before_none Own e r x clear = r x

  pub repeat_shows : (null : Bool) (out : Table) (lo a : ℕ) → lo ≡ lowest v → null ≡ allowed many 0 → Reached v first reached → to < a →
      RepeatsBelow lo to first reached later stops null out a → Shows out (repeated n P many) v to n
  repeat_shows null out lo a g z r past inv = record {
    sound = λ x y h. (let u = (inv x y).0 h in let q = u.1 in sound x y (omega arith) u.2 u.3 u.4.0 u.4.1);
    full = λ x y f.
        let c = (repeated_decides n P many (seen_from v x) x y).0 f.fit in
        let h = f.high in
        let o = f.up in
        (inv x y).1 (
          omega arith,
          (let q = f.low in omega arith),
          omega arith,
          before_none v refl r x c.before,
          (full x y f c.cuts c.many_right c.pieces, (ends y).1 (omega arith, c.after)),
        );
  }
    where
      made : (x y : ℕ) → lowest v ≤ x → x ≤ to → member reached x ≡ false → member stops y ≡ true → (cs : List ℕ) →
          allowed many (length cs) ≡ true → Pieces P (seen_from v x) x cs y → Fit (repeated n P many) v n x y
      made x y lo hi f st cs m p = record {
        low = lo;
        up = pieces_up P (seen_from v x) x y cs p;
        high = ((ends y).0 st).0;
        fit = (repeated_decides n P many (seen_from v x) x y).1
            (record { cuts = cs; many_right = m; pieces = p; before = none_before v refl r x hi f; after = ((ends y).0 st).1 });
      }

      sound : (x y : ℕ) → lowest v ≤ x → x ≤ to → member reached x ≡ false →
          ((null ≡ true) × (x ≡ y)) ⊎ Joined (Held first) (Held later) x y → member stops y ≡ true → Fit (repeated n P many) v n x y
      sound x y lo hi f (inl e) st = made x y lo hi f st [] (sym z ∙ e.0) e.1
      sound x y lo hi f (inr j) st =
          let q = first_fits x j.0 j.1 in
          let s = follows.sound j.0 y j.2 in
          made x y lo hi f st (j.0 ∷ s.1.0) s.1.1 (q.0, q.1.fit, s.1.2)

      full : (x y : ℕ) → Fit (repeated n P many) v to x y → (cs : List ℕ) → allowed many (length cs) ≡ true →
          Pieces P (seen_from v x) x cs y → ((null ≡ true) × (x ≡ y)) ⊎ Joined (Held first) (Held later) x y
      full x y f [] m p = inl (z ∙ m, p)
      full x y f (c ∷ cs) m p =
          let u = pieces_up P c c y cs p.2 in
          let h = f.high in
          let o = p.0 in
          inr (
            c,
            fits_first x c p.0 (record { low = f.low; up = omega arith; high = omega arith; fit = p.1 }),
            follows.full c y cs (omega arith) m p.2,
          )

-- a row is written
pub repeats_put : (lo to : ℕ) (first later out next : Table) (stops reached : Ends) (null : Bool) (row : ℕ → Bool) (a : ℕ) →
    lo ≤ a → a ≤ to → ((b : ℕ) → Decides (row b) ((member reached a ≡ false) × Row first later stops null a b)) →
    ((x y : ℕ) → holds next x y ≡ cond (eqb x a) (row y) (holds out x y)) →
    RepeatsBelow lo to first reached later stops null out a → RepeatsBelow lo to first reached later stops null next (a + 1)
repeats_put lo to first later out next stops reached null row a lw hi d p inv x y = elim (cases_eq x a) [
  | inl e ↦ (
    λ u.
        let r = (d y).0 (sym (cond-true (eqb x a) (row y) _ (eq-eqb x a e)) ∙ sym (p x y) ∙ u) in
        (omega arith, omega arith, omega arith, ap (member reached) e ∙ r.0, subst (λ (i : ℕ). Row first later stops null i y) (sym e) r.1),
    λ u. p x y ∙ cond-true (eqb x a) (row y) _ (eq-eqb x a e)
        ∙ (d y).1 (ap (member reached) (sym e) ∙ u.3, subst (λ (i : ℕ). Row first later stops null i y) e u.4),
  )
  | inr ne ↦ (
    λ u.
        let r = (inv x y).0 (sym (p x y ∙ cond-false (eqb x a) (row y) _ (ne_eqb x a ne)) ∙ u) in
        let o = r.0 in
        (omega arith, r.1, r.2, r.3, r.4),
    λ u. (let o = u.0 in p x y ∙ cond-false (eqb x a) (row y) _ (ne_eqb x a ne) ∙ (inv x y).1 (omega arith, u.1, u.2, u.3, u.4)),
  )
]
