-- The stretches of a table, written into a buffer one after another.
use Rattle.std.proofs.Common.{◌≡◌, ℕ, zero, suc, ◌+◌, ◌-◌, ◌<◌, ◌≤◌, Bool, true, false, cond, List, [], ◌∷◌, ◌++◌, length, map, get_or, drop, set, Decides, sym, refl, ap, ◌∙◌, subst, ap₂, append_assoc, append-nil, arith}
use Rattle.std.proofs.lemmas.List.{length-append, length-map, map-append, length-drop, drop_more, set_at}
use Rattle.std.proofs.lemmas.Bool.{cond-false}
use Rattle.std.specs.List.{filter, range_with_len}
use Rattle.std.proofs.lemmas.Bool.Decides.{same_from_decides}
use Rattle.shape.specs.declared.stretch.Stretch.{Stretch}
use Rattle.shape.specs.Ranges.{stretch, row_from, rows_from, inside}
use Rattle.shape.specs.Fits.{Rule}
use Rattle.ends.specs.declared.Ends.{Ends}
use Rattle.ends.specs.Member.{member, tally}
use Rattle.ends.specs.Positions.{members}
use Rattle.tables.specs.declared.table.Table.{Table}
use Rattle.tables.specs.Holds.{holds, Held}
use Rattle.tables.proofs.Sums.{rows_more}
use Rattle.wholes.specs.declared.view.View.TheVariants.{From}
use Rattle.wholes.specs.Shows.{Shows}
use Rattle.wholes.proofs.Counts.{inside_same}
use Rattle.matcher.specs.Answers.{Puts, stretches}

-- the positions that pass a test
module _ (m : ℕ → Bool) where
  skip_none : (d e x : ℕ) → ((k : ℕ) → x ≤ k → k < x + d → m k ≡ false) → filter m (range_with_len x (d + e)) ≡ filter m (range_with_len (x + d) e)
  skip_none zero e x h = let z : 0 + e ≡ e = omega arith in let q : x ≡ x + 0 = omega arith in ap₂ (λ (y i : ℕ). filter m (range_with_len y i)) q z
  skip_none (suc d) e x h =
      let z : suc d + e ≡ suc (d + e) = omega arith in
      let q : (x + 1) + d ≡ x + suc d = omega arith in
      ap (λ (i : ℕ). filter m (range_with_len x i)) z ∙ cond-false (m x) _ _ (h x (omega arith) (omega arith))
      ∙ skip_none d e (x + 1) (λ k l u. h k (omega arith) (omega arith)) ∙ ap (λ (y : ℕ). filter m (range_with_len y e)) q

  none_listed : (d x : ℕ) → ((k : ℕ) → x ≤ k → k < x + d → m k ≡ false) → filter m (range_with_len x d) ≡ []
  none_listed d x h = let z : d ≡ d + 0 = omega arith in ap (λ (i : ℕ). filter m (range_with_len x i)) z ∙ skip_none d 0 x h

  -- there are as many as are counted
  pub length_listed : (d x : ℕ) → tally d x m ≡ length (filter m (range_with_len x d))
  unfolding tally
  length_listed zero x = refl
  length_listed (suc d) x =
      let q : suc x ≡ x + 1 = omega arith in
      ap (λ (c : ℕ). cond (m x) 1 0 + c) (ap (λ (y : ℕ). tally d y m) q ∙ length_listed d (x + 1)) ∙ here (m x)
    where
      here : (t : Bool) → cond t 1 0 + length (filter m (range_with_len (x + 1) d)) ≡ length (cond t (x ∷ filter m (range_with_len (x + 1) d)) (filter m (range_with_len (x + 1) d)))
      here true = omega arith
      here false = omega arith

  listed : (test : ℕ → ℕ → Bool) (a d e x : ℕ) → ((k : ℕ) → x ≤ k → k < x + d → m k ≡ test a k) → ((k : ℕ) → x + d ≤ k → k < (x + d) + e → m k ≡ false) →
      map (stretch a) (filter m (range_with_len x (d + e))) ≡ row_from d a x test
  unfolding row_from
  listed test a zero e x h o = ap (map (stretch a)) (none_listed (0 + e) x (λ k l u. o k (omega arith) (omega arith)))
  listed test a (suc d) e x h o =
      let z : suc d + e ≡ suc (d + e) = omega arith in
      let q : x + 1 ≡ suc x = omega arith in
      ap (λ (i : ℕ). map (stretch a) (filter m (range_with_len x i))) z
      ∙ ap (λ (t : Bool). map (stretch a) (cond t (x ∷ filter m (range_with_len (x + 1) (d + e))) (filter m (range_with_len (x + 1) (d + e))))) (h x (omega arith) (omega arith))
      ∙ here (test a x) (listed test a d e (x + 1) (λ k l u. h k (omega arith) (omega arith)) (λ k l u. o k (omega arith) (omega arith)) ∙ ap (λ (y : ℕ). row_from d a y test) q)
    where
      here : (t : Bool) → map (stretch a) (filter m (range_with_len (x + 1) (d + e))) ≡ row_from d a (suc x) test →
          map (stretch a) (cond t (x ∷ filter m (range_with_len (x + 1) (d + e))) (filter m (range_with_len (x + 1) (d + e))))
          ≡ cond t (stretch a x ∷ row_from d a (suc x) test) (row_from d a (suc x) test)
      here true r = ap (λ (l : List Stretch). stretch a x ∷ l) r
      here false r = r

-- there are as many stretches to the ends of a row as it has ends
pub length_stretches : (a : ℕ) (row : Ends) → length (stretches a row) ≡ tally 256 0 (member row)
length_stretches a row = length-map (members row) (stretch a) ∙ sym (length_listed (member row) 256 0)

-- the stretches to the ends of a row, where each stretch of the test rises and ends on the line
pub row_listed : (test : ℕ → ℕ → Bool) (row : ℕ → Bool) (a n : ℕ) → a < n → n < 256 → ((x y : ℕ) → test x y ≡ true → (x < y) × (y ≤ n)) → ((k : ℕ) → row k ≡ test a k) →
    map (stretch a) (filter row (range_with_len 0 256)) ≡ row_from (n - a) a (suc a) test
row_listed test row a n l s rising held =
    let e : 256 ≡ suc a + ((n - a) + (255 - n)) = omega arith in
    let z : 0 + suc a ≡ suc a = omega arith in
    ap (λ (d : ℕ). map (stretch a) (filter row (range_with_len 0 d))) e
    ∙ ap (map (stretch a)) (skip_none row (suc a) ((n - a) + (255 - n)) 0 (λ k u v. none k (test a k) refl (λ r. omega arith)))
    ∙ ap (λ (x : ℕ). map (stretch a) (filter row (range_with_len x ((n - a) + (255 - n))))) z
    ∙ listed row test a (n - a) (255 - n) (suc a) (λ k u v. held k) (λ k u v. none k (test a k) refl (λ r. omega arith))
  where
    none : (k : ℕ) (t : Bool) → test a k ≡ t → ((a < k) × (k ≤ n) → ⊥) → row k ≡ false
    none k true e f = absurd (f (rising a k e))
    none k false e f = held k ∙ e

-- writing
pub puts_none : (before : List Stretch) (place : ℕ) → Puts before before [] place
puts_none before place xs base e h = let z = append-nil xs in h ∙ sym (ap (λ (ys : List Stretch). ys ++ drop (length ys) base) z)

pub puts_one : (before now done : List Stretch) (place at : ℕ) (y : Stretch) → at ≡ place + length done → at < length now →
    Puts before now done place → Puts before (set now at y) (done ++ y ∷ []) place
puts_one before now done place at y e l p xs base x h =
    let ys = xs ++ done in
    let q = p xs base x h in
    let m = length-append xs done in
    let n : at ≡ length ys = omega arith in
    let w = ap length q in
    let v = length-append ys (drop (length ys) base) in
    let d = length-drop (length ys) base in
    let room : length ys < length base = omega arith in
    let assoc : (xs ++ done) ++ y ∷ [] ≡ xs ++ (done ++ y ∷ []) = append_assoc xs done (y ∷ []) in
    let longer : length (xs ++ (done ++ y ∷ [])) ≡ length ys + 1 = ap length (sym assoc) ∙ length-append ys (y ∷ []) in
    ap₂ (λ (zs : List Stretch) (i : ℕ). set zs i y) q n
    ∙ ap (λ (zs : List Stretch). set (ys ++ zs) (length ys) y) (drop_more base (length ys) y room)
    ∙ set_at ys (get_or base (length ys) y) (drop (length ys + 1) base) y (length ys) refl
    ∙ sym (append_assoc ys (y ∷ []) (drop (length ys + 1) base))
    ∙ ap₂ (λ (zs : List Stretch) (i : ℕ). zs ++ drop i base) assoc (sym longer)

-- there is room for one more
pub row_room : (all done rest : List ℕ) (place i a b room : ℕ) → all ≡ done ++ b ∷ rest → length done ≡ i → place + length (map (stretch a) all) ≤ room →
    place + i < room
row_room all done rest place i a b room e d l =
    let m = length-map all (stretch a) in
    let n = ap length e ∙ length-append done (b ∷ rest) in
    omega arith

-- one more stretch of a row is written
pub puts_more : (before now : List Stretch) (done : List ℕ) (place i a b : ℕ) → length done ≡ i → place + i < length now →
    Puts before now (map (stretch a) done) place → Puts before (set now (place + i) (stretch a b)) (map (stretch a) (done ++ b ∷ [])) place
puts_more before now done place i a b e l p =
    let m = length-map done (stretch a) in
    subst (λ (k : List Stretch). Puts before (set now (place + i) (stretch a b)) k place) (sym (map-append (stretch a) done (b ∷ [])))
    (puts_one before now (map (stretch a) done) place (place + i) (stretch a b) (omega arith) l p)

pub puts_then : (before mid after d e : List Stretch) (place at : ℕ) → at ≡ place + length d → Puts before mid d place → Puts mid after e at →
    Puts before after (d ++ e) place
puts_then before mid after d e place at q f g xs base x h =
    let m = length-append xs d in
    g (xs ++ d) base (omega arith) (f xs base x h) ∙ ap (λ (ys : List Stretch). ys ++ drop (length ys) base) (append_assoc xs d e)

-- the rows up to a, and row a
pub rows_next : (test : ℕ → ℕ → Bool) (n a : ℕ) → rows_from a 0 n test ++ row_from (n - a) a (suc a) test ≡ rows_from (a + 1) 0 n test
rows_next test n a =
    let e : a + 1 ≡ suc a = omega arith in
    let z : 0 + a ≡ a = omega arith in
    sym (ap (λ (d : ℕ). rows_from d 0 n test) e ∙ rows_more test a 0 n ∙ ap (λ (i : ℕ). rows_from a 0 n test ++ row_from (n - i) i (suc i) test) z)

-- there is room for each row
pub rows_room : (test : ℕ → ℕ → Bool) (n a : ℕ) → a < n → length (rows_from a 0 n test) + length (row_from (n - a) a (suc a) test) ≤ length (rows_from n 0 n test)
rows_room test n a l = grow (n - suc a) n (omega arith)
  where
    grow : (d m : ℕ) → m ≡ suc a + d → length (rows_from a 0 n test) + length (row_from (n - a) a (suc a) test) ≤ length (rows_from m 0 n test)
    grow zero m e =
        let f : m ≡ a + 1 = omega arith in
        let g = ap length (rows_next test n a ∙ sym (ap (λ (x : ℕ). rows_from x 0 n test) f)) in
        let h = length-append (rows_from a 0 n test) (row_from (n - a) a (suc a) test) in
        omega arith
    grow (suc d) m e =
        let r = grow d (suc a + d) refl in
        let f : m ≡ (suc a + d) + 1 = omega arith in
        let g = ap length (rows_next test n (suc a + d) ∙ sym (ap (λ (x : ℕ). rows_from x 0 n test) f)) in
        let h = length-append (rows_from (suc a + d) 0 n test) (row_from (n - (suc a + d)) (suc a + d) (suc (suc a + d)) test) in
        omega arith

-- the table of what a rule fits has the rule's stretches inside the line
pub inside_shown : (P : Rule) (n : ℕ) (t rising : Table) → n < 256 → Shows t P (From 0) n n →
    ((a b : ℕ) → Decides (holds rising a b) ((a < b) × (b < 256) × Held t a b)) → inside (holds rising) 0 n ≡ inside (P 0) 0 n
inside_shown P n t rising small shown rises =
    inside_same (holds rising) (P 0) 0 n (λ p q lo lt hi.
    same_from_decides (holds rising p q) (P 0 p q) (rises p q) (
      λ e. (lt, omega arith, shown.full p q (record { low = omega arith; up = omega arith; high = hi; fit = e })),
      λ h. (shown.sound p q h.2).fit,
    ))
