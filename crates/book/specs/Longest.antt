-- A run reaches just as far as the words have the symbol.
use Rattle.std.specs.Prelude.{◌≡◌, ℕ, zero, suc, ◌+◌, ◌-◌, ◌<◌, ◌≤◌, true, false, cond, ◌&&◌, ltb, List, [], ◌∷◌, length, drop, nat_lt, slice_index, refl}
use Rattle.std.specs.List.{prefix_len, take_while}
use Rattle.std.proofs.Common.{sym, ap, ap₂, ◌∙◌, ⊎_elim, arith}
use Rattle.std.proofs.Math.Dec.{leb-suc-suc}
use Rattle.std.proofs.lemmas.List.{get_or-drop, length-drop}
use Rattle.std.proofs.lemmas.List.Folds.{length-prefix_len}
use Rattle.std.proofs.lemmas.Bool.{both_ways, cases_lt, cases_Bool, lt-ltb, le-ltb}
use Rattle.std.proofs.lemmas.Bool.Decides.{nat_tests}
use Rattle.word.specs.Words.{has}
use Rattle.book.specs.Words.{marked, run_front, run_from, AllMarked, RunLongest}

marked_first : (w : ℕ) (ws : List ℕ) (j : ℕ) → marked (w ∷ ws) j 0 ≡ has w j
marked_first w ws j = ap (λ t. t && has w j) (lt-ltb 0 (suc (length ws)) (omega arith))

marked_next : (w : ℕ) (ws : List ℕ) (j i : ℕ) → marked (w ∷ ws) j (suc i) ≡ marked ws j i
marked_next w ws j i = ap (λ t. t && has (slice_index ws i) j) (leb-suc-suc (suc i) (length ws))

run_on : (w : ℕ) (ws : List ℕ) (j : ℕ) → has w j ≡ true → run_front (w ∷ ws) j ≡ suc (run_front ws j)
unfolding run_front
run_on w ws j h = ap (λ t. cond t (suc (run_front ws j)) 0) h

run_off : (w : ℕ) (ws : List ℕ) (j : ℕ) → has w j ≡ false → run_front (w ∷ ws) j ≡ 0
unfolding run_front
run_off w ws j h = ap (λ t. cond t (suc (run_front ws j)) 0) h

-- the run at the front, as taking words counts it
front_counted : (ws : List ℕ) (j : ℕ) → prefix_len (λ w. has w j) ws ≡ run_front ws j
unfolding run_front
front_counted [] j = refl
front_counted (w ∷ ws) j = ap (λ k. cond (has w j) k 0) (omega (arith, front_counted ws j))

pub run_counted : (ws : List ℕ) (j t : ℕ) → length (take_while (λ w. has w j) (drop t ws)) ≡ run_from ws j t
run_counted ws j t = length-prefix_len (λ w. has w j) (drop t ws) ∙ front_counted (drop t ws) j

front_marked : (ws : List ℕ) (j i : ℕ) → i < run_front ws j → marked ws j i ≡ true
unfolding run_front
front_marked [] j i h = absurd (omega arith)
front_marked (w ∷ ws) j zero h =
    ⊎_elim (λ on. marked_first w ws j ∙ on) (λ off. absurd (omega (arith, run_off w ws j off))) (cases_Bool (has w j))
front_marked (w ∷ ws) j (suc i) h =
    ⊎_elim (λ on. marked_next w ws j i ∙ front_marked ws j i (omega (arith, run_on w ws j on))) (λ off. absurd (omega (arith, run_off w ws j off))) (cases_Bool (has w j))

front_stops : (ws : List ℕ) (j : ℕ) → marked ws j (run_front ws j) ≡ false
unfolding run_front
front_stops [] j = refl
front_stops (w ∷ ws) j =
    ⊎_elim (λ on. ap (marked (w ∷ ws) j) (run_on w ws j on) ∙ marked_next w ws j (run_front ws j) ∙ front_stops ws j)
    (λ off. ap (marked (w ∷ ws) j) (run_off w ws j off) ∙ marked_first w ws j ∙ off) (cases_Bool (has w j))

marked_drop : (ws : List ℕ) (j t i : ℕ) → marked (drop t ws) j i ≡ marked ws j (t + i)
marked_drop ws j t i =
    let inside : ltb i (length (drop t ws)) ≡ ltb (t + i) (length ws) = simp length-drop (grind (arith, nat_tests)) in
    ap₂ (λ b w. b && has w j) inside (get_or-drop t ws i 0)

run_marked : (ws : List ℕ) (j t : ℕ) → AllMarked ws j t (run_from ws j t)
run_marked ws j t i h = sym (marked_drop ws j t i) ∙ front_marked (drop t ws) j i h

run_stops : (ws : List ℕ) (j t : ℕ) → marked ws j (t + run_from ws j t) ≡ false
run_stops ws j t = sym (marked_drop ws j t (run_from ws j t)) ∙ front_stops (drop t ws) j

at_most : (ws : List ℕ) (j t k m : ℕ) → AllMarked ws j t k → marked ws j (t + m) ≡ false → k ≤ m
at_most ws j t k m all stop = ⊎_elim (λ lt. absurd (both_ways _ stop (all m lt))) (λ le. le) (cases_lt m k)

pub longest : RunLongest
longest ws j t = (run_marked ws j t, λ k all. at_most ws j t k (run_from ws j t) all (run_stops ws j t))

-- the words have the symbol for k steps and not at the next: the run is k
pub run_is : (ws : List ℕ) (j t k : ℕ) → AllMarked ws j t k → marked ws j (t + k) ≡ false → run_from ws j t ≡ k
run_is ws j t k all stop =
    let far = at_most ws j t k (run_from ws j t) all (run_stops ws j t) in
    let near = at_most ws j t (run_from ws j t) k (run_marked ws j t) stop in
    omega arith

-- a look along the steps from t on has come to step e: one step more has the symbol, or the run ends
module _ (ws : List ℕ) (j t e : ℕ) (from : t ≤ e) (all : AllMarked ws j t (e - t)) where
  pub run_more : marked ws j e ≡ true → AllMarked ws j t (e + 1 - t)
  run_more on i h =
      ⊎_elim (λ below. all i below) (λ last. let here : t + i ≡ e = omega arith in rw here on) (cases_lt i (e - t))

  pub run_ends : marked ws j e ≡ false → e - t ≡ run_from ws j t
  run_ends off = let here : t + (e - t) ≡ e = omega arith in sym (run_is ws j t (e - t) all (rw here off))

-- a step is marked just where a run goes on from it
pub marked_run : (ws : List ℕ) (j t : ℕ) → marked ws j t ≡ nat_lt 0 (run_from ws j t)
marked_run ws j t =
    let here : t + 0 ≡ t = omega arith in
    ⊎_elim (λ (some : 0 < run_from ws j t). ap (marked ws j) (sym here) ∙ run_marked ws j t 0 some ∙ sym (lt-ltb 0 _ some))
    (λ (none : run_from ws j t ≤ 0).
    let ends : t + run_from ws j t ≡ t = omega arith in
    ap (marked ws j) (sym ends) ∙ run_stops ws j t ∙ sym (le-ltb 0 _ none))
    (cases_lt 0 (run_from ws j t))
