-- The words of a pile.
use Rattle.std.specs.Prelude.{◌≡◌, ℕ, ◌-◌, ◌^◌, ◌<◌, ◌≤◌, ◌++◌, List, reverse, length, take, drop, min, slice_index}
use Rattle.std.proofs.Common.{sym, ap, ◌∙◌, ⊎_elim, arith}
use Rattle.std.proofs.lemmas.List.{length-drop, length-reverse, reverse-append, take-append-drop, drop_at, drop_min, get_or-reverse, get_or_past}
use Rattle.std.proofs.lemmas.Bool.{cases_lt}
use Rattle.fixed.specs.declared.stack.Stack.{Stack}
use Rattle.fixed.specs.Items.{piled}

pub pile_short : (s : Stack ℕ 255) → length (reverse (piled s)) ≤ 255
pile_short s = let whole = s.whole in simp (length-reverse, length-drop) (omega arith)

pub pile_narrow : (pile : List ℕ) → ((i : ℕ) → slice_index pile i < 2 ^ 32) → (t : ℕ) → slice_index (reverse pile) t < 2 ^ 32
pile_narrow pile narrow t =
    ⊎_elim (λ (inside : t < length pile). rw (get_or-reverse pile t 0 inside) (narrow (length pile - 1 - t)))
    (λ (out : length pile ≤ t). let past_all : length (reverse pile) ≤ t = rw length-reverse out in rw get_or_past (omega arith)) (cases_lt t (length pile))

-- the words from a step on lie in front of those of the steps before it
pub from_step : (pile : List ℕ) (step : ℕ) → reverse (take (length pile - step) pile) ≡ drop step (reverse pile)
from_step pile step =
    let front = take (length pile - step) pile in
    let behind = drop (length pile - step) pile in
    let size : length (reverse behind) ≡ min step (length (reverse pile)) = simp (length-reverse, length-drop) (omega arith) in
    let parts : reverse pile ≡ reverse behind ++ reverse front = ap reverse (sym (take-append-drop (length pile - step) pile)) ∙ reverse-append front behind in
    sym (sym (drop_min step (reverse pile)) ∙ ap (drop (min step (length (reverse pile)))) parts ∙ drop_at (reverse behind) (reverse front) _ size)
