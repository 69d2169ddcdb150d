-- The runs of a row, where it is known of the newest what it is.
use Rattle.std.specs.Prelude.{◌≡◌, ℕ, ◌+◌, ◌-◌, ◌<◌, ◌≤◌, ◌≢◌, true, List, [], ◌∷◌, Option, Some, None, length, drop, slice_get, nat_le, refl}
use Rattle.std.specs.List.{find}
use Rattle.std.specs.Option.{MatchOption}
use Rattle.std.proofs.Common.{sym, subst, ◌∙◌, ⊎_elim, arith, rules}
use Rattle.std.proofs.lemmas.Bool.{cases_lt, le-leb, lt-leb, cond-true, cond-false}
use Rattle.book.specs.declared.run.Run.{Run}
use Rattle.book.specs.Runs.{past, left, formed, Pushed, Popped}
use Rattle.book.specs.RunsLemmas.{opened, closed, formed_less, few, left_in, left_before, longer, shorter, push_on, pop_on, pop_gone}

pub formed_none : (n : ℕ) → formed n [] ≡ true
unfolding formed
formed_none n = refl

pub split : (run : Run) (runs : List Run) → slice_get runs 0 ≡ Some run → runs ≡ run ∷ drop 1 runs
split run [] first = search rules
split run (newest ∷ runs) first = search rules

pub none_row : (n : ℕ) (runs : List Run) → slice_get runs 0 ≡ None → formed n runs ≡ true
none_row n [] first = formed_none n
none_row n (newest ∷ runs) first = search rules

-- a row's runs, as its newest and those before it
module _ (n : ℕ) (run : Run) (runs : List Run) (first : slice_get runs 0 ≡ Some run) where
  as_split : (m : ℕ) → formed m runs ≡ true → formed m (run ∷ drop 1 runs) ≡ true
  as_split m f = subst (λ rs. formed m rs ≡ true) (split run runs first) f

  pub on_row : formed n runs ≡ true → past run ≡ n → Pushed n true runs (longer run ∷ drop 1 runs)
  on_row f reaches =
      subst (λ rs. Pushed n true rs (longer run ∷ drop 1 runs)) (sym (split run runs first)) (push_on n run (drop 1 runs) (as_split n f) reaches)

  pub less_row : formed (n + 1) runs ≡ true → past run ≤ n → formed n runs ≡ true
  less_row f low = subst (λ rs. formed n rs ≡ true) (sym (split run runs first)) (formed_less n run (drop 1 runs) (as_split (n + 1) f) low)

  pub other_row : formed n runs ≡ true → past run ≢ n → formed (n - 1) runs ≡ true
  other_row f other =
      let (more, low, rest) = opened n run (drop 1 runs) (as_split n f) in
      subst (λ rs. formed (n - 1) rs ≡ true) (sym (split run runs first)) (closed (n - 1) run (drop 1 runs) more (omega arith) rest)

  pub some_row : formed n runs ≡ true → 0 < run.count
  some_row f = (opened n run (drop 1 runs) (as_split n f)).0

  pub shorter_row : formed (n + 1) runs ≡ true → n < past run → 1 < run.count → Popped n runs (shorter run ∷ drop 1 runs)
  shorter_row f reaches more =
      subst (λ rs. Popped n rs (shorter run ∷ drop 1 runs)) (sym (split run runs first)) (pop_on n run (drop 1 runs) (as_split (n + 1) f) reaches more)

  pub gone_row : formed (n + 1) runs ≡ true → n < past run → run.count ≡ 1 → Popped n runs (drop 1 runs)
  gone_row f reaches one =
      subst (λ rs. Popped n rs (drop 1 runs)) (sym (split run runs first)) (pop_gone n run (drop 1 runs) (as_split (n + 1) f) reaches one)

-- the first run from the newest on that begins no later than the step tells what is left
pub left_told : (runs : List Run) (t n : ℕ) (found : Option Run) → found ≡ find (λ run. nat_le run.start t) runs
    → MatchOption found (n ≡ 0) (λ run. n ≡ past run - t) → n ≡ left runs t
unfolding left
left_told [] t n None is told = told
left_told [] t n (Some run) is told = search rules
left_told (newest ∷ runs) t n found is told =
    ⊎_elim
    (λ (before : t < newest.start).
    left_told runs t n found (is ∙ cond-false (nat_le newest.start t) _ _ (lt-leb newest.start t before)) told ∙ sym (left_before newest runs t before))
    (λ (here : newest.start ≤ t).
    let run = subst (λ o. MatchOption o (n ≡ 0) (λ run. n ≡ past run - t)) (is ∙ cond-true (nat_le newest.start t) _ _ (le-leb newest.start t here)) told in
    run ∙ sym (left_in newest runs t here))
    (cases_lt t newest.start)

-- a row has room for another run while fewer than 255 steps are over
pub roomy_row : (n : ℕ) (runs : List Run) → n < 255 → formed n runs ≡ true → length runs < 128
roomy_row n runs room f = let fits = few n runs f in omega arith
