-- The runs of a symbol, the newest first, and the steps that they say carry it. Assumes nothing.
use Rattle.std.specs.Prelude.{◌≡◌, ℕ, ◌+◌, ◌-◌, Bool, true, cond, ◌&&◌, ◌||◌, List, [], ◌∷◌, ◌==◌, nat_le, nat_lt}
use Rattle.book.specs.declared.run.Run.{Run}

-- the step behind a run
abbrev pub past : Run → ℕ
past run = run.start + run.count

-- how many steps of a run are left from the step on: none if no run has the step
unfoldable pub left : List Run → ℕ → ℕ
left [] step = 0
left (run ∷ runs) step = cond (nat_le run.start step) (past run - step) (left runs step)

-- the step carries the symbol: a run has it
abbrev pub carried : List Run → ℕ → Bool
carried runs step = nat_lt 0 (left runs step)

-- The runs of a symbol over n steps: none is empty, none goes past the last step, and a step lies
-- between each two. So each is as long as can be.
unfoldable pub formed : ℕ → List Run → Bool
formed n [] = true
formed n (run ∷ runs) = (nat_lt 0 run.count && nat_le (past run) n) && formed (run.start - 1) runs

-- the runs over n steps, and then over one step more, of which it is said whether it carries the symbol
abbrev pub Pushed : ℕ → Bool → List Run → List Run → Type 0
Pushed n said before after = (formed (n + 1) after ≡ true) × ((t : ℕ) → carried after t ≡ (carried before t || (said && t == n)))

-- the runs over n + 1 steps, and then over the first n of them
abbrev pub Popped : ℕ → List Run → List Run → Type 0
Popped n before after = (formed n after ≡ true) × ((t : ℕ) → carried after t ≡ (carried before t && nat_lt t n))
