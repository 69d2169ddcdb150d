-- What is told of a refusal.
use Rattle.std.specs.Prelude.{◌≡◌, ℕ, List, ◌∷◌, ◌++◌, decimal, codes}
use Rattle.refusal.specs.declared.Refused.{Refused}

-- a refusal with number n that returns v is told as it is
pub record Told (n v : ℕ) (told : Refused) : Type 0 where
  pub number : told.number ≡ n
  pub returned : told.returned ≡ v

-- as a text: `refused`, its number and what is returned
abbrev pub told_text : Refused → List ℕ
told_text r = codes "refused " ++ decimal r.number ++ 32 ∷ decimal r.returned
