-- How many words there are.
use Rattle.std.proofs.Common.{◌≤◌, length, arith}
use Rattle.std.proofs.lemmas.List.{length-take}
use Rattle.steps.specs.declared.Steps.{Steps}
use Rattle.steps.specs.Meaning.{steps_of}

-- at most 255
pub steps_few : (s : Steps) → length (steps_of s) ≤ 255
unfolding steps_of
steps_few s = let within = s.words.within in simp length-take (omega arith)
