use Rattle.std.proofs.Common.{◌≡◌, ◌≤◌, drop}
use Rattle.grammar.specs.Names.{natural_after, natural}
use Rattle.grammar.proofs.number_of.Given as goal

-- the number so far, and then the digits that are left
abbrev pub invariant-loop-digit : goal.invariant-loop-digit
invariant-loop-digit l = (natural_after l.number (drop l.digit-index l.digits) ≡ natural l.digits) × (l.number ≤ 255)
