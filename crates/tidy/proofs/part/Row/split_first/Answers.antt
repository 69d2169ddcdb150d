use Rattle.std.proofs.Common.{◌-◌, ℕ, drop, ap, ◌∙◌, arith}
use Rattle.rules.specs.Places.{stand_first}
use Rattle.rules.proofs.Firsts.{row_part, row_others}
use Rattle.tidy.proofs.part.Row.split_first.Goals as goal

pub invariant_of-first : goal.invariant_of-first
invariant_of-first c = record { stands = row_part c.args.self.records.now c.args.self.at c.args.self.count (omega arith) c.args.self.stand }

pub invariant_of-others : goal.invariant_of-others
invariant_of-others c = record {
  stand =
      ap (λ (k : ℕ). stand_first (c.args.self.count - 1) (drop k c.args.self.records.now)) c.end.ensures
      ∙ row_others c.args.self.records.now c.args.self.at c.args.self.count (omega arith) c.args.self.stand;
}
