use Rattle.rules.proofs.Firsts.{row_fewer}
use Rattle.tidy.proofs.Finding.{reach_fewer}
use Rattle.tidy.proofs.part.Row.within.Goals as goal

pub invariant_of-result : goal.invariant_of-result
invariant_of-result c = record {
  stand = row_fewer c.args.self.records.now c.args.self.at c.args.self.count c.reach.result (reach_fewer c.args.whole c.args.self.count c.reach.result c.reach.ensures) c.args.self.stand;
}
