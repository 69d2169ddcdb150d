use Rattle.std.proofs.Common.{get_or, set, ap, ◌∙◌, arith}
use Rattle.query.specs.Stands.{blank}
use Rattle.fixed.specs.Items.{listed}
use Rattle.parser.proofs.Store.{change_at, change_past}
use Rattle.parser.proofs.machine.Machine.change.Goals as goal

pub returns-then-at-len-clause-nodes : goal.returns-then-at-len-clause-nodes
returns-then-at-len-clause-nodes g c f h =
    let xs = listed c.args.self.now.nodes in
    let at = c.args.at in
    c.put.ensures
    ∙ ap (set xs at) (h _ _ c.changed.ensures)
    ∙ ap (λ ys. set xs at (f (get_or ys at blank))) c.as_slice.ensures.items
    ∙ change_at f xs at blank (omega arith)

pub returns-else-at-len-clause-nodes : goal.returns-else-at-len-clause-nodes
returns-else-at-len-clause-nodes g c f h = change_past f (listed c.args.self.now.nodes) c.args.at (omega arith)
