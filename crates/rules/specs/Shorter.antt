-- When one query is as good as another and shorter. Assumes nothing.
use Rattle.std.specs.Prelude.{◌≡◌, ℕ, ◌<◌, ◌≤◌, true, List, length}
use Rattle.query.specs.declared.node.Role.{Role}
use Rattle.query.specs.declared.node.Stage.{Stage}
use Rattle.query.specs.Tree.{Query, records, levels}
use Rattle.query.specs.Rules.{keeps}
use Rattle.rules.specs.Laws.{FitAlike}

-- r fits what q fits, on every line, in fewer records and no more levels, and may stand wherever q may
pub record Shorter (q r : Query) : Type 0 where
  pub same : (words : List ℕ) → FitAlike words q r
  pub fewer : length (records r) < length (records q)
  pub flatter : levels r ≤ levels q
  pub kept : (s : Stage) (o : Role) → keeps s o q ≡ true → keeps s o r ≡ true
