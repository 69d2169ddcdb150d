-- What a walk through a query finds, and where it may go. Assumes nothing.
use Rattle.std.specs.Prelude.{ℕ, ◌<◌, ◌≤◌, List, length}
use Rattle.query.specs.declared.node.Role.{Role}
use Rattle.shape.specs.Fits.{Rule}
use Rattle.steps.specs.Meaning.{steps_of}
use Rattle.ends.specs.declared.Ends.{Ends}
use Rattle.tables.specs.declared.table.Table.{Table}
use Rattle.wholes.specs.declared.view.View.TheVariants.{From}
use Rattle.wholes.specs.Shows.{Shows, Starts}
use Rattle.walk.specs.Walk.{Stands, EachStands, rule, rules}
use Rattle.walk.specs.declared.walk.Walk.{Walk}
use Rattle.walk.specs.declared.sight.Sight.{Sight}
use Rattle.walk.specs.declared.sight.Windows.{Windows}

-- the words of the line
abbrev pub line : Walk → List ℕ
line w = steps_of w.steps.now

-- what the query at record i fits
abbrev pub fitting : Walk → ℕ → Rule
fitting w i = rule (line w) w.records.now i

-- what each of k queries fits, the first at record i
abbrev pub fittings : Walk → ℕ → ℕ → List Rule
fittings w k i = rules (line w) w.records.now k i

-- a query of at most d levels stands at record i, and the walk begins there or left of it
pub record Query (w : Walk) (d : ℕ) (r : Role) (i : ℕ) : Type 0 where
  pub deep : d ≤ 16
  pub reached : w.from ≤ i
  pub stands : Stands d w.records.now r i

-- a query stands at record i, and the walk begins left of it
pub record Part (w : Walk) (d : ℕ) (r : Role) (i : ℕ) : Type 0 where
  pub deep : d ≤ 16
  pub reached : w.from < i
  pub stands : Stands d w.records.now r i

-- k queries stand one after another, the first at record i, and the walk begins left of it
pub record Parts (w : Walk) (d : ℕ) (r : Role) (k i : ℕ) : Type 0 where
  pub deep : d ≤ 16
  pub reached : w.from < i
  pub stand : EachStands d w.records.now r k i

-- the table shows what a rule fits in this sight
abbrev pub Seen : Sight → Table → Rule → Type 0
Seen s t P = Shows t P s.view s.to (length (line s.walk))

-- a condition holds of those windows that begin at these positions
abbrev pub Begun : Windows → Ends → Rule → Type 0
Begun w e Q = Starts e Q (From w.s) w.len w.to
