-- The records at which parts stand, one after another. Assumes nothing.
use Rattle.std.specs.Prelude.{ℕ, zero, suc, List, [], ◌∷◌}
use Rattle.query.specs.Stands.{next_at}
use Rattle.walk.specs.declared.walk.Walk.{Walk}
use Rattle.walk.specs.declared.places.Places.{Places}

-- the records of k parts, the first at record i
abbrev pub places : Walk → ℕ → ℕ → List ℕ
places w zero i = []
places w (suc k) i = i ∷ places w k (next_at 16 w.records.now i)

-- those that are still to come
abbrev pub ahead : Places → List ℕ
ahead p = places p.walk p.count p.at
