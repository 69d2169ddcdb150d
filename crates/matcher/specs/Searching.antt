-- What a search goes by, and what it finds. Assumes nothing.
use Rattle.std.specs.Prelude.{ℕ, List}
use Rattle.query.specs.Tree.{Query}
use Rattle.query.specs.Stands.{query_in}
use Rattle.shape.specs.declared.stretch.Stretch.{Stretch}
use Rattle.shape.specs.Ranges.{inside}
use Rattle.steps.specs.Meaning.{steps_of}
use Rattle.tables.specs.Holds.{holds}
use Rattle.matcher.specs.declared.found.Found.{Found}
use Rattle.matcher.specs.declared.search.Search.{Search}

-- the words of the line
abbrev pub line : Search → List ℕ
line s = steps_of s.steps.now

-- the query that is searched
abbrev pub sought : Search → Query
sought s = query_in s.records.now

-- the stretches that are found, by start and then by end
abbrev pub all : Found → List Stretch
all f = inside (holds f.table) 0 f.n
