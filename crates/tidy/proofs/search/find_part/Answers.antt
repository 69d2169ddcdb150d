use Rattle.std.proofs.Common.{ℕ, List, refl, rules, tests}
use Rattle.std.proofs.lemmas.Iterator.Consumers.{YieldsList-from_first}
use Rattle.std.proofs.lemmas.Iterator.Search.{find_from_yields_List}
use Rattle.query.specs.declared.node.Node.{Node}
use Rattle.query.specs.Stands.{at}
use Rattle.tidy.specs.Rows.{place, places_of}
use Rattle.tidy.specs.Searches.{wants_record}
use Rattle.tidy.proofs.search.find_part.Goals as goal

pub returns : goal.returns
returns c =
    find_from_yields_List (λ (p : List Node × ℕ). wants_record c.args.wanted (at p.0 p.1)) c.find.new.self _ c.find.result c.find.ensures.ran
    (YieldsList-from_first place places_of (places_of c.args.parts) refl) (λ x b q k. search (rules, tests))
