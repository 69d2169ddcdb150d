use Rattle.std.proofs.Common.{ℕ, List, is_some, refl, rules, tests}
use Rattle.std.proofs.lemmas.Iterator.Consumers.{YieldsList-from_first}
use Rattle.std.proofs.lemmas.Iterator.Search.{find_from_yields_List}
use Rattle.query.specs.declared.node.Node.{Node}
use Rattle.tidy.specs.Rows.{place, places_of}
use Rattle.tidy.specs.Searches.{pair_at}
use Rattle.tidy.proofs.search.find_partner.Goals as goal

pub returns : goal.returns
returns c =
    find_from_yields_List (λ (p : List Node × ℕ). is_some (pair_at c.args.whole (place c.args.x) p)) c.find.new.self _ c.find.result c.find.ensures.ran
    (YieldsList-from_first place places_of (places_of c.args.parts) refl) (λ x b q k. search (rules, tests))
