use Rattle.std.proofs.Common.{◌≡◌, length, nat_le, rules}
use Rattle.std.proofs.lemmas.Bool.Decides.{Decides-at}
use Rattle.query.specs.Stands.{is_query}
use Rattle.query.proofs.Standing.{decides_query}
use Rattle.query.proofs.is_query.Goals as goal

pub returns-then-few-clause-exact : goal.returns-then-few-clause-exact
unfolding is_query
returns-then-few-clause-exact c =
    let e : c.eq.result ≡ is_query c.args.stage c.args.records.now = search rules in
    Decides-at _ _ e (decides_query c.args.stage c.args.records.now)

pub returns-else-few-clause-exact : goal.returns-else-few-clause-exact
unfolding is_query
returns-else-few-clause-exact c =
    let e : nat_le (length c.args.records.now) 64 ≡ is_query c.args.stage c.args.records.now = search rules in
    Decides-at _ _ e (decides_query c.args.stage c.args.records.now)
