use Rattle.query.proofs.Standing.{is_query_sound}
use Rattle.query.proofs.records_stand.Goals as goal

pub returns : goal.returns
returns c = is_query_sound
