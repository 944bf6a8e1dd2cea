-- What was ingested was told, and its number was counted.
use Rattle.std.proofs.Common.{arith}
use Rattle.fish_rule.proofs.laws.ClosedLogs.{known_closed}
use Rattle.fish_ingest.proofs.ingestion.law_ingested.Goals as goal

pub returns-clause-closed : goal.returns-clause-closed
returns-clause-closed c v u x form payload i entries h learns closed =
    known_closed u x i _ entries learns closed h.entry

pub returns-clause-ascend : goal.returns-clause-ascend
returns-clause-ascend c v u x t form other payload payload' m n first learns second =
    let counted = first.counted in
    let more = learns.count in
    let fresh = second.fresh in
    omega arith
