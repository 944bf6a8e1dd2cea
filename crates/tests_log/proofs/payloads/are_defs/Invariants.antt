-- Where the ids that are left ascend, all do.
use Rattle.std.proofs.Common.{drop, map}
use Rattle.fish_ingest.specs.Preparation.{id_of}
use Rattle.fish_ingest.proofs.PreparationDefs.{AscendFrom}
use Rattle.tests_log.proofs.payloads.are_defs.Given as goal

abbrev pub invariant-loop-active : goal.invariant-loop-active
invariant-loop-active l =
    AscendFrom l.least (map id_of (drop l.active-index l.defs)) → AscendFrom 0 (map id_of l.defs)
