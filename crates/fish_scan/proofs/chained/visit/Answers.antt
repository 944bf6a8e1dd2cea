-- What isn't damaged where the record was read isn't.
use Rattle.fish_cold.specs.within.Caching.{IsColdUndamaged}
use Rattle.fish_scan.proofs.OlderReads.{err_as}
use Rattle.fish_scan.proofs.chained.visit.Goals as goal

pub returns-in_err-payload-clause-whole : goal.returns-in_err-payload-clause-whole
returns-in_err-payload-clause-whole g c k h b n p key at =
    err_as c.from_residual.result IsColdUndamaged _ c.from_residual.ensures.1 (c.in_err-payload.ensures.whole k h b n p key at)
