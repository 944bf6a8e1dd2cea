-- Passes between two ingests.
use Rattle.fish_ingest.specs.Ingestion.{CanStart}
use Rattle.fish_rule.specs.Passes.{IsPassOf, view}
use Rattle.fish_rule.specs.declared.table.Log.{Log}
use Rattle.fish_rule.specs.declared.table.Pass.{Pass}

-- the pass is one of the log, and isn't entered
pub record IsOutOf (log : Log) (pass : Pass) : Type 0 where
  pub of : IsPassOf log pass
  pub start : CanStart (view pass)
