-- The control pass and its registrar beside lanes that ingest.
use Rattle.std.specs.Prelude.{ℕ, List, All}
use Rattle.bench.specs.Ingests.{IsIngestLane}
use Rattle.bench.specs.Opening.{IsControl}
use Rattle.bench.specs.declared.ingests.IngestLane.{IngestLane}
use Rattle.fish_registry.specs.Knowing.{Knows}
use Rattle.fish_registry.specs.declared.registrar.Registrar.{Registrar}
use Rattle.fish_rule.specs.Passes.{IsPassOf, view}
use Rattle.fish_rule.specs.declared.table.Log.{Log}
use Rattle.fish_rule.specs.declared.table.Pass.{Pass}

-- the control pass is idle, no lane above this one was given out, and the registrar keeps what it knows
pub record IsKept (top : ℕ) (log : Log) (pass : Pass) (registrar : Registrar) : Type 0 where
  pub of : IsPassOf log pass
  pub knows : Knows (view pass) registrar
  pub control : IsControl top (view pass)

-- each of the lanes may run
pub record AreLanes (log : Log) (lanes : List IngestLane) : Type 0 where
  pub all : All (IsIngestLane log) lanes
