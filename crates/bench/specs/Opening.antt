-- A log that was just opened, and the passes that are made of its control pass.
use Rattle.std.specs.Prelude.{ℕ, ◌≡◌, ◌≤◌, None}
use Rattle.bench.specs.declared.opening.Opened.{Opened}
use Rattle.fish_ingest.specs.Preparation.{AreDefs}
use Rattle.fish_ingest.specs.Ingestion.{CanStart}
use Rattle.fish_rule.specs.RegistrySteps.{CanEnter}
use Rattle.fish_rule.specs.within.Keys.{AreActive}
use Rattle.fish_rule.specs.Passes.{IsPassOf, view}
use Rattle.fish_rule.specs.Views.{Among}
use Rattle.fish_rule.specs.declared.table.Log.{Log}
use Rattle.fish_rule.specs.declared.table.Pass.{Pass}
use Rattle.fish_rule.specs.declared.view.Epoch.TheVariants.{Out}
use Rattle.fish_rule.specs.declared.view.View.{View}

-- a pass of the log that has nothing in flight and isn't entered, so it may enter, or start an ingest
pub record IsReady (log : Log) (pass : Pass) : Type 0 where
  pub of : IsPassOf log pass
  pub enter : CanEnter (view pass)
  pub start : CanStart (view pass)

-- the control pass, idle, when no lane above this one was given out
pub record IsControl (top : ℕ) (v : View) : Type 0 where
  pub control : v.lane ≡ 1
  pub idle : v.flight ≡ None
  pub outside : v.epoch ≡ Out
  pub below : (lane : ℕ) → Among lane v.out → lane ≤ top

-- the log is empty, and begins with the definitions
pub record IsOpened (opened : Opened) : Type 0 where
  pub pass : IsPassOf opened.log opened.control
  pub control : IsControl 1 (view opened.control)
  pub active : AreActive opened.log.key.rows.value opened.defs.items
  pub defs : AreDefs opened.defs.items
