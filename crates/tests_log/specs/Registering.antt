-- The control pass and its registrar between two calls.
use Rattle.std.specs.Prelude.{◌≡◌, ◌<◌, List, [], ◌∷◌, All, None, length}
use Rattle.fish_epoch.specs.declared.definitions.Defs.{Defs}
use Rattle.fish_ingest.specs.Ingestion.{CanIngest}
use Rattle.fish_registry.specs.Knowing.{Knows}
use Rattle.fish_registry.specs.declared.registrar.Registrar.{Registrar}
use Rattle.fish_rule.specs.Passes.{IsPassOf, view}
use Rattle.fish_rule.specs.declared.table.Log.{Log}
use Rattle.fish_rule.specs.declared.table.Pass.{Pass}
use Rattle.fish_rule.specs.declared.view.Epoch.TheVariants.{Out}
use Rattle.tests_log.specs.Lanes.{IsOutOf}

-- the pass is one of the log and isn't entered, and the registrar keeps what it knows
pub record IsKept (log : Log) (pass : Pass) (registrar : Registrar) : Type 0 where
  pub of : IsPassOf log pass
  pub knows : Knows (view pass) registrar
  pub outside : (view pass).epoch ≡ Out

-- the same, and the pass may ingest under definitions that it read
pub record IsWorking (log : Log) (pass : Pass) (registrar : Registrar) (defs : Defs) : Type 0 where
  pub kept : IsKept log pass registrar
  pub ready : CanIngest log pass defs

-- the pass and its registrar, and lanes 2 to 4 are out beside it, with nothing in flight
pub record IsBeside (log : Log) (pass : Pass) (registrar : Registrar) : Type 0 where
  pub kept : IsKept log pass registrar
  pub control : (view pass).lane ≡ 1
  pub idle : (view pass).flight ≡ None
  pub out : (view pass).out ≡ 4 ∷ 3 ∷ 2 ∷ []

-- some seats, each with a pass of the log that isn't entered
pub record AreOut {A : Type 0} (log : Log) (seats : List A) (pass_of : A → Pass) : Type 0 where
  pub all : All (λ seat. IsOutOf log (pass_of seat)) seats
  pub some : 0 < length seats
