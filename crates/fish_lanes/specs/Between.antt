-- A store between two blocks: what a block needs of it, and leaves of it.
use Rattle.std.specs.Prelude.{ℕ, List}
use Rattle.fish_lanes.specs.Controlling.{CanControl}
use Rattle.fish_lanes.specs.Ending.{EndsAlone}
use Rattle.fish_lanes.specs.Registering.{KnowsRegistry, registry_of}
use Rattle.fish_rule.specs.Passes.{view}
use Rattle.fish_scan.specs.Colder.{IsBelow}
use Rattle.fish_store.specs.Points.{point_at}
use Rattle.fish_store.specs.Sound.{MayGoOn}
use Rattle.fish_store.specs.declared.store.Store.{Store}

-- the log has so many entries, as the control pass knows, which is out and has all lanes; it knows what the registrar
-- keeps; a checkpoint may follow; and the store's file has what is older than the table
pub record IsBetweenBlocks {D : Type 0} (images : D → List ℕ → Type 0) (disk : D) (s : Store) (from : ℕ) : Type 0 where
  pub can : CanControl s.log s.pass s.registrar
  pub commit : MayGoOn images (point_at disk s)
  pub below : IsBelow s.log.key s.file.cold
  pub end : EndsAlone (view s.pass) from
  pub known : KnowsRegistry (view s.pass) (registry_of (view s.pass) s.registrar)
