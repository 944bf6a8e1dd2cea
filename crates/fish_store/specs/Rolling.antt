-- A table that takes another one's place, where all of that is committed.
use Rattle.std.specs.Prelude.{ℕ, ◌≡◌, ◌+◌, ◌^◌, List, None, map, ⊤}
use Rattle.fish_catalog.specs.Clamps.{clamped}
use Rattle.fish_disk.specs.declared.disk.Disk.{Ghosts as Disks}
use Rattle.fish_flush.specs.Rows.{HoldsRows}
use Rattle.fish_registry.specs.Knowing.{KnowsFirst}
use Rattle.fish_rule.specs.LoadSteps.{IsAlone}
use Rattle.fish_rule.specs.Passes.{IsPassOf, view}
use Rattle.fish_rule.specs.Start.{table_lines}
use Rattle.fish_rule.specs.Table.{first_view}
use Rattle.fish_scan.specs.Colder.{IsBelow}
use Rattle.fish_store.specs.Points.{point_at}
use Rattle.fish_store.specs.Sound.{MayGoOn, StoreRuns}
use Rattle.fish_store.specs.declared.store.Store.{Store}
use Rattle.fish_walk.specs.Settling.{EndsAt, HasTail}

-- another table may take this one's place: the control pass has all lanes and nothing in flight, it knows the
-- registrar's rows, a checkpoint may follow, and the log ends at the last commit's count, so that all of it is
-- committed
pub record MayRoll {D : Type 0} (images : D → List ℕ → Type 0) (disk : D) (s : Store) : Type 0 where
  pub pass : IsPassOf s.log s.pass
  pub alone : IsAlone (view s.pass)
  pub rows : HoldsRows (view s.pass) s.registrar.catalog
  pub commit : MayGoOn images (point_at disk s)
  pub count : ℕ
  pub tail : HasTail (view s.pass) count
  pub ends : EndsAt (view s.pass) s.file.flusher.count count

-- another table took its place: of the same shape, at its first view, it begins where the last commit ends, at the
-- version that the control pass knew, with the registrar's rows cut to that count; a checkpoint may follow; and the
-- store went on to it
pub record HasRolled {D : Type 0} (disks : Disks D) (disk : D) (old new : Store) : Type 0 where
  pub pass : IsPassOf new.log new.pass
  pub first : view new.pass ≡ first_view new.log.key
  pub number : new.log.key.number ≡ old.file.flusher.count
  pub line : new.log.key.line ≡ old.file.flusher.line
  pub version : new.log.key.version ≡ (view old.pass).learned.version
  pub knows : KnowsFirst new.registrar
  pub catalog : new.registrar.catalog ≡ map (clamped old.file.flusher.count) old.registrar.catalog
  pub rows : new.log.key.rows.value ≡ new.registrar.catalog
  pub shape : new.log.shape ≡ old.log.shape
  pub buckets : new.log.key.buckets ≡ 2 ^ old.log.shape.bucket_bits
  pub end : new.log.key.end
      ≡ old.file.flusher.line + table_lines old.log.shape.pages old.file.flusher.count old.file.flusher.line
  pub flusher : new.file.flusher ≡ old.file.flusher
  pub below : IsBelow new.log.key new.file.cold
  pub commit : MayGoOn disks.images (point_at disk new)
  pub unshut : (view new.pass).shut ≡ None
  pub runs : StoreRuns disks (point_at disk old) (point_at disk new) (λ w. ⊤)
