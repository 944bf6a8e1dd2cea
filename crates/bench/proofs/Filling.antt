-- A log that was filled since its store was made may be committed.
use Rattle.std.proofs.Common.{◌≡◌, ℕ, List, [], ap, sym, subst, false}
use Rattle.bench.specs.Checkpoints.{CanCheckpoint, IsFresh}
use Rattle.fish_catalog.specs.declared.row.CatRow.{CatRow}
use Rattle.fish_flush.proofs.Lasting.{carries_on, first_carries, first_holds, holds_on}
use Rattle.fish_flush.specs.Carrying.{CarriesLog}
use Rattle.fish_flush.specs.Kept.{IsAtRest, first_commit}
use Rattle.fish_flush.specs.Rows.{HoldsRows}
use Rattle.fish_flush.specs.declared.flusher.Flusher.{Flusher}
use Rattle.fish_ingest.specs.Ingestion.{CanStart}
use Rattle.fish_ingest.specs.Passing.{OnlyIngests}
use Rattle.fish_rule.specs.Passes.{IsPassOf, view}
use Rattle.fish_rule.specs.declared.table.Log.{Log}
use Rattle.fish_rule.specs.declared.table.Pass.{Pass}
use Rattle.fish_rule.specs.declared.table.Shape.{Shape}
use Rattle.fish_rule.specs.declared.view.View.{View}

-- the pass of a log without a record may start an ingest
pub fresh_starts : (shape : Shape) (rows : List CatRow) (log : Log) (pass : Pass) → IsFresh shape rows log pass
    → CanStart (view pass)
fresh_starts shape rows log pass fresh =
    record { live = fresh.of.live; outside = ap (λ (z : View). z.epoch) fresh.first }

-- what was stored since leaves all that a checkpoint asks for
pub filled : (images : List ℕ → Type 0) (shape : Shape) (rows : List CatRow) (log : Log) (pass later : Pass)
    (flusher : Flusher) → IsFresh shape rows log pass → IsAtRest images flusher (first_commit shape) []
    → flusher.shut ≡ false → IsPassOf log later → OnlyIngests (view pass) (view later)
    → CanCheckpoint images log later flusher rows
filled images shape rows log pass later flusher fresh rest live of on =
    let k = log.key in
    let v = view pass in
    let u = view later in
    let held : HoldsRows v rows =
    subst (λ (z : View × List CatRow). HoldsRows z.0 z.1) (λ i. (sym fresh.first i, fresh.rows_are i)) (first_holds k) in
    let carries : CarriesLog images flusher v log.shape rows (first_commit shape) [] =
    subst (λ (z : View × Shape). CarriesLog images flusher z.0 z.1 rows (first_commit shape) [])
    (λ i. (sym fresh.first i, sym fresh.shape_is i))
    (first_carries images flusher shape k rows rest fresh.number fresh.line) in
    record {
      of = of;
      live = live;
      held = holds_on v u rows (ap (λ (z : View). z.lane) on.frame) (ap (λ (z : View). z.rows) on.frame)
          (ap (λ (z : View). z.control_words) on.frame) held;
      commit = first_commit shape;
      entries = [];
      carries = carries_on images flusher v u log.shape rows rows (first_commit shape) [] carries on.learns carries.grown;
    }
