-- What the blocks of a run leave, from its first moment on. Private clauses speak of it.
use Rattle.std.specs.Prelude.{ℕ, ◌≡◌, ◌||◌, List, [], ◌∷◌, ◌⊎◌, Bool, false, true, Option, None, Some, Result, Ok, Err}
use Rattle.fish_disk.specs.declared.disk.Disk.{Ghosts as Disks}
use Rattle.fish_lanes.specs.Registering.{registry_of}
use Rattle.fish_outside.specs.Content.{Files, Gained, GainedPart}
use Rattle.fish_report.specs.ReportText.{report_text}
use Rattle.fish_report.specs.declared.item.Item.{Item}
use Rattle.fish_report.specs.declared.item.Item.TheVariants as item
use Rattle.fish_rule.specs.Passes.{view}
use Rattle.fish_run.specs.Blocks.{Block, Round, first_registry, with_cut}
use Rattle.fish_run.specs.Ran.{IsBlockOf}
use Rattle.fish_run.specs.Reports.{block_items, said_refused}
use Rattle.fish_run.specs.Joins.{block_said}
use Rattle.fish_run.specs.Rounds.{AreRounds}
use Rattle.fish_run.specs.within.Runs.{CanClose, CanGoOn, IsAllKept}
use Rattle.fish_run.specs.within.Steps.{HasRounds, RunsAll, RunsSome, StopsRounds}
use Rattle.fish_run.specs.within.Faults.{IsWriteFault}
use Rattle.fish_run.specs.Tables.{AreRenewed}
use Rattle.fish_run.specs.declared.fault.RunFault.{RunFault}
use Rattle.fish_run.specs.declared.fault.RunFault.TheVariants as fault
use Rattle.fish_run.specs.declared.lasting.Stopped.{Stopped}
use Rattle.fish_run.specs.declared.running.Lasts.{Lasts}
use Rattle.fish_script.specs.declared.script.Block as script
use Rattle.fish_store.specs.Points.{point_at}
use Rattle.fish_store.specs.declared.store.Store.{Store}

-- ---- one block

-- a block ran, and was written
pub record EndsOne {D : Type 0} (disks : Disks D) (disk disk' : D) (a : Lasts) (told : Option Files)
    (text : script.Block) (old new : Option (List ℕ)) (before now : Bool) (b : Lasts) : Type 0 where
  pub go : CanGoOn disks.images disk' b.store b.count
  pub block : Block
  pub is : IsBlockOf told text block
  pub ran : HasRounds disks (point_at disk a.store) (point_at disk' b.store) a.count
      (registry_of (view a.store.pass) a.store.registrar) block.rounds false b.count
      (registry_of (view b.store.pass) b.store.registrar)
  pub renewed : AreRenewed (view a.store.pass).about.number block.rounds false false
  pub written : Gained old new (report_text (block_items block))
  pub refused : now ≡ before || said_refused (block_said block.rounds)

-- rounds and one that was cut are the first ones of the block, of which nothing was written; or all of it ran, and a
-- first part was written
abbrev pub HowStopped : Option Files → script.Block → Option (List ℕ) → Option (List ℕ) → Bool → Bool → List Round
    → Option Round → Stopped → Type 0
HowStopped told text old new before now rounds cut s =
    (AreRounds told text.lanes (with_cut rounds cut) × Gained old new [] × (s.why ≡ fault.Input → cut ≡ None)
    × (now ≡ before))
    ⊎ ((b : Block) × IsBlockOf told text b × (b.rounds ≡ rounds) × (cut ≡ None) × GainedPart old new
    (report_text (block_items b))
    × IsWriteFault s.why × (now ≡ before || said_refused (block_said b.rounds)))

-- a fault came before it ran, in it, or as it was written
pub record StopsOne {D : Type 0} (disks : Disks D) (disk disk' : D) (a : Lasts) (told : Option Files)
    (text : script.Block) (old new : Option (List ℕ)) (before now : Bool) (s : Stopped) : Type 0 where
  pub rounds : List Round
  pub cut : Option Round
  pub stops : StopsRounds disks (point_at disk a.store) disk' a.count
      (registry_of (view a.store.pass) a.store.registrar) rounds cut s
  pub renewed : AreRenewed (view a.store.pass).about.number (with_cut rounds cut) true false
  pub how : HowStopped told text old new before now rounds cut s

-- ---- a run

-- all blocks ran and were written; and where it is so, all of the log is committed, with its definitions
pub record EndsRunning {D : Type 0} (disks : Disks D) (disk disk' : D) (s : Store) (first : ℕ) (begin : Item)
    (told : Option Files) (text : List script.Block) (old new : Option (List ℕ)) (refused lasts : Bool) (b : Lasts)
    : Type 0 where
  pub close : CanClose b.store
  pub go : (lasts ≡ true → ⊥) → CanGoOn disks.images disk' b.store b.count
  pub runs : RunsAll disks (point_at disk s) (point_at disk' b.store) first (first_registry s.registrar.catalog)
      begin told text old new refused b.count
  pub committed : lasts ≡ true → IsAllKept disks.images disk' b.store

-- a fault stopped it
abbrev pub StopsRun : {D : Type 0} → Disks D → D → D → Store → ℕ → Item → Option Files → List script.Block
    → Option (List ℕ) → Option (List ℕ) → Bool → Stopped → Type 0
StopsRun disks disk disk' s first begin told text old new refused e =
    RunsSome disks (point_at disk s) disk' first (first_registry s.registrar.catalog) begin told text old new
    refused e

-- ---- the end

-- the last item was written where all blocks had run
abbrev pub Finishes : Result ℕ RunFault → Option RunFault → Option (List ℕ) → Option (List ℕ) → Type 0
Finishes (Ok count) None old new = Gained old new (report_text (item.Closed count ∷ []))
Finishes (Ok count) (Some why) old new = IsWriteFault why × GainedPart old new (report_text (item.Closed count ∷ []))
Finishes (Err before) why old new = (why ≡ Some before) × Gained old new []
