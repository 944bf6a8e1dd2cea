-- What opening a store gives, and what it leaves. What private clauses need of it.
use Rattle.std.specs.Prelude.{◌≡◌, false}
use Rattle.fish_catalog.specs.declared.commit.Commit.{Commit}
use Rattle.fish_flush.specs.Kept.{IsKeptOf}
use Rattle.fish_flush.specs.declared.refusal.FlushRefusal.TheVariants.{DiskFault as FlushFault, OutOfMemory as NoMemory}
use Rattle.fish_flush.specs.declared.refusal.FlushRefusal.{FlushRefusal}
use Rattle.fish_recover.specs.Beginning.{BeginsAt}
use Rattle.fish_recover.specs.Stores.{shape_of}
use Rattle.fish_recover.specs.declared.finding.Found.{Found}
use Rattle.fish_recover.specs.declared.opened.Opened.{Opened}
use Rattle.fish_recover.specs.declared.refusal.OpenRefusal.TheVariants.{DiskFault, OutOfMemory}
use Rattle.fish_recover.specs.declared.refusal.OpenRefusal.{OpenRefusal}

-- ---- why nothing is open

-- the refusal of an opening is that of a commit
abbrev pub IsFlushed : FlushRefusal → OpenRefusal → Type 0
IsFlushed FlushFault refusal = refusal ≡ DiskFault
IsFlushed NoMemory refusal = refusal ≡ OutOfMemory

-- ---- steps

-- what was found is open again: its commit is kept, and the table begins after it
pub record Resumes (found : Found) (o : Opened) : Type 0 where
  pub kept : IsKeptOf found.slot found.commit found.checked.heads found.checked.starts o.flusher
  pub live : o.flusher.shut ≡ false
  pub begins : BeginsAt o.flusher (shape_of found.commit) found.commit.rows 0 false o
