-- The moment at which an open store is, and what stood before its table.
use Rattle.fish_disk.specs.declared.disk.Disk.{Ghosts as Disks}
use Rattle.fish_registry.specs.declared.registrar.Registrar.{Registrar}
use Rattle.fish_rule.specs.Passes.{view}
use Rattle.fish_rule.specs.declared.table.Log.{Log}
use Rattle.fish_rule.specs.declared.table.Pass.{Pass}
use Rattle.fish_store.specs.Sound.{IsSoundBehind, Point}
use Rattle.fish_store.specs.declared.file.StoreFile.{StoreFile}
use Rattle.fish_store.specs.declared.store.Store.{Store}
use Rattle.fish_whole.specs.Whole.{Whole}

-- the disk, what is kept of it, the log, its control pass and its registrar
abbrev pub point_of : {D : Type 0} → D → StoreFile → Log → Pass → Registrar → Point D
point_of disk file log pass registrar =
    record {
      disk = disk;
      flusher = file.flusher;
      cold = file.cold;
      shape = log.shape;
      rows = registrar.catalog;
      view = view pass;
    }

-- the same of a store as one value
abbrev pub point_at : {D : Type 0} → D → Store → Point D
point_at disk store = point_of disk store.file store.log store.pass store.registrar

-- what stood before the table as a disk had it with this store, of which the content is told later
abbrev pub Behind : {D : Type 0} → Disks D → D → Store → D → Whole → Type 0
Behind disks disk store next = IsSoundBehind disks (point_at disk store) (disks.content next)
