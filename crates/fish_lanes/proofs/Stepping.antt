-- How an open store goes on over a step that leaves its file.
use Rattle.std.proofs.Common.{◌≡◌, List, refl, subst, sym}
use Rattle.fish_catalog.specs.declared.row.CatRow.{CatRow}
use Rattle.fish_disk.proofs.Moments.{leaves_none}
use Rattle.fish_disk.specs.declared.disk.Disk.{Ghosts as Disks}
use Rattle.fish_rule.specs.Logs.{Learns}
use Rattle.fish_rule.specs.declared.view.View.{View}
use Rattle.fish_registry.specs.declared.registrar.Registrar.{Registrar}
use Rattle.fish_rule.specs.Passes.{view}
use Rattle.fish_rule.specs.declared.table.Log.{Log}
use Rattle.fish_rule.specs.declared.table.Pass.{Pass}
use Rattle.fish_store.proofs.Running.{here_both, here_stays, may_stays}
use Rattle.fish_store.proofs.Same.{still_self, table_same}
use Rattle.fish_store.specs.Points.{point_of}
use Rattle.fish_store.specs.Sound.{GoesOnHere, MayGoOn, Point, RowsGoOn, StoreStays}
use Rattle.fish_store.specs.declared.file.StoreFile.{StoreFile}

-- the same rows go on
pub rows_self : (v : View) (rows : List CatRow) → RowsGoOn v rows rows
rows_self v rows n old le grown = grown

-- so do those of a registrar that stays
pub rows_kept : (v : View) (r s : Registrar) → s ≡ r → RowsGoOn v r.catalog s.catalog
rows_kept v r s same = subst (λ (z : Registrar). RowsGoOn v r.catalog z.catalog) (sym same) (rows_self v r.catalog)

-- a pass that learns, and rows that go on
pub stays_pass : {D : Type 0} (disks : Disks D) (p : Point D) (rows : List CatRow) (u : View) → Learns p.view u
    → RowsGoOn p.view p.rows rows
    → StoreStays disks p (record p { rows = rows; view = u })
stays_pass disks p rows u learns grows = record {
  learns = learns;
  rows_on = grows;
  flusher = refl;
  shape = refl;
  content_is = still_self (disks.content p.disk);
  crash = leaves_none disks.images disks.since disks.moment p.disk (disks.images p.disk) (λ i here. here);
  table = λ t. table_same (disks.content p.disk) (disks.content p.disk) p.view.about p.cold p.cold refl refl t;
}

-- ---- after a look at the registration that waits

-- the store goes on
pub looked_goes : {D : Type 0} (disks : Disks D) (before : Point D) (disk : D) (file : StoreFile) (log : Log) (p q : Pass) (r s : Registrar)
    → GoesOnHere disks before (point_of disk file log p r) → Learns (view p) (view q)
    → RowsGoOn (view p) r.catalog s.catalog → GoesOnHere disks before (point_of disk file log q s)
looked_goes disks before disk file log p q r s goes learns grows =
    let now = point_of disk file log p r in
    let looked = point_of disk file log q s in
    here_both disks before now looked goes (here_stays disks now looked
    (stays_pass disks now s.catalog (view q) learns grows))

-- and may be committed
pub looked_may : {D : Type 0} (disks : Disks D) (disk : D) (file : StoreFile) (log : Log) (p q : Pass) (r s : Registrar)
    → MayGoOn disks.images (point_of disk file log p r) → Learns (view p) (view q) → RowsGoOn (view p) r.catalog s.catalog
    → MayGoOn disks.images (point_of disk file log q s)
looked_may disks disk file log p q r s may learns grows =
    let now = point_of disk file log p r in
    may_stays disks now (point_of disk file log q s)
    (stays_pass disks now s.catalog (view q) learns grows) may
