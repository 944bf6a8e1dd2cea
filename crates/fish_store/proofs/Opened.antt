-- The store of what was opened.
use Rattle.std.proofs.Common.{◌≡◌, sym}
use Rattle.fish_recover.specs.declared.opened.Opened.{Opened}
use Rattle.fish_rule.specs.Passes.{view}
use Rattle.fish_store.specs.Opened.{IsOfOpened, opened_point}
use Rattle.fish_store.specs.Points.{point_at}
use Rattle.fish_store.specs.declared.store.Store.{Store}

-- what was opened, with a registrar, as a store
abbrev pub opened_as : Opened → Store → Store
opened_as o s = record { log = o.log; pass = o.pass; registrar = s.registrar; file = record { flusher = o.flusher; cold = o.cold } }

module _ (o : Opened) (s : Store) (h : IsOfOpened o s) where
  -- it is the store
  pub opened_same : opened_as o s ≡ s
  opened_same i = record {
    log = sym h.log i;
    pass = sym h.pass i;
    registrar = s.registrar;
    file = record { flusher = sym h.flusher i; cold = sym h.cold i };
  }

  -- which is at the first moment of what was opened
  pub opened_at : {D : Type 0} (disk : D) → point_at disk s ≡ opened_point disk o
  opened_at disk i = record {
    disk = disk;
    flusher = h.flusher i;
    cold = h.cold i;
    shape = (h.log i).shape;
    rows = h.rows i;
    view = view (h.pass i);
  }
