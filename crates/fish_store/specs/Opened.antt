-- A store that was opened, and its first moment.
use Rattle.std.specs.Prelude.{◌≡◌, List, map}
use Rattle.fish_catalog.specs.Listing.{listed_of}
use Rattle.fish_catalog.specs.declared.entry.Entry.{Entry}
use Rattle.fish_recover.specs.declared.opened.Opened.{Opened}
use Rattle.fish_registry.specs.Knowing.{KnowsFirst}
use Rattle.fish_rule.specs.Passes.{view}
use Rattle.fish_store.specs.Sound.{Point}
use Rattle.fish_store.specs.declared.store.Store.{Store}
use Rattle.fish_whole.specs.Whole.{Whole}

-- the store has all that was opened, and a registrar of its rows
pub record IsOfOpened (o : Opened) (s : Store) : Type 0 where
  pub log : s.log ≡ o.log
  pub pass : s.pass ≡ o.pass
  pub first : KnowsFirst s.registrar
  pub rows : s.registrar.catalog ≡ o.catalog
  pub flusher : s.file.flusher ≡ o.flusher
  pub cold : s.file.cold ≡ o.cold

-- what is there as the control pass begins
abbrev pub opened_point : {D : Type 0} → D → Opened → Point D
opened_point disk o =
    record {
      disk = disk;
      flusher = o.flusher;
      cold = o.cold;
      shape = o.log.shape;
      rows = o.catalog;
      view = view o.pass;
    }

-- what is there before the table: the log of the disk, and the definitions with which the table begins
abbrev pub first_past : List Entry → Opened → Whole
first_past log o = record { log = log; rows = λ n. map listed_of o.catalog }
