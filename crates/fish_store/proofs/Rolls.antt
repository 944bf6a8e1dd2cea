-- A table that takes another one's place, all of which is committed: the store goes on to it.
use Rattle.std.proofs.Common.{◌≡◌, ℕ, ◌+◌, ◌^◌, List, [], ◌++◌, Some, None, false, length, map}
use Rattle.std.proofs.Common.{sym, ap, ◌∙◌, subst, arith}
use Rattle.std.specs.Prelude.{IsSome, ⊤}
use mathlib.Core.Option.{some-ne-none}
use Rattle.fish_catalog.specs.Clamps.{clamped}
use Rattle.fish_catalog.specs.Listing.{listed_of}
use Rattle.fish_catalog.specs.declared.commit.Commit.{Commit}
use Rattle.fish_catalog.specs.declared.entry.Entry.{Entry}
use Rattle.fish_catalog.specs.declared.row.CatRow.{CatRow}
use Rattle.fish_disk.proofs.Moments.{leaves_none}
use Rattle.fish_disk.specs.declared.disk.Disk.{Ghosts as Disks}
use Rattle.fish_flush.specs.Carrying.{CarriesLog}
use Rattle.fish_flush.specs.declared.flusher.Flusher.{Flusher}
use Rattle.fish_recover.proofs.Beginnings.{begun_open}
use Rattle.fish_recover.specs.Beginning.{BeginsAt}
use Rattle.fish_recover.specs.Stores.{IsBegunStore}
use Rattle.fish_recover.specs.declared.opened.Opened.{Opened}
use Rattle.fish_rule.proofs.laws.ClosedLogs.{definitions_closed}
use Rattle.fish_rule.proofs.laws.Learning.{learns_self}
use Rattle.fish_rule.specs.Passes.{IsPassOf, view}
use Rattle.fish_rule.specs.Registry.{definitions_at}
use Rattle.fish_rule.specs.Start.{table_lines}
use Rattle.fish_rule.specs.Table.{first_view}
use Rattle.fish_rule.specs.declared.view.Key.{Key}
use Rattle.fish_rule.specs.declared.view.View.{View}
use Rattle.fish_scan.specs.Colder.{IsBelow}
use Rattle.fish_store.proofs.Beginning.{all_cut}
use Rattle.fish_store.proofs.Closing.{closed_end, whole_log}
use Rattle.fish_store.proofs.Opened.{opened_as, opened_at, opened_same}
use Rattle.fish_store.proofs.Opening.{begun_size, begun_sound}
use Rattle.fish_store.proofs.Versions.{version_closed}
use Rattle.fish_store.specs.Opened.{IsOfOpened, opened_point}
use Rattle.fish_store.specs.Points.{point_at}
use Rattle.fish_store.specs.Rolling.{HasRolled, MayRoll}
use Rattle.fish_store.specs.within.Rolling.{IsClosedWith}
use Rattle.fish_store.specs.Sound.{IsImageOf, MayGoOn, Point, Reaches, StoreRuns, Sound}
use Rattle.fish_store.specs.declared.store.Store.{Store}
use Rattle.fish_whole.proofs.Parts.{told_front}
use Rattle.fish_whole.proofs.Prefixes.{prefix_append, prefix_both, prefix_first}
use Rattle.fish_whole.proofs.Tables.{fits_rolled, narrows_rolled}
use Rattle.fish_whole.specs.Whole.{FitsPast, GoesOn, Whole, behind_table}

module _ {D : Type 0} (disks : Disks D)
    (disk : D) (old : Store) (m : MayRoll disks.images disk old) (version : ℕ) (x : IsClosedWith (view old.pass) version) (o : Opened)
    (begins : BeginsAt old.file.flusher old.log.shape old.registrar.catalog version false o)
    (read : (i : List ℕ) → disks.content disk ≡ Some i → disks.images disk i) where
  abbrev v : View
  v = view old.pass

  abbrev f : Flusher
  f = old.file.flusher

  abbrev rows : List CatRow
  rows = old.registrar.catalog

  -- it begins after whatever commit is carried
  begun : (c : Commit) (log : List Entry) → CarriesLog (disks.images disk) f v old.log.shape rows c log
      → IsBegunStore version rows (disks.content disk) (disks.images disk) c log o
  begun c log k =
      begun_open (disks.images disk) f c log k.rest old.log.shape k.bits rows k.grown version false o begins (disks.content disk) read
      k.pages
      m.commit.live

  abbrev first : IsBegunStore version rows (disks.content disk) (disks.images disk) m.commit.may.0 m.commit.may.1 o
  first = begun m.commit.may.0 m.commit.may.1 m.commit.may.2

  -- at the number and the line at which the commit ends
  number_is : o.log.key.number ≡ f.count
  number_is = first.number ∙ m.commit.may.2.rest.committed.count

  line_is : o.log.key.line ≡ f.line
  line_is = first.line ∙ m.commit.may.2.rest.committed.line

  -- which is where the old table ended
  end_is : v.about.number + length x.remains.log ≡ f.count
  end_is = closed_end v x.remains x.closed f.count m.count m.commit.may.2.from m.commit.may.2.settled m.tail m.ends

  -- the rows are cut to that number
  catalog_is : o.catalog ≡ map (clamped f.count) rows
  catalog_is = first.catalog ∙ ap (λ (n : ℕ). map (clamped n) rows) m.commit.may.2.rest.committed.count

  abbrev u : View
  u = view o.pass

  about : u.about ≡ o.log.key
  about = ap (λ (z : View). z.about) first.first

  at_number : u.about.number ≡ v.about.number + length x.remains.log
  at_number = ap (λ (k : Key). k.number) about ∙ number_is ∙ sym end_is

  at_version : u.about.version ≡ x.remains.version
  at_version = ap (λ (k : Key). k.version) about ∙ first.version ∙ sym x.is

  -- its definitions are those at the version that is left
  at_rows : definitions_at v.about x.closed.moment.registry x.remains.version ≡ map listed_of u.about.rows.value
  at_rows =
      definitions_closed v x.remains x.closed m.alone.control ∙ sym m.rows.listed ∙ sym (all_cut f.count rows)
      ∙ ap (λ (l : List CatRow). map listed_of l)
      (sym (ap (λ (k : Key). k.rows.value) about ∙ first.rows ∙ catalog_is))

  module _ (past : Whole) (s : Sound disks (point_at disk old) past) where
    abbrev next : Whole
    next = behind_table past v x.remains x.closed

    fits : FitsPast next u
    fits = fits_rolled past v u x.remains x.closed s.fits at_number at_version at_rows

    -- what was so of the whole is so still
    goes : GoesOn past v next u
    goes = record {
      fits = fits;
      narrows = narrows_rolled past v u x.remains x.closed s.fits m.alone.control m.alone.all at_version;
      grows = prefix_first past.log x.remains.log;
      known = λ log k. record {
        entries = [];
        told = λ i e there. absurd (some-ne-none e (sym there));
        front = prefix_both log (past.log ++ x.remains.log) ((past.log ++ x.remains.log) ++ [])
            (prefix_both log (past.log ++ k.entries) (past.log ++ x.remains.log) k.front
            (prefix_append past.log k.entries x.remains.log
            (told_front past v v x.remains k.entries s.fits.base (learns_self v) x.closed k.told)))
            (prefix_first (past.log ++ x.remains.log) []);
      };
    }

    -- every image stands for what was there before the table and what is left of it
    sound : IsSome (disks.content disk) → Sound disks (opened_point disk o) next
    sound some =
        let r = s.rests m.commit.live in
        let b = begun r.commit r.log r.carries in
        let size = begun_size disks disk version rows r.commit r.log o b in
        let count = r.carries.rest.committed.count in
        let end = end_is in
        let whole : r.log ≡ past.log ++ x.remains.log =
        whole_log v x.remains x.closed past r.log s.fits.base r.begins r.carries.told (omega arith) in
        begun_sound disks disk version rows r.commit r.log o b next (sym whole) fits read some

    reached : IsSome (disks.content disk) → Reaches disks past (point_at disk old) (opened_point disk o) (λ w. ⊤)
    reached some =
        let sounds = sound some in
        record {
          next = next;
          goes = goes;
          told = λ w may. tt;
          sound = sounds;
          crash = leaves_none disks.images disks.since disks.moment disk (IsImageOf next u f.count)
              (λ i here. subst (λ (z : Flusher). IsImageOf next u z.count i) begins.opens.flusher (sounds.now i here));
        }

  -- so the store went on to it
  rolled_runs : StoreRuns disks (point_at disk old) (opened_point disk o) (λ w. ⊤)
  rolled_runs = record {
    told_before = λ some. some;
    rises = (let same = ap (λ (z : Flusher). z.count) begins.opens.flusher in omega arith);
    reaches = λ past s some. reached past s some;
  }

  -- and a checkpoint may follow
  rolled_may : MayGoOn disks.images (opened_point disk o)
  rolled_may = record {
    live = first.live;
    may = (m.commit.may.0, m.commit.may.1, first.carries);
    counted =
        let count = ap (λ (z : Flusher). z.count) begins.opens.flusher in
        let number = number_is in
        let learned = ap (λ (z : View). z.learned.count) first.first in
        omega arith;
  }

  -- the store with a registrar of these rows
  module _ (new : Store) (made : IsOfOpened o new) where
    same : opened_as o new ≡ new
    same = opened_same o new made

    -- it is at the first moment of the table
    point_rolled : opened_point disk o ≡ point_at disk new
    point_rolled = sym (opened_at o new made disk)

    -- so it took the old one's place
    pub has_rolled : HasRolled disks disk old new
    has_rolled =
        let k = m.commit.may.2 in
        let c = k.rest.committed in
        record {
          pass = subst (λ (z : Store). IsPassOf z.log z.pass) same first.pass;
          first = subst (λ (z : Store). view z.pass ≡ first_view z.log.key) same first.first;
          number = subst (λ (z : Store). z.log.key.number ≡ f.count) same number_is;
          line = subst (λ (z : Store). z.log.key.line ≡ f.line) same line_is;
          version = subst (λ (z : Store). z.log.key.version ≡ v.learned.version) same
              (first.version ∙ sym x.is ∙ version_closed v x.remains x.closed m.pass.stands m.alone.control);
          knows = made.first;
          catalog = made.rows ∙ catalog_is;
          rows = subst (λ (z : Store). z.log.key.rows.value ≡ new.registrar.catalog) same (first.rows ∙ sym made.rows);
          shape = subst (λ (z : Store). z.log.shape ≡ old.log.shape) same begins.opens.shape;
          buckets = subst (λ (z : Store). z.log.key.buckets ≡ 2 ^ old.log.shape.bucket_bits) same
              (first.buckets ∙ ap (λ (n : ℕ). 2 ^ n) k.bits);
          end = subst (λ (z : Store). z.log.key.end ≡ f.line + table_lines old.log.shape.pages f.count f.line) same
              (first.end ∙ (λ i. c.line i + table_lines (k.pages i) (c.count i) (c.line i)));
          flusher = made.flusher ∙ begins.opens.flusher;
          below = subst (λ (z : Store). IsBelow z.log.key z.file.cold) same
              (record { number = first.below_number; line = first.below_line });
          commit = subst (MayGoOn disks.images) point_rolled rolled_may;
          unshut = subst (λ (z : Store). (view z.pass).shut ≡ None) same (ap (λ (z : View). z.shut) first.first);
          runs = subst (λ (z : Point D). StoreRuns disks (point_at disk old) z (λ w. ⊤)) point_rolled rolled_runs;
        }
