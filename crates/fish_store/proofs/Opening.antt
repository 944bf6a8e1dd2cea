-- A table that begins after a commit is sound after that log: so is a store that was opened, after its disk's log.
use Rattle.std.proofs.Common.{◌≡◌, ℕ, arith, List, [], ◌++◌, Option, Some, None, ap, subst, sym, refl, ◌∙◌, length, map}
use Rattle.std.specs.Prelude.{IfSome, IsSome}
use mathlib.Core.Option.{some-ne-none}
use Rattle.std.proofs.lemmas.List.{take_all}
use Rattle.fish_catalog.specs.Listing.{listed_of}
use Rattle.fish_catalog.specs.declared.commit.Commit.{Commit}
use Rattle.fish_catalog.specs.declared.entry.Entry.{Entry}
use Rattle.fish_catalog.specs.declared.row.CatRow.{CatRow}
use Rattle.fish_cold.specs.Carries.{CarriesTable, IsPrior}
use Rattle.fish_disk.specs.declared.disk.Disk.{Ghosts as Disks}
use Rattle.fish_flush.proofs.Committed.{committed_length}
use Rattle.fish_flush.proofs.Resting.{rest_stands}
use Rattle.fish_image.specs.Log.{Agrees}
use Rattle.fish_image.specs.Reached.{Reached}
use Rattle.fish_image.specs.Stands.{Stands, words_in}
use Rattle.fish_recover.specs.Stores.{IsBegunStore, IsOpened}
use Rattle.fish_recover.specs.declared.opened.Opened.{Opened}
use Rattle.fish_rule.specs.Passes.{view}
use Rattle.fish_rule.specs.declared.view.Key.{Key}
use Rattle.fish_rule.specs.declared.view.View.{View}
use Rattle.fish_slots.proofs.Commits.{rests_commit}
use Rattle.fish_store.proofs.Kept.{one_prior}
use Rattle.fish_store.specs.Opened.{first_past, opened_point}
use Rattle.fish_store.specs.Sound.{HasPast, IsImageOf, Sound}
use Rattle.fish_whole.proofs.Prefixes.{prefix_first}
use Rattle.fish_whole.specs.Whole.{FitsPast, IsPrefix, Whole}

module _ {D : Type 0} (disks : Disks D) (disk : D) (at : ℕ) (rows : List CatRow)
    (c : Commit) (log : List Entry) (o : Opened) (h : IsBegunStore at rows (disks.content disk) (disks.images disk) c log o) where
  about : (view o.pass).about ≡ o.log.key
  about = ap (λ (v : View). v.about) h.first

  -- how many entries there are
  pub begun_size : (length log ≡ c.count) × (o.flusher.count ≡ c.count)
  begun_size =
      let r = h.carries.rest in
      (committed_length o.flusher c r.body r.lines log r.committed, sym r.committed.count)

  -- the first entries that the disk has are these
  entries_are : (i : List ℕ) → disks.images disk i → (t : CarriesTable (disks.content disk) o.log.key o.cold) → t.image ≡ i
      → t.end.entries ≡ log
  entries_are i here t is =
      let r = h.carries.rest in
      let stands = r.committed.is.stands in
      let number = h.number in
      let prior : IsPrior i o.log.key.number stands.end = record {
        commit = c;
        body = r.body;
        lines = r.lines;
        has = rests_commit o.flusher.slot r.body r.lines i r.slot_is (r.rests i here);
        told = r.committed.is.told;
        log = log;
        stands = stands;
        few = omega arith;
        agrees = subst (λ (n : ℕ). Agrees c (words_in r.lines) n stands.end) (sym number) stands.agrees;
      } in
      ap (λ (e : Reached). e.entries)
      (one_prior i o.log.key.number t.end stands.end (subst (λ (z : List ℕ). IsPrior z o.log.key.number t.end) is t.prior) prior)
      ∙ stands.entries

  module _ (past : Whole) (same : past.log ≡ log) where
    -- an image of the log is one of a part that is there for good
    pub begun_part : (i : List ℕ) → Stands c i log → IsImageOf past (view o.pass) (length log) i
    begun_part i stands = record {
      commit = c;
      log = log;
      stands = stands;
      many = omega arith;
      known = record {
        entries = [];
        told = λ j e there. absurd (some-ne-none e (sym there));
        front = subst (λ (l : List Entry). IsPrefix log (l ++ [])) (sym same) (prefix_first log []);
      };
    }

    -- the disk has what was there before the table
    has_past : ((i : List ℕ) → disks.content disk ≡ Some i → disks.images disk i) → IsSome (disks.content disk)
        → HasPast disks.content (opened_point disk o) past
    has_past read some = by (disks.content disk) refl some h.cold
      where
        by : (x : Option (List ℕ)) → disks.content disk ≡ x → IsSome x → IfSome x (λ i. CarriesTable (disks.content disk) o.log.key o.cold)
            → HasPast disks.content (opened_point disk o) past
        by None is told t = absurd cc
        by (Some i) is told t =
            let moved : (x : CarriesTable (disks.content disk) (view o.pass).about o.cold) × (x.end.entries ≡ past.log) =
            subst (λ (k : Key). (x : CarriesTable (disks.content disk) k o.cold) × (x.end.entries ≡ past.log)) (sym about)
            (t, entries_are t.image (read t.image t.is) t refl ∙ sym same) in
            record { table = moved.0; entries = moved.1 }

    -- so it is sound, where it comes after that past
    pub begun_sound : FitsPast past (view o.pass) → ((i : List ℕ) → disks.content disk ≡ Some i → disks.images disk i)
        → IsSome (disks.content disk)
        → Sound disks (opened_point disk o) past
    begun_sound fits read some =
        let many = begun_size in
        let number = h.number in
        let first = ap (λ (v : View). v.learned.count) h.first in
        let size = ap (λ (l : List Entry). length l) same in
        record {
          fits = fits;
          has = has_past read some;
          rests = λ live. record {
            commit = c;
            log = log;
            carries = h.carries;
            begins = take_all (length past.log) log (omega arith) ∙ sym same;
            counted = omega arith;
          };
          now = λ i here. subst (λ (n : ℕ). IsImageOf past (view o.pass) n i)
              (let whole : length log ≡ o.flusher.count = omega arith in whole)
              (begun_part i (rest_stands (disks.images disk) o.flusher c log h.carries.rest i here));
        }

module _ {D : Type 0} (disks : Disks D) (disk : D) (c : Commit) (log : List Entry) (o : Opened)
    (h : IsOpened (disks.content disk) (disks.images disk) c log o) where
  -- the table of a store that was opened comes after the disk's log
  fits : FitsPast (first_past log o) (view o.pass)
  fits =
      let many = begun_size disks disk 0 c.rows c log o h in
      let number = h.number in
      let key = ap (λ (v : View). v.about) h.first in
      let at = ap (λ (k : Key). k.number) key in
      record {
        base = omega arith;
        joins = ap (λ l. map listed_of l) (sym (ap (λ (k : Key). k.rows.value) key ∙ h.rows));
      }

  -- an image of the log is one of a part that is there for good
  pub stands_part : (i : List ℕ) → Stands c i log → IsImageOf (first_past log o) (view o.pass) (length log) i
  stands_part i stands = begun_part disks disk 0 c.rows c log o h (first_past log o) refl i stands

  -- the store is sound
  pub opened_sound : ((i : List ℕ) → disks.content disk ≡ Some i → disks.images disk i) → IsSome (disks.content disk)
      → Sound disks (opened_point disk o) (first_past log o)
  opened_sound read some = begun_sound disks disk 0 c.rows c log o h (first_past log o) refl fits read some
