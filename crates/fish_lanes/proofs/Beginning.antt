-- A table that was just opened, and its store.
use Rattle.std.proofs.Common.{◌≡◌, ℕ, ◌+◌, ◌*◌, ◌/◌, ◌%◌, ◌<◌, ◌≤◌, List, All, Some, map, refl, sym, ap, ◌∙◌, subst, inl, arith}
use Rattle.std.proofs.lemmas.Nat.{div-mul-add, mod-mul-add}
use Rattle.fish_catalog.proofs.Clamping.{all_clamped}
use Rattle.fish_catalog.specs.Clamps.{clamped}
use Rattle.fish_catalog.specs.Listing.{listed_of}
use Rattle.fish_catalog.specs.declared.commit.Commit.{Commit}
use Rattle.fish_catalog.specs.declared.entry.Entry.{Entry}
use Rattle.fish_catalog.specs.declared.row.CatRow.{CatRow}
use Rattle.fish_disk.specs.declared.disk.Disk.{Ghosts as Disks}
use Rattle.fish_flush.specs.Carrying.{CarriesLog}
use Rattle.fish_ingest.specs.Ingestion.{CanStart}
use Rattle.fish_lanes.specs.Between.{IsBetweenBlocks}
use Rattle.fish_lanes.specs.Ending.{EndsAlone}
use Rattle.fish_lanes.specs.Registering.{KnowsRegistry, registry_of}
use Rattle.fish_recover.specs.Stores.{IsOpened}
use Rattle.fish_recover.specs.declared.opened.Opened.{Opened}
use Rattle.fish_registry.specs.Knowing.{HasBegunBy, Knows}
use Rattle.fish_registry.specs.declared.registrar.Registrar.{Registrar}
use Rattle.fish_rule.proofs.laws.Versions.{definitions_first}
use Rattle.fish_rule.specs.Passes.{IsPassOf, view}
use Rattle.fish_rule.specs.Table.{first_view}
use Rattle.fish_rule.specs.World.{high, last_line, low}
use Rattle.fish_rule.specs.declared.view.Key.{Key}
use Rattle.fish_rule.specs.declared.view.View.{View}
use Rattle.fish_scan.specs.Colder.{IsBelow}
use Rattle.fish_store.proofs.Opened.{opened_as, opened_same}
use Rattle.fish_store.specs.Opened.{IsOfOpened}
use Rattle.fish_store.specs.Points.{point_at}
use Rattle.fish_store.specs.Sound.{MayGoOn}
use Rattle.fish_store.specs.declared.store.Store.{Store}

-- it ends where it begins
pub first_end : (v : View) (k : Key) → v ≡ first_view k → k.line < 68719476736 → EndsAlone v k.number
unfolding high low
first_end v k is few = subst (λ (z : View). EndsAlone z k.number) (sym is) (record {
  alone = record { control = refl; all = refl; idle = refl };
  outside = refl;
  above = omega arith;
  settled = omega arith;
  count = k.number;
  counted = omega arith;
  tail =
      let x : ℕ = k.line + k.number * 68719476736 in
      let packed : x ≡ k.number * 68719476736 + k.line = omega arith in
      let up : high x ≡ k.number = ap (λ (z : ℕ). z / 68719476736) packed ∙ div-mul-add k.number 68719476736 k.line few in
      let down : low x ≡ k.line = ap (λ (z : ℕ). z % 68719476736) packed ∙ mod-mul-add k.number 68719476736 k.line few in
      (x, (λ i. Some (record { number = sym up i; line = sym down i })), up, refl);
  ends = inl refl;
  marks = λ s e. absurd cc;
})

-- rows that are cut to a count have begun by then
pub begun_all : (n : ℕ) (rows : List CatRow) → All (HasBegunBy n) (map (clamped n) rows)
begun_all n rows i d less =
    let row = all_clamped n rows i d less in
    record { from = row.from; begins = row.begins; early = row.early }

-- a registrar of the rows with which a table begins knows them
first_knows : (k : Key) (r : Registrar) → k.rows.value ≡ r.catalog → KnowsRegistry (first_view k) (registry_of (first_view k) r)
first_knows k r rows = record {
  from = omega arith;
  reached = omega arith;
  are = λ g read. definitions_first k g k.version (omega arith) ∙ ap (map listed_of) rows;
}

module _ (s : Store) (of : IsPassOf s.log s.pass) (first : view s.pass ≡ first_view s.log.key) where
  -- the line of the table fits its word
  few_lines : s.log.key.line < 68719476736
  few_lines =
      let fits = of.stands.rule.key_fits in
      let about : (view s.pass).about ≡ s.log.key = of.about in
      let some = subst (λ (k : Key). k.line ≤ k.end) about fits.some_lines in
      let most = subst (λ (k : Key). k.end ≤ last_line) about fits.low_end in
      omega arith

  -- with a registrar of its rows, from which a checkpoint may follow, the store is between two blocks
  pub between_first : {D : Type 0} (images : D → List ℕ → Type 0) (disk : D) → s.log.key.rows.value ≡ s.registrar.catalog
      → Knows (first_view s.log.key) s.registrar → MayGoOn images (point_at disk s) → IsBelow s.log.key s.file.cold
      → IsBetweenBlocks images disk s s.log.key.number
  between_first images disk rows knows commit below = record {
    can = record {
      of = of;
      start = subst CanStart (sym first) (record { live = omega arith; outside = refl });
      knows = subst (λ (z : View). Knows z s.registrar) (sym first) knows;
    };
    commit = commit;
    below = below;
    end = first_end (view s.pass) s.log.key first few_lines;
    known = subst (λ (z : View). KnowsRegistry z (registry_of z s.registrar)) (sym first)
        (first_knows s.log.key s.registrar rows);
  }

module _ {D : Type 0} (disks : Disks D) (disk : D) (c : Commit) (log : List Entry) (o : Opened)
    (h : IsOpened (disks.content disk) (disks.images disk) c log o) (s : Store) (m : IsOfOpened o s) where
  -- a store that was opened keeps what its pass knows
  pub knows_opened : Knows (first_view o.log.key) s.registrar
  knows_opened =
      m.first o.log.key (h.rows ∙ sym m.rows)
      (subst (λ (l : List CatRow). All (HasBegunBy o.log.key.number) l) (sym (m.rows ∙ h.catalog))
      (subst (λ (n : ℕ). All (HasBegunBy n) (map (clamped c.count) c.rows)) (sym h.number) (begun_all c.count c.rows)))

  -- and is between two blocks, where its table begins
  pub between_opened : IsBetweenBlocks disks.images disk s s.log.key.number
  between_opened =
      subst (λ (z : Store). IsBetweenBlocks disks.images disk z z.log.key.number) (opened_same o s m)
      (between_first (opened_as o s) h.pass h.first disks.images disk (h.rows ∙ sym m.rows) knows_opened
      (record {
        live = h.live;
        may = (
          c,
          log,
          subst (λ (l : List CatRow). CarriesLog (disks.images disk) o.flusher (view o.pass) o.log.shape l c log) (sym m.rows) h.carries,
        );
        counted =
            let count = h.carries.rest.committed.count in
            let number = h.number in
            let learned = ap (λ (z : View). z.learned.count) h.first in
            omega arith;
      }) (record { number = h.below_number; line = h.below_line }))
