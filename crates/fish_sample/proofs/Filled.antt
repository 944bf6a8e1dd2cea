-- The blocks of a sample, one after the other.
use Rattle.std.proofs.Common.{◌≡◌, ℕ, ◌+◌, ◌-◌, ◌^◌, ◌<◌, zero, suc, List, [], ◌∷◌, ◌++◌, length, map, refl, sym, ap, ◌∙◌, subst}
use Rattle.std.proofs.Common.{arith}
use Rattle.std.proofs.Common.{Bool, true, Some, slice_get}
use Rattle.std.specs.Prelude.{codes}
use Rattle.std.specs.List.{AllByRecursion, list_all}
use Rattle.fish_catalog.specs.Listing.{listed_of}
use Rattle.fish_catalog.specs.declared.entry.Entry.{Entry}
use Rattle.fish_catalog.specs.declared.row.CatRow.{CatRow}
use Rattle.fish_disk.specs.declared.disk.Disk.{Ghosts as Disks}
use Rattle.fish_lang.specs.Canonical.{definition_text}
use Rattle.fish_lanes.proofs.Lists.{get_some, some_once}
use Rattle.fish_lanes.proofs.Surely.{closed_length}
use Rattle.fish_lanes.specs.Blocks.{SaysBlock}
use Rattle.fish_lanes.specs.Records.{contents_of_rows, rows_of_lane}
use Rattle.fish_lanes.specs.Registering.{Registry, registry_of, after_all}
use Rattle.fish_lanes.specs.Spans.{Span, answers}
use Rattle.fish_lanes.specs.Telling.{SaysItems, all_of, content_of}
use Rattle.fish_lanes.specs.declared.lane.Lane.{Lane}
use Rattle.fish_lanes.specs.declared.work.Work.{Work}
use Rattle.fish_report.specs.declared.item.Item.{Item}
use Rattle.fish_rule.specs.ClosedLog.{IsClosed}
use Rattle.fish_rule.specs.Passes.{view}
use Rattle.fish_rule.specs.declared.close.Remains.{Remains}
use Rattle.fish_sample.proofs.Entries.{void_alone}
use Rattle.fish_sample.proofs.Meaning.{all_mean}
use Rattle.fish_sample.proofs.Shares.{part_lanes, sample_log, selected_count}
use Rattle.fish_sample.proofs.Stored.{share_rows}
use Rattle.fish_sample.proofs.Telling.{all_named, and_both, nothing_stored, registered_all, scan_lines, scan_of, scanned_all}
use Rattle.fish_sample.proofs.Telling.{stored_after, stored_all, text_of}
use Rattle.fish_sample.specs.within.Blocks.{AreRows, AreSelected, GoesLater, namings, HasCounted, HasDefined, HasDefinitions, HasFilled}
use Rattle.fish_sample.specs.within.Blocks.{HasRunBlock}
use Rattle.fish_lanes.specs.Between.{IsBetweenBlocks}
use Rattle.fish_sample.specs.within.Blocks.{HasStored}
use Rattle.fish_sample.specs.within.Blocks.{IsSampleStore, IsSample, IsSummary, span_of}
use Rattle.fish_gen.specs.Sample.{sample_text}
use Rattle.fish_sample.specs.within.Files.{sample_lines}
use Rattle.fish_sample.specs.within.Items.{is_all_stored, is_registered, is_scanned, is_stored, items_text}
use Rattle.fish_sample.specs.Logs.{IsSampleLog}
use Rattle.fish_sample.specs.within.Parts.{EachEntry, HasRecords, HasShares, IsVoid, log_part}
use Rattle.fish_sample.specs.Sample.{AreDefined, Definitions, all_asked, number_line, share, summary_text}
use Rattle.fish_sample.specs.declared.opening.Sampled.{Sampled}
use Rattle.std.proofs.Common.{Result, Ok, Err, get_or}
use Rattle.std.specs.Prelude.{IfOk}
use Rattle.fish_sample.specs.within.Works.{AreDefining, AreShareLanes, IsDefiningLane, IsScanningLane, all_scans, ingest_work}
use Rattle.fish_sample.specs.within.Works.{register_work}
use Rattle.fish_store.specs.Points.{point_at}
use Rattle.fish_store.specs.Sound.{Sound}
use Rattle.fish_store.specs.declared.store.Store.{Store}
use Rattle.fish_value.specs.declared.field.Form.TheVariants.{Json}
use Rattle.fish_whole.proofs.Tables.{ends_so}
use Rattle.fish_whole.proofs.Wholes.{later_both, may_hold, narrows_later, sure_rows}
use Rattle.fish_whole.specs.Whole.{MayEnd, Whole, behind_table}

-- ---- one lane

-- the list of one lane, once it ran
pub one_lane : (x : Lane) (new : List Lane) → length new ≡ 1 → (y : Lane) × (new ≡ y ∷ [])
one_lane x [] many = absurd (omega (many, arith))
one_lane x (y ∷ []) many = (y, refl)
one_lane x (y ∷ z ∷ new) many = absurd (omega (many, arith))

module _ {D : Type 0} (disks : Disks D) (disk disk' : D) (s t : Store) (from to : ℕ)
    (x : Lane) (new : List Lane) (h : HasRunBlock disks disk s from (x ∷ []) disk' t to new) where
  abbrev last : Lane
  last = (one_lane x new h.many).0

  last_is : new ≡ last ∷ []
  last_is = (one_lane x new h.many).1

  last_at : slice_get new 0 ≡ Some last
  last_at = ap (λ (z : List Lane). slice_get z 0) last_is

  last_works : last.works ≡ x.works
  last_works = h.kept 0 x last refl last_at

  last_ended : length (answers last.items) ≡ length x.works
  last_ended = h.ended 0 last last_at ∙ ap length last_works

  abbrev span : Span
  span = span_of (view s.pass) (view t.pass) from to (length new)

  -- what its items tell
  last_tells : (w : Whole) → SaysBlock w span new
      → SaysItems w span [] [] (rows_of_lane w.log from to 1) x.works (answers last.items)
  last_tells w tells = subst (λ (z : List Work). SaysItems w span [] [] (rows_of_lane w.log from to 1) z (answers last.items)) last_works
      (tells.each 0 last last_at)

  -- where its statements store nothing, no record is stored
  none_stored : (w : Whole) → SaysBlock w span new → AllByRecursion (λ y. content_of y ≡ []) x.works
      → EachEntry IsVoid (log_part from to w.log)
  none_stored w tells none = void_alone from (log_part from to w.log)
      (part_lanes 1 from to w.log (λ n lane form payload low high at.
      (let k = tells.own n lane form payload low high at in let many = h.many in (k.0, omega (k, many, arith)))))
      (nothing_stored w span [] [] (rows_of_lane w.log from to 1) x.works (answers last.items) none (last_tells w tells))

  -- ---- the definitions

  -- the registry after it is that of the one before and its items
  registry_last : registry_of (view t.pass) t.registrar ≡ after_all (registry_of (view s.pass) s.registrar) last.items
  registry_last = h.registry last last_at

  defining_none : AreDefining x.works → AllByRecursion (λ y. content_of y ≡ []) x.works
  defining_none d = subst (λ (z : List Work). AllByRecursion (λ y. content_of y ≡ []) z) (sym d.namings.are) (refl, (refl, (refl, tt)))

  -- the rows after it
  defined_rows : (w : Whole) → SaysBlock w span new → (d : AreDefining x.works) → list_all is_registered last.items ≡ true
      → s.registrar.catalog ≡ [] → HasDefinitions t.registrar.catalog
  defined_rows w tells d all empty =
      let gs = d.namings in
      let named = (codes "kind", gs.kind) ∷ (codes "late", gs.late) ∷ (codes "band", gs.band) ∷ [] in
      let same : answers last.items ≡ last.items = registered_all last.items all in
      let items = subst (λ (z : List Item). SaysItems w span [] [] (rows_of_lane w.log from to 1) x.works z) same (last_tells w tells) in
      let works = subst (λ (z : List Work). SaysItems w span [] [] (rows_of_lane w.log from to 1) z last.items) gs.are items in
      let many : length last.items ≡ length (map register_work named) = ap length (sym same) ∙ last_ended ∙ ap length gs.are in
      let rows = all_named w span [] [] (rows_of_lane w.log from to 1) named last.items (registry_of (view s.pass) s.registrar) works
      many all in
      record {
        definitions = d.definitions;
        defined = d.defined;
        are = ap (λ (z : Registry). namings z.rows) registry_last ∙ rows
            ∙ ap (λ (z : List CatRow). namings z ++ map text_of named) empty
            ∙ (λ i. (codes "kind", definition_text (gs.kind_is i)) ∷ (codes "late", definition_text (gs.late_is i))
            ∷ (codes "band", definition_text (gs.band_is i)) ∷ []);
      }

  pub has_defined : AreDefining x.works → list_all is_registered last.items ≡ true → HasDefined disks disk s from disk' t to
  has_defined d all = record {
    between = h.between;
    goes = h.goes;
    told = λ past sound. (
      (h.told past sound).0,
      λ w may.
          let tells = (h.told past sound).1 w may in
          (none_stored w tells (defining_none d), defined_rows w tells d all),
    );
  }

  -- ---- the counts

  scans_none : AllByRecursion (λ y. content_of y ≡ []) all_scans
  scans_none = (
    refl,
    (
      refl,
      (
        refl,
        (
          refl,
          (
            refl,
            (
              refl,
              (
                refl,
                (
                  refl,
                  (
                    refl,
                    (
                      refl,
                      (
                        refl,
                        (
                          refl,
                          (
                            refl,
                            (
                              refl,
                              (
                                refl,
                                (
                                  refl,
                                  (
                                    refl,
                                    (
                                      refl,
                                      tt,
                                    ),
                                  ),
                                ),
                              ),
                            ),
                          ),
                        ),
                      ),
                    ),
                  ),
                ),
              ),
            ),
          ),
        ),
      ),
    ),
  )

  -- the definitions in each whole are those of the registrar
  whole_rows : (begun : IsBetweenBlocks disks.images disk s from) (past : Whole) (w : Whole) → MayEnd past (view t.pass) w
      → w.rows (registry_of (view s.pass) s.registrar).version ≡ map listed_of s.registrar.catalog
  whole_rows begun past w may =
      sure_rows past (view s.pass) (registry_of (view s.pass) s.registrar).version (map listed_of s.registrar.catalog) begun.known w
      (may_hold past (view s.pass) w (narrows_later past (view s.pass) (view t.pass) h.goes.later w may))

  counted_text : (number : ℕ) (begun : IsBetweenBlocks disks.images disk s from) (past : Whole) (w : Whole) → MayEnd past (view t.pass) w
      → SaysBlock w span new → x.works ≡ all_scans → list_all is_scanned last.items ≡ true → (d : Definitions) → AreDefined d
      → AreRows d s.registrar.catalog → AreSelected number from w → items_text number last.items ≡ summary_text d number
  counted_text number begun past w may tells scans all d defined are selected =
      let same : answers last.items ≡ last.items = scanned_all last.items all in
      let items = subst (λ (z : List Item). SaysItems w span [] [] (rows_of_lane w.log from to 1) x.works z) same (last_tells w tells) in
      let works : SaysItems w span [] [] (rows_of_lane w.log from to 1) (map scan_of (all_asked d)) last.items
      = subst (λ (z : List Work). SaysItems w span [] [] (rows_of_lane w.log from to 1) z last.items) scans items in
      let many : length last.items ≡ length (map scan_of (all_asked d)) = ap length (sym same) ∙ last_ended ∙ ap length scans in
      ap (λ (z : List ℕ). number_line (codes "sample") number ++ (z ++ number_line (codes "stored") number))
      (scan_lines w (registry_of (view s.pass) s.registrar) number from (whole_rows begun past w may) selected span [] []
      (rows_of_lane w.log from to 1) (all_asked d) last.items from (to + 16) refl works many all (h.so last last_at)
      (all_mean d defined s.registrar.catalog are))

  pub has_counted : (number : ℕ) (text : List ℕ) → IsBetweenBlocks disks.images disk s from → x.works ≡ all_scans
      → list_all is_scanned last.items ≡ true → text ≡ items_text number last.items
      → HasCounted disks number disk s from disk' t text
  has_counted number text begun scans all is = record {
    to = to;
    between = h.between;
    goes = h.goes;
    told = λ past sound. (
      (h.told past sound).0,
      λ w may.
          let tells = (h.told past sound).1 w may in (
            none_stored w tells (subst (λ (z : List Work). AllByRecursion (λ y. content_of y ≡ []) z) (sym scans) scans_none),
            λ d defined are selected. is ∙ counted_text number begun past w may tells scans all d defined are selected,
          ),
    );
  }

-- ---- the lane that registers, and the one that scans

module _ {D : Type 0} (disks : Disks D) (disk disk' : D) (s t : Store) (from to : ℕ)
    (old new : List Lane) where
  -- the lane that was read is the last one
  read_last : (x : Lane) (h : HasRunBlock disks disk s from (x ∷ []) disk' t to new) (y : Lane) → y ≡ get_or new 0 y
      → y ≡ (one_lane x new h.many).0
  read_last x h y at = at ∙ ap (λ (z : List Lane). get_or z 0 y) (one_lane x new h.many).1

  pub defined_of : HasRunBlock disks disk s from old disk' t to new → (x : Lane) × (old ≡ x ∷ []) × IsDefiningLane x → (y : Lane)
      → y ≡ get_or new 0 y → list_all is_registered y.items ≡ true → HasDefined disks disk s from disk' t to
  defined_of h (x, is, lane) y at all =
      let run : HasRunBlock disks disk s from (x ∷ []) disk' t to new
      = subst (λ (z : List Lane). HasRunBlock disks disk s from z disk' t to new) is h in
      has_defined disks disk disk' s t from to x new run lane.works
      (subst (λ (z : Lane). list_all is_registered z.items ≡ true) (read_last x run y at) all)

  counted_one : (number : ℕ) → IsBetweenBlocks disks.images disk s from → HasRunBlock disks disk s from old disk' t to new
      → (x : Lane) × (old ≡ x ∷ []) × IsScanningLane x → (y : Lane) → y ≡ get_or new 0 y → list_all is_scanned y.items ≡ true
      → (text : List ℕ) → text ≡ items_text number y.items → HasCounted disks number disk s from disk' t text
  counted_one number begun h (x, is, lane) y at all text text_is =
      let run : HasRunBlock disks disk s from (x ∷ []) disk' t to new
      = subst (λ (z : List Lane). HasRunBlock disks disk s from z disk' t to new) is h in
      let same = read_last x run y at in
      has_counted disks disk disk' s t from to x new run number text begun lane.works
      (subst (λ (z : Lane). list_all is_scanned z.items ≡ true) same all)
      (text_is ∙ ap (λ (z : Lane). items_text number z.items) same)

  pub counted_of : {E : Type 0} (number : ℕ) → IsBetweenBlocks disks.images disk s from → HasRunBlock disks disk s from old disk' t to new
      → (x : Lane) × (old ≡ x ∷ []) × IsScanningLane x → (y : Lane) → y ≡ get_or new 0 y → list_all is_scanned y.items ≡ true
      → (r : Result (List ℕ) E) → IfOk r (λ text. text ≡ items_text number y.items)
      → IfOk r (HasCounted disks number disk s from disk' t)
  counted_of number begun h lane y at all (Ok text) is = counted_one number begun h lane y at all text is
  counted_of number begun h lane y at all (Err e) is = is

-- ---- four lanes

-- what holds of each lane of a list
list_at : (p : Lane → Bool) (lanes : List Lane) → list_all p lanes ≡ true → (i : ℕ) (x : Lane) → slice_get lanes i ≡ Some x → p x ≡ true
list_at p [] h i x at = absurd cc
list_at p (y ∷ lanes) h zero x at = subst (λ (z : Lane). p z ≡ true) (some_once y x at) (and_both (p y) (list_all p lanes) h).0
list_at p (y ∷ lanes) h (suc i) x at = list_at p lanes (and_both (p y) (list_all p lanes) h).1 i x at

module _ {D : Type 0} (disks : Disks D) (disk disk' : D) (s t : Store) (from to : ℕ)
    (old new : List Lane) (h : HasRunBlock disks disk s from old disk' t to new) (number : ℕ) (few : number < 2 ^ 32)
    (lanes : AreShareLanes number 4 old) (all : list_all is_all_stored new ≡ true) where
  four : length new ≡ 4
  four = h.many ∙ lanes.many

  abbrev span_four : Span
  span_four = span_of (view s.pass) (view t.pass) from to (length new)

  -- the records of a lane
  rows_at : (w : Whole) → SaysBlock w span_four new → (i : ℕ) → i < 4
      → contents_of_rows (rows_of_lane w.log from to (i + 1)) ≡ all_of Json (map sample_text (share number (i + 1)))
  rows_at w tells i less =
      let a = get_some old i (let many = lanes.many in omega arith) in
      let b = get_some new i (let many = four in omega arith) in
      let x = a.0 in
      let y = b.0 in
      let share_lane = lanes.each i x a.1 in
      let works : y.works ≡ ingest_work share_lane.name (sample_lines (share number (i + 1))) ∷ [] = h.kept i x y a.1 b.1
      ∙ share_lane.works in
      let stored : list_all is_stored y.items ≡ true = list_at is_all_stored new all i y b.1 in
      let same : answers y.items ≡ y.items = stored_all y.items stored in
      let items = subst (λ (z : List Item). SaysItems w span_four [] [] (rows_of_lane w.log from to (i + 1)) y.works z) same (tells.each
      i y b.1) in
      share_rows number (i + 1) few w span_four [] [] share_lane.name (rows_of_lane w.log from to (i + 1)) y.items
      (subst (λ (z : List Work). SaysItems w span_four [] [] (rows_of_lane w.log from to (i + 1)) z y.items) works items)
      (ap length (sym same) ∙ h.ended i y b.1 ∙ ap length works) stored

  records_are : (w : Whole) → SaysBlock w span_four new → HasRecords number from to w.log
  records_are w tells = record {
    lanes = part_lanes 4 from to w.log (λ n lane form payload low high at.
        (let k = tells.own n lane form payload low high at in let many = four in (k.0, omega (k, many, arith))));
    rows = λ lane some less.
        let i : ℕ = lane - 1 in
        let is : i + 1 ≡ lane = omega (some, arith) in
        subst (λ (z : ℕ). contents_of_rows (rows_of_lane w.log from to z) ≡ all_of Json (map sample_text (share number z))) is
        (rows_at w tells i (omega (some, less, arith)));
  }

  pub has_stored : HasStored disks number disk s from disk' t to
  has_stored = record {
    between = h.between;
    goes = h.goes;
    rows =
        let b = get_some new 0 (let many = four in omega arith) in
        ap (λ (z : Registry). z.rows) (h.registry b.0 b.1
        ∙ stored_after (registry_of (view s.pass) s.registrar) (b.0).items (list_at is_all_stored new all 0 b.0 b.1));
    told = λ past sound. ((h.told past sound).0, λ w may. records_are w ((h.told past sound).1 w may));
  }

-- ---- all three

module _ {D : Type 0} (disks : Disks D) where
  goes_both : (a b c : D) (s m t : Store) → GoesLater disks a s b m → GoesLater disks b m c t → GoesLater disks a s c t
  goes_both a b c s m t p q = record {
    later = later_both (view s.pass) (view m.pass) (view t.pass) p.later q.later;
    sound = λ past sound. q.sound past (p.sound past sound);
  }

  module _ (number : ℕ) (a b c d : D) (s u v t : Store) (one two : ℕ) (text : List ℕ) (new : IsSampleStore disks a s)
      (first : HasDefined disks a s 0 b u one) (second : HasStored disks number b u one c v two)
      (third : HasCounted disks number c v two d t text) where
    -- what is so of each whole that may be in the end
    filled : (past : Whole) → Sound disks (point_at a s) past → (w : Whole) → MayEnd past (view t.pass) w
        → length w.log ≡ third.to → IsSampleLog number w.log × IsSummary number text
    filled past sound w may long =
        let sound_u = first.goes.sound past sound in
        let sound_v = second.goes.sound past sound_u in
        let may_v = narrows_later past (view v.pass) (view t.pass) third.goes.later w may in
        let may_u = narrows_later past (view u.pass) (view v.pass) second.goes.later w may_v in
        let defined = (first.told past sound).1 w may_u in
        let stored = (second.told past sound_u).1 w may_v in
        let counted = (third.told past sound_v).1 w may in
        let shares : HasShares number one two w.log = record {
          first = (second.told past sound_u).0;
          second = (let up = (third.told past sound_v).0 in omega arith);
          before = defined.0;
          records = stored;
          after = subst (λ (z : ℕ). EachEntry IsVoid (log_part two z w.log)) (sym long) counted.0;
        } in
        let rows = defined.1 new.rows in (
          sample_log w.log one two number shares,
          record {
            definitions = rows.definitions;
            defined = rows.defined;
            is = counted.1 rows.definitions rows.defined
                (subst (λ (z : List CatRow). AreRows rows.definitions z) (sym second.rows) rows.are)
                (λ x from to covers. selected_count w.log one two number shares x from to covers);
          },
        )

    pub has_filled : HasFilled disks number a s d t text
    has_filled = record {
      to = third.to;
      between = third.between;
      goes = goes_both a b d s u t first.goes (goes_both b c d u v t second.goes third.goes);
      told = λ past sound w may long. filled past sound w may long;
    }

  -- ---- the log that is closed

  pub sample_of : (number : ℕ) (a d : D) (s t : Store) (text : List ℕ) (remains : Remains) → IsSampleStore disks a s
      → HasFilled disks number a s d t text → IsClosed (view t.pass) remains → remains.opened ≡ true → IsSample number text remains
  sample_of number a d s t text remains new h closed opened =
      let sound = h.goes.sound new.past new.sound in
      let control = h.between.end.alone.control in
      let all = h.between.end.alone.all in
      let w = behind_table new.past (view t.pass) remains closed in
      let may = ends_so new.past (view t.pass) remains closed sound.fits control all in
      let none : length new.past.log ≡ 0 = ap length new.nothing in
      let number_is : (view t.pass).about.number ≡ 0 = sound.fits.base ∙ none in
      let log_is : w.log ≡ remains.log = ap (λ (z : List Entry). z ++ remains.log) new.nothing in
      let long : length w.log ≡ h.to =
      ap length log_is ∙ (let ends = closed_length (view t.pass) h.to remains h.between.end closed in
      let same : length remains.log ≡ h.to = omega arith in same) in
      let told = h.told new.past new.sound w may long in
      record {
        opened = opened;
        base = closed.base ∙ number_is;
        log = subst (IsSampleLog number) log_is told.0;
        summary = told.1;
      }

  -- as far as the text could be made, and the log be closed
  pub filled_of : {E : Type 0} (number : ℕ) (a b c d : D) (s u v t : Store) (one two : ℕ) → IsSampleStore disks a s
      → HasDefined disks a s 0 b u one → HasStored disks number b u one c v two
      → (r : Result (List ℕ) E) → IfOk r (HasCounted disks number c v two d t) → IfOk r (HasFilled disks number a s d t)
  filled_of number a b c d s u v t one two new first second (Ok text) third =
      has_filled number a b c d s u v t one two text new first second third
  filled_of number a b c d s u v t one two new first second (Err e) third = third

  pub made_of : {E : Type 0} (number : ℕ) (a d : D) (s t : Store) (text : List ℕ) → IsSampleStore disks a s
      → HasFilled disks number a s d t text → (r : Result Sampled E) → IfOk r (λ m. m.text ≡ text)
      → IfOk r (λ m. m.remains.opened ≡ true) → IfOk r (λ m. IsClosed (view t.pass) m.remains)
      → IfOk r (λ m. IsSample number m.text m.remains)
  made_of number a d s t text new h (Ok m) is opened closed =
      subst (λ (z : List ℕ). IsSample number z m.remains) (sym is) (sample_of number a d s t text m.remains new h closed opened)
  made_of number a d s t text new h (Err e) is opened closed = is
