-- The blocks of a sample: what each asks for and leaves.
use Rattle.std.specs.Prelude.{ℕ, ◌≡◌, ◌+◌, ◌<◌, ◌≤◌, List, [], ◌∷◌, Option, Some, IsSome, codes, length, map}
use Rattle.std.specs.Prelude.{slice_get, true}
use Rattle.fish_catalog.specs.declared.row.CatRow.{CatRow}
use Rattle.fish_disk.specs.declared.disk.Disk.{Ghosts as Disks}
use Rattle.fish_lang.specs.Canonical.{definition_text}
use Rattle.fish_lanes.specs.Between.{IsBetweenBlocks}
use Rattle.fish_lanes.specs.Blocks.{EachLane, EachLanePair, SaysBlock}
use Rattle.fish_lanes.specs.Registering.{ItemsFit, after_all, registry_of}
use Rattle.fish_lanes.specs.Spans.{Span, answers}
use Rattle.fish_lanes.specs.declared.lane.Lane.{Lane}
use Rattle.fish_psf.specs.Records.{evaluation}
use Rattle.fish_psf.specs.Select.{select}
use Rattle.fish_recover.specs.declared.opened.Opened.{Opened}
use Rattle.fish_rule.specs.Passes.{view}
use Rattle.fish_rule.specs.declared.close.Remains.{Remains}
use Rattle.fish_rule.specs.declared.view.View.{View}
use Rattle.fish_sample.specs.Logs.{IsSampleLog}
use Rattle.fish_sample.specs.within.Parts.{EachEntry, HasRecords, IsVoid, log_part}
use Rattle.fish_sample.specs.Sample.{AreDefined, SampleQuestion, Definitions, asked_count, summary_text}
use Rattle.fish_scan.specs.Older.{selectable}
use Rattle.fish_store.specs.Opened.{IsOfOpened}
use Rattle.fish_store.specs.Points.{point_at}
use Rattle.fish_store.specs.Sound.{Sound}
use Rattle.fish_store.specs.declared.store.Store.{Store}
use Rattle.fish_whole.specs.Whole.{Later, Whole, WillHold}

-- the content of a disk of this kind is always told
abbrev pub IsAlwaysShown : {D : Type 0} → (D → Option (List ℕ)) → Type 0
IsAlwaysShown {D} content = (d : D) → IsSome (content d)

-- it is the store that was opened, which was made
pub record IsOfMade (o : Opened) (s : Store) : Type 0 where
  pub made : o.made ≡ true
  pub of : IsOfOpened o s

-- a store was made: nothing is in it, and nothing was before it
pub record IsSampleStore {D : Type 0} (disks : Disks D) (disk : D) (s : Store) : Type 0 where
  pub between : IsBetweenBlocks disks.images disk s 0
  pub rows : s.registrar.catalog ≡ []
  pub past : Whole
  pub nothing : past.log ≡ []
  pub sound : Sound disks (point_at disk s) past

-- the store went on in its table
pub record GoesLater {D : Type 0} (disks : Disks D) (disk : D) (s : Store) (disk' : D) (t : Store) : Type 0 where
  pub later : Later (view s.pass) (view t.pass)
  pub sound : (past : Whole) → Sound disks (point_at disk s) past
      → Sound disks (point_at disk' t) past

-- ---- one block

-- between which numbers and versions it lies
abbrev pub span_of : View → View → ℕ → ℕ → ℕ → Span
span_of v u from to lanes = record {
  from = from;
  to = to;
  first = v.learned.version;
  last = u.learned.version;
  lanes = lanes;
  full = v.shut;
}

-- the lanes did all that they were to do, and what their items say is so of each whole log that may be in the end
pub record HasRunBlock {D : Type 0} (disks : Disks D) (disk : D) (s : Store) (from : ℕ) (old : List Lane) (disk' : D)
    (t : Store) (to : ℕ) (new : List Lane) : Type 0 where
  pub between : IsBetweenBlocks disks.images disk' t to
  pub goes : GoesLater disks disk s disk' t
  pub kept : EachLanePair (λ i x y. y.works ≡ x.works) old new
  pub many : length new ≡ length old
  pub ended : EachLane (λ i x. length (answers x.items) ≡ length x.works) new
  pub told : (past : Whole) → Sound disks (point_at disk s) past → (from ≤ to)
      × WillHold past (view t.pass) (λ w. SaysBlock w (span_of (view s.pass) (view t.pass) from to (length new)) new)
  pub so : (x : Lane) → slice_get new 0 ≡ Some x
      → ItemsFit from (to + 16) (registry_of (view s.pass) s.registrar) x.items
  pub registry : (x : Lane) → slice_get new 0 ≡ Some x
      → registry_of (view t.pass) t.registrar ≡ after_all (registry_of (view s.pass) s.registrar) x.items

-- ---- the definitions

-- names and texts of definitions
abbrev pub namings : List CatRow → List (List ℕ × List ℕ)
namings rows = map (λ r. (r.name, r.def)) rows

-- the rows have these definitions, and no others
abbrev pub AreRows : Definitions → List CatRow → Type 0
AreRows d rows = namings rows ≡ (codes "kind", definition_text d.kind) ∷ (codes "late", definition_text d.late)
    ∷ (codes "band", definition_text d.band) ∷ []

-- the rows have definitions that the sources are
pub record HasDefinitions (rows : List CatRow) : Type 0 where
  pub definitions : Definitions
  pub defined : AreDefined definitions
  pub are : AreRows definitions rows

-- a store without a definition has them, and no record was stored
pub record HasDefined {D : Type 0} (disks : Disks D) (disk : D) (s : Store) (from : ℕ) (disk' : D) (t : Store) (to : ℕ)
    : Type 0 where
  pub between : IsBetweenBlocks disks.images disk' t to
  pub goes : GoesLater disks disk s disk' t
  pub told : (past : Whole) → Sound disks (point_at disk s) past → (from ≤ to)
      × WillHold past (view t.pass) (λ w. EachEntry IsVoid (log_part from to w.log)
      × (s.registrar.catalog ≡ [] → HasDefinitions t.registrar.catalog))

-- ---- the records

-- each lane stored its share, and the definitions are the same
pub record HasStored {D : Type 0} (disks : Disks D) (number : ℕ) (disk : D) (s : Store) (from : ℕ) (disk' : D)
    (t : Store) (to : ℕ) : Type 0 where
  pub between : IsBetweenBlocks disks.images disk' t to
  pub goes : GoesLater disks disk s disk' t
  pub rows : t.registrar.catalog ≡ s.registrar.catalog
  pub told : (past : Whole) → Sound disks (point_at disk s) past → (from ≤ to)
      × WillHold past (view t.pass) (λ w. HasRecords number from to w.log)

-- ---- the counts

-- over each range with all numbers below one, as many records are selected as have the value
abbrev pub AreSelected : ℕ → ℕ → Whole → Type 0
AreSelected number below w = (a : SampleQuestion) (from to : ℕ)
    → ((n : ℕ) → n < below → n < length w.log → (from ≤ n) × (n < to))
    → length (select (map selectable w.log) (evaluation a.definition) a.value from to []) ≡ asked_count number a

-- no record was stored, and a text is the summary by these definitions, where selections are as they have to be
pub record HasCounted {D : Type 0} (disks : Disks D) (number : ℕ) (disk : D) (s : Store) (from : ℕ) (disk' : D)
    (t : Store) (text : List ℕ) : Type 0 where
  pub to : ℕ
  pub between : IsBetweenBlocks disks.images disk' t to
  pub goes : GoesLater disks disk s disk' t
  pub told : (past : Whole) → Sound disks (point_at disk s) past → (from ≤ to)
      × WillHold past (view t.pass) (λ w. EachEntry IsVoid (log_part from to w.log)
      × ((d : Definitions) → AreDefined d → AreRows d s.registrar.catalog → AreSelected number from w
      → text ≡ summary_text d number))

-- the text is the summary by the definitions that the sources are
pub record IsSummary (number : ℕ) (text : List ℕ) : Type 0 where
  pub definitions : Definitions
  pub defined : AreDefined definitions
  pub is : text ≡ summary_text definitions number

-- the store has the records, and the text is their summary
pub record HasFilled {D : Type 0} (disks : Disks D) (number : ℕ) (disk : D) (s : Store) (disk' : D) (t : Store)
    (text : List ℕ) : Type 0 where
  pub to : ℕ
  pub between : IsBetweenBlocks disks.images disk' t to
  pub goes : GoesLater disks disk s disk' t
  pub told : (past : Whole) → Sound disks (point_at disk s) past
      → WillHold past (view t.pass) (λ w. length w.log ≡ to → IsSampleLog number w.log × IsSummary number text)

-- what is left of it
pub record IsSample (number : ℕ) (text : List ℕ) (remains : Remains) : Type 0 where
  pub opened : remains.opened ≡ true
  pub base : remains.base ≡ 0
  pub log : IsSampleLog number remains.log
  pub summary : IsSummary number text
