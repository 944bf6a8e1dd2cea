-- What opening a store gives, and what it leaves.
use Rattle.std.specs.Prelude.{ℕ, ◌≡◌, ◌+◌, ◌^◌, ◌<◌, ◌≤◌, List, [], Bool, true, false, Option, Some, IfSome, length}
use Rattle.std.specs.Prelude.{map, unwrap_or, ⊤}
use Rattle.fish_catalog.specs.Clamps.{clamped}
use Rattle.fish_catalog.specs.declared.commit.Commit.{Commit}
use Rattle.fish_catalog.specs.declared.entry.Entry.{Entry}
use Rattle.fish_catalog.specs.declared.row.CatRow.{CatRow}
use Rattle.fish_cold.specs.Carries.{CarriesTable}
use Rattle.fish_flush.specs.Carrying.{CarriesLog}
use Rattle.fish_flush.specs.Kept.{first_commit}
use Rattle.fish_image.specs.Stands.{Stands}
use Rattle.fish_rule.specs.Passes.{IsPassOf, view}
use Rattle.fish_rule.specs.Start.{table_lines}
use Rattle.fish_rule.specs.Table.{first_view}
use Rattle.fish_rule.specs.declared.table.Shape.{Shape}
use Rattle.fish_recover.specs.Opening.{IsOpenCause, IsOtherShape}
use Rattle.fish_recover.specs.declared.opened.Opened.{Opened}
use Rattle.fish_recover.specs.declared.refusal.Asked.{Asked}
use Rattle.fish_recover.specs.declared.refusal.OpenRefusal.{OpenRefusal}
use Rattle.fish_recover.specs.declared.refusal.OpenRefusal.TheVariants.{Damaged, DiskFault, NotAStore, OutOfMemory}
use Rattle.fish_recover.specs.declared.refusal.OpenRefusal.TheVariants.{ShapeDiffers}

-- the shape of a store that is made: what is asked for, and else 8 pages and 12 bits
abbrev pub asked_shape : Asked → Shape
asked_shape asked = record { pages = unwrap_or asked.pages 8; bucket_bits = unwrap_or asked.bucket_bits 12 }

-- the shape of a table of a commit
abbrev pub shape_of : Commit → Shape
shape_of c = record { pages = c.pages; bucket_bits = c.bucket_bits }

-- ---- what is open

-- a table begins after a commit: every image stands for this log by the commit, and the table, at its first view,
-- begins after them at a version, with these rows cut to the commit's count, and has the lines and buckets of the
-- commit's shape; a checkpoint may follow; what is below the base is looked for in the file, whatever the disk tells of
-- it, and where its content is told, it is read from there
pub record IsBegunStore (at : ℕ) (from : List CatRow) (content : Option (List ℕ))
    (images : List ℕ → Type 0) (c : Commit) (log : List Entry) (o : Opened) : Type 0 where
  pub pass : IsPassOf o.log o.pass
  pub first : view o.pass ≡ first_view o.log.key
  pub number : o.log.key.number ≡ c.count
  pub line : o.log.key.line ≡ c.lines
  pub version : o.log.key.version ≡ at
  pub rows : o.log.key.rows.value ≡ o.catalog
  pub catalog : o.catalog ≡ map (clamped c.count) from
  pub count : o.count ≡ c.count
  pub live : o.flusher.shut ≡ false
  pub carries : CarriesLog images o.flusher (view o.pass) o.log.shape o.catalog c log
  pub end : o.log.key.end ≡ c.lines + table_lines c.pages c.count c.lines
  pub buckets : o.log.key.buckets ≡ 2 ^ c.bucket_bits
  pub below_number : o.cold.base.number ≡ o.log.key.number
  pub below_line : o.cold.base.line ≡ o.log.key.line
  pub cold : IfSome content (λ _. CarriesTable content o.log.key o.cold)

-- the store is open: its table begins after the commit, at version 0 and with the commit's rows
abbrev pub IsOpened : Option (List ℕ) → (List ℕ → Type 0) → Commit → List Entry → Opened → Type 0
IsOpened content images c log o = IsBegunStore 0 c.rows content images c log o

-- the image is none, and a store without a record was made of it; or it stands for this log, by this commit of the
-- shape that is asked for
abbrev pub IsImageAsked : Asked → Bool → Commit → List Entry → List ℕ → Type 0
IsImageAsked asked true c log image = (image ≡ []) × (c ≡ first_commit (asked_shape asked)) × (log ≡ [])
IsImageAsked asked false c log image = Stands c image log × (IsOtherShape asked c → ⊥)

-- a log is open, for which the disk stood before; or it was empty
pub record HasOpened (old new : Option (List ℕ)) (images : List ℕ → Type 0) (asked : Asked) (o : Opened) : Type 0 where
  pub commit : Commit
  pub log : List Entry
  pub opened : IsOpened new images commit log o
  pub was : IfSome new (λ _. (i : List ℕ) × (old ≡ Some i) × IsImageAsked asked o.made commit log i)

-- from a moment on, of which at most one call is before, a crash leaves only images that stand for the log
pub record StandsSince {D : Type 0} (since : D → ℕ → List ℕ → Type 0) (moment : D → ℕ) (old new : D) (c : Commit)
    (log : List Entry) : Type 0 where
  pub from : ℕ
  pub early : from ≤ moment old + 1
  pub stands : (i : List ℕ) → since new from i → Stands c i log

-- ---- why nothing is open

-- why a store isn't opened: as it is found; but an empty disk is no reason
abbrev pub IsStoreCause : List ℕ → Asked → OpenRefusal → Type 0
IsStoreCause image asked NotAStore = (0 < length image) × IsOpenCause image asked NotAStore
IsStoreCause image asked (Damaged n) = IsOpenCause image asked (Damaged n)
IsStoreCause image asked (ShapeDiffers kept other) = IsOpenCause image asked (ShapeDiffers kept other)
IsStoreCause image asked DiskFault = ⊤
IsStoreCause image asked OutOfMemory = ⊤
