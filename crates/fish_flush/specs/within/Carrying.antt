-- What a store file carries of a log that passes still write, from one commit to the next. What private clauses need of
-- it.
use Rattle.std.specs.Prelude.{ℕ, ◌≡◌, ◌+◌, ◌-◌, ◌*◌, ◌%◌, ◌<◌, ◌≤◌, List, ◌++◌, drop, length}
use Rattle.fish_catalog.specs.declared.commit.Commit.{Commit}
use Rattle.fish_catalog.specs.declared.entry.Entry.{Entry}
use Rattle.fish_catalog.specs.declared.row.CatRow.{CatRow}
use Rattle.fish_flush.specs.Carrying.{CarriesLog}
use Rattle.fish_flush.specs.within.Filling.{Begins}
use Rattle.fish_flush.specs.Kept.{IsAtRest, IsCommitted, commit_of}
use Rattle.fish_flush.specs.Reading.{IsLineAt}
use Rattle.fish_flush.specs.within.Reading.{EndsWithin}
use Rattle.fish_flush.specs.Rows.{HaveGrown, HoldsRows}
use Rattle.fish_flush.specs.declared.drafting.Draft.{Draft}
use Rattle.fish_flush.specs.declared.flusher.Flusher.{Flusher}
use Rattle.fish_image.specs.Reading.{IsBodyOf}
use Rattle.fish_rule.specs.Logs.{AreKnown}
use Rattle.fish_rule.specs.Start.{IsShape}
use Rattle.fish_rule.specs.declared.table.Shape.{Shape}
use Rattle.fish_rule.specs.declared.view.View.{View}

-- ---- drafts

-- a flusher may draft the log up to a number
pub record MayDraft (v : View) (s : Shape) (f : Flusher) (rows : List CatRow) (to : ℕ) : Type 0 where
  pub rows_are : HoldsRows v rows
  pub shape : IsShape s
  pub turn : f.turn < 3
  pub some : 0 < length f.heads.items
  pub from : v.about.number ≤ f.count
  pub ordered : f.count ≤ to
  pub line : IsLineAt v f.count f.line

-- what is kept once a draft is committed
abbrev pub flusher_after : Flusher → Draft → Flusher
flusher_after f d =
    record {
      slot = 1 - f.slot;
      turn = d.turn;
      count = d.count;
      line = d.line;
      heads = d.batch.heads;
      page = d.batch.page;
      starts = d.batch.starts;
      shut = f.shut;
    }

-- the draft has the body of the next commit, up to a number and the line at which it begins, and its batch goes on from
-- the last one
pub record Drafts (u : View) (end : ℕ) (s : Shape) (f : Flusher) (rows : List CatRow) (to : ℕ) (d : Draft)
    : Type 0 where
  pub told : IsBodyOf (commit_of (flusher_after f d) s rows) d.body
  pub turn : d.turn ≡ (f.turn + 1) % 3
  pub count : d.count ≡ to
  pub line : IsLineAt u to d.line
  pub within : EndsWithin end f.line d.line
  pub begins : Begins f d.line d.batch

-- the draft with these lines is a commit of all that the last one has, and of the entries after it up to a number
pub record IsDrafted (u : View) (s : Shape) (f : Flusher) (rows : List CatRow) (to : ℕ) (d : Draft) (lines : List ℕ)
    : Type 0 where
  pub told : IsBodyOf (commit_of (flusher_after f d) s rows) d.body
  pub turn : d.turn ≡ (f.turn + 1) % 3
  pub count : d.count ≡ to
  pub line : IsLineAt u to d.line
  pub ordered : f.line ≤ d.line
  pub size : length lines ≡ 32 * (d.line - f.line)
  pub read : (c : Commit) (body before : List ℕ) (old : List Entry) → IsCommitted f c body before old
      → c.bucket_bits ≡ s.bucket_bits → HaveGrown c.count c.rows rows
      → (more : List Entry) × AreKnown u f.count more × (length more + f.count ≡ to)
      × IsCommitted (flusher_after f d) (commit_of (flusher_after f d) s rows) d.body (before ++ lines) (old ++ more)

-- the draft may be committed: it is one of the log up to a number that is settled, after the log that every image
-- stands for
pub record MaySave (images : List ℕ → Type 0) (v : View) (end : ℕ) (s : Shape) (f : Flusher) (d : Draft)
    (rows : List CatRow)
    (c : Commit) (log : List Entry) : Type 0 where
  pub may : MayDraft v s f rows d.count
  pub drafts : Drafts v end s f rows d.count d
  pub settled : d.count ≤ v.learned.settled
  pub counted : d.count ≤ v.learned.count
  pub rest : IsAtRest images f c log
  pub bits : c.bucket_bits ≡ s.bucket_bits
  pub grown : HaveGrown c.count c.rows rows
  pub told : AreKnown v v.about.number (drop v.about.number log)

-- ---- checkpoints

-- a draft is committed: the file carries the log that it carried and more, as this flusher keeps it
abbrev pub IsSaved : (List ℕ → Type 0) → (List ℕ → Type 0) → View → View → ℕ → Shape → Flusher → Draft → Flusher
    → Type 0
IsSaved images images' v u end s f d f' = (rows : List CatRow) (c : Commit) (old : List Entry)
    → MaySave images v end s f d rows c old
    → (more : List Entry) × (length (old ++ more) ≡ d.count)
    × CarriesLog images' f' u s rows (commit_of f' s rows) (old ++ more)
