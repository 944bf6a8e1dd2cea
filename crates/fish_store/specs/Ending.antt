-- What a run leaves of a store, of which a crash may come at any moment.
use Rattle.std.specs.Prelude.{ℕ, ◌≡◌, ◌≤◌, ◌++◌, List, length}
use Rattle.fish_catalog.specs.declared.commit.Commit.{Commit}
use Rattle.fish_catalog.specs.declared.entry.Entry.{Entry}
use Rattle.fish_catalog.specs.declared.row.CatRow.{CatRow}
use Rattle.fish_flush.specs.Reading.{IsLineAt}
use Rattle.fish_flush.specs.declared.flusher.Flusher.{Flusher}
use Rattle.fish_image.specs.Stands.{Stands}
use Rattle.fish_rule.specs.ClosedLog.{IsClosed}
use Rattle.fish_rule.specs.declared.close.Remains.{Remains}
use Rattle.fish_rule.specs.declared.table.Shape.{Shape}
use Rattle.fish_rule.specs.declared.view.View.{View}
use Rattle.fish_whole.specs.Whole.{IsBehind, IsPrefix, Whole}

-- the image stands for a log that begins with the old one and has at least so many entries
pub record KeepsOld (old : List Entry) (least : ℕ) (image : List ℕ) : Type 0 where
  pub commit : Commit
  pub part : List Entry
  pub stands : Stands commit image part
  pub first : IsPrefix old part
  pub many : least ≤ length part

-- and that is a part of this one
pub record IsPartOf (old log : List Entry) (least : ℕ) (image : List ℕ) : Type 0 where
  pub kept : KeepsOld old least image
  pub front : IsPrefix kept.part log

-- the image stands for a log by a commit with these rows and so many lines, of a store of this shape
pub record KeepsCatalog (shape : Shape) (rows : List CatRow) (lines : ℕ) (image : List ℕ) : Type 0 where
  pub commit : Commit
  pub log : List Entry
  pub stands : Stands commit image log
  pub rows_are : commit.rows ≡ rows
  pub lines_are : commit.lines ≡ lines
  pub pages : commit.pages ≡ shape.pages
  pub bits : commit.bucket_bits ≡ shape.bucket_bits

-- a commit of so many entries is kept: the pass has counted no fewer, and knows the line at which they end; and every
-- image has that line, these rows and this shape
pub record IsCommitOf (images : List ℕ → Type 0) (shape : Shape) (rows : List CatRow) (f : Flusher) (v : View) (n : ℕ)
    : Type 0 where
  pub count : f.count ≡ n
  pub counted : n ≤ v.learned.count
  pub line : IsLineAt v f.count f.line
  pub definitions : (image : List ℕ) → images image → KeepsCatalog shape rows f.line image

-- the log was closed and shows the end of a whole, with the definitions of its words, of which all is so that was told;
-- what a crash now may leave is a part of it with the last commit's entries, and what one since a moment may have left,
-- a part of it with the old ones
pub record IsShownLog (now since : List ℕ → Type 0) (old : List Entry) (count : ℕ) (tells : Whole → Type 0)
    (remains : Remains) : Type 0 where
  pub view : View
  pub closed : IsClosed view remains
  pub past : Whole
  pub whole : Whole
  pub behind : IsBehind past view remains closed whole
  pub shows : whole.log ≡ past.log ++ remains.log
  pub base : length past.log ≡ remains.base
  pub first : IsPrefix old whole.log
  pub told : tells whole
  pub crash_now : (c : List ℕ) → now c → IsPartOf old whole.log count c
  pub crash_since : (c : List ℕ) → since c → IsPartOf old whole.log (length old) c

-- there was no memory to show it
pub record IsLost (now since : List ℕ → Type 0) (old : List Entry) (count : ℕ) : Type 0 where
  pub crash_now : (c : List ℕ) → now c → KeepsOld old count c
  pub crash_since : (c : List ℕ) → since c → KeepsOld old (length old) c
