-- What a flusher keeps of the last commit.
use Rattle.std.specs.Prelude.{ℕ, ◌≡◌, ◌+◌, ◌*◌, ◌^◌, ◌≤◌, List, [], length}
use Rattle.fish_catalog.specs.Limits.{newest_format}
use Rattle.fish_catalog.specs.declared.commit.Commit.{Commit}
use Rattle.fish_catalog.specs.declared.entry.Entry.{Entry}
use Rattle.fish_catalog.specs.declared.page_start.PageStart.{PageStart}
use Rattle.fish_catalog.specs.declared.row.CatRow.{CatRow}
use Rattle.fish_flush.specs.declared.flusher.Flusher.{Flusher}
use Rattle.fish_image.specs.Progress.{AreHeads}
use Rattle.fish_catalog.specs.PageStarts.{page_after}
use Rattle.fish_image.specs.Stands.{IsLogOf}
use Rattle.fish_rule.specs.declared.table.Shape.{Shape}
use Rattle.fish_slots.specs.Commits.{SlotRests}
use Rattle.fish_slots.specs.Offsets.{lines_at}

-- the commit of a store without a record
abbrev pub first_commit : Shape → Commit
first_commit s =
    record {
      format = newest_format;
      turn = 0;
      pages = s.pages;
      bucket_bits = s.bucket_bits;
      count = 0;
      lines = 0;
      rows = [];
    }

-- the last commit, for a table of this shape with these rows
abbrev pub commit_of : Flusher → Shape → List CatRow → Commit
commit_of f s rows =
    record {
      format = newest_format;
      turn = f.turn;
      pages = s.pages;
      bucket_bits = s.bucket_bits;
      count = f.count;
      lines = f.line;
      rows = rows;
    }

-- it is kept of a commit in a slot, with these heads and page starts
pub record IsKeptOf (slot : ℕ) (c : Commit) (heads : List ℕ) (starts : List PageStart) (f : Flusher) : Type 0 where
  pub slot_is : f.slot ≡ slot
  pub turn : f.turn ≡ c.turn
  pub count : f.count ≡ c.count
  pub line : f.line ≡ c.lines
  pub heads_are : f.heads.items ≡ heads
  pub page : f.page ≡ page_after starts
  pub starts_are : f.starts.items ≡ starts

-- the last commit is this one, with this body and these lines, which tell this log
pub record IsCommitted (f : Flusher) (c : Commit) (body lines : List ℕ) (log : List Entry) : Type 0 where
  pub is : IsLogOf c body lines log
  pub size : length lines ≡ 32 * c.lines
  pub turn : c.turn ≡ f.turn
  pub count : c.count ≡ f.count
  pub line : c.lines ≡ f.line
  pub heads : AreHeads (2 ^ c.bucket_bits) is.stands.end.places f.heads.items
  pub page : is.stands.end.page ≡ f.page
  pub starts : is.stands.end.starts ≡ f.starts.items

-- every image has it in the flusher's slot, which alone is open
pub record IsAtRest (images : List ℕ → Type 0) (f : Flusher) (c : Commit) (log : List Entry) : Type 0 where
  pub slot_is : f.slot ≤ 1
  pub body : List ℕ
  pub lines : List ℕ
  pub rests : (i : List ℕ) → images i → SlotRests f.slot body lines i
  pub long : (i : List ℕ) → images i → lines_at + 32 * f.line ≤ length i
  pub committed : IsCommitted f c body lines log
