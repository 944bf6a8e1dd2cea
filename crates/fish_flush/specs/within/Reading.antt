-- How far the log was copied. What private clauses need of it.
use Rattle.std.specs.Prelude.{ℕ, ◌≡◌, ◌≢◌, ◌*◌, ◌^◌, ◌≤◌, List, length}
use Rattle.fish_catalog.specs.declared.commit.Commit.{Commit}
use Rattle.fish_catalog.specs.declared.entry.Entry.{Entry}
use Rattle.fish_catalog.specs.declared.page_start.PageStart.{PageStart}
use Rattle.fish_image.specs.Log.{Agrees}
use Rattle.fish_image.specs.Progress.{AreHeads}
use Rattle.fish_image.specs.Reached.{Reached}
use Rattle.fish_rule.specs.Views.{Among}
use Rattle.fish_rule.specs.declared.view.Found.{Found}
use Rattle.fish_rule.specs.declared.view.Kind.TheVariants.{Mark}
use Rattle.fish_rule.specs.declared.view.View.{View}

-- the region of a number was found at a line, and is no mark
pub record IsLooked (v : View) (n line : ℕ) (f : Found) : Type 0 where
  pub number : f.number ≡ n
  pub line_is : f.line ≡ line
  pub plain : f.kind ≢ Mark
  pub among : Among f v.learned.found

-- lines up to the end of the table
abbrev pub EndsWithin : ℕ → ℕ → ℕ → Type 0
EndsWithin end from to = (from ≤ to) × (to ≤ end)

-- the words are those of so many entries, which agree with the commit's rows and end at the line; these are the newest
-- key entries of all buckets, and where pages begin to hold regions, before the page in which none begins yet
pub record IsReadTo (c : Commit) (words : List ℕ) (log : List Entry) (number line : ℕ) (heads : List ℕ) (page : ℕ)
    (starts : List PageStart) : Type 0 where
  pub end : Reached
  pub agrees : Agrees (record c { lines = line }) words number end
  pub line_is : end.line ≡ line
  pub entries : end.entries ≡ log
  pub heads_are : AreHeads (2 ^ c.bucket_bits) end.places heads
  pub page_is : end.page ≡ page
  pub starts_are : end.starts ≡ starts
  pub size : length words ≡ 4 * line
