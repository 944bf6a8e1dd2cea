-- What a store file carries of a log that passes still write, from one commit to the next.
use Rattle.std.specs.Prelude.{ℕ, ◌≡◌, ◌+◌, ◌≤◌, ◌⊎◌, List, ◌++◌, Some, drop, length, false}
use Rattle.fish_catalog.specs.declared.commit.Commit.{Commit}
use Rattle.fish_catalog.specs.declared.entry.Entry.{Entry}
use Rattle.fish_catalog.specs.declared.row.CatRow.{CatRow}
use Rattle.fish_disk.specs.Crash.{LeavesOnly}
use Rattle.fish_flush.specs.Going.{ComesFrom, GoesOnFrom}
use Rattle.fish_flush.specs.Kept.{IsAtRest, commit_of}
use Rattle.fish_flush.specs.Reading.{IsLineAt}
use Rattle.fish_flush.specs.Rows.{HaveGrown}
use Rattle.fish_flush.specs.declared.flusher.Flusher.{Flusher}
use Rattle.fish_image.specs.Stands.{Stands}
use Rattle.fish_rule.specs.Clocks.{IsLater}
use Rattle.fish_rule.specs.LoadSteps.{IsAlone}
use Rattle.fish_rule.specs.Logs.{AreKnown, Learns}
use Rattle.fish_rule.specs.World.{high, low}
use Rattle.fish_rule.specs.declared.table.Shape.{Shape}
use Rattle.fish_rule.specs.declared.view.View.{View}
use Rattle.fish_walk.specs.Looks.{IsTailCount}
use Rattle.fish_walk.specs.Settling.{EndsAt, HasLoadedCount, IsEnd, IsMark, SettlesAt}

-- every image stands for this log by this commit, which the flusher keeps; the log is a settled prefix of the table's,
-- as the pass knows, and the rows have gone on since
pub record CarriesLog (images : List ℕ → Type 0) (f : Flusher) (v : View) (s : Shape) (rows : List CatRow) (c : Commit)
    (log : List Entry) : Type 0 where
  pub rest : IsAtRest images f c log
  pub pages : c.pages ≡ s.pages
  pub bits : c.bucket_bits ≡ s.bucket_bits
  pub grown : HaveGrown c.count c.rows rows
  pub from : v.about.number ≤ f.count
  pub settled : f.count ≤ v.learned.settled
  pub line : IsLineAt v f.count f.line
  pub told : AreKnown v v.about.number (drop v.about.number log)

-- ---- checkpoints

-- the tail was last seen at this count
abbrev pub IsTailAt : View → ℕ → Type 0
IsTailAt v count = (tail : ℕ) × (v.tail ≡ Some (record { number = high tail; line = low tail })) × (high tail ≡ count)

-- the second view is the first but for the tail and what was learned since; where the pass is alone, the tail stays
-- where it was
pub record ReadsLog (v u : View) : Type 0 where
  pub learns : Learns v u
  pub clock : IsLater v.clock u.clock
  pub frame : u ≡ record v { tail = u.tail; learned = u.learned; clock = u.clock }
  pub tail : IsAlone v → (count : ℕ) → IsTailAt v count → IsTailAt u count

-- the number is one up to which all is settled, and why no further: it is the count, which is no less than the pass
-- knew, or the number of one that was found unfinished or a mark. A pass that is alone stops at the log's end
pub record HasSettled (v u : View) (n : ℕ) : Type 0 where
  pub rises : v.learned.settled ≤ n
  pub settled : n ≤ u.learned.settled
  pub count : ℕ
  pub loaded : HasLoadedCount v u count
  pub known : v.learned.count ≤ count
  pub stops : SettlesAt IsEnd v u n count
  pub alone : IsAlone v → SettlesAt IsMark v u n count
  pub ends : IsAlone v → EndsAt u n count
  pub rests : IsAlone v → IsTailCount count v.tail

-- the log up to the number is committed: the flusher counts it and the pass has counted no fewer, and the file carries
-- the log that it carried and more
pub record HasCommitted (images images' : List ℕ → Type 0) (f f' : Flusher) (v u : View) (s : Shape)
    (rows : List CatRow) (n : ℕ)
    : Type 0 where
  pub live : f'.shut ≡ false
  pub count : f'.count ≡ n
  pub counted : n ≤ u.learned.count
  pub carries : (c : Commit) (old : List Entry) → CarriesLog images f v s rows c old
      → (more : List Entry) × (length (old ++ more) ≡ n)
      × CarriesLog images' f' u s rows (commit_of f' s rows) (old ++ more)

-- a crash at any moment leaves an image that stands for the log of the last commit or of a new one: one that goes on by
-- entries that the pass knows, with these rows, and by lines after these of the last one; and there is an image only
-- where there was one
pub record LeavesEither {D : Type 0} (images : D → List ℕ → Type 0) (since : D → ℕ → List ℕ → Type 0) (moment : D → ℕ)
    (old new : D) (u : View) (rows : List CatRow) (c : Commit) (log : List Entry) (lines : List ℕ) : Type 0 where
  pub more : List Entry
  pub next : Commit
  pub told : AreKnown u c.count more
  pub rows_are : next.rows ≡ rows
  pub count : next.count ≡ c.count + length more
  pub leaves : LeavesOnly images since moment old new (λ i. Stands c i log ⊎ Stands next i (log ++ more))
  pub goes : LeavesOnly images since moment old new (GoesOnFrom c lines)
  pub was : ComesFrom (images old) (images new)
