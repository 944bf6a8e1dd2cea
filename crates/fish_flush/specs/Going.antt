-- Images that go on from the lines of a commit.
use Rattle.std.specs.Prelude.{ℕ, ◌≡◌, ◌*◌, ◌≤◌, List, ◌++◌, length}
use Rattle.fish_catalog.specs.declared.commit.Commit.{Commit}
use Rattle.fish_catalog.specs.declared.entry.Entry.{Entry}
use Rattle.fish_flush.specs.Rows.{HaveGrown}
use Rattle.fish_image.specs.Stands.{IsLogOf}
use Rattle.fish_slots.specs.Commits.{HasCommit}

-- there is an image only where there was one
abbrev pub ComesFrom : (List ℕ → Type 0) → (List ℕ → Type 0) → Type 0
ComesFrom old new = (image : List ℕ) → new image → (before : List ℕ) × old before

-- the image stands for a log by a commit that goes on from this one: its lines begin with these, it has the same
-- buckets, it counts no fewer entries and lines, and its rows went on
pub record GoesOnFrom (c : Commit) (lines image : List ℕ) : Type 0 where
  pub commit : Commit
  pub body : List ℕ
  pub more : List ℕ
  pub log : List Entry
  pub has : HasCommit body (lines ++ more) image
  pub is : IsLogOf commit body (lines ++ more) log
  pub size : length (lines ++ more) ≡ 32 * commit.lines
  pub bits : c.bucket_bits ≡ commit.bucket_bits
  pub counts : c.count ≤ commit.count
  pub ends : c.lines ≤ commit.lines
  pub grown : HaveGrown c.count c.rows commit.rows
