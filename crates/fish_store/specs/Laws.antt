-- How an open store goes on: laws.
use Rattle.std.specs.Prelude.{ℕ, ◌≡◌, ◌*◌, List, Option, Some, IsSome, length}
use Rattle.fish_catalog.specs.declared.commit.Commit.{Commit}
use Rattle.fish_catalog.specs.declared.entry.Entry.{Entry}
use Rattle.fish_cold.specs.Carries.{CarriesTable}
use Rattle.fish_cold.specs.declared.cold.Cold.{Cold}
use Rattle.fish_disk.specs.declared.disk.Disk.{Ghosts as Disks}
use Rattle.fish_flush.specs.Going.{GoesOnFrom}
use Rattle.fish_image.specs.Reading.{IsBodyOf}
use Rattle.fish_image.specs.Stands.{Stands}
use Rattle.fish_recover.specs.Stores.{IsOpened}
use Rattle.fish_recover.specs.declared.opened.Opened.{Opened}
use Rattle.fish_rule.specs.Passes.{view}
use Rattle.fish_rule.specs.declared.view.Key.{Key}
use Rattle.fish_slots.specs.Commits.{HasCommit}
use Rattle.fish_store.specs.Opened.{first_past, opened_point}
use Rattle.fish_store.specs.Sound.{GoesOnHere, IsImageOf, Point, Sound, StoreStays}

-- what a file carries by the lines of a commit it carries by every image that goes on from it, with the same prior part
abbrev pub StaysCarried : Type 0
StaysCarried = (k : Key) (cold : Cold) (content later : Option (List ℕ)) (h : CarriesTable content k cold) (c : Commit)
    (body lines image : List ℕ) → HasCommit body lines h.image → IsBodyOf c body → length lines ≡ 32 * c.lines
    → GoesOnFrom c lines image → later ≡ Some image → (t : CarriesTable later k cold) × (t.end ≡ h.end)

-- ---- moments, of disks of which these are told

module _ {D : Type 0} (disks : Disks D) where
  -- a store that was opened is sound after the log for which its disk stood
  abbrev pub OpensSound : Type 0
  OpensSound = (disk : D) (c : Commit) (log : List Entry) (o : Opened)
      → IsOpened (disks.content disk) (disks.images disk) c log o
      → ((i : List ℕ) → disks.content disk ≡ Some i → disks.images disk i) → IsSome (disks.content disk)
      → Sound disks (opened_point disk o) (first_past log o)

  -- each image that stands for that log is one of a part that is there for good
  abbrev pub OpensParts : Type 0
  OpensParts = (disk : D) (c : Commit) (log : List Entry) (o : Opened)
      → IsOpened (disks.content disk) (disks.images disk) c log o
      → (i : List ℕ) → Stands c i log → IsImageOf (first_past log o) (view o.pass) (length log) i

  -- a step that leaves the last commit goes on in one table; what goes on in one table, and then goes on, does so
  abbrev pub StepsGoOn : Type 0
  StepsGoOn = (p q : Point D) → StoreStays disks p q → GoesOnHere disks p q

  abbrev pub BothGoOn : Type 0
  BothGoOn = (p m q : Point D) → GoesOnHere disks p m → GoesOnHere disks m q
      → GoesOnHere disks p q
