-- What the bytes of a slot's body tell.
use Rattle.std.specs.Prelude.{◌≡◌, ℕ, List}
use Rattle.fish_catalog.specs.declared.commit.Commit.{Commit}
use Rattle.fish_image.specs.Commits.{IsCommit}
use Rattle.fish_image.specs.Slot.{slot_bytes}

-- the bytes are the body of a slot that tells this commit
pub record IsBodyOf (c : Commit) (b : List ℕ) : Type 0 where
  pub commit : IsCommit c
  pub bytes : b ≡ slot_bytes c
