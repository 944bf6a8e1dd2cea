-- What a checker knows of the words that were read.
use Rattle.std.specs.Prelude.{ℕ, ◌≡◌, ◌^◌, ◌<◌, List, length, slice_index}
use Rattle.fish_catalog.specs.declared.commit.Commit.{Commit}
use Rattle.fish_image.specs.Reached.{Reached, head_of}
use Rattle.fish_image.specs.declared.progress.Progress.{Progress}

-- the heads are those of the key entries
pub record AreHeads (buckets : ℕ) (places : List (ℕ × ℕ)) (heads : List ℕ) : Type 0 where
  pub size : length heads ≡ buckets
  pub each : (b : ℕ) → b < buckets → slice_index heads b ≡ head_of places b

-- the reading has come so far
pub record IsAt (c : Commit) (s : Reached) (at : Progress) : Type 0 where
  pub number : at.number ≡ s.number
  pub line : at.line ≡ s.line
  pub page : at.page ≡ s.page
  pub heads : AreHeads (2 ^ c.bucket_bits) s.places at.heads.items
  pub starts : at.starts.items ≡ s.starts
