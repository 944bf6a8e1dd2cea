-- What an image of a store file stands for.
use Rattle.std.specs.Prelude.{ℕ, zero, suc, ◌/◌, List, [], ◌∷◌, drop, length}
use Rattle.fish_catalog.specs.declared.commit.Commit.{Commit}
use Rattle.fish_catalog.specs.declared.entry.Entry.{Entry}
use Rattle.fish_image.specs.Log.{StandsFor}
use Rattle.fish_image.specs.Reading.{IsBodyOf}
use Rattle.fish_image.specs.Slot.{number}
use Rattle.fish_slots.specs.Commits.{HasCommit}

-- so many words from the front of bytes, each lowest byte first
abbrev pub words_of : ℕ → List ℕ → List ℕ
words_of zero bytes = []
words_of (suc n) bytes = number bytes ∷ words_of n (drop 8 bytes)

-- all whole words of bytes
abbrev pub words_in : List ℕ → List ℕ
words_in bytes = words_of (length bytes / 8) bytes

-- a body and lines tell this commit and this log
pub record IsLogOf (c : Commit) (body lines : List ℕ) (log : List Entry) : Type 0 where
  pub told : IsBodyOf c body
  pub stands : StandsFor c (words_in lines) log

-- the image stands for a log: the slot that counts tells the commit, and the lines that it counts spell the log
pub record Stands (c : Commit) (image : List ℕ) (log : List Entry) : Type 0 where
  pub body : List ℕ
  pub lines : List ℕ
  pub commit : HasCommit body lines image
  pub is : IsLogOf c body lines log
