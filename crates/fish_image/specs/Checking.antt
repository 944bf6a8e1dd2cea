-- What a checker has seen, and what it answers.
use Rattle.std.specs.Prelude.{ℕ, ◌≡◌, ◌^◌, List, ◌++◌, Option, Some, None, Result, Ok, Err}
use Rattle.fish_catalog.specs.declared.commit.Checked.{Checked}
use Rattle.fish_catalog.specs.declared.commit.Commit.{Commit}
use Rattle.fish_image.specs.Log.{Agrees, IsDamaged}
use Rattle.fish_image.specs.Progress.{AreHeads}
use Rattle.fish_image.specs.Reached.{Reached}
use Rattle.fish_image.specs.Steps.{Breaks, StopsReading}
use Rattle.fish_image.specs.Terms.{AreTermsOf}
use Rattle.fish_image.specs.declared.checker.Checker.{Checker}
use Rattle.fish_image.specs.declared.progress.Progress.{Progress}
use Rattle.fish_image.specs.declared.refusal.ImageRefusal.{ImageRefusal}
use Rattle.fish_image.specs.declared.refusal.ImageRefusal.TheVariants.{Damaged, OutOfMemory}

-- words were read up to the first that is no region; or so many entries agree, and no other will
abbrev pub Seen : Option ℕ → Commit → List ℕ → List ℕ → Progress → Type 0
Seen (Some n) c w left at = Breaks c w n
Seen None c w left at = StopsReading c w left at

-- the checker of a commit has seen these words, and no others
pub record HasSeen (c : Commit) (checker : Checker) (w : List ℕ) : Type 0 where
  pub terms : AreTermsOf c checker.terms
  pub seen : Seen checker.damaged c w checker.left.items checker.at

-- it is some commit's, and has seen some words
pub record IsChecker (checker : Checker) : Type 0 where
  pub commit : Commit
  pub words : List ℕ
  pub seen : HasSeen commit checker words

-- what a piece of words comes to: they were seen; or they were, and so many entries agree, whatever comes after; or
-- memory ran out, and it is as if they had not come
abbrev pub Fed : Result (Unit {0}) ImageRefusal → Commit → List ℕ → List ℕ → Checker → Type 0
Fed (Ok _) c w piece new = HasSeen c new (w ++ piece)
Fed (Err (Damaged n)) c w piece new = HasSeen c new (w ++ piece) × Breaks c (w ++ piece) n
Fed (Err OutOfMemory) c w piece new = HasSeen c new w

-- the words stand for a log, of which these are the heads and page starts
pub record HasChecked (c : Commit) (w : List ℕ) (checked : Checked) : Type 0 where
  pub end : Reached
  pub agrees : Agrees c w c.count end
  pub lines : end.line ≡ c.lines
  pub heads : AreHeads (2 ^ c.bucket_bits) end.places checked.heads
  pub starts : checked.starts ≡ end.starts

-- words are refused where memory runs out, or since they stand for no log, with the count of leading entries that agree
abbrev pub IsImageCause : Commit → List ℕ → ImageRefusal → Type 0
IsImageCause c w (Damaged n) = IsDamaged c w n
IsImageCause c w OutOfMemory = Unit {0}
