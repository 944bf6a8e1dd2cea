-- What is known of the content outside. `None` stands for content of which nothing is known any more.
--
-- Each word here says something only where the content is known at the end, and then it was known at the beginning too:
-- what is unknown never becomes known again.
use Rattle.std.specs.Prelude.{◌≡◌, ℕ, ◌<◌, List, [], ◌++◌, length, take, Option, Some, IfSome, Result, MatchResult}
use Rattle.std.specs.Option.{option_map}

-- the rest is the old one after these bytes, which were taken from its front
abbrev pub Took : Option (List ℕ) → Option (List ℕ) → List ℕ → Type 0
Took old new bytes = IfSome new (λ rest. old ≡ Some (bytes ++ rest))

-- the content is the old one with these bytes at its end
abbrev pub Gained : Option (List ℕ) → Option (List ℕ) → List ℕ → Type 0
Gained old new bytes = IfSome new (λ all. option_map (λ before. before ++ bytes) old ≡ Some all)

-- the content gained some first part of a piece
abbrev pub GainedPart : Option (List ℕ) → Option (List ℕ) → List ℕ → Type 0
GainedPart old new piece = (n : ℕ) × Gained old new (take n piece)

-- nothing is left
abbrev pub IsAtEnd : Option (List ℕ) → Type 0
IsAtEnd rest = IfSome rest (λ bytes. bytes ≡ [])

-- a read took as many bytes as it answered, and they stand at the front of the buffer: none, with
-- room for one, only at the end. A read that failed took nothing
abbrev pub Reads : {E : Type 0} → Option (List ℕ) → Option (List ℕ) → Result ℕ E → List ℕ → Type 0
Reads old new result buffer =
    MatchResult result
    (λ n. Took old new (take n buffer) × (0 < length buffer → n ≡ 0 → IsAtEnd new))
    (λ _. Took old new [])

-- a write put as many bytes of the piece after the others as it answered: at least one, if the
-- piece has one. A write that failed put none
abbrev pub Writes : {E : Type 0} → Option (List ℕ) → Option (List ℕ) → Result ℕ E → List ℕ → Type 0
Writes old new result piece =
    MatchResult result
    (λ n. Gained old new (take n piece) × (0 < length piece → 0 < n))
    (λ _. Gained old new [])

-- files by name: the bytes of each, and none where there is no file of that name
abbrev pub Files : Type 0
Files = List ℕ → Option (List ℕ)

-- the files are the same as before
abbrev pub SameFiles : Option Files → Option Files → Type 0
SameFiles old new = IfSome new (λ files. old ≡ Some files)

-- there is a file of this name, and its bytes are what is left to read
pub record HasFile (files : Files) (name : List ℕ) (left : Option (List ℕ)) : Type 0 where
  pub bytes : List ℕ
  pub found : files name ≡ Some bytes
  pub whole : left ≡ Some bytes
