-- A file that is given in parts.
use Rattle.std.specs.Prelude.{ℕ, ◌≡◌, ◌≢◌, ◌+◌, ◌-◌, ◌<◌, ◌⊎◌, List, [], ◌∷◌, ◌++◌, ⊤, length, slice_index, take}
use Rattle.fish_lanes.specs.declared.work.Work.{Work}
use Rattle.fish_lanes.specs.declared.work.Work.TheVariants as work
use Rattle.fish_lines.specs.declared.resuming.Begin.{Begin}
use Rattle.fish_lines.specs.declared.resuming.Begin.TheVariants.{After}
use Rattle.fish_value.specs.Limits.{longest_file}
use Rattle.fish_value.specs.declared.field.Form.{Form}
use Rattle.fish_value.specs.declared.field.Form.TheVariants.{Csv, Json}

-- how many bytes of a file are given at once at most: one more than are stored at once
abbrev pub longest_csv_read : ℕ
longest_csv_read = 67108865

-- how many bytes of files a lane is given at once at most: fewer than 1,048,576, and then what is given at once of one
abbrev pub longest_given : ℕ
longest_given = 68157440

-- how many bytes of a file in JSON are given in parts at most
abbrev pub longest_in_parts : ℕ
longest_in_parts = 68719476736

-- the bytes have no LF
abbrev pub HasNoEnd : List ℕ → Type 0
HasNoEnd b = (k : ℕ) → k < length b → slice_index b k ≢ 10

-- a line of a file with these bytes is longer than what may be stored at once
pub record HasLongLine (b : List ℕ) : Type 0 where
  pub front : List ℕ
  pub line : List ℕ
  pub after : List ℕ
  pub is : b ≡ front ++ (line ++ after)
  pub long : longest_file < length line
  pub none : HasNoEnd line

-- a file with these bytes is too long: in CSV it has too many, and in JSON too, or a line of too many
abbrev pub IsTooLong : Form → List ℕ → Type 0
IsTooLong Csv b = longest_file < length b
IsTooLong Json b = (longest_in_parts < length b) ⊎ HasLongLine b

-- the bytes end with an LF
abbrev pub EndsLine : List ℕ → Type 0
EndsLine b = (front : List ℕ) × (b ≡ front ++ 10 ∷ [])

-- where the reading of a file goes on after these works
abbrev pub begin_after : Begin → List Work → Begin
begin_after begin [] = begin
begin_after begin (w ∷ ws) = After

-- these works are parts of a file with these bytes, from where its reading begins, each up to the end of a line; this
-- is left of it
abbrev pub AreParts : Form → Begin → List ℕ → List ℕ → List Work → List ℕ → Type 0
AreParts form begin name b [] rest = b ≡ rest
AreParts form begin name b (w ∷ ws) rest =
    (part then : List ℕ) × (b ≡ part ++ then) × (form ≡ Json) × EndsLine part
    × (w ≡ work.Ingest form begin name part) × AreParts form After name then ws rest

-- where this is left of a file, no further part is given: it is in CSV; or no line ends in as many bytes as are read at
-- once; or with as many, parts would have more than parts may have
abbrev pub HasNoMoreParts : Form → List ℕ → List ℕ → Type 0
HasNoMoreParts Csv b rest = ⊤
HasNoMoreParts Json b rest = HasNoEnd (take longest_csv_read rest)
    ⊎ (longest_in_parts < (length b - length rest) + longest_csv_read)

-- these works are all of it: parts, and then what is left, up to so many bytes; more than may be stored at once only
-- of a file that is too long, once no further part is given
pub record IsFileRead (form : Form) (begin : Begin) (name b : List ℕ) (ws : List Work) : Type 0 where
  pub parts : List Work
  pub rest : List ℕ
  pub are : AreParts form begin name b parts rest
  pub is : ws ≡ parts ++ work.Ingest form (begin_after begin parts) name (take longest_csv_read rest) ∷ []
  pub long : longest_file < length rest → IsTooLong form b × HasNoMoreParts form b rest
