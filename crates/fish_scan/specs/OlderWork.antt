-- How many words of the file the pieces below the base may load, as the counter that is handed in counts them.
use Rattle.std.specs.Prelude.{ℕ, ◌≡◌, ◌+◌, ◌*◌, ◌<◌, ◌≤◌, List, [], ◌∷◌, length}
use Rattle.fish_cold.specs.Carries.{IsPrior, IsPriorRecord}
use Rattle.fish_cold.specs.Chains.{IsKeyAt}
use Rattle.fish_image.specs.Reached.{Reached}
use Rattle.fish_layout.specs.Body.{body_lines}
use Rattle.fish_layout.specs.declared.parts.BodyParts.{BodyParts}
use Rattle.fish_layout.specs.declared.parts.KeyPart.{KeyPart}
use Rattle.fish_rule.specs.Views.{Among}
use Rattle.fish_rule.specs.declared.view.View.{View}
use Rattle.fish_scan.specs.Work.{AreEntries}
use Rattle.fish_value.specs.declared.row.Row.{Row}

-- the words of records
abbrev pub older_words : List BodyParts → ℕ
older_words [] = 0
older_words (p ∷ ps) = body_lines p * 4 + older_words ps

-- records below the base at numbers from one on and below another, the newest first
abbrev pub AreOlderRecords : {image : List ℕ} {count : ℕ} {end : Reached} → IsPrior image count end → ℕ → ℕ
    → List BodyParts → Type 0
AreOlderRecords prior from to [] = from ≤ to
AreOlderRecords prior from to (p ∷ ps) = (p.number < to) × IsPriorRecord prior p.number p
    × AreOlderRecords prior from p.number ps

-- a key entry of a bucket below the base, of a number from one on, is at the place
pub record IsOlderEntry {image : List ℕ} {count : ℕ} {end : Reached} (prior : IsPrior image count end)
    (b first place : ℕ) : Type 0 where
  pub number : ℕ
  pub parts : BodyParts
  pub place_in : ℕ
  pub key : KeyPart
  pub at : IsKeyAt prior b place number parts place_in key
  pub from : first ≤ number

-- places of such entries, the higher first: below one place, and none below another
abbrev pub AreOlderEntries : {image : List ℕ} {count : ℕ} {end : Reached} → IsPrior image count end → ℕ → ℕ → ℕ → ℕ
    → List ℕ → Type 0
AreOlderEntries prior b first low high [] = low ≤ high
AreOlderEntries prior b first low high (place ∷ places) = (place < high) × IsOlderEntry prior b first place
    × AreOlderEntries prior b first low place places

-- a full piece one load for each word of its records
pub record IsOlderFullAllowed {image : List ℕ} {count : ℕ} {end : Reached} (prior : IsPrior image count end)
    (from to loads : ℕ)
    : Type 0 where
  pub records : List BodyParts
  pub are : AreOlderRecords prior from to records
  pub few : loads ≤ older_words records

-- an index piece 38 loads for each key entry of the bucket of a number from the piece's first one on, one for each word
-- of the records of rows that are given, and one more
pub record IsOlderIndexAllowed {image : List ℕ} {count : ℕ} {end : Reached} (prior : IsPrior image count end) (b : ℕ)
    (rows : List Row)
    (from to loads : ℕ) : Type 0 where
  pub top : ℕ
  pub entries : List ℕ
  pub linked : AreOlderEntries prior b from 0 top entries
  pub records : List BodyParts
  pub are : AreOlderRecords prior from to records
  pub given : (p : BodyParts) → Among p records → (row : Row) × Among row rows × (row.number ≡ p.number)
  pub few : loads ≤ 38 * length entries + older_words records + 1

-- the walk through the table's part of a chain two loads for each entry that is known to be linked there, and two more
pub record IsWalkAllowed (v : View) (b loads : ℕ) : Type 0 where
  pub top : ℕ
  pub entries : List ℕ
  pub linked : AreEntries v b 0 0 top entries
  pub few : loads ≤ 2 * length entries + 2
