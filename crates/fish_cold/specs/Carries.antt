-- When a disk carries a table: what is below the table's base is in the file.
use Rattle.std.specs.Prelude.{ℕ, ◌≡◌, ◌^◌, ◌*◌, ◌<◌, ◌≤◌, ◌⊎◌, List, Option, Some, Result, Ok, Err, drop, slice_get, ⊤}
use Rattle.fish_catalog.specs.Covering.{Covers}
use Rattle.fish_catalog.specs.declared.commit.Commit.{Commit}
use Rattle.fish_catalog.specs.declared.entry.Entry.{Entry}
use Rattle.fish_catalog.specs.declared.entry.Entry.TheVariants.{Stored, Void}
use Rattle.fish_catalog.specs.declared.row.CatRow.{CatRow}
use Rattle.fish_image.specs.Log.{Agrees, IsRecordAt, StandsFor, region, region_lines, values_under}
use Rattle.fish_image.specs.Reached.{Reached, head_of}
use Rattle.fish_image.specs.Reading.{IsBodyOf}
use Rattle.fish_image.specs.Stands.{words_in}
use Rattle.fish_layout.specs.declared.parts.BodyParts.{BodyParts}
use Rattle.fish_rule.specs.Parts.{first_head}
use Rattle.fish_rule.specs.declared.view.Key.{Key}
use Rattle.fish_slots.specs.Commits.{HasCommit}
use Rattle.fish_lang.specs.Definition.{Definition}
use Rattle.fish_lang.specs.Language.{IsAccepted}
use Rattle.fish_psf.specs.Records.{evaluation}
use Rattle.fish_cold.specs.Answers.{IsRecordHead, IsVoidHead}
use Rattle.fish_cold.specs.Cached.{HasRegion, IsReadFrom}
use Rattle.fish_cold.specs.declared.cold.Cold.{Cold}
use Rattle.fish_cold.specs.declared.refusal.ColdRefusal.{ColdRefusal}
use Rattle.fish_cold.specs.declared.refusal.ColdRefusal.TheVariants.{Damaged, DiskFault, OutOfMemory}

-- the image stands for a log, and reading its first n entries comes so far: `end.entries` is the log's prior part
pub record IsPrior (image : List ℕ) (n : ℕ) (end : Reached) : Type 0 where
  pub commit : Commit
  pub body : List ℕ
  pub lines : List ℕ
  pub has : HasCommit body lines image
  pub told : IsBodyOf commit body
  pub log : List Entry
  pub stands : StandsFor commit (words_in lines) log
  pub few : n ≤ commit.count
  pub agrees : Agrees commit (words_in lines) n end

-- entry n of the prior part is a record of these parts
pub record IsPriorRecord {image : List ℕ} {count : ℕ} {end : Reached} (prior : IsPrior image count end) (n : ℕ)
    (p : BodyParts) : Type 0 where
  pub few : n < count
  pub at : Reached
  pub agrees : Agrees prior.commit (words_in prior.lines) n at
  pub is : IsRecordAt prior.commit at (region_lines (drop (4 * at.line) (words_in prior.lines)))
      (region (drop (4 * at.line) (words_in prior.lines))) p

-- the content of the disk is known, and stands for a log whose first entries are those below the base: they end at the
-- base's line, the heads with which the table began are theirs, each has a key entry for every value that a row of the
-- table gives where it covers the entry, and the page starts and pages that are kept are theirs
pub record CarriesTable (content : Option (List ℕ)) (k : Key) (cold : Cold) : Type 0 where
  pub image : List ℕ
  pub is : content ≡ Some image
  pub end : Reached
  pub prior : IsPrior image k.number end
  pub line : end.line ≡ k.line
  pub buckets : k.buckets ≡ 2 ^ prior.commit.bucket_bits
  pub heads : (b : ℕ) → b < k.buckets → first_head k b ≡ head_of end.places b
  pub covered : (n : ℕ) (p : BodyParts) → IsPriorRecord prior n p → (id : ℕ) (row : CatRow) (said : Definition)
      → slice_get k.rows.value id ≡ Some row → Covers row n → IsAccepted row.def said
      → values_under id p.keys ≡ evaluation said p.form p.payload
  pub base_number : cold.base.number ≡ k.number
  pub base_line : cold.base.line ≡ k.line
  pub starts : cold.starts ≡ end.starts
  pub read : IsReadFrom image cold

-- words that begin with a region are this entry: a void's header, or a record
abbrev pub IsEntryOf : List ℕ → Entry → Type 0
IsEntryOf rest entry = (IsVoidHead rest × (entry ≡ Void))
    ⊎ ((p : BodyParts) × IsRecordHead p rest × (entry ≡ Stored p.lane p.form p.payload))

-- the words of a number below the base are led to, and are the entry of the log's prior part
pub record IsCarried (cold : Cold) (image : List ℕ) (end : Reached) (n : ℕ) : Type 0 where
  pub rest : List ℕ
  pub region_is : HasRegion cold image n rest
  pub entry : Entry
  pub there : slice_get end.entries n ≡ Some entry
  pub is : IsEntryOf rest entry

-- the answer is this entry, and never damaged
abbrev pub IsEntryAnswer : Entry → Result Entry ColdRefusal → Type 0
IsEntryAnswer entry (Ok found) = found ≡ entry
IsEntryAnswer entry (Err (Damaged n)) = ⊥
IsEntryAnswer entry (Err DiskFault) = ⊤
IsEntryAnswer entry (Err OutOfMemory) = ⊤

-- the answer for a number below the base is the entry of the log for which the disk stands
pub record IsEntryRead {content : Option (List ℕ)} {k : Key} {cold : Cold} (h : CarriesTable content k cold)
    (number : ℕ)
    (result : Result Entry ColdRefusal) : Type 0 where
  pub entry : Entry
  pub there : slice_get h.end.entries number ≡ Some entry
  pub is : IsEntryAnswer entry result
