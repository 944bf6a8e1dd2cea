-- When a region may be read, and what a record's payload has to be.
use Rattle.std.specs.Prelude.{ℕ, ◌≡◌, ◌+◌, ◌^◌, ◌<◌, ◌≤◌, List, true, length}
use Rattle.fish_layout.specs.declared.parts.BodyParts.{BodyParts}
use Rattle.fish_psf.specs.Records.{fields_of_payload, is_record}
use Rattle.fish_image.specs.within.Terms.{HasKeysFor}
use Rattle.fish_image.specs.declared.progress.Progress.{Progress}
use Rattle.fish_image.specs.declared.terms.IndexRow.{IndexRow}
use Rattle.fish_image.specs.declared.terms.Terms.{Terms}

-- a region of so many lines ends within the lines that were committed, and an entry is wanted
pub record CanTakeRegion (terms : Terms) (at : Progress) (lines : ℕ) : Type 0 where
  pub wanted : at.number < terms.count
  pub within : at.line + lines ≤ terms.lines
  pub few : terms.count < 2 ^ 28
  pub short : terms.lines < 2 ^ 40
  pub heads : 0 < length at.heads.items

-- the payload is a record of its form, and has the keys that these definitions ask
pub record HasKeysIn (rows : List IndexRow) (number : ℕ) (p : BodyParts) : Type 0 where
  pub reads : is_record p.form p.payload ≡ true
  pub keys : HasKeysFor rows number (fields_of_payload p.form p.payload) p.keys
