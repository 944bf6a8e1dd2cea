-- How many lines the record of a payload takes, and which claim a refusal by a full log tells of.
use Rattle.std.specs.Prelude.{ℕ, ◌≡◌, ◌⊎◌, List, Option, Some}
use Rattle.fish_catalog.specs.Listing.{active_texts}
use Rattle.fish_catalog.specs.declared.listed.Listed.{Listed}
use Rattle.fish_lanes.specs.Scanning.{HasRows}
use Rattle.fish_lanes.specs.Seen.{Shown, claimed}
use Rattle.fish_lanes.specs.Spans.{Span}
use Rattle.fish_layout.specs.Body.{body_lines}
use Rattle.fish_layout.specs.declared.parts.BodyParts.{BodyParts}
use Rattle.fish_report.specs.declared.item.Item.{Item}
use Rattle.fish_report.specs.declared.item.Item.TheVariants as item
use Rattle.fish_rule.specs.Keys.{HasKeys}
use Rattle.fish_rule.specs.Views.{Among}
use Rattle.fish_rule.specs.declared.view.Shut.{Shut}
use Rattle.fish_value.specs.declared.field.Form.{Form}
use Rattle.fish_whole.specs.Whole.{Whole}

-- ---- sizes

-- the lines are those of the record that the payload is, with a key for each value that the active definitions give for
-- it
pub record HasSize (rows : List Listed) (form : Form) (payload : List ℕ) (lines : ℕ) : Type 0 where
  pub parts : BodyParts
  pub form_is : parts.form ≡ form
  pub payload_is : parts.payload ≡ payload
  pub keys : HasKeys (λ version texts. active_texts rows ≡ texts) parts
  pub lines_are : lines ≡ body_lines parts

-- so they are at a version of the block
pub record IsSizeOf (w : Whole) (s : Span) (form : Form) (payload : List ℕ) (lines : ℕ) : Type 0 where
  pub version : ℕ
  pub rows : List Listed
  pub has : HasRows w s version rows
  pub size : HasSize rows form payload lines

-- ---- claims

-- a region of so many lines at a line, past the end
abbrev pub claim_of : ℕ → ℕ → ℕ → Shut
claim_of line lines end = record { line = line; lines = lines; end = end }

-- the claim came before the block, or an item above in the lane told of it
abbrev pub IsEarlier : Span → List Shown → ℕ → ℕ → ℕ → Type 0
IsEarlier s shown line lines end = (s.full ≡ Some (claim_of line lines end)) ⊎ Among (claimed line lines end) shown

-- an item tells of the claim
abbrev pub SaysClaim : Shut → List Item → Type 0
SaysClaim c items = (file : List ℕ) × (stored : ℕ) × (refused : ℕ)
    × Among (item.IngestFull file c.line c.lines c.end stored refused) items

-- items that a full log refused name one claim, and that which had found it full before them, if any
pub record NamesOneClaim (full : Option Shut) (items : List Item) : Type 0 where
  pub one : (c d : Shut) → SaysClaim c items → SaysClaim d items → c ≡ d
  pub given : (c d : Shut) → full ≡ Some c → SaysClaim d items → d ≡ c
