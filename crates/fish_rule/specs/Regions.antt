-- Regions of lines: their kinds, and what their words hold.
use Rattle.std.specs.Prelude.{ℕ, ◌≡◌, ◌+◌, ◌-◌, ◌*◌, ◌/◌, IsTrue}
use Rattle.std.proofs.Math.Decide.{ℕ_discrete, dec_lt}
use Rattle.fish_layout.specs.Body.{body_lines}
use Rattle.fish_layout.specs.Cleared.{Spells, choose}
use Rattle.fish_layout.specs.Header.{void_word}
use Rattle.fish_layout.specs.declared.parts.BodyParts.{BodyParts}
use Rattle.fish_psf.specs.Records.{is_record}
use Rattle.fish_rule.specs.declared.view.Kind.{Kind}
use Rattle.fish_rule.specs.declared.view.Kind.TheVariants.{Mark, Stored, Void}
use Rattle.fish_rule.specs.World.{line_range}

-- the code of a kind in a directory word
abbrev pub code : Kind → ℕ
code Stored = 1
code Void = 2
code Mark = 3

-- the region from line a up to line b crosses the end of a page of 32,768 lines, or not
abbrev pub kind_within : ℕ → ℕ → Kind
kind_within a b = choose (dec_lt (a / 32768) ((b - 1) / 32768)) Void Stored

-- the kind of the region from line a up to line b: a mark where it ends past the log's end, else a
-- void where it crosses the end of a page
unfoldable pub kind_of : ℕ → ℕ → ℕ → Kind
kind_of end a b = choose (dec_lt end b) Mark (kind_within a b)

-- a directory word: the region's line in bits 0 to 35, its kind in bits 36 and 37
abbrev pub dir_word : Kind → ℕ → ℕ
dir_word kind line = line + code kind * line_range

-- e has the words of a record of this lane, number and lines, whose payload is a record of its form
pub record IsRecordOf (lane number lines : ℕ) (e : ℕ → ℕ) (p : BodyParts) : Type 0 where
  pub spells : Spells p e
  pub lane_is : p.lane ≡ lane
  pub number_is : p.number ≡ number
  pub lines_is : body_lines p ≡ lines
  pub reads : IsTrue (is_record p.form p.payload)

-- some record
abbrev pub IsRecord : ℕ → ℕ → ℕ → (ℕ → ℕ) → Type 0
IsRecord lane number lines e = (p : BodyParts) × IsRecordOf lane number lines e p

-- the words of a void: its header, and zeros
unfoldable pub void_body : ℕ → ℕ → ℕ
void_body lines i = choose (ℕ_discrete i 0) (void_word lines) 0

-- what a published region of a kind holds: a record, the words of a void, or nothing
abbrev pub HoldsRegion : Kind → ℕ → ℕ → ℕ → (ℕ → ℕ) → Type 0
HoldsRegion Stored lane number lines e = IsRecord lane number lines e
HoldsRegion Void lane number lines e = e ≡ void_body lines
HoldsRegion Mark lane number lines e = e 0 ≡ 0
