-- Why a payload is refused, and what a refusal leaves.
use Rattle.fish_ingest.specs.Passing.{OnlyIngests, HasMark, FoundSince}
use Rattle.fish_ingest.specs.Preparation.{IsRecordFor}
use Rattle.fish_ingest.specs.declared.refusal.IngestRefusal.TheVariants as refusal
use Rattle.fish_ingest.specs.declared.refusal.IngestRefusal.{IngestRefusal}
use Rattle.fish_layout.specs.Body.{body_lines}
use Rattle.fish_layout.specs.declared.parts.BodyParts.{BodyParts}
use Rattle.fish_psf.specs.Records.{is_record}
use Rattle.fish_psf.specs.declared.reading.PsfRefusal.{PsfRefusal}
use Rattle.fish_psf.specs.declared.reading.PsfRefusal.TheVariants as parsing
use Rattle.fish_rule.specs.declared.view.Epoch.TheVariants.{Out}
use Rattle.fish_rule.specs.declared.view.Kind.TheVariants.{Stored}
use Rattle.fish_rule.specs.Clocks.{HasLoaded}
use Rattle.fish_rule.specs.declared.view.Noted.TheVariants.{Version}
use Rattle.fish_rule.specs.declared.view.Shut.{Shut}
use Rattle.fish_rule.specs.declared.view.View.{View}
use Rattle.fish_value.specs.Limits.{longest_payload}
use Rattle.fish_value.specs.declared.field.Form.{Form}
use Rattle.std.specs.Prelude.{ℕ, ◌≡◌, ◌≢◌, ◌⊎◌, ◌<◌, ◌≤◌, List, length, None, Some, true, false, ⊤}

-- the claim that shut a pass, as a refusal
abbrev pub full_of : Shut → IngestRefusal
full_of shut = refusal.Full shut.line shut.lines shut.end

-- the refusal of a parse, as one of a record
abbrev pub ingest_refusal : PsfRefusal → IngestRefusal
ingest_refusal parsing.TooLong = refusal.TooLong
ingest_refusal parsing.NotRecord = refusal.NotRecord
ingest_refusal parsing.OutOfMemory = refusal.OutOfMemory

-- why a refusal comes
abbrev pub IsIngestCause : Form → List ℕ → IngestRefusal → Type 0
IsIngestCause form payload refusal.TooLong = longest_payload < length payload
IsIngestCause form payload refusal.NotRecord = (length payload ≤ longest_payload) × (is_record form payload ≡ false)
IsIngestCause form payload refusal.OutOfMemory = ⊤
IsIngestCause form payload (refusal.Full line lines end) = is_record form payload ≡ true

-- the pass isn't entered and has nothing in flight, and no number is its own that wasn't before
pub record HasLeft (v u : View) : Type 0 where
  pub on : OnlyIngests v u
  pub outside : u.epoch ≡ Out
  pub idle : u.flight ≡ None
  pub own : u.own ≡ v.own

-- and it claimed nothing
pub record HasNotClaimed (v u : View) : Type 0 where
  pub left : HasLeft v u
  pub shut : u.shut ≡ v.shut
  pub tail : u.tail ≡ v.tail
  pub count : u.learned.count ≡ v.learned.count
  pub found : u.learned.found ≡ v.learned.found

-- the pass was shut in this call, by a claim of the lines of the record that the payload is at the version that it
-- entered: the last one that it loaded, in this call
pub record IsShutHere (v : View) (form : Form) (payload : List ℕ) (shut : Shut) (u : View) : Type 0 where
  pub unshut : v.shut ≡ None
  pub mark : HasMark u shut
  pub parts : BodyParts
  pub are : IsRecordFor u form payload parts
  pub lines_are : shut.lines ≡ body_lines parts
  pub version_is : parts.version ≡ u.learned.version
  pub loaded : HasLoaded v.clock u.clock Version parts.version

-- the claim that shut the pass came earlier, or in this call
abbrev pub IsShutFor : View → Form → List ℕ → Shut → View → Type 0
IsShutFor v form payload shut u = ((v.shut ≡ Some shut) × HasNotClaimed v u) ⊎ IsShutHere v form payload shut u

-- the pass is shut by this claim, and of what it claimed nothing is stored
pub record IsFull (v : View) (form : Form) (payload : List ℕ) (shut : Shut) (u : View) : Type 0 where
  pub left : HasLeft v u
  pub shut_is : u.shut ≡ Some shut
  pub by_claim : IsShutFor v form payload shut u
  pub unstored : FoundSince (λ kind. kind ≢ Stored) v u

-- what a refusal leaves
abbrev pub HasRefused : View → Form → List ℕ → IngestRefusal → View → Type 0
HasRefused v form payload refusal.TooLong u = HasNotClaimed v u
HasRefused v form payload refusal.NotRecord u = HasNotClaimed v u
HasRefused v form payload refusal.OutOfMemory u = HasNotClaimed v u
HasRefused v form payload (refusal.Full line lines end) u =
    IsFull v form payload (record { line = line; lines = lines; end = end }) u
