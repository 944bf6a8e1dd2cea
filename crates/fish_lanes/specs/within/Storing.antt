-- How far the records of a file are stored.
use Rattle.std.specs.Prelude.{ℕ, ◌≡◌, ◌+◌, ◌⊎◌, ◌++◌, List, [], ◌∷◌, Option, Some, None, false, true, ⊤}
use Rattle.fish_ingest.specs.Ingestion.{HasIngested}
use Rattle.fish_ingest.specs.Refusal.{HasNotClaimed, IsFull}
use Rattle.fish_lanes.specs.within.Gains.{Gains, IsFullBy}
use Rattle.fish_lanes.specs.Records.{LaneRow, contents_of_rows}
use Rattle.fish_lanes.specs.within.Registering.{KeepsRegistry}
use Rattle.fish_lanes.specs.within.Sizes.{IsSizeBetween}
use Rattle.fish_lanes.specs.Telling.{AreCounted, all_of}
use Rattle.fish_lanes.specs.declared.ingesting.Tally.{Tally}
use Rattle.fish_value.specs.Outcomes.{accepted}
use Rattle.fish_lines.specs.declared.texts.RecordText.{RecordText}
use Rattle.fish_lines.specs.declared.texts.RecordText.TheVariants as text
use Rattle.fish_psf.specs.Records.{is_record}
use Rattle.fish_report.specs.declared.item.Item.{Item}
use Rattle.fish_report.specs.declared.item.Item.TheVariants as item
use Rattle.fish_rule.specs.declared.view.Shut.{Shut}
use Rattle.fish_rule.specs.declared.view.View.{View}
use Rattle.fish_value.specs.declared.field.Form.{Form}
use Rattle.fish_value.specs.declared.field.Form.TheVariants.{Csv}

-- nothing yet
abbrev pub nothing_stored : Tally
nothing_stored = record { stored = 0; refused = 0 }

-- what is told of a file
abbrev pub item_of : List ℕ → Tally → Option Shut → Item
item_of name tally None = item.Ingested name tally.stored tally.refused
item_of name tally (Some shut) = item.IngestFull name shut.line shut.lines shut.end tally.stored tally.refused

-- one more is stored
abbrev pub one_stored : Tally → Tally
one_stored t = record t { stored = t.stored + 1 }

-- one more is no record
abbrev pub one_refused : Tally → Tally
one_refused t = record t { refused = t.refused + 1 }

-- the payload is a record and stored, or it is none
abbrev pub TakesLine : View → View → Form → List ℕ → Tally → Tally → Type 0
TakesLine v u form payload t t' = ((number : ℕ) × HasIngested v form payload number u × (t' ≡ one_stored t))
    ⊎ ((is_record form payload ≡ false) × HasNotClaimed v u × (t' ≡ one_refused t))

-- the payload is a record, and found the log full
abbrev pub FindsFull : View → View → Form → List ℕ → Tally → Tally → Shut → Type 0
FindsFull v u form payload t t' shut = (is_record form payload ≡ true) × IsFull v form payload shut u × (t' ≡ t)

-- the text of a line or row was taken: a record is stored, and one that is refused is counted
abbrev pub TakesText : View → View → Form → Option (List ℕ) → Tally → Tally → Type 0
TakesText v u form (Some payload) t t' = (number : ℕ) × HasIngested v form payload number u × (t' ≡ one_stored t)
TakesText v u form None t t' = Gains v u [] × KeepsRegistry v u × (u.shut ≡ v.shut) × (t' ≡ one_refused t)

-- it is that of a record, which found the log full
abbrev pub FindsTextFull : View → View → Form → Option (List ℕ) → Tally → Tally → Shut → Type 0
FindsTextFull v u form outcome t t' shut =
    (payload : List ℕ) × (outcome ≡ Some payload) × IsFull v form payload shut u × (t' ≡ t)

-- the text is one that a file gives: a row is a record
abbrev pub IsRecordText : RecordText → Type 0
IsRecordText (text.Row row) = is_record Csv row ≡ true
IsRecordText x = ⊤

-- those in front are stored, those after aren't read yet
pub record IsStoredUpTo (v u : View) (form : Form) (outs behind : List (Option (List ℕ))) (tally : Tally) : Type 0 where
  pub front : List (Option (List ℕ))
  pub parts : outs ≡ front ++ behind
  pub rows : List LaneRow
  pub gains : Gains v u rows
  pub registry : KeepsRegistry v u
  pub content : contents_of_rows rows ≡ all_of form (accepted front)
  pub counted : AreCounted front tally.stored tally.refused

-- the next one is a record and found the log full
pub record IsFullAt (v u : View) (form : Form) (outs : List (Option (List ℕ))) (tally : Tally) (shut : Shut)
    : Type 0 where
  pub payload : List ℕ
  pub rest : List (Option (List ℕ))
  pub stored : IsStoredUpTo v u form outs (Some payload ∷ rest) tally
  pub full : IsFullBy u shut.line shut.lines shut.end
  pub size : (v.shut ≡ Some shut) ⊎ IsSizeBetween v u form payload shut.lines

-- all are, and the log wasn't found full
pub record AreAllStored (v u : View) (form : Form) (outs : List (Option (List ℕ))) (tally : Tally) : Type 0 where
  pub stored : IsStoredUpTo v u form outs [] tally
  pub shut : u.shut ≡ v.shut

-- all are stored, or all up to one that found the log full
abbrev pub EndsWith : View → View → Form → List (Option (List ℕ)) → Tally → Option Shut → Type 0
EndsWith v u form outs tally None = AreAllStored v u form outs tally
EndsWith v u form outs tally (Some shut) = IsFullAt v u form outs tally shut

-- some are
abbrev pub IsPartStored : View → View → Form → List (Option (List ℕ)) → Type 0
IsPartStored v u form outs = (behind : List (Option (List ℕ))) × (tally : Tally)
    × IsStoredUpTo v u form outs behind tally
