-- What each kind of step tells the pass that makes it.
use Rattle.std.specs.Prelude.{ℕ, ◌≡◌, ◌≢◌, ◌≤◌, ◌-◌, [], ◌+◌, ◌*◌, Bool, Some, None, ◌<◌, length, slice_get}
use Rattle.atomic_table.specs.Table.{Step}
use Rattle.fish_rule.specs.Parts.{RestsAt, first_head}
use Rattle.fish_rule.specs.Regions.{dir_word}
use Rattle.fish_rule.specs.SpaceSteps.{after_claim_lines, after_publish_region, after_store_word}
use Rattle.fish_rule.specs.LoadSteps.{IsAlone, after_load_tail, after_look_at, after_raise_settled, after_read_word}
use Rattle.fish_rule.specs.LoadSteps.{after_load_settled}
use Rattle.fish_rule.specs.Views.{Among}
use Rattle.fish_rule.specs.World.{dir_at, heads_at, high, line_range, log_at, low, slots}
use Rattle.fish_catalog.specs.Words.{IsWritable, row_word}
use Rattle.fish_catalog.specs.declared.row.CatRow.{CatRow}
use Rattle.fish_rule.specs.RegistrySteps.{after_announce, after_raise_version, after_define_word, after_load_registry}
use Rattle.fish_rule.specs.RegistrySteps.{after_retire, after_load_version}
use Rattle.fish_rule.specs.BoundarySteps.{after_load_bound, after_load_boundary, after_check_lane, after_store_boundary}
use Rattle.fish_rule.specs.Registry.{opened_at, row_at}
use Rattle.fish_rule.specs.declared.view.Epoch.TheVariants.{Out}
use Rattle.fish_rule.specs.declared.view.Flight.{Flight}
use Rattle.fish_rule.specs.declared.view.Found.{Found}
use Rattle.fish_rule.specs.declared.view.Key.{Key}
use Rattle.fish_rule.specs.declared.view.RegistryWord.{RegistryWord}
use Rattle.fish_rule.specs.declared.view.Round.{Round}
use Rattle.fish_rule.specs.Table.{Sat, Sees, Told}
use Rattle.fish_rule.specs.ChainSteps.{HasNode, PreviousRises, HeadRises, after_aim_entry, after_load_head}
use Rattle.fish_rule.specs.ChainSteps.{after_load_node, after_load_previous, after_splice_entry, after_swing_head}

-- a claim: the operand is a count of one and the lines, and the value found is the tail, whose count only rises
-- and stays within the directory
pub record ToldClaimLines (st : Step Bool) (m : Sat) (found : ℕ) (m' : Sat) : Type 0 where
  pub told : Told m (after_claim_lines m.0 (st.first - line_range) (high found) (low found)) m'
  pub counted : m.0.learned.count ≤ high found
  pub within : high found < m.0.about.number + slots m.0.about

-- a store of a word of the region in flight
abbrev pub told_store_word : Step Bool → Sat → ℕ → Sat → Type 0
told_store_word st m found m' = (f : Flight) → m.0.flight ≡ Some f → Told m (after_store_word m.0 f st.first) m'

-- a publication
abbrev pub told_publish_region : Step Bool → Sat → ℕ → Sat → Type 0
told_publish_region st m found m' = (f : Flight) → m.0.flight ≡ Some f → Told m (after_publish_region m.0 f) m'

-- the number whose directory word is at an index of the table
abbrev pub number_at : Key → ℕ → ℕ
number_at k i = k.number + (i - dir_at k)

-- the place of the word of the log at an index of the table
abbrev pub place_at : Key → ℕ → ℕ
place_at k i = k.line * 4 + (i - log_at k)

-- a look: the region has some number of lines; a pass that is alone finds no 0, and a number that
-- was found before has the word that it had
pub record ToldLookAt (st : Step Bool) (m : Sat) (found : ℕ) (m' : Sat) : Type 0 where
  pub lines : ℕ
  pub told : Told m (after_look_at m.0 (number_at m.0.about st.word) lines found) m'
  pub alone : IsAlone m.0 → found ≢ 0
  pub known : (f : Found) → Among f m.0.learned.found → f.number ≡ number_at m.0.about st.word
      → found ≡ dir_word f.kind f.line
  pub sees : Sees m.0 (number_at m.0.about st.word) found

-- a read of a word of a published region
abbrev pub told_read_word : Step Bool → Sat → ℕ → Sat → Type 0
told_read_word st m found m' = Told m (after_read_word m.0 (place_at m.0.about st.word) found) m'

-- a load of the tail: the count only rises, is at or past the number at which the table begins and the settled number,
-- and while no lane is out the tail is as it was left
pub record ToldLoadTail (st : Step Bool) (m : Sat) (found : ℕ) (m' : Sat) : Type 0 where
  pub told : Told m (after_load_tail m.0 found) m'
  pub from : m.0.about.number ≤ high found
  pub counted : m.0.learned.count ≤ high found
  pub settled : m.0.learned.settled ≤ high found
  pub rests : m.0.lane ≡ 1 → m.0.out ≡ [] → RestsAt (high found) (low found) m.0.tail

-- a load of the settled number, which only rises, from the base's number on
pub record ToldLoadSettled (st : Step Bool) (m : Sat) (found : ℕ) (m' : Sat) : Type 0 where
  pub told : Told m (after_load_settled m.0 found) m'
  pub rises : m.0.learned.settled ≤ found
  pub from : m.0.about.number ≤ found

-- a raise of the settled number, which was at least what the pass knew it to be
pub record ToldRaiseSettled (st : Step Bool) (m : Sat) (found : ℕ) (m' : Sat) : Type 0 where
  pub told : Told m (after_raise_settled m.0 st.first found) m'
  pub rises : m.0.learned.settled ≤ found

-- ---- heads and first words

-- the bucket whose head is at an index of the table
abbrev pub bucket_at : ℕ → ℕ
bucket_at i = i - heads_at

-- a load of a head: where it is no place of the table, it is the start's
pub record ToldLoadHead (st : Step Bool) (m : Sat) (found : ℕ) (m' : Sat) : Type 0 where
  pub told : Told m (after_load_head m.0 (bucket_at st.word) found) m'
  pub rises : HeadRises m.0 (bucket_at st.word) found
  pub first : found ≤ m.0.about.line * 4 → found ≡ first_head m.0.about (bucket_at st.word)

-- a load of the first word of a linked entry, which is below its place, and leads to the start's head where it
-- leads to no place of the table
pub record ToldLoadPrevious (st : Step Bool) (m : Sat) (found : ℕ) (m' : Sat) : Type 0 where
  pub bucket : ℕ
  pub node : HasNode m.0 bucket (place_at m.0.about st.word)
  pub told : Told m (after_load_previous m.0 bucket (place_at m.0.about st.word) found) m'
  pub rises : PreviousRises m.0 (place_at m.0.about st.word) found
  pub less : found < place_at m.0.about st.word
  pub first : found ≤ m.0.about.line * 4 → found ≡ first_head m.0.about bucket

-- a load of the second word of a linked entry
abbrev pub told_load_node : Step Bool → Sat → ℕ → Sat → Type 0
told_load_node st m found m' = Told m (after_load_node m.0 (place_at m.0.about st.word - 1) found) m'

-- an aim
abbrev pub told_aim_entry : Step Bool → Sat → ℕ → Sat → Type 0
told_aim_entry st m found m' = (f : Flight) → m.0.flight ≡ Some f → Told m (after_aim_entry m.0 f st.first) m'

-- a swing: the own place is never the head before
pub record ToldSwingHead (st : Step Bool) (m : Sat) (found : ℕ) (m' : Sat) : Type 0 where
  pub told : (f : Flight) → m.0.flight ≡ Some f → Told m (after_swing_head m.0 f (bucket_at st.word) st.first found) m'
  pub rises : HeadRises m.0 (bucket_at st.word) found
  pub other : found ≢ st.second

-- a splice
pub record ToldSpliceEntry (st : Step Bool) (m : Sat) (found : ℕ) (m' : Sat) : Type 0 where
  pub bucket : ℕ
  pub node : HasNode m.0 bucket (place_at m.0.about st.word)
  pub told : (f : Flight) → m.0.flight ≡ Some f
      → Told m (after_splice_entry m.0 f bucket (place_at m.0.about st.word) st.first found) m'
  pub rises : PreviousRises m.0 (place_at m.0.about st.word) found
  pub less : found < place_at m.0.about st.word
  pub other : found ≢ st.second

-- ---- the registry

-- a load of the version, which only rises, from the start's on, and is at most 512; the control pass finds the version
-- that it knows
pub record ToldLoadVersion (st : Step Bool) (m : Sat) (found : ℕ) (m' : Sat) : Type 0 where
  pub told : Told m (after_load_version m.0 found) m'
  pub rises : m.0.learned.version ≤ found
  pub from : m.0.about.version ≤ found
  pub few : found ≤ 512
  pub control : m.0.lane ≡ 1 → found ≡ m.0.learned.version

-- an announcement of a version
abbrev pub told_announce : Step Bool → Sat → ℕ → Sat → Type 0
told_announce st m found m' = Told m (after_announce m.0 (st.first - 1)) m'

-- a retirement
abbrev pub told_retire : Step Bool → Sat → ℕ → Sat → Type 0
told_retire st m found m' = Told m (after_retire m.0) m'

-- a load of a word of the registry that lasts: word 3 counts the rows of the start, and their words are theirs
pub record ToldLoadRegistry (st : Step Bool) (m : Sat) (found : ℕ) (m' : Sat) : Type 0 where
  pub told : Told m (after_load_registry m.0 st.word found) m'
  pub opened : st.word ≡ opened_at → found ≡ length m.0.about.rows.value
  pub row : (id i : ℕ) (row : CatRow) → slice_get m.0.about.rows.value id ≡ Some row → 2 ≤ i → i < 39
      → st.word ≡ row_at id i → IsWritable row × (found ≡ row_word row i)

-- a store of a word of the next operation or row
abbrev pub told_define_word : Step Bool → Sat → ℕ → Sat → Type 0
told_define_word st m found m' = Told m (after_define_word m.0 st.word st.first) m'

-- a store of the version plus one
abbrev pub told_raise_version : Step Bool → Sat → ℕ → Sat → Type 0
told_raise_version st m found m' = Told m (after_raise_version m.0) m'

-- ---- boundaries

-- a load of a lane's epoch word, which is at most one more than a version; a control pass that is alone and out finds 0
pub record ToldCheckLane (st : Step Bool) (m : Sat) (found : ℕ) (m' : Sat) : Type 0 where
  pub told : Told m (after_check_lane m.0 (st.word - 3) found) m'
  pub few : found ≤ 513
  pub alone : IsAlone m.0 → m.0.epoch ≡ Out → found ≡ 0

-- a load of the tail after the last lane
pub record ToldLoadBound (st : Step Bool) (m : Sat) (found : ℕ) (m' : Sat) : Type 0 where
  pub told : (o : Round) → m.0.round ≡ Some o → Told m (after_load_bound m.0 o found) m'
  pub counted : m.0.learned.count ≤ high found
  pub rests : m.0.lane ≡ 1 → m.0.out ≡ [] → RestsAt (high found) (low found) m.0.tail

-- a store of where the index of the row that waits begins
abbrev pub told_store_from : Step Bool → Sat → ℕ → Sat → Type 0
told_store_from st m found m' = Told m (after_store_boundary m.0 st.word (st.first - 1) None) m'

-- a store of where the index of an active row ends
abbrev pub told_store_to : Step Bool → Sat → ℕ → Sat → Type 0
told_store_to st m found m' = Told m (after_store_boundary m.0 st.word (st.first - 1) m.0.round) m'

-- a load of a boundary, which is at most one more than a number, and the word that the pass knew where it knew one
pub record ToldLoadBoundary (st : Step Bool) (m : Sat) (found : ℕ) (m' : Sat) : Type 0 where
  pub told : (id i : ℕ) → id < 256 → i < 2 → st.word ≡ row_at id i → Told m (after_load_boundary m.0 id i found) m'
  pub few : found ≤ 268435456
  pub known : (x : RegistryWord) → Among x m.0.learned.words → x.index ≡ st.word → found ≡ x.value
