-- The log that the words spell, and what a pass knows of it.
use Rattle.std.specs.Prelude.{ℕ, ◌≡◌, ◌≢◌, ◌+◌, ◌*◌, ◌<◌, ◌≤◌, ◌++◌, List, length, slice_index}
use Rattle.std.proofs.Common.{◌⊎◌}
use mathlib.Core.Option.{some}
use Rattle.std.proofs.Math.ListN.{get_elem?}
use Rattle.fish_catalog.specs.declared.entry.Entry.{Entry}
use Rattle.fish_catalog.specs.declared.entry.Entry.TheVariants as entry
use Rattle.fish_layout.specs.Cleared.{IsKeyWord, Spells}
use Rattle.fish_layout.specs.Header.{keys_of}
use Rattle.fish_layout.specs.declared.parts.BodyParts.{BodyParts}
use Rattle.fish_rule.specs.Clocks.{IsLater}
use Rattle.fish_rule.specs.Regions.{code}
use Rattle.fish_rule.specs.Rule.{Rule}
use Rattle.fish_rule.specs.Views.{Among}
use Rattle.fish_rule.specs.World.{World, body, high, low}
use Rattle.fish_rule.specs.declared.view.Found.{Found}
use Rattle.fish_rule.specs.declared.view.Gap.{Gap}
use Rattle.fish_rule.specs.declared.view.Key.{Key}
use Rattle.fish_rule.specs.declared.view.Known.{Known}
use Rattle.fish_rule.specs.declared.view.Label.{Label}
use Rattle.fish_rule.specs.declared.view.EntryPlace.{EntryPlace}
use Rattle.fish_rule.specs.declared.view.Opens.{Opens}
use Rattle.fish_rule.specs.declared.view.Recorded.{Recorded}
use Rattle.fish_rule.specs.declared.view.RegistryWord.{RegistryWord}
use Rattle.fish_rule.specs.declared.view.Kind.TheVariants.{Mark, Stored, Void}
use Rattle.fish_rule.specs.declared.view.Unended.{Unended}
use Rattle.fish_rule.specs.declared.view.View.{View}
use Rattle.fish_value.specs.declared.field.Form.{Form}

-- ---- entries

-- number n is published as a record, whose words spell these parts
pub record IsStoredEntry (w : World) (n lane : ℕ) (form : Form) (payload : List ℕ) (p : BodyParts) : Type 0 where
  pub stored : high (w.dir n) ≡ code Stored
  pub spells : Spells p (body w.log (low (w.dir n)))
  pub number_is : p.number ≡ n
  pub lane_is : p.lane ≡ lane
  pub form_is : p.form ≡ form
  pub payload_is : p.payload ≡ payload

-- what stands at number n
abbrev pub IsEntry : World → ℕ → Entry → Type 0
IsEntry w n (entry.Stored lane form payload) = (p : BodyParts) × IsStoredEntry w n lane form payload p
IsEntry w n entry.Void = high (w.dir n) ≡ code Void

-- the entries by number, from the table's first number up to the first mark, or up to all that is claimed
pub record IsLog (k : Key) (w : World) (entries : List Entry) : Type 0 where
  pub each : (i : ℕ) (e : Entry) → get_elem? entries i ≡ some e → IsEntry w (k.number + i) e
  pub within : k.number + length entries ≤ w.count
  pub ends : (k.number + length entries ≡ w.count) ⊎ (high (w.dir (k.number + length entries)) ≡ code Mark)

-- ---- what a view tells of the log

-- the second view knows of one table with the first, and all that the first had learned
pub record Learns (v u : View) : Type 0 where
  pub about : u.about ≡ v.about
  pub count : v.learned.count ≤ u.learned.count
  pub settled : v.learned.settled ≤ u.learned.settled
  pub version : v.learned.version ≤ u.learned.version
  pub words : (x : RegistryWord) → Among x v.learned.words → Among x u.learned.words
  pub found : (x : Found) → Among x v.learned.found → Among x u.learned.found
  pub known : (x : Known) → Among x v.learned.known → Among x u.learned.known
  pub records : (x : Recorded) → Among x v.learned.records → Among x u.learned.records
  pub nodes : (x : EntryPlace) → Among x v.learned.nodes → Among x u.learned.nodes
  pub least_previous : (x : Known) → Among x v.learned.least_previous → Among x u.learned.least_previous
  pub least_heads : (x : EntryPlace) → Among x v.learned.least_heads → Among x u.learned.least_heads
  pub gaps : (x : Gap) → Among x v.learned.gaps → Among x u.learned.gaps
  pub labels : (x : Label) → Among x v.learned.labels → Among x u.learned.labels
  pub unended : (x : Unended) → Among x v.learned.unended → Among x u.learned.unended
  pub opens : (x : Opens) → Among x v.learned.opens → Among x u.learned.opens

-- in every moment of a view that knows as much, this stands at number n
abbrev pub KnowsAs : View → ℕ → Entry → Type 0
KnowsAs v n e = (u : View) → Learns v u → (w : World) → Rule u.about w → (j : ℕ) → get_elem? w.views j ≡ some u
    → IsEntry w n e

-- the words are those of a region that was found: each that is no first word of a key entry was read
pub record HasWords (v : View) (f : Found) (words : List ℕ) : Type 0 where
  pub full : length words ≡ f.lines * 4
  pub read : (i : ℕ) → i < length words → ¬ IsKeyWord (keys_of (slice_index words 0)) i
      → Among (record { place = f.line * 4 + i; value = slice_index words i }) v.learned.known

-- words after others are those of the region that the first view had found at a line, as the second knows them
pub record HasMoreWords (v u : View) (line : ℕ) (before after : List ℕ) : Type 0 where
  pub more : List ℕ
  pub after_is : after ≡ before ++ more
  pub words : (f : Found) → Among f v.learned.found → f.line ≡ line → f.kind ≢ Mark → HasWords u f more

-- the second view is the first but for what it learned since
pub record Extends (v u : View) : Type 0 where
  pub learns : Learns v u
  pub clock : IsLater v.clock u.clock
  pub frame : u ≡ record v { learned = u.learned; clock = u.clock }

-- ---- one log

-- the number at which the log ends, in every moment of a view that knows as much
abbrev pub KnowsMark : View → ℕ → Type 0
KnowsMark v n = (u : View) → Learns v u → (w : World) → Rule u.about w → (j : ℕ) → get_elem? w.views j ≡ some u
    → high (w.dir n) ≡ code Mark

-- each of the entries stands at its number
abbrev pub AreKnown : View → ℕ → List Entry → Type 0
AreKnown v base entries = (i : ℕ) (e : Entry) → get_elem? entries i ≡ some e → KnowsAs v (base + i) e
