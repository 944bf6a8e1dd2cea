-- What the definitions of a version are that a pass has read.
use Rattle.std.specs.Prelude.{ℕ, ◌≡◌, List, All, false, map, true}
use Rattle.fish_catalog.specs.Listing.{active_texts}
use Rattle.fish_catalog.specs.declared.listed.Listed.{Listed}
use Rattle.fish_psf.specs.declared.key.ActiveDef.{ActiveDef}
use Rattle.fish_rule.specs.Keys.{IsWritten, text_of}
use Rattle.fish_rule.specs.Registry.{KnowsDefinitions}
use Rattle.fish_rule.specs.declared.view.View.{View}
use Rattle.fish_epoch.specs.declared.definitions.Defs.{Defs}
use Rattle.fish_epoch.specs.declared.definitions.Known.{Known}

-- the version
abbrev pub version_of : Known → ℕ
version_of d = d.version

-- the active definitions
abbrev pub active_defs : Known → List ActiveDef
active_defs d = d.active.items

-- all definitions of the version, ended ones too: their ids, names and texts
abbrev pub rows_of : Known → List Listed
rows_of d = d.rows.items

-- nothing has been read yet
pub record IsUnread (d : Known) : Type 0 where
  pub unread : d.read ≡ false
  pub version : version_of d ≡ 0

-- they were read: by the words that the pass has read, these are the definitions of their version, and the active
-- ones among them, each of which is what its text is read as
pub record AreRead (v : View) (d : Known) : Type 0 where
  pub read : d.read ≡ true
  pub rows : KnowsDefinitions v.about v.learned (version_of d) (rows_of d)
  pub active : map text_of (active_defs d) ≡ active_texts (rows_of d)
  pub written : All IsWritten (active_defs d)

-- what they hold was read by this pass, or by one that it learned of
abbrev pub IsKnownOf : View → Known → Type 0
IsKnownOf v d = d.read ≡ true → AreRead v d

-- so it is of the definitions that are kept beside a reader
abbrev pub IsDefsOf : View → Defs → Type 0
IsDefsOf v d = IsKnownOf v d.known
