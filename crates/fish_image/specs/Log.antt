-- What the words of a log's lines stand for.
use Rattle.std.specs.Prelude.{ℕ, zero, suc, ◌≡◌, ◌≢◌, ◌+◌, ◌-◌, ◌*◌, ◌^◌, ◌<◌, ◌≤◌, ◌⊎◌, List, [], ◌∷◌, ◌==◌, ⊤, Some}
use Rattle.std.specs.Prelude.{true}
use Rattle.std.specs.Prelude.{drop, if◌then◌else◌, length, replicate, slice_get, slice_index, take}
use Rattle.fish_catalog.specs.Covering.{Covers}
use Rattle.fish_catalog.specs.declared.commit.Commit.{Commit}
use Rattle.fish_catalog.specs.declared.entry.Entry.{Entry}
use Rattle.fish_catalog.specs.declared.entry.Entry.TheVariants.{Stored, Void}
use Rattle.fish_catalog.specs.declared.row.CatRow.{CatRow}
use Rattle.fish_lang.specs.Definition.{Definition}
use Rattle.fish_lang.specs.Language.{IsAccepted}
use Rattle.fish_layout.specs.Body.{IsBody}
use Rattle.fish_layout.specs.Header.{lines_of, void_word}
use Rattle.fish_layout.specs.declared.parts.BodyParts.{BodyParts}
use Rattle.fish_layout.specs.declared.parts.KeyPart.{KeyPart}
use Rattle.fish_psf.specs.Records.{evaluation, is_record}
use Rattle.fish_value.specs.declared.value.Value.{Value}
use Rattle.fish_image.specs.Reached.{AreLinked, Reached, reached_after, unread, with_keys}
use Rattle.fish_layout.specs.Pages.{page_of}

-- ---- the keys of a record

-- the values of the key entries of a definition, in their order
abbrev pub values_under : ℕ → List KeyPart → List Value
values_under id [] = []
values_under id (k ∷ ks) = if k.id == id then k.value ∷ values_under id ks else values_under id ks

-- the first are some of the second, in their order
abbrev pub AreSomeOf : List Value → List Value → Type 0
AreSomeOf [] ws = ⊤
AreSomeOf (v ∷ vs) [] = ⊥
AreSomeOf (v ∷ vs) (w ∷ ws) = ((v ≡ w) × AreSomeOf vs ws) ⊎ AreSomeOf (v ∷ vs) ws

-- the values are some of those that the row's definition gives for the record's payload, and all where its index covers
-- the record
pub record HasValues (row : CatRow) (number : ℕ) (p : BodyParts) (vs : List Value) : Type 0 where
  pub said : Definition
  pub read : IsAccepted row.def said
  pub some : AreSomeOf vs (evaluation said p.form p.payload)
  pub all : Covers row number → vs ≡ evaluation said p.form p.payload

-- each key entry is of a row, and the entries of each row have values that its definition gives, each once and in their
-- order, and all of them where the row covers the record
pub record HasRowKeys (rows : List CatRow) (number : ℕ) (p : BodyParts) : Type 0 where
  pub known : (j : ℕ) (k : KeyPart) → slice_get p.keys j ≡ Some k → k.id < length rows
  pub values : (id : ℕ) (row : CatRow) → slice_get rows id ≡ Some row → HasValues row number p (values_under id p.keys)

-- ---- regions

-- the lines of the region at the front of words, by its header
abbrev pub region_lines : List ℕ → ℕ
region_lines rest = lines_of (slice_index rest 0)

-- the words of that region
abbrev pub region : List ℕ → List ℕ
region rest = take (4 * region_lines rest) rest

-- the words of a void: its header, and zeros
abbrev pub void_words : ℕ → List ℕ
void_words lines = void_word lines ∷ replicate (4 * lines - 1) 0

-- the region at the next line is padding that crosses the end of a page
pub record IsVoidAt (c : Commit) (s : Reached) (lines : ℕ) (r : List ℕ) : Type 0 where
  pub some : 1 ≤ lines
  pub words : r ≡ void_words lines
  pub crosses : page_of s.line < page_of (s.line + lines - 1)
  pub within : s.line + lines ≤ c.lines

-- a record with these parts may stand at the next line, with the next number
pub record IsKeptAt (c : Commit) (s : Reached) (lines : ℕ) (p : BodyParts) : Type 0 where
  pub reads : is_record p.form p.payload ≡ true
  pub in_page : page_of (s.line + lines - 1) ≡ page_of s.line
  pub within : s.line + lines ≤ c.lines
  pub keys : HasRowKeys c.rows s.number p
  pub links : AreLinked (2 ^ c.bucket_bits) s.line 0 p.keys s.places

-- the region at the next line is that record
pub record IsRecordAt (c : Commit) (s : Reached) (lines : ℕ) (r : List ℕ) (p : BodyParts) : Type 0 where
  pub size : length r ≡ 4 * lines
  pub body : IsBody p r
  pub number : p.number ≡ s.number
  pub kept : IsKeptAt c s lines p

-- after a record with these parts
abbrev pub behind_record : Commit → Reached → ℕ → BodyParts → Reached
behind_record c s lines p =
    reached_after s lines (with_keys (2 ^ c.bucket_bits) s.line 0 p.keys s.places) (Stored p.lane p.form p.payload)

-- a region of so many lines and these words brings the reading from the first to the second
abbrev pub FollowsIn : Commit → Reached → ℕ → List ℕ → Reached → Type 0
FollowsIn c s lines r n =
    (IsVoidAt c s lines r × (n ≡ reached_after s lines s.places Void))
    ⊎ ((p : BodyParts) × IsRecordAt c s lines r p × (n ≡ behind_record c s lines p))

-- so does the region at the front of what is left
abbrev pub FollowsAt : Commit → Reached → List ℕ → Reached → Type 0
FollowsAt c s rest n = FollowsIn c s (region_lines rest) (region rest) n

-- ---- logs

-- so does the region at the next line of all words
abbrev pub Follows : Commit → List ℕ → Reached → Reached → Type 0
Follows c words s n = FollowsAt c s (drop (4 * s.line) words) n

-- the first k entries agree with all that was committed, and reading comes so far by them
abbrev pub Agrees : Commit → List ℕ → ℕ → Reached → Type 0
Agrees c words zero s = s ≡ unread
Agrees c words (suc k) s = (t : Reached) × Agrees c words k t × Follows c words t s

-- the words stand for a log of these entries: as many regions as were counted agree, and they are all lines
pub record StandsFor (c : Commit) (words : List ℕ) (log : List Entry) : Type 0 where
  pub end : Reached
  pub agrees : Agrees c words c.count end
  pub lines : end.line ≡ c.lines
  pub entries : end.entries ≡ log

-- exactly k leading entries agree, and so the words stand for no log
pub record IsDamaged (c : Commit) (words : List ℕ) (k : ℕ) : Type 0 where
  pub end : Reached
  pub agrees : Agrees c words k end
  pub few : k ≤ c.count
  pub last : k < c.count → (n : Reached) → Follows c words end n → ⊥
  pub lines : k ≡ c.count → end.line ≢ c.lines
