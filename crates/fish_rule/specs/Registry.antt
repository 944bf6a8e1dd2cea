-- The words of the registry: which definitions each version has, and which words last.
use Rattle.std.specs.Prelude.{ℕ, ◌≡◌, ◌≢◌, ◌+◌, ◌*◌, ◌%◌, ◌<◌, ◌≤◌, ◌⊎◌, zero, suc, List, [], ◌∷◌, ◌++◌, length, map}
use Rattle.std.specs.Prelude.{true, None}
use Rattle.std.proofs.Math.Decide.{ℕ_discrete, dec_lt}
use Rattle.fish_catalog.specs.Listing.{IsNewName, IsOnAt, active_texts, ended_at, listed_in, listed_of}
use Rattle.fish_catalog.specs.Words.{name_in, row_word, text_in}
use Rattle.fish_catalog.specs.declared.row.CatRow.{CatRow}
use Rattle.fish_catalog.specs.declared.listed.Listed.{Listed}
use Rattle.fish_layout.specs.Cleared.{choose}
use Rattle.fish_layout.specs.Operation.{end_word, ended_id, register_word}
use Rattle.fish_rule.specs.Views.{AllOf}
use Rattle.fish_rule.specs.declared.view.Key.{Key}
use Rattle.fish_rule.specs.declared.view.Learned.{Learned}
use Rattle.fish_rule.specs.declared.view.RegistryWord.{RegistryWord}

-- ---- where its words lie in the table

-- the index of the version, and that of the count of the rows with which the table begins
abbrev pub version_at : ℕ
version_at = 2

abbrev pub opened_at : ℕ
opened_at = 3

-- the version
abbrev pub version_in : (ℕ → ℕ) → ℕ
version_in g = g version_at

-- the epoch word of a lane, from 1 on
abbrev pub epoch_at : ℕ → ℕ
epoch_at lane = 3 + lane

-- the operation that made a version, from 1 on
abbrev pub op_at : ℕ → ℕ
op_at v = 19 + v

-- word i of the row with an id
abbrev pub row_at : ℕ → ℕ → ℕ
row_at id i = 532 + (id * 39 + i)

-- the words of the row with an id
abbrev pub row_in : (ℕ → ℕ) → ℕ → ℕ → ℕ
row_in g id i = g (row_at id i)

-- ---- the definitions of a version

-- an operation registers the next row, or ends the row with its id
abbrev pub made : (ℕ → ℕ) → ℕ → List Listed → List Listed
made g x ls = choose (dec_lt x 512) (ls ++ listed_in (row_in g (length ls)) (length ls) true ∷ [])
    (ended_at (ended_id x) ls)

-- the definitions at a version: those of the start, changed by the operations that made the versions after the
-- start's
abbrev pub definitions_at : Key → (ℕ → ℕ) → ℕ → List Listed
definitions_at k g zero = map listed_of k.rows.value
definitions_at k g (suc v) = choose (dec_lt v k.version) (definitions_at k g v)
    (made g (g (op_at (suc v))) (definitions_at k g v))

-- the row of an active definition without boundaries that words spell
abbrev pub row_spelled : (ℕ → ℕ) → CatRow
row_spelled f = record { id = 0; name = name_in f; def = text_in f; from = None; to = None }

-- the words after the boundaries are those of that row, so they are 0 after its name and its text
abbrev pub AreRowWords : (ℕ → ℕ) → Type 0
AreRowWords f = (i : ℕ) → 2 ≤ i → i < 39 → f i ≡ row_word (row_spelled f) i

-- the operation x registers the definition that the words of the next row spell, or it ends an active one
abbrev pub IsOperation : (ℕ → ℕ) → List Listed → ℕ → Type 0
IsOperation f ls x = ((x ≡ register_word (length ls)) × IsNewName ls (name_in f) (text_in f) × AreRowWords f)
    ⊎ ((id : ℕ) × (x ≡ end_word id) × (id < 256) × IsOnAt ls id)

-- these are the active definitions at a version that the registry has reached
abbrev pub AreActiveAt : Key → (ℕ → ℕ) → ℕ → List (ℕ × List ℕ) → Type 0
AreActiveAt k g v ts = (v ≤ version_in g) × (active_texts (definitions_at k g v) ≡ ts)

-- ---- words that last

-- the index is that of an operation that made a version which the registry has reached
abbrev pub IsOpIndex : Key → (ℕ → ℕ) → ℕ → Type 0
IsOpIndex k g p = (v : ℕ) × (k.version < v) × (v ≤ version_in g) × (p ≡ op_at v)

-- the index is that of a word of a row, after its boundaries
abbrev pub IsRowIndex : Key → (ℕ → ℕ) → ℕ → Type 0
IsRowIndex k g p = (id : ℕ) × (i : ℕ) × (id < length (definitions_at k g (version_in g))) × (2 ≤ i) × (i < 39)
    × (p ≡ row_at id i)

-- the index is that of a boundary of a row: word 0 tells where its index begins, word 1 where it ends
abbrev pub IsBoundaryIndex : ℕ → Type 0
IsBoundaryIndex p = (id : ℕ) × (i : ℕ) × (id < 256) × (i < 2) × (p ≡ row_at id i)

-- boundary i of the row with an id is this number
abbrev pub HasBoundary : (ℕ → ℕ) → ℕ → ℕ → ℕ → Type 0
HasBoundary g id i n = g (row_at id i) ≡ suc n

-- the index is that of a boundary that is set
abbrev pub IsSetBoundary : (ℕ → ℕ) → ℕ → Type 0
IsSetBoundary g p = IsBoundaryIndex p × (g p ≢ 0)

-- the word at the index lasts: the count of opened rows, an operation, a word of a row, or a boundary that is set
abbrev pub IsLasting : Key → (ℕ → ℕ) → ℕ → Type 0
IsLasting k g p = (p ≡ opened_at) ⊎ (IsOpIndex k g p ⊎ (IsRowIndex k g p ⊎ IsSetBoundary g p))

-- the version only rises, and words that last never change; so a boundary is set once
pub record Endures (k : Key) (g g' : ℕ → ℕ) : Type 0 where
  pub rises : version_in g ≤ version_in g'
  pub same : (p : ℕ) → IsLasting k g p → g' p ≡ g p

-- ---- what a pass knows of it

-- a word that was read is one that lasts
pub record IsRegistered (k : Key) (g : ℕ → ℕ) (x : RegistryWord) : Type 0 where
  pub lasts : IsLasting k g x.index
  pub word : g x.index ≡ x.value

-- the registry has these words
abbrev pub HasRead : (ℕ → ℕ) → List RegistryWord → Type 0
HasRead g words = AllOf (λ x. g x.index ≡ x.value) words

-- by the words read, the definitions at a version are these; the table begins at it or before it, and the registry has
-- reached it
pub record KnowsDefinitions (k : Key) (l : Learned) (v : ℕ) (ls : List Listed) : Type 0 where
  pub from : k.version ≤ v
  pub reached : v ≤ l.version
  pub are : (g : ℕ → ℕ) → HasRead g l.words → definitions_at k g v ≡ ls

-- by the words read, the active definitions at a version are these
abbrev pub KnowsActive : Key → Learned → ℕ → List (ℕ × List ℕ) → Type 0
KnowsActive k l v ts = (ls : List Listed) × KnowsDefinitions k l v ls × (active_texts ls ≡ ts)

-- by the words read, a row with this id is there
pub record KnowsRow (k : Key) (l : Learned) (id : ℕ) : Type 0 where
  pub version : ℕ
  pub reached : version ≤ l.version
  pub there : (g : ℕ → ℕ) → HasRead g l.words → id < length (definitions_at k g version)

-- the word that was stored last at an index, or 0
abbrev pub control_word : List RegistryWord → ℕ → ℕ
control_word [] p = 0
control_word (x ∷ xs) p = choose (ℕ_discrete p x.index) x.value (control_word xs p)
