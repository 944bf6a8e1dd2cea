-- What a registrar keeps of the definitions is what its pass knows of the log's words.
use Rattle.std.specs.Prelude.{ℕ, ◌≡◌, ◌<◌, ◌≤◌, suc, List, All, Option, Some, None, map, slice_get}
use Rattle.fish_catalog.specs.Listing.{listed_of}
use Rattle.fish_catalog.specs.Rows.{AwaitsFrom}
use Rattle.fish_catalog.specs.Words.{bound_word}
use Rattle.fish_catalog.specs.declared.row.CatRow.{CatRow}
use Rattle.fish_registry.specs.declared.registrar.Registrar.{Registrar}
use Rattle.fish_registry.specs.declared.registrar.Waiting.{Waiting}
use Rattle.fish_rule.specs.Registry.{control_word, row_at}
use Rattle.fish_rule.specs.Table.{first_view}
use Rattle.fish_rule.specs.Views.{Among}
use Rattle.fish_rule.specs.declared.view.Key.{Key}
use Rattle.fish_rule.specs.declared.view.Round.{Round}
use Rattle.fish_rule.specs.declared.view.View.{View}

-- the row with this id waits for the number at which its index begins
abbrev pub IsWaitingFor : Option Waiting → ℕ → Type 0
IsWaitingFor None id = ⊥
IsWaitingFor (Some w) id = w.id ≡ id

abbrev pub IsWaiting : Registrar → ℕ → Type 0
IsWaiting r id = IsWaitingFor r.waiting id

-- the registration waits in the view, and the lanes below the one that is next were looked at
pub record IsAwaited (v : View) (w : Waiting) : Type 0 where
  pub round : Round
  pub waits : v.round ≡ Some round
  pub id : round.id ≡ w.id
  pub version : round.version ≡ w.version
  pub checked : (l : ℕ) → 1 ≤ l → l < w.lane → Among l round.checked
  pub some : 1 ≤ w.lane
  pub few : w.lane ≤ 17

-- the same where one waits, and else none does
abbrev pub Awaits : View → Option Waiting → Type 0
Awaits v None = v.round ≡ None
Awaits v (Some w) = IsAwaited v w

-- a boundary that is set is one that the pass has read
abbrev pub IsBoundRead : View → ℕ → Option ℕ → Type 0
IsBoundRead v p bound = (n : ℕ) → bound ≡ Some n → Among (record { index = p; value = suc n }) v.learned.words

-- the boundaries of the row with an id are those that the pass stored last, and it has read them
pub record HasBounds (v : View) (id : ℕ) (row : CatRow) : Type 0 where
  pub from : control_word v.control_words (row_at id 0) ≡ bound_word row.from
  pub to : control_word v.control_words (row_at id 1) ≡ bound_word row.to
  pub read_from : IsBoundRead v (row_at id 0) row.from
  pub read_to : IsBoundRead v (row_at id 1) row.to
  pub counted : (n : ℕ) → row.from ≡ Some n → n ≤ v.learned.count

-- these rows, and the registration that waits, are what the control pass knows
pub record KnowsRows (v : View) (rows : List CatRow) (waiting : Option Waiting) : Type 0 where
  pub control : v.lane ≡ 1
  pub listed : map listed_of rows ≡ v.rows
  pub bounds : (id : ℕ) (row : CatRow) → slice_get rows id ≡ Some row → HasBounds v id row
  pub begun : (id : ℕ) (row : CatRow) → slice_get rows id ≡ Some row → row.from ≡ None → IsWaitingFor waiting id
  pub awaits : Awaits v waiting
  pub unset : (id : ℕ) → IsWaitingFor waiting id → AwaitsFrom rows id

-- the same of a registrar
abbrev pub Knows : View → Registrar → Type 0
Knows v r = KnowsRows v r.catalog r.waiting

-- the index of a row has begun at the number or before it
pub record HasBegunBy (n : ℕ) (row : CatRow) : Type 0 where
  pub from : ℕ
  pub begins : row.from ≡ Some from
  pub early : from ≤ n

-- a registrar of the rows with which a log begins keeps what the log's first pass knows
abbrev pub KnowsFirst : Registrar → Type 0
KnowsFirst r = (k : Key) → k.rows.value ≡ r.catalog → All (HasBegunBy k.number) r.catalog → Knows (first_view k) r
