-- How a pass enters the registry's version and leaves, and how the control pass changes the registry: what each
-- pass knows after these steps, and when it may make them.
use Rattle.std.specs.Prelude.{ℕ, ◌≡◌, ◌≢◌, ◌+◌, ◌<◌, ◌≤◌, ◌⊎◌, suc, [], ◌∷◌, length, Option, Some, None}
use Rattle.std.proofs.Math.Decide.{dec_lt}
use Rattle.fish_layout.specs.Cleared.{choose}
use Rattle.fish_layout.specs.Operation.{end_word}
use Rattle.fish_rule.specs.Epochs.{confirmed}
use Rattle.fish_rule.specs.Registry.{IsOperation, KnowsRow, made, control_word, op_at, opened_at, row_at, row_in}
use Rattle.fish_rule.specs.SpaceSteps.{noted, ticked}
use Rattle.fish_rule.specs.declared.view.Epoch.TheVariants.{Announced, Out}
use Rattle.fish_rule.specs.declared.view.Noted.TheVariants.{Version}
use Rattle.fish_rule.specs.declared.view.Round.{Round}
use Rattle.fish_rule.specs.declared.view.View.{View}

-- ---- load version

-- the version is seen, and an announced one is confirmed where it is that very version
abbrev pub after_load_version : View → ℕ → View
after_load_version v x = record v {
  epoch = confirmed v.epoch x;
  learned = record v.learned { version = x };
  clock = noted v.clock Version x;
}

-- ---- announce and retire: a store of the own epoch word

-- the pass has nothing in flight
pub record CanEnter (v : View) : Type 0 where
  pub live : 1 ≤ v.lane
  pub idle : v.flight ≡ None

-- and the registry has reached this version
pub record CanAnnounce (v : View) (u : ℕ) : Type 0 where
  pub can : CanEnter v
  pub reached : u ≤ v.learned.version

-- the version is announced
abbrev pub after_announce : View → ℕ → View
after_announce v u = record v { epoch = Announced u; clock = ticked v.clock }

-- the pass is out
abbrev pub after_retire : View → View
after_retire v = record v { epoch = Out; clock = ticked v.clock }

-- ---- read row: a load of an operation, of a word of a row, or of the count of opened rows

-- by what the pass knows, the word at the index lasts
abbrev pub CanLoadRegistry : View → ℕ → Type 0
CanLoadRegistry v p = (p ≡ opened_at) ⊎ (((u : ℕ) × (v.about.version < u) × (u ≤ v.learned.version) × (p ≡ op_at u))
    ⊎ ((id : ℕ) × (i : ℕ) × KnowsRow v.about v.learned id × (2 ≤ i) × (i < 39) × (p ≡ row_at id i)))

-- the word is known
abbrev pub after_load_registry : View → ℕ → ℕ → View
after_load_registry v p x = record v {
  learned = record v.learned { words = record { index = p; value = x } ∷ v.learned.words };
  clock = ticked v.clock;
}

-- ---- define: a store of a word of the next operation or row

-- the word at the index is the next operation, or one of the next row, whose boundaries stay none
abbrev pub IsNextWord : View → ℕ → ℕ → Type 0
IsNextWord v p x = ((v.learned.version < 512) × (p ≡ op_at (suc v.learned.version)))
    ⊎ ((i : ℕ) × (length v.rows < 256) × (i < 39) × (p ≡ row_at (length v.rows) i) × ((2 ≤ i) ⊎ (x ≡ 0)))

-- the control pass may store it
pub record CanDefineWord (v : View) (p x : ℕ) : Type 0 where
  pub control : v.lane ≡ 1
  pub next : IsNextWord v p x

-- the word is stored
abbrev pub after_define_word : View → ℕ → ℕ → View
after_define_word v p x = record v {
  control_words = record { index = p; value = x } ∷ v.control_words;
  clock = ticked v.clock;
}

-- ---- bump: a store of the version plus one

-- the next operation as it was stored
abbrev pub next_operation : View → ℕ
next_operation v = control_word v.control_words (op_at (suc v.learned.version))

-- the control pass is out, versions are left, no registration waits, and the next operation is one that may be
-- made; the index of a row that it ends has its end
pub record CanRaiseVersion (v : View) : Type 0 where
  pub control : v.lane ≡ 1
  pub outside : v.epoch ≡ Out
  pub few : v.learned.version < 512
  pub settled : v.round ≡ None
  pub operation : IsOperation (row_in (control_word v.control_words) (length v.rows)) v.rows (next_operation v)
  pub ends : (id : ℕ) → next_operation v ≡ end_word id → control_word v.control_words (row_at id 1) ≢ 0

-- a registration waits once it is made: lane 1 is out
abbrev pub round_after : ℕ → ℕ → ℕ → Option Round
round_after x id version =
    choose (dec_lt x 512) (Some (record { id = id; version = version; checked = 1 ∷ []; bound = None })) None

-- the operation is made
abbrev pub after_raise_version : View → View
after_raise_version v = record v {
  rows = made (control_word v.control_words) (next_operation v) v.rows;
  round = round_after (next_operation v) (length v.rows) (suc v.learned.version);
  learned = record v.learned { version = suc v.learned.version };
  clock = ticked v.clock;
}
