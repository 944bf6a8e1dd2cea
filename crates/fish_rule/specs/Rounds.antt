-- A registration that waits for the number at which its index begins: what holds while the control pass looks at
-- the lanes, one after the other.
use Rattle.std.specs.Prelude.{ℕ, ◌≡◌, ◌<◌, ◌≤◌, Option, Some, None, length, ⊤}
use Rattle.fish_rule.specs.Registry.{definitions_at, row_at, version_in}
use Rattle.fish_rule.specs.Views.{Among}
use Rattle.fish_rule.specs.declared.view.Epoch.{Epoch}
use Rattle.fish_rule.specs.declared.view.Epoch.TheVariants.{Announced, Confirmed, Out}
use Rattle.fish_rule.specs.declared.view.Key.{Key}
use Rattle.fish_rule.specs.declared.view.Round.{Round}

-- a version at which a pass is confirmed is at or past this one
abbrev pub IsSince : ℕ → Epoch → Type 0
IsSince s Out = ⊤
IsSince s (Announced u) = ⊤
IsSince s (Confirmed u) = s ≤ u

-- all lanes were looked at, the number is one of this table's, and from it on each record has at least the
-- registration's version
pub record IsBound (k : Key) (count : ℕ) (version_of : ℕ → ℕ) (o : Round) (n : ℕ) : Type 0 where
  pub all : (l : ℕ) → 1 ≤ l → l ≤ 16 → Among l o.checked
  pub above : k.number ≤ n
  pub within : n ≤ count
  pub since : (m : ℕ) → k.number ≤ m → n ≤ m → m < count → o.version ≤ version_of m

-- the control pass's registration made the version, and its index hasn't begun; no lane that was looked at is
-- confirmed at an older version
pub record IsRound (k : Key) (count : ℕ) (g : ℕ → ℕ) (state : ℕ → Epoch) (version_of : ℕ → ℕ) (lane : ℕ) (o : Round)
    : Type 0 where
  pub control : lane ≡ 1
  pub few : o.id < 256
  pub reached : o.version ≤ version_in g
  pub listed : o.id < length (definitions_at k g o.version)
  pub unset : g (row_at o.id 0) ≡ 0
  pub clear : (l : ℕ) → 1 ≤ l → l ≤ 16 → Among l o.checked → IsSince o.version (state l)
  pub bound : (n : ℕ) → o.bound ≡ Some n → IsBound k count version_of o n

-- the same where there is one
abbrev pub Waits : Key → ℕ → (ℕ → ℕ) → (ℕ → Epoch) → (ℕ → ℕ) → ℕ → Option Round → Type 0
Waits k count g state version_of lane None = ⊤
Waits k count g state version_of lane (Some o) = IsRound k count g state version_of lane o
