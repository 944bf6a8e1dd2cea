-- Facts about lists of views and of what they hold.
use Rattle.std.specs.Prelude.{ℕ, ◌≡◌, ◌+◌, ◌<◌, ◌≤◌, List, [], ◌∷◌, Option, Some, None, ⊤}
use Rattle.std.proofs.Common.{◌⊎◌}
use mathlib.Core.Option.{some}
use Rattle.std.proofs.Math.ListN.{get_elem?}
use Rattle.fish_rule.specs.declared.view.Flight.{Flight}
use Rattle.fish_rule.specs.declared.view.View.{View}

-- x is in the list
abbrev pub Among : {A : Type 0} → A → List A → Type 0
Among x [] = ⊥
Among x (y ∷ ys) = (y ≡ x) ⊎ Among x ys

-- each of the list meets P
abbrev pub AllOf : {A : Type 0} → (A → Type 0) → List A → Type 0
AllOf P [] = ⊤
AllOf P (x ∷ xs) = P x × AllOf P xs

-- each view meets P
abbrev pub Each : (View → Type 0) → List View → Type 0
Each P views = (j : ℕ) (v : View) → get_elem? views j ≡ some v → P v

-- the number of a record in flight
abbrev pub IsFlightOf : ℕ → Option Flight → Type 0
IsFlightOf n None = ⊥
IsFlightOf n (Some f) = f.number ≡ n

-- the record in flight ends past the log's end
abbrev pub IsOver : ℕ → Option Flight → Type 0
IsOver end None = ⊥
IsOver end (Some f) = end < f.line + f.lines

-- some view has this number in flight
pub record HasFlight (n : ℕ) (views : List View) : Type 0 where
  pub seat : ℕ
  pub view : View
  pub at : get_elem? views seat ≡ some view
  pub flies : IsFlightOf n view.flight

-- a pass of this lane has lane l: its own, and the control pass also each that is not out
abbrev pub Has : ℕ → List ℕ → ℕ → Type 0
Has lane out l = (1 ≤ l) × (l ≤ 16) × ((lane ≡ l) ⊎ ((lane ≡ 1) × ¬ Among l out))
