-- The passes of a new log: the control pass, and those that it gives lanes to.
use Rattle.std.proofs.Common.{◌≡◌, ◌≤◌, ◌<◌, ◌+◌, ℕ, refl, sym, subst, arith, inl, inr}
use Rattle.bench.specs.Opening.{IsControl}
use Rattle.fish_ingest.specs.Ingestion.{CanStart}
use Rattle.fish_rule.specs.RegistrySteps.{CanEnter}
use Rattle.fish_rule.specs.SeatSteps.{CanSplitPass, split_left, split_right}
use Rattle.fish_rule.specs.Table.{first_view}
use Rattle.fish_rule.specs.declared.view.Key.{Key}
use Rattle.fish_rule.specs.declared.view.View.{View}

-- the control pass of a new log has given out no lane
pub first_controls : (v : View) (k : Key) → v ≡ first_view k → IsControl 1 v
first_controls v k is = subst (IsControl 1) (sym is)
    (record { control = refl; idle = refl; outside = refl; below = λ lane among. absurd among })

module _ (top : ℕ) (v : View) (idle_control : IsControl top v) where
  -- the control pass has a lane, nothing in flight, and isn't entered
  live : 1 ≤ v.lane
  live = let e = idle_control.control in omega arith

  pub control_enters : CanEnter v
  control_enters = record { live = live; idle = idle_control.idle }

  pub control_starts : CanStart v
  control_starts = record { live = live; outside = idle_control.outside }

  -- the lane above the last one may be given out
  pub control_splits : 1 ≤ top → top < 16 → CanSplitPass v (top + 1)
  control_splits some few = record {
    control = idle_control.control;
    above = omega arith;
    below = omega arith;
    here = λ among. let within = idle_control.below (top + 1) among in absurd (omega arith);
    idle = idle_control.idle;
  }

  module _ (u : View) where
    -- then it is the last one
    pub left_controls : u ≡ split_left (top + 1) v → IsControl (top + 1) u
    left_controls is = subst (IsControl (top + 1)) (sym is) (record {
      control = idle_control.control;
      idle = idle_control.idle;
      outside = idle_control.outside;
      below = λ lane among. elim among [
        | inl same ↦ (let e = same in omega arith)
        | inr before ↦ (let within = idle_control.below lane before in omega arith)
      ];
    })

    -- and the pass that has it may enter, or start
    pub right_enters : u ≡ split_right (top + 1) v → CanEnter u
    right_enters is = subst CanEnter (sym is) (record { live = omega arith; idle = refl })

    pub right_starts : u ≡ split_right (top + 1) v → CanStart u
    right_starts is = subst CanStart (sym is) (record { live = omega arith; outside = refl })
