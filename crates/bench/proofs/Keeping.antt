-- The control pass and its registrar, from call to call.
use Rattle.std.proofs.Common.{◌≡◌, ◌∙◌, ◌≤◌, ◌+◌, ℕ, ap, subst, arith}
use Rattle.bench.proofs.Splitting.{left_controls}
use Rattle.bench.specs.Registrations.{IsKept}
use Rattle.fish_registry.proofs.Knowing.{knows_on}
use Rattle.fish_registry.specs.Changing.{Changes}
use Rattle.fish_registry.specs.Knowing.{Knows}
use Rattle.fish_registry.specs.declared.registrar.Registrar.{Registrar}
use Rattle.fish_rule.proofs.laws.Learning.{learns_same}
use Rattle.fish_rule.specs.Passes.{IsPassOf, view}
use Rattle.fish_rule.specs.SeatSteps.{split_left}
use Rattle.fish_rule.specs.Views.{Among}
use Rattle.fish_rule.specs.declared.table.Log.{Log}
use Rattle.fish_rule.specs.declared.table.Pass.{Pass}
use Rattle.fish_rule.specs.declared.view.View.{View}

-- after a call of the registrar
pub kept_on : (top : ℕ) (log : Log) (p q : Pass) (r s : Registrar) → IsKept top log p r → IsPassOf log q
    → Knows (view q) s → Changes (view p) (view q) → IsKept top log q s
kept_on top log p q r s h of knows changes = record {
  of = of;
  knows = knows;
  control = record {
    control = ap (λ (z : View). z.lane) changes.frame ∙ h.control.control;
    idle = ap (λ (z : View). z.flight) changes.frame ∙ h.control.idle;
    outside = ap (λ (z : View). z.epoch) changes.frame ∙ h.control.outside;
    below = λ lane among. h.control.below lane (subst (Among lane) (ap (λ (z : View). z.out) changes.frame) among);
  };
}

-- after a split
pub kept_split : (top : ℕ) (log : Log) (p q : Pass) (r : Registrar) → IsKept top log p r → IsPassOf log q
    → view q ≡ split_left (top + 1) (view p) → IsKept (top + 1) log q r
kept_split top log p q r h of left =
    let learns = learns_same (view p) (view q) (ap (λ (z : View). z.about) left) (ap (λ (z : View). z.learned) left) in
    record {
      of = of;
      knows = knows_on (view p) (view q) r (ap (λ (z : View). z.lane) left) (ap (λ (z : View). z.rows) left)
          (ap (λ (z : View). z.control_words) left) (ap (λ (z : View). z.round) left) learns h.knows;
      control = left_controls top (view p) h.control (view q) left;
    }

-- fewer lanes are no more
pub kept_within : (top : ℕ) (log : Log) (p : Pass) (r : Registrar) → top ≤ 16 → IsKept top log p r → IsKept 16 log p r
kept_within top log p r few h = record {
  of = h.of;
  knows = h.knows;
  control = record {
    control = h.control.control;
    idle = h.control.idle;
    outside = h.control.outside;
    below = λ lane among. let within = h.control.below lane among in omega arith;
  };
}
