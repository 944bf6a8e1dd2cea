-- What steps of the control pass on the definitions leave.
use Rattle.std.proofs.Common.{◌≡◌, [], inl, inr, refl, ap, sym, subst, ◌∙◌, arith, Option, Some, None}
use Rattle.fish_ingest.proofs.IngestionStart.{idle_law}
use Rattle.fish_lanes.proofs.Gaining.{gains_both, gains_self, gains_start}
use Rattle.fish_lanes.proofs.Growing.{rows_both, rows_polled}
use Rattle.fish_lanes.proofs.Registrations.{gains_changes, reads_gain, reads_know, reads_start, waiting_made}
use Rattle.fish_lanes.proofs.Stepping.{rows_self}
use Rattle.fish_lanes.specs.Controlling.{CanControl}
use Rattle.fish_lanes.specs.within.Controlling.{Controls, HasLooked, LooksForBoundary}
use Rattle.fish_registry.specs.Changing.{Changes}
use Rattle.fish_registry.specs.Knowing.{IsWaitingFor, Knows}
use Rattle.fish_registry.specs.Looking.{at_lane}
use Rattle.fish_registry.specs.Refusing.{PollSays}
use Rattle.fish_registry.specs.declared.outcome.Poll.{Poll}
use Rattle.fish_registry.specs.declared.outcome.Poll.TheVariants as poll
use Rattle.fish_registry.specs.declared.registrar.Registrar.{Registrar}
use Rattle.fish_registry.specs.declared.registrar.Waiting.{Waiting}
use Rattle.fish_rule.specs.Passes.{IsPassOf, view}
use Rattle.fish_rule.specs.declared.table.Log.{Log}
use Rattle.fish_rule.specs.declared.table.Pass.{Pass}
use Rattle.fish_rule.specs.declared.view.View.{View}
use Rattle.fish_scan.specs.Scans.{OnlyScans}
use Rattle.fish_store.specs.Sound.{RowsGoOn}

module _ (log : Log) (p q : Pass) (r s : Registrar) (can : CanControl log p r) (of : IsPassOf log q) (knows : Knows (view q) s)
    (changes : Changes (view p) (view q)) where
  -- a step on the definitions
  pub changed : RowsGoOn (view p) r.catalog s.catalog → Controls log p r q s
  changed grows =
      let gains = gains_changes (view p) (view q) can.start.outside (idle_law (view p) can.of.stands can.start) changes in
      record {
        can = record { of = of; start = gains_start (view p) (view q) [] can.start gains; knows = knows };
        grows = grows;
        gains = gains;
        shut = ap (λ (z : View). z.shut) changes.frame;
      }

  -- a look
  pub looks : (answer : Poll) → PollSays (view p) r (view q) s answer → LooksForBoundary log p r q s
  looks answer says = record {
    on = changed (rows_polled (view p) (view q) r s answer changes says);
    loads = changes.loads;
    idle = idle answer says;
    looked = looked answer says;
  }
    where
      -- where none waits nothing is done
      idle : (answer : Poll) → PollSays (view p) r (view q) s answer → r.waiting ≡ None → (view q ≡ view p) × (s.waiting ≡ None)
      idle poll.Idle says none = (says.2, ap (λ (z : Registrar). z.waiting) says.1 ∙ says.0)
      idle (poll.NotYet seat version) says none = absurd (let bad : Some says.0 ≡ None = sym says.1 ∙ none in cc)
      idle (poll.Bound id from) says none = elim (subst (λ (z : Option Waiting). IsWaitingFor z id) none says.0) [ ]

      -- none waits, or a lane was found at an older version
      looked : (answer : Poll) → PollSays (view p) r (view q) s answer → HasLooked (view p) (view q) s
      looked poll.Idle says = inl (ap (λ (z : Registrar). z.waiting) says.1 ∙ says.0)
      looked (poll.NotYet seat version) says =
          let made = waiting_made (view q) s (at_lane says.0 seat) of.stands knows says.2 in
          let less = says.5 in
          inr (record { lane = seat; older = version; loaded = says.4; less = omega arith })
      looked (poll.Bound id from) says = inl says.1

-- nothing was done
pub controls_self : (log : Log) (p : Pass) (r : Registrar) → CanControl log p r → Controls log p r p r
controls_self log p r can = record {
  can = can;
  grows = rows_self (view p) r.catalog;
  gains = gains_self (view p) can.start.outside (idle_law (view p) can.of.stands can.start);
  shut = refl;
}

-- a step, and a reading of the definitions after it
pub controls_reads : (log : Log) (p m q : Pass) (r s : Registrar) → Controls log p r m s → IsPassOf log q → OnlyScans (view m) (view q)
    → Controls log p r q s
controls_reads log p m q r s on of only =
    let known = on.can.of.stands in
    record {
      can = record {
        of = of;
        start = reads_start (view m) (view q) s known on.can.start on.can.knows only;
        knows = reads_know (view m) (view q) s known on.can.start on.can.knows only;
      };
      grows = on.grows;
      gains = gains_both (view p) (view m) (view q) [] [] on.gains (reads_gain (view m) (view q) s known on.can.start on.can.knows only);
      shut = ap (λ (z : View). z.shut) only.frame ∙ on.shut;
    }

-- two steps
pub controls_both : (log : Log) (p m q : Pass) (r k s : Registrar) → Controls log p r m k → Controls log m k q s → Controls log p r q s
controls_both log p m q r k s first second = record {
  can = second.can;
  grows = rows_both (view p) (view m) r.catalog k.catalog s.catalog first.gains.on.learns.count first.grows second.grows;
  gains = gains_both (view p) (view m) (view q) [] [] first.gains second.gains;
  shut = second.shut ∙ first.shut;
}
