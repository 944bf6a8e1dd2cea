-- What the items of statements that change no definition say of plans.
use Rattle.std.proofs.Common.{◌≡◌, List, [], ◌∷◌, ◌++◌, length, refl, sym, ap, ◌∙◌, subst, arith}
use Rattle.fish_lanes.proofs.Controls.{free_after, plans_on}
use Rattle.fish_lanes.proofs.Covering.{read_later}
use Rattle.fish_lanes.proofs.Plans.{fit_so, plans_longer, plans_more}
use Rattle.fish_lanes.proofs.Registrations.{after_more, registry_later}
pub use Rattle.fish_lanes.specs.within.Advancing.{HasSaid}
use Rattle.fish_lanes.specs.within.Doing.{IsFit}
use Rattle.fish_lanes.specs.Plans.{KnowsListed, SaysPlans}
use Rattle.fish_lanes.specs.Registering.{Registry, after}
use Rattle.fish_lanes.specs.within.Running.{IsFree, SayPlans}
use Rattle.fish_lanes.specs.Spans.{answers}
use Rattle.fish_lanes.specs.declared.work.Work.{Work}
use Rattle.fish_report.specs.declared.item.Item.{Item}
use Rattle.fish_rule.specs.Logs.{Learns}
use Rattle.fish_rule.specs.Table.{IsOfMoment}
use Rattle.fish_rule.specs.declared.view.View.{View}
use Rattle.fish_whole.specs.Whole.{Whole}

-- none
pub said_self : (v : View) → Learns v v → HasSaid v v [] []
said_self v learns =
    record { size = refl; same = λ r. refl; learns = learns; plans = λ r read registry rows from bounds low. tt }

-- one more
pub said_more : (Past : Whole → Type 0) (v u t : View) (works : List Work) (items : List Item) (w : Work) (x : Item) → IsOfMoment t
    → HasSaid v u works items
    → Learns u t → IsFree w → IsFit Past u t w x → Learns v t → length (answers (items ++ x ∷ [])) ≡ length (works ++ w ∷ [])
    → HasSaid v t (works ++ w ∷ []) (items ++ x ∷ [])
said_more Past v u t works items w x stands h learns free fit both size = record {
  size = size;
  same = λ r. after_more r items x ∙ ap (λ (z : Registry). after z x) (h.same r) ∙ free_after Past u t w x r free fit;
  learns = both;
  plans = λ r read registry rows from bounds low.
      let settled = h.learns.settled in
      plans_more (KnowsListed t) r rows from works (w ∷ []) items x h.size
      (plans_on v u t r works items learns (h.plans r read registry) rows from bounds low)
      (subst (λ (z : Registry). SaysPlans (KnowsListed t) z.rows rows from w x) (sym (h.same r))
      (fit_so u t r rows from stands learns (read_later v u r.rows h.learns read) (registry_later v u r h.learns registry) bounds
      (omega arith) Past w x fit));
}

-- a part of one more
pub said_cut : (v u t : View) (works : List Work) (items : List Item) (later : List Work) → HasSaid v u works items → Learns u t
    → SayPlans v t (works ++ later) items
said_cut v u t works items later h learns r read registry rows from bounds low =
    plans_longer (KnowsListed t) r rows from works later items h.size
    (plans_on v u t r works items learns (h.plans r read registry) rows from bounds low)
