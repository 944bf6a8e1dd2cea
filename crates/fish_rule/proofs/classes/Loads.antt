-- Loads change no word: what one pass has learned is all that is new.
use Rattle.std.proofs.Common.{◌≡◌, ℕ, ◌≤◌, [], set, refl, arith, Option}
use Rattle.fish_rule.proofs.basics.Context.{Clock, Key, Learned, Rule, View, World, get_elem?, some}
use Rattle.fish_rule.proofs.basics.Lists.{each_set, seats_kept}
use Rattle.fish_rule.proofs.classes.OtherViews.{final_still, limit_views, space_still, may_kept, registry_set}
use Rattle.fish_rule.proofs.classes.FactsStay.{chained_later}
use Rattle.fish_rule.proofs.classes.PassesKnow.{each_chained}
use Rattle.fish_rule.proofs.classes.ChainsStay.{chains_set, links_set}
use Rattle.fish_rule.proofs.basics.Lasts.{Kept, Lasts}
use Rattle.fish_rule.specs.Chains.{Chained}
use Rattle.fish_rule.specs.Parts.{RestsAt}
use Rattle.fish_rule.specs.Facts.{AreOpens, Facts}
use Rattle.fish_rule.specs.Views.{AllOf}
use Rattle.fish_rule.specs.declared.view.Position.{Position}
use Rattle.fish_rule.specs.declared.view.Round.{Round}
use Rattle.fish_rule.proofs.basics.RegistryWords.{endures_same}
use Rattle.fish_rule.specs.Epochs.{Stays}

module _ {k : Key} {w : World} (r : Rule k w) (id : ℕ) {v : View} (at : get_elem? w.views id ≡ some v) where
  -- the view with other facts, another note of the tail, another registration that waits and another clock
  abbrev pub learner : Learned → Option Position → Option Round → Clock → View
  learner l t o c = record v { learned = l; tail = t; round = o; clock = c }

  -- nothing that lasts has changed
  pub learn_final : (l : Learned) (t : Option Position) (o : Option Round) (c : Clock)
      → Kept r (record w { views = set w.views id (learner l t o c) })
  learn_final l t o c = final_still r w.settled w.registry (set w.views id (learner l t o c)) (omega arith)
      (endures_same k w.registry) (links_set r id (learner l t o c) at (λ a c h. h))

  -- what was known of chains is so in the new world
  pub still_chained : (l : Learned) (t : Option Position) (o : Option Round) (c : Clock)
      → Chained k w.dir w.log (set w.views id (learner l t o c)) w.head v.learned
  still_chained l t o c = chained_later (learn_final l t o c) (r.chained id v at)

  -- a load keeps the rule where the new facts hold
  learns : (l : Learned) (t : Option Position) (o : Option Round) (c : Clock)
      → (v.lane ≡ 1 → v.out ≡ [] → RestsAt w.count w.line t) → Facts k w.count w.dir w.log r.start l
      → AllOf (AreOpens k w.count w.dir r.lane_of) l.opens → l.settled ≤ w.settled
      → Chained k w.dir w.log (set w.views id (learner l t o c)) w.head l
      → Stays k w.count w.registry r.state r.version_of (learner l t o c)
      → Rule k (record w { views = set w.views id (learner l t o c) })
  learns l t o c rests facts opens floor chained stays =
      let v' : View = learner l t o c in
      record {
        start = r.start;
        lane_of = r.lane_of;
        version_of = r.version_of;
        quota = r.quota;
        state = r.state;
        key_fits = r.key_fits;
        about = each_set _ w.views id v' (λ j u ne at_u. r.about j u at_u) (r.about id v at);
        seats = seats_kept w.views id v v' at refl refl r.seats;
        tails = each_set _ w.views id v' (λ j u ne at_u. r.tails j u at_u) rests;
        space = space_still w.views id v v' at refl refl r.space;
        limit = limit_views r.limit
            (may_kept w.views id v v' at k.end r.quota refl refl (λ h. h) r.limit.may);
        settling = r.settling;
        chained = each_chained r (learn_final l t o c) id v' chained;
        chains = chains_set r id v' at (λ a c h. h) (λ a c h. h);
        floors = each_set _ w.views id v' (λ j u ne at_u. r.floors j u at_u) floor;
        own = each_set _ w.views id v' (λ j u ne at_u. r.own j u at_u) (r.own id v at);
        facts = each_set _ w.views id v' (λ j u ne at_u. r.facts j u at_u) facts;
        registry = registry_set k w.count w.registry r.state r.version_of w.views id v' r.registry stays
            (r.registry.flights id v at);
        keyed = r.keyed;
        shuts = each_set _ w.views id v' (λ j u ne at_u. r.shuts j u at_u) (r.shuts id v at);
        opens = each_set _ w.views id v' (λ j u ne at_u. r.opens j u at_u) opens;
      }

  -- and so all that lasts
  pub learn_lasts : (l : Learned) (t : Option Position) (o : Option Round) (c : Clock)
      → (v.lane ≡ 1 → v.out ≡ [] → RestsAt w.count w.line t) → Facts k w.count w.dir w.log r.start l
      → AllOf (AreOpens k w.count w.dir r.lane_of) l.opens → l.settled ≤ w.settled
      → Chained k w.dir w.log (set w.views id (learner l t o c)) w.head l
      → Stays k w.count w.registry r.state r.version_of (learner l t o c)
      → Lasts r (record w { views = set w.views id (learner l t o c) })
  unfolding learns
  learn_lasts l t o c rests facts opens floor chained stays =
      (learns l t o c rests facts opens floor chained stays, learn_final l t o c)
