-- `raise_settled`: a raise of the settled number by a pass that knows each number below published.
use Rattle.std.proofs.Common.{◌≡◌, ◌≢◌, ℕ, ◌<◌, ◌≤◌, set, sym, refl, ◌∙◌, subst, ⊎_elim, arith}
use Rattle.std.specs.Prelude.{max}
use Rattle.std.proofs.Math.Decide.{dec_lt}
use Rattle.fish_rule.proofs.basics.Context.{Among, Final, Found, Key, Rule, View, World, get_elem?, none, some}
use Rattle.fish_rule.proofs.basics.Lasts.{Kept}
use Rattle.fish_rule.proofs.classes.Allowed.{Allows, Ruled, Sat, allowed, stands, step, there}
use Rattle.fish_rule.proofs.basics.Bodies.{code_once, published}
use Rattle.fish_rule.proofs.basics.Lists.{all_among, each_set, seats_kept}
use Rattle.fish_rule.proofs.classes.OtherViews.{final_still, limit_views, space_still, may_kept, registry_set}
use Rattle.fish_rule.proofs.classes.FactsStay.{chained_later}
use Rattle.fish_rule.proofs.classes.PassesKnow.{each_chained}
use Rattle.fish_rule.proofs.classes.ChainsStay.{chains_set, links_set}
use Rattle.fish_rule.proofs.basics.Worlds.{world-settled}
use Rattle.fish_rule.specs.Parts.{IsEntryWord, Settled}
use Rattle.fish_rule.specs.Facts.{IsFound}
use Rattle.fish_rule.specs.LoadSteps.{CanRaiseSettled, after_raise_settled}
use Rattle.fish_rule.specs.Told.{ToldRaiseSettled}
use Rattle.fish_rule.specs.World.{world}
use Rattle.fish_rule.specs.declared.view.Kind.TheVariants.{Mark}
use Rattle.fish_rule.proofs.basics.RegistryWords.{endures_same}

module _ {k : Key} {w : World} (r : Rule k w) (id : ℕ) {v : View} (at : get_elem? w.views id ≡ some v)
    (about : v.about ≡ k) (m : ℕ) (can : CanRaiseSettled v m) where
  -- the view afterwards
  abbrev pub raiser : View
  raiser = after_raise_settled v m w.settled

  -- the world afterwards
  abbrev pub raised : World
  raised = record w { settled = max w.settled m; views = set w.views id raiser }

  -- nothing that lasts has changed
  pub raise_final : Kept r raised
  raise_final = final_still r (max w.settled m) w.registry (set w.views id raiser) (omega arith)
      (endures_same k w.registry) (links_set r id raiser at (λ a c h. h))

  -- every number below is published, and no mark
  settling : Settled k w.count (max w.settled m) w.dir
  settling = record {
    from = (let a = r.settling.from in omega arith);
    within = (let a = r.settling.within in let b = can.within in let c = (r.facts id v at).counted in omega arith);
    below = λ n above less. pick n above less (dec_lt n w.settled);
  }
    where
      found_word : (n : ℕ) → (f : Found) → Among f v.learned.found → f.number ≡ n → f.kind ≢ Mark
          → IsEntryWord (w.dir n)
      found_word n f among is ne =
          let found = all_among (IsFound k w.count w.dir r.start) f v.learned.found (r.facts id v at).found among in
          subst (λ (z : ℕ). IsEntryWord (w.dir z)) is
          (record {
            published = published (w.dir f.number) f.kind found.kind;
            unmarked = λ e. ne (code_once f.kind Mark (sym found.kind ∙ e));
          })

      pick : (n : ℕ) → k.number ≤ n → n < max w.settled m → Dec (n < w.settled) → IsEntryWord (w.dir n)
      pick n above less (yes before) = r.settling.below n above before
      pick n above less (no behind) = ⊎_elim
          (λ (h : n < v.learned.settled). let floor = r.floors id v at in absurd (omega arith))
          (λ (h : (f : Found) × Among f v.learned.found × (f.number ≡ n)
          × (f.kind ≢ Mark)). found_word n h.0 h.1 h.2 h.3)
          (can.known n (subst (λ (z : Key). z.number ≤ n) (sym about) above) (omega arith))

  -- a raise keeps the rule
  pub raise_settled_kept : Rule k raised
  raise_settled_kept = record {
    start = r.start;
    lane_of = r.lane_of;
    version_of = r.version_of;
    quota = r.quota;
    state = r.state;
    key_fits = r.key_fits;
    about = each_set _ w.views id raiser (λ j u ne at_u. r.about j u at_u) (r.about id v at);
    seats = seats_kept w.views id v raiser at refl refl r.seats;
    tails = each_set _ w.views id raiser (λ j u ne at_u. r.tails j u at_u) (r.tails id v at);
    space = space_still w.views id v raiser at refl refl r.space;
    limit = limit_views r.limit
        (may_kept w.views id v raiser at k.end r.quota refl refl (λ h. h) r.limit.may);
    settling = settling;
    chains = chains_set r id raiser at (λ a c h. h) (λ a c h. h);
    chained = each_chained r raise_final id raiser
        (let h = chained_later raise_final (r.chained id v at) in
        record { nodes = h.nodes; least_previous = h.least_previous; least_heads = h.least_heads });
    floors = each_set _ w.views id raiser (λ j u ne at_u. let a = r.floors j u at_u in omega arith) (omega arith);
    own = each_set _ w.views id raiser (λ j u ne at_u. r.own j u at_u) (r.own id v at);
    facts = each_set _ w.views id raiser (λ j u ne at_u. r.facts j u at_u)
        (let h = r.facts id v at in assumption h);
    registry = registry_set k w.count w.registry r.state r.version_of w.views id raiser r.registry
        (r.registry.each id v at) (r.registry.flights id v at);
    keyed = r.keyed;
    shuts = each_set _ w.views id raiser (λ j u ne at_u. r.shuts j u at_u) (r.shuts id v at);
    opens = each_set _ w.views id raiser (λ j u ne at_u. r.opens j u at_u) (r.opens id v at);
  }

  -- and all that lasts
  pub raise_settled_lasts : Final k r.start raise_settled_kept.start r.lane_of raise_settled_kept.lane_of w raised
  unfolding raise_settled_kept
  raise_settled_lasts = raise_final

-- a fetch-max on it
pub raise_settled_allowed : (given k : Key) → given ≡ k → (size id : ℕ) (me : Sat) (m : ℕ) → me.0.about ≡ k
    → CanRaiseSettled me.0 m → Allows (Ruled given) size id me 1 (λ n. max n m) (ToldRaiseSettled (step size 1 m 0 none) me)
raise_settled_allowed given k same size id me m about can =
    allowed given k same size id me 1 (λ n. max n m) (ToldRaiseSettled (step size 1 m 0 none) me) (λ ws vs wide r at.
    let w : World = world k ws vs in
    let v' : View = after_raise_settled me.0 m w.settled in
    let kept = raise_settled_kept r id at about m can in (
      v',
      subst (Rule k) (sym (world-settled k ws vs (set vs id v') (max w.settled m) (omega arith))) kept,
      record {
        told = record { view = refl; held = refl; stands = stands k _ id v' kept about (there vs id me.0 v' at) };
        rises = r.floors id me.0 at;
      },
    ))
