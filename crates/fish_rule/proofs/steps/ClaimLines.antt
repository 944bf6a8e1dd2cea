-- `claim_lines`: the tail moves on by one number and so many lines, and the region between is in flight.
use Rattle.std.proofs.Common.{◌≡◌, ◌≢◌, ℕ, ◌+◌, ◌*◌, ◌<◌, ◌≤◌, suc, set, sym, refl, ap, ◌∙◌, subst, arith, ◌-◌, ◌%◌}
use Rattle.std.proofs.Common.{◌^◌, get_or}
use Rattle.std.proofs.Math.Decide.{dec_lt}
use Rattle.fish_rule.proofs.basics.Context.{Final, Key, Rule, View, World, get_elem?, none, some}
use Rattle.fish_rule.proofs.basics.Lists.{each_set, only_control, seats_kept}
use Rattle.fish_rule.proofs.classes.FactsStay.{chained_later, facts_later, keyed_kept, owns_later, shut_later}
use Rattle.fish_rule.proofs.basics.Bodies.{high-pack, low-pack, tail_is}
use Rattle.fish_rule.proofs.classes.ChainsStay.{chains_set}
use Rattle.fish_rule.proofs.steps.ClaimVersions.{boundaries, keyed_old, old_version, others_carry, stays_on}
use Rattle.fish_rule.proofs.steps.ClaimVersions.{version_of', versions}
use Rattle.fish_rule.proofs.basics.Worlds.{put-here, world-tail}
use Rattle.fish_rule.specs.Chains.{Chained}
use Rattle.fish_rule.proofs.classes.OpensStay.{opens_later}
use Rattle.fish_rule.specs.Facts.{Facts, IsStoredBy}
use Rattle.fish_rule.specs.SpaceSteps.{CanClaimLines, after_claim_lines}
use Rattle.fish_rule.specs.World.{high, low, slots, world}
use Rattle.fish_rule.specs.Epochs.{RegistryHolds}
use Rattle.fish_rule.specs.declared.view.Epoch.TheVariants.{Confirmed}
use Rattle.atomic_table.specs.Table.{Allows, step}
use Rattle.fish_rule.proofs.basics.Regions.{few_lines, few_numbers, few_slots}
use Rattle.fish_rule.specs.Table.{Ruled, Sat, IsOfMoment}
use Rattle.fish_rule.specs.Told.{ToldClaimLines}
use Rattle.fish_rule.proofs.classes.Allowed.{allowed, stands, there}
use Rattle.fish_rule.proofs.steps.ClaimSpace.{claim_final, claim_limit, claim_space, lane_of', none_linked, start'}
use Rattle.fish_rule.proofs.steps.ClaimSpace.{view', world'}
use Rattle.fish_rule.proofs.classes.PassesKnow.{each_chained, each_facts, each_opens, each_shut}

module _ {k : Key} {w : World} (r : Rule k w) (id : ℕ) {v : View} (at : get_elem? w.views id ≡ some v) (m : ℕ)
    (can : CanClaimLines v) (some_lines : 0 < m) (few_lines : m ≤ 18625) where
  -- the view afterwards
  abbrev pub claimer : View
  claimer = view' r id at m can some_lines few_lines

  -- the world afterwards
  abbrev pub claimed : World
  claimed = world' r id at m can some_lines few_lines

  -- where regions begin
  abbrev start : ℕ → ℕ
  start = start' r id at m can some_lines few_lines

  -- which lane claimed a number
  abbrev lane_of : ℕ → ℕ
  lane_of = lane_of' r id at m can some_lines few_lines

  -- nothing that lasts has changed
  final : Final k r.start start r.lane_of lane_of w claimed
  final = claim_final r id at m can some_lines few_lines

  -- a record that some pass stored was published before
  stored_old : (l n : ℕ) → IsStoredBy k (suc w.count) w.dir lane_of l n → (n < w.count) × (w.dir n ≢ 0)
  stored_old l n h = keyed_old r id at can n h.stored

  -- the registry's part afterwards
  registry : RegistryHolds k (suc w.count) w.registry r.state (version_of' r id at can) (set w.views id claimer)
  registry = record {
    epochs = r.registry.epochs;
    versions = versions r id at can;
    boundaries = boundaries r id at can;
    each = each_set _ w.views id claimer (λ j u ne at_u. stays_on r id at can u (r.registry.each j u at_u))
        (stays_on r id at can v (r.registry.each id v at));
    flights = each_set _ w.views id claimer
        (λ j u ne at_u. others_carry r id at can u.lane u.epoch u.flight (r.space.flights j u at_u)
        (r.registry.flights j u at_u))
        (record {
          entered = can.entered ∙ ap Confirmed (sym (put-here r.version_of w.count can.version));
          keyed = λ some_. absurd (omega arith);
        });
  }

  -- what the pass has learned
  claim_facts : Facts k (suc w.count) w.dir w.log start claimer.learned
  claim_facts =
      let h = facts_later final (r.facts id v at) in
      let counted : suc w.count ≤ suc w.count = omega arith in
      assumption (h, counted)

  -- what the pass has learned of chains
  claim_chained : Chained k w.dir w.log (set w.views id claimer) w.head claimer.learned
  claim_chained =
      let h = chained_later final (r.chained id v at) in
      record { nodes = h.nodes; least_previous = h.least_previous; least_heads = h.least_heads }

  -- a claim keeps the rule
  pub claim_lines_kept : Rule k claimed
  claim_lines_kept =
      let lim = claim_limit r id at m can some_lines few_lines (dec_lt k.end (w.line + m)) in
      record {
        start = start;
        lane_of = lane_of;
        version_of = version_of' r id at can;
        quota = lim.0;
        state = r.state;
        key_fits = r.key_fits;
        about = each_set _ w.views id claimer (λ j u ne at_u. r.about j u at_u) (r.about id v at);
        seats = seats_kept w.views id v claimer at refl refl r.seats;
        tails = each_set _ w.views id claimer
            (λ j u ne at_u control all. absurd (ne
            (sym (only_control w.views j id u v r.seats at_u at control all can.live)))) (λ control all. (refl, refl));
        space = claim_space r id at m can some_lines few_lines;
        limit = lim.1;
        settling = record {
          from = r.settling.from;
          within = (let h = r.settling.within in omega arith);
          below = r.settling.below;
        };
        chained = each_chained r final id claimer claim_chained;
        floors = each_set _ w.views id claimer (λ j u ne at_u. r.floors j u at_u) (r.floors id v at);
        chains = chains_set r id claimer at (none_linked r id at m can some_lines few_lines)
            (λ a c h. let less : c < 0 = h.0 in absurd (omega arith));
        own = each_set _ w.views id claimer (λ j u ne at_u. owns_later final u.lane u.out u.own
            (r.own j u at_u) (λ o has h. stored_old o.lane o.number h))
            (owns_later final v.lane v.out v.own
            (r.own id v at) (λ o has h. stored_old o.lane o.number h));
        facts = each_facts r final id claimer claim_facts;
        registry = registry;
        keyed = keyed_kept final r.version_of (version_of' r id at can) (old_version r id at can) r.keyed
            (λ n below stored. keyed_old r id at can n stored);
        shuts = each_shut r final id claimer (shut_later final v.shut (r.shuts id v at));
        opens = each_opens r final id claimer (opens_later final v.learned.opens (r.opens id v at));
      }

  -- and all that lasts
  pub claim_lines_lasts : Final k r.start claim_lines_kept.start r.lane_of claim_lines_kept.lane_of w claimed
  unfolding claim_lines_kept
  claim_lines_lasts = final

-- a fetch-and-add of one number and so many lines
pub claim_lines_allowed : (given k : Key) → given ≡ k → (size id : ℕ) (me : Sat) (x m : ℕ) → me.0.about ≡ k
    → CanClaimLines me.0 → 0 < m → m ≤ 18625 → x ≡ 68719476736 + m
    → Allows (Ruled given) size id me 0 (λ n. (n + x) % 2 ^ 64) (ToldClaimLines (step size 0 x 0 none) me)
claim_lines_allowed given k same size id me x m about can some_lines few is =
    allowed given k same size id me 0 (λ n. (n + x) % 2 ^ 64) (ToldClaimLines (step size 0 x 0 none) me) (λ ws vs wide r at.
    let w : World = world k ws vs in
    let found : ℕ = get_or ws 0 0 in
    let kept = claim_lines_kept r id at m can some_lines few in
    let room = few_lines kept in
    let numbers = few_numbers kept in
    let parts : low found + high found * 68719476736 ≡ found = tail_is found in
    let v' : View = after_claim_lines me.0 m w.count w.line in
    let sum : (found + x) % 2 ^ 64 ≡ (w.line + m) + suc w.count * 68719476736 =
    Rattle.std.proofs.Math.Nat.mod-eq_of_lt (omega arith) ∙ (omega arith) in
    let new : ℕ = (found + x) % 2 ^ 64 in
    let count : high new ≡ suc w.count = ap high sum ∙ high-pack (suc w.count) (w.line + m) (omega arith) in
    let line : low new ≡ w.line + m = ap low sum ∙ low-pack (suc w.count) (w.line + m) (omega arith) in
    let moved : world k (set ws 0 new) (set vs id v') ≡ record w {
      count = suc w.count;
      line = w.line + m;
      views = set vs id v';
    } =
    world-tail k ws vs (set vs id v') new (omega arith)
    ∙ (λ j. record w { count = count j; line = line j; views = set vs id v' }) in
    let lines : x - 68719476736 ≡ m = omega arith in (
      v',
      subst (Rule k) (sym moved) kept,
      record {
        told = record {
          view = ap (λ (z : ℕ). after_claim_lines me.0 z w.count w.line) (sym lines);
          held = refl;
          stands = subst (λ (z : ℕ). IsOfMoment (after_claim_lines me.0 z w.count w.line)) (sym lines)
              (stands k _ id v' kept about (there vs id me.0 v' at));
        };
        counted = (r.facts id me.0 at).counted;
        within = subst (λ (z : Key). w.count < z.number + slots z) (sym about)
            (let s = few_slots kept in omega arith);
      },
    ))
