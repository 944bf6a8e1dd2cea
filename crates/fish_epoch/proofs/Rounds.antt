-- The rounds of entering: what each leaves of the view.
use Rattle.std.proofs.Common.{◌≡◌, ◌≢◌, ℕ, ◌+◌, ◌*◌, ◌≤◌, suc, sym, refl, ap, ◌∙◌, subst, arith}
use Rattle.std.proofs.Math.Decide.{ℕ_discrete}
use Rattle.fish_layout.proofs.Clearing.{choose_first}
use Rattle.fish_rule.proofs.laws.Clocks.{later_both, later_noted, later_self, later_ticked, loaded_within, noted_load}
use Rattle.fish_rule.proofs.laws.Learning.{learns_both, learns_self}
use Rattle.fish_rule.specs.Clocks.{HasLoaded, IsLater}
use Rattle.fish_rule.specs.RegistrySteps.{CanAnnounce, CanEnter, after_announce, after_load_version}
use Rattle.fish_rule.specs.Epochs.{confirmed}
use Rattle.fish_rule.specs.Logs.{Learns}
use Rattle.fish_rule.specs.declared.view.Epoch.{Epoch}
use Rattle.fish_rule.specs.declared.view.Epoch.TheVariants.{Announced, Confirmed}
use Rattle.fish_rule.specs.declared.view.Learned.{Learned}
use Rattle.fish_rule.specs.declared.view.Noted.TheVariants.{Version}
use Rattle.fish_rule.specs.declared.view.View.{View}
use Rattle.fish_epoch.specs.Entering.{HasEntered, OnlyEnters}

-- ---- views

-- what keeps to what keeps to it keeps to it
pub enters_both : (a b c : View) → OnlyEnters a b → OnlyEnters b c → OnlyEnters a c
enters_both a b c e f = record {
  learns = learns_both a b c e.learns f.learns;
  clock = later_both a.clock b.clock c.clock e.clock f.clock;
  frame = f.frame ∙ ap (λ (z : View). record z { epoch = c.epoch; learned = c.learned; clock = c.clock }) e.frame;
  count = f.count ∙ e.count;
  found = f.found ∙ e.found;
  loads = f.loads ∙ e.loads;
}

-- a view of the same table that learned of a later version, or of this one, and nothing else
pub learns_version : (v u : View) (version : ℕ) → u.about ≡ v.about → u.learned ≡ record v.learned { version = version }
    → v.learned.version ≤ version → Learns v u
learns_version v u version about learned later =
    subst (λ (l : Learned). Learns v (record u { learned = l })) (sym learned) (assumption (learns_self v, about, later))

-- a load of the version keeps to the view, where the version has risen
pub enters_version : (v : View) (x : ℕ) → v.learned.version ≤ x → OnlyEnters v (after_load_version v x)
enters_version v x more = record {
  learns = learns_version v (after_load_version v x) x refl refl more;
  clock = later_noted v.clock Version x;
  frame = refl;
  count = refl;
  found = refl;
  loads = refl;
}

-- and so does a store of the own epoch
pub enters_epoch : (v : View) (e : Epoch) → OnlyEnters v (record v { epoch = e; clock = Rattle.fish_rule.specs.SpaceSteps.ticked v.clock })
enters_epoch v e = record {
  learns = learns_version v _ v.learned.version refl refl (omega arith);
  clock = later_ticked v.clock;
  frame = refl;
  count = refl;
  found = refl;
  loads = refl;
}

-- ---- rounds

-- the version was announced, and the load after it found what it found
pub record IsRound (v : View) (version found : ℕ) (u : View) : Type 0 where
  pub keeps : OnlyEnters v u
  pub epoch : u.epoch ≡ confirmed (Announced version) found
  pub known : u.learned.version ≡ found
  pub loaded : HasLoaded v.clock u.clock Version found
  pub rises : version ≤ found
  pub few : found ≤ 512
  pub steps : u.clock.steps ≤ v.clock.steps + 3 + 2 * version

-- one round from a view that has loaded the version
pub round_of : (v a b c : View) (version found : ℕ) → OnlyEnters v a → a.learned.version ≡ version
    → a.clock.steps ≤ v.clock.steps + 1 + 2 * version → b ≡ after_announce a version → c ≡ after_load_version b found
    → b.learned.version ≤ found → found ≤ 512 → IsRound v version found c
round_of v a b c version found keeps loaded steps announced load rises few =
    let seen : b.learned.version ≡ version = ap (λ (z : View). z.learned.version) announced ∙ loaded in
    let more : b.clock.steps ≡ suc a.clock.steps = ap (λ (z : View). z.clock.steps) announced in
    let last : c.clock.steps ≡ suc b.clock.steps = ap (λ (z : View). z.clock.steps) load in
    record {
      keeps = enters_both v a c keeps (enters_both a b c
          (subst (OnlyEnters a) (sym announced) (enters_epoch a (Announced version)))
          (subst (OnlyEnters b) (sym load) (enters_version b found rises)));
      epoch = ap (λ (z : View). z.epoch) load ∙ ap (λ (z : View). confirmed z.epoch found) announced;
      known = ap (λ (z : View). z.learned.version) load;
      loaded = loaded_within v.clock b.clock c.clock c.clock Version found
          (later_both v.clock a.clock b.clock keeps.clock
          (subst (λ (z : View). IsLater a.clock z.clock) (sym announced) (later_ticked a.clock)))
          (subst (λ (z : View). HasLoaded b.clock z.clock Version found) (sym load) (noted_load b.clock Version found))
          (later_self c.clock);
      rises = omega arith;
      few = few;
      steps = omega arith;
    }

-- the first round
pub first_round : (v a b c : View) (version found : ℕ) → a ≡ after_load_version v version → v.learned.version ≤ version
    → b ≡ after_announce a version → c ≡ after_load_version b found → b.learned.version ≤ found → found ≤ 512
    → IsRound v version found c
first_round v a b c version found first reached announced load rises few =
    let step : a.clock.steps ≡ suc v.clock.steps = ap (λ (z : View). z.clock.steps) first in
    round_of v a b c version found (subst (OnlyEnters v) (sym first) (enters_version v version reached))
    (ap (λ (z : View). z.learned.version) first) (omega arith) announced load rises few

-- a round after another that found a newer version
pub next_round : (v a b c : View) (before version found : ℕ) → IsRound v before version a → version ≢ before
    → b ≡ after_announce a version → c ≡ after_load_version b found → b.learned.version ≤ found → found ≤ 512
    → IsRound v version found c
next_round v a b c before version found h ne announced load rises few =
    let s = h.steps in
    let up = h.rises in
    round_of v a b c version found h.keeps h.known (omega arith) announced load rises few

-- a pass with nothing in flight may announce what it loaded
pub may_announce : (v a : View) (version : ℕ) → CanEnter v → OnlyEnters v a → a.learned.version ≡ version
    → CanAnnounce a version
may_announce v a version can keeps loaded = record {
  can = record {
    live = subst (λ (z : ℕ). 1 ≤ z) (sym (ap (λ (z : View). z.lane) keeps.frame)) can.live;
    idle = ap (λ (z : View). z.flight) keeps.frame ∙ can.idle;
  };
  reached = omega arith;
}

-- a round that found the version that was announced has entered it
pub round_over : (v u : View) (version found : ℕ) → IsRound v version found u → found ≡ version
    → HasEntered v version u
round_over v u version found h same =
    let few = h.few in
    let steps = h.steps in
    record {
      keeps = h.keeps;
      epoch = h.epoch ∙ choose_first (ℕ_discrete found version) (Confirmed version) (Announced version) same;
      known = h.known ∙ same;
      loaded = subst (HasLoaded v.clock u.clock Version) same h.loaded;
      few = omega arith;
      rounds = omega arith;
    }
