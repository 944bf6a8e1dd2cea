-- The record in flight of a view, and what is known of it.
use Rattle.std.proofs.Common.{◌≡◌, ap, Some, None, Option, ℕ, ◌≤◌, sym, ◌∙◌, subst}
use Rattle.fish_rule.specs.SpaceSteps.{flight_kind, learned_after, own_after, shut_after, ticked}
use Rattle.fish_rule.proofs.basics.Context.{Flight, Key, Rule, View, World, get_elem?, some}
use Rattle.fish_rule.specs.Parts.{Flies, InFlight}
use Rattle.fish_rule.specs.Epochs.{Carries, IsFlightCarried}
use Rattle.fish_rule.specs.Keys.{IsKeyed}
use Rattle.fish_rule.specs.Registry.{AreActiveAt, KnowsActive}
use Rattle.fish_rule.proofs.basics.RegistryWords.{active_known, keyed_map}
use Rattle.fish_rule.specs.declared.view.Epoch.TheVariants.{Confirmed}

-- what an option holds, or else
abbrev flight_or : Flight → Option Flight → Flight
flight_or d None = d
flight_or d (Some f) = f

-- a view has one record in flight
pub one_flight : (f g : Flight) → Some f ≡ Some g → f ≡ g
one_flight f g e = ap (flight_or f) e

-- the view after a publication in a table of this key
abbrev pub publisher_at : View → Flight → Key → View
publisher_at v f k = record v {
  flight = None;
  shut = shut_after (flight_kind v f) f k.end v.shut;
  own = own_after (flight_kind v f) v.lane f.number v.own;
  learned = learned_after (flight_kind v f) f v.learned;
  clock = ticked v.clock;
}

-- what is so of the record in flight where it is known
pub flight_is : {k : Key} {w : World} (r : Rule k w) (id : ℕ) {v : View} (at : get_elem? w.views id ≡ some v)
    (f : Flight) → v.flight ≡ Some f → InFlight k w.count w.dir w.log r.start r.lane_of v.lane f
flight_is {k} {w} r id {v} at f is = subst (Flies k w.count w.dir w.log r.start r.lane_of v.lane) is (r.space.flights id v at)

-- a pass is entered at one version
pub confirmed_once : {a b : ℕ} → Confirmed a ≡ Confirmed b → a ≡ b
confirmed_once e = cc

-- and of its version and keys
pub carried_is : {k : Key} {w : World} (r : Rule k w) (id : ℕ) {v : View} (at : get_elem? w.views id ≡ some v)
    (f : Flight) → v.flight ≡ Some f → IsFlightCarried k w.registry r.version_of v.lane v.epoch f
carried_is {k} {w} r id {v} at f is = subst (Carries k w.registry r.version_of v.lane v.epoch) is (r.registry.flights id v at)

-- what its pass knows of its keys is so
pub known_keyed : {k : Key} {w : World} (r : Rule k w) (id : ℕ) {v : View} (at : get_elem? w.views id ≡ some v)
    (f : Flight) → v.flight ≡ Some f → 1 ≤ v.lane → (version : ℕ) → v.epoch ≡ Confirmed version → (e : ℕ → ℕ)
    → IsKeyed (KnowsActive v.about v.learned) version v.lane f.number f.lines e
    → IsKeyed (AreActiveAt k w.registry) (r.version_of f.number) v.lane f.number f.lines e
known_keyed {k} {w} r id {v} at f is live version entered e h =
    let stays = r.registry.each id v at in
    let same : version ≡ r.version_of f.number =
    confirmed_once (sym entered ∙ (carried_is r id at f is).entered) in
    let about : v.about ≡ k = r.about id v at live in
    subst (λ (z : ℕ). IsKeyed (AreActiveAt k w.registry) z v.lane f.number f.lines e) same
    (keyed_map (KnowsActive v.about v.learned) (AreActiveAt k w.registry)
    (λ u ts known. active_known k w.registry v.learned stays.reached stays.read u ts
    (subst (λ (z : Key). KnowsActive z v.learned u ts) about known))
    version v.lane f.number f.lines e h)
