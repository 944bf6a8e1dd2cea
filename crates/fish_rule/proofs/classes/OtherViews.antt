-- What one pass's step leaves of the facts about several views at once.
use Rattle.std.proofs.Common.{◌≡◌, ℕ, ◌≤◌, List, Option, arith, set, sym, refl, ◌∙◌, subst}
use Rattle.std.proofs.Math.Decide.{ℕ_discrete}
use Rattle.fish_rule.proofs.basics.Context.{Epoch, Flight, Key, Rule, View, World, get_elem?, some}
use mathlib.Core.Option.{some-injective}
use Rattle.atomic_table.proofs.Lists.{set_here, set_else}
use Rattle.fish_rule.proofs.basics.Lasts.{Kept}
use Rattle.fish_rule.proofs.basics.Lists.{each_set, pairs_set, within_list}
use Rattle.fish_rule.specs.Chains.{Linked}
use Rattle.fish_rule.specs.Registry.{Endures}
use Rattle.fish_rule.specs.Parts.{Flies, Limit, MayOverflow, Space}
use Rattle.fish_rule.specs.Views.{Each, Has, HasFlight, IsFlightOf}
use Rattle.fish_rule.specs.Epochs.{Carries, RegistryHolds, Stays}

-- one place of a list has one view
pub one_view : (vs : List View) (id : ℕ) (v u : View) → get_elem? vs id ≡ some v → get_elem? vs id ≡ some u → v ≡ u
one_view vs id v u at_v at_u = some-injective v u (sym at_v ∙ at_u)

module _ (vs : List View) (id : ℕ) (v v' : View) (at : get_elem? vs id ≡ some v) where
  -- a number stays in flight where the stepping pass keeps it
  pub flight_there : (n : ℕ) → (IsFlightOf n v.flight → IsFlightOf n v'.flight) → HasFlight n vs
      → HasFlight n (set vs id v')
  flight_there n keep h = pick (ℕ_discrete h.seat id)
    where
      pick : Dec (h.seat ≡ id) → HasFlight n (set vs id v')
      pick (yes e) =
          let same : h.view ≡ v = one_view vs id h.view v (subst (λ (z : ℕ). get_elem? vs z ≡ some h.view) e h.at) at in
          record {
            seat = id;
            view = v';
            at = set_here vs id v' (within_list vs id v at);
            flies = keep (subst (λ (z : View). IsFlightOf n z.flight) same h.flies);
          }
      pick (no ne) = record { seat = h.seat; view = h.view; at = set_else vs id h.seat v' ne ∙ h.at; flies = h.flies }

  -- no two passes have one record in flight, where the stepping pass has no new one
  pub alone_kept : ((n : ℕ) → IsFlightOf n v'.flight → IsFlightOf n v.flight)
      → ((i j : ℕ) (a b : View) (n : ℕ) → get_elem? vs i ≡ some a → get_elem? vs j ≡ some b
      → IsFlightOf n a.flight → IsFlightOf n b.flight → i ≡ j)
      → (i j : ℕ) (a b : View) (n : ℕ) → get_elem? (set vs id v') i ≡ some a
      → get_elem? (set vs id v') j ≡ some b → IsFlightOf n a.flight → IsFlightOf n b.flight → i ≡ j
  alone_kept back alone i j a b n at_i at_j p q =
      (pairs_set (λ i j a b. IsFlightOf n a.flight → IsFlightOf n b.flight → i ≡ j) vs id v'
      (λ i p q. refl)
      (λ j u ne at_u. ((λ p q. alone id j v u n at at_u (back n p) q), (λ p q. alone j id u v n at_u at p (back n q))))
      (λ i j a b _ _ at_a at_b p q. alone i j a b n at_a at_b p q) i j a b at_i at_j) p q

  -- the lanes that may still overflow stay as they are, where the stepping pass has the same lanes
  -- and may overflow only if it could
  pub may_kept : (end : ℕ) (quota : ℕ → ℕ) → v'.lane ≡ v.lane → v'.out ≡ v.out
      → (MayOverflow end v'.shut v'.flight → MayOverflow end v.shut v.flight)
      → Each (λ u. (l : ℕ) → Has u.lane u.out l → MayOverflow end u.shut u.flight → quota l ≡ 1) vs
      → Each (λ u. (l : ℕ) → Has u.lane u.out l → MayOverflow end u.shut u.flight → quota l ≡ 1) (set vs id v')
  may_kept end quota lane out back all = each_set _ vs id v' (λ j u ne at_u. all j u at_u)
      (λ l has may. all id v at l (subst (λ (z : ℕ × List ℕ). Has z.0 z.1 l) (λ d. (lane d, out d)) has) (back may))

-- the limit stays where the lanes that may still overflow do
pub limit_views : {k : Key} {count : ℕ} {vs vs' : List View} {start quota : ℕ → ℕ} → Limit k count vs start quota
    → Each (λ v. (l : ℕ) → Has v.lane v.out l → MayOverflow k.end v.shut v.flight → quota l ≡ 1) vs'
    → Limit k count vs' start quota
limit_views l may = record {
  first = l.first;
  above = l.above;
  within = l.within;
  fits = l.fits;
  past = l.past;
  few = l.few;
  may = may;
}

-- what lasts has lasted where no word of the directory or of the log changes, and no head
pub final_still : {k : Key} {w : World} (r : Rule k w) (settled' : ℕ) (g' : ℕ → ℕ) (views' : List View)
    → w.settled ≤ settled' → Endures k w.registry g'
    → ((b p : ℕ) → Linked k w.dir w.log w.views b p → Linked k w.dir w.log views' b p)
    → Kept r (record w { settled = settled'; registry = g'; views = views' })
final_still r settled' g' views' more endures links = record {
  counts = omega arith;
  lines = omega arith;
  settles = more;
  registered = endures;
  heads = λ b. omega arith;
  links = links;
  rises = λ b p h. omega arith;
  starts = λ n h. refl;
  lanes = λ n h. refl;
  dirs = λ n h e. refl;
  bodies = λ n h e. refl;
  below = λ p from h. refl;
}

-- space stays where the stepping pass has the same record in flight
pub space_still : {k : Key} {count line : ℕ} {dir log start lane_of : ℕ → ℕ} (vs : List View) (id : ℕ) (v v' : View)
    → get_elem? vs id ≡ some v → v'.lane ≡ v.lane → v'.flight ≡ v.flight
    → Space k count line dir log vs start lane_of → Space k count line dir log (set vs id v') start lane_of
space_still {k} {count} {line} {dir} {log} {start} {lane_of} vs id v v' at lane same s = record {
  regions = s.regions;
  finished = s.finished;
  flying = λ n above below unset.
      flight_there vs id v v' at n (subst (IsFlightOf n) (sym same)) (s.flying n above below unset);
  flights = each_set _ vs id v' (λ j u ne at_u. s.flights j u at_u)
      (subst (λ (z : ℕ × Option Flight). Flies k count dir log start lane_of z.0 z.1)
      (λ i. (sym lane i, sym same i)) (s.flights id v at));
  alone = alone_kept vs id v v' at (λ n. subst (IsFlightOf n) same) s.alone;
  dir_below = s.dir_below;
  dir_beyond = s.dir_beyond;
  log_beyond = s.log_beyond;
}

-- the registry's part stays where its words do, and the stepping pass keeps to it
pub registry_set : (k : Key) (count : ℕ) (g : ℕ → ℕ) (state : ℕ → Epoch) (version_of : ℕ → ℕ) (vs : List View) (id : ℕ)
    (v' : View) → RegistryHolds k count g state version_of vs
    → Stays k count g state version_of v'
    → Carries k g version_of v'.lane v'.epoch v'.flight → RegistryHolds k count g state version_of (set vs id v')
registry_set k count g state version_of vs id v' r stays carries = record {
  epochs = r.epochs;
  versions = r.versions;
  boundaries = r.boundaries;
  each = each_set _ vs id v' (λ j u ne at_u. r.each j u at_u) stays;
  flights = each_set _ vs id v' (λ j u ne at_u. r.flights j u at_u) carries;
}
