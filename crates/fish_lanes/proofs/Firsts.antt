-- The first lane of a block, and the others.
use Rattle.std.proofs.Common.{◌≡◌, ◌∙◌, ◌+◌, ℕ, zero, suc, List, [], ◌∷◌, ◌++◌, None, Some, ap, arith, drop, get_or, length}
use Rattle.std.proofs.Common.{refl, set, slice_get}
use Rattle.std.proofs.Common.{subst, sym, take}
use Rattle.fish_lanes.proofs.Lists.{some_once}
use Rattle.fish_lanes.specs.Blocks.{AreKept, AreLanes, IsKept, IsNewLane}
use Rattle.fish_lanes.specs.Ending.{EndsAlone}
use Rattle.fish_lanes.specs.Outcome.{AreVacant}
use Rattle.fish_lanes.specs.declared.lane.Lane.{Lane}
use Rattle.fish_lanes.specs.within.Blocks.{CanGive, IsFirstLane}
use Rattle.fish_lanes.specs.Registering.{KnowsRegistry, registry_of}
use Rattle.fish_registry.specs.declared.registrar.Registrar.{Registrar}
use Rattle.fish_rule.specs.declared.view.View.{View}

-- ---- before a block

module _ (v : View) (x : Lane) (others : List Lane) (h : AreLanes (x ∷ others)) where
  -- the first lane is new, and its statements are acceptable
  pub first_ready : (r : Registrar) → KnowsRegistry v (registry_of v r) → IsFirstLane v r x
  first_ready r known = record {
    known = known;
    acceptable = h.acceptable x refl;
    empty = (h.new 0 x refl).empty;
    nothing_left = (h.new 0 x refl).nothing_left;
  }

  -- the others may get passes
  pub others_new : (from : ℕ) → EndsAlone v from → CanGive v others
  others_new from e = record {
    control = e.alone.control;
    all = e.alone.all;
    idle = e.alone.idle;
    outside = e.outside;
    few = (let few = h.few in omega arith);
    new = λ i y at. subst (λ (n : ℕ). IsNewLane n y) (let same : suc i + 1 ≡ i + 2 = omega arith in same) (h.new (suc i) y at);
    shared = λ i y at. h.shared (suc i) y (omega arith) at;
  }

-- ---- afterwards

-- what is so of the first lane is so of whoever stands first
pub first_there : (P : Lane → Type 0) (x : Lane) (others : List Lane) → P x → (z : Lane) → slice_get (x ∷ others) 0 ≡ Some z → P z
first_there P x others p z at = subst P (some_once x z at) p

-- none of them has a pass
pub vacant_both : (x y : Lane) (before after : List Lane) → y.seat ≡ x.seat → AreVacant after → AreVacant (x ∷ before)
    → AreVacant (y ∷ after)
vacant_both x y before after same rest vacant zero z at =
    subst (λ (w : Lane). w.seat ≡ None) (some_once y z at) (same ∙ vacant 0 x refl)
vacant_both x y before after same rest vacant (suc i) z at = rest i z at

-- each keeps its number and statements, but for what it hands back
pub kept_both : (x y : Lane) (before after : List Lane) → IsKept x y → AreKept before after → AreKept (x ∷ before) (y ∷ after)
kept_both x y before after first rest zero w z at_w at_z =
    subst (λ (p : Lane × Lane). IsKept p.0 p.1) (λ i. (some_once x w at_w i, some_once y z at_z i)) first
kept_both x y before after first rest (suc i) w z at_w at_z = rest i w z at_w at_z

-- where the first is all there is, there were no others
pub alone_first : (P : Lane → Type 0) (y : Lane) (before after : List Lane) → length after ≡ length before → (before ≡ [] → P y)
    → (z : Lane) → y ∷ after ≡ z ∷ [] → P z
alone_first P y before after size p z e = subst P first (p (none before size rest))
  where
    first : y ≡ z
    first = cc

    rest : after ≡ []
    rest = cc

    none : (before : List Lane) → length after ≡ length before → after ≡ [] → before ≡ []
    none [] size e = refl
    none (o ∷ before) size e = (let same : length after ≡ 0 = ap length e in absurd (omega arith))

-- ---- a list of lanes, taken apart

-- the lanes are the first and the others
pub taken_apart : (lanes : List Lane) (d : Lane) → AreLanes lanes → get_or (take 1 lanes) 0 d ∷ drop 1 lanes ≡ lanes
taken_apart [] d h = (let some_ = h.some in absurd (omega arith))
taken_apart (x ∷ lanes) d h = refl

-- and again
pub put_together : (front lanes : List Lane) (x : Lane) (others : List Lane) → AreLanes lanes → front ≡ take 1 lanes
    → x ∷ others ≡ set front 0 x ++ others
put_together front [] x others h is = (let some_ = h.some in absurd (omega arith))
put_together front (y ∷ lanes) x others h is = ap (λ (z : List Lane). set z 0 x ++ others) (sym is)
