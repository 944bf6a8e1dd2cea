-- The registrations of the definitions, one after the other.
use Rattle.std.proofs.Common.{◌≡◌, ℕ, ◌+◌, zero, suc, List, [], ◌∷◌, ◌++◌, Result, Ok, Err, Some, All, map, slice_get, refl, sym, ap}
use Rattle.std.proofs.Common.{◌∙◌, subst, arith, append_assoc}
use Rattle.std.proofs.lemmas.List.FromFn.{map-range_with_len_more}
use Rattle.std.specs.List.{range_with_len}
use Rattle.std.specs.Prelude.{OnOk, codes}
use Rattle.fish_lang.specs.Definition.{definition_of}
use Rattle.fish_lanes.proofs.Lists.{some_once}
use Rattle.fish_lanes.specs.Blocks.{AreLanes}
use Rattle.fish_lanes.specs.Registering.{IsAcceptable}
use Rattle.fish_lanes.specs.Running.{IsShared}
use Rattle.fish_lanes.specs.declared.lane.Lane.{Lane}
use Rattle.fish_lanes.specs.declared.work.Work.{Work}
use Rattle.fish_sample.specs.within.Works.{AreDefining, AreShareLanes, Defines, HasPushed, IsShareLane, all_scans, band_scans}
use Rattle.fish_sample.specs.within.Works.{kind_scans, register_work, scan_late}

defining : (old one two three : List Work) → old ≡ [] → Defines (codes "kind") (codes "take type") old one
    → Defines (codes "late") (codes "flag when n >= 10000 and type = \"T3\"") one two
    → Defines (codes "band") (codes "bucket k by 100") two three → AreDefining three
defining old one two three empty kind late band = record {
  definitions = record { kind = definition_of kind.def; late = definition_of late.def; band = definition_of band.def };
  defined = record { kind = kind.accepted; late = late.accepted; band = band.accepted };
  namings = record {
    kind = kind.def;
    late = late.def;
    band = band.def;
    are = band.more ∙ ap (λ (z : List Work). z ++ register_work (codes "band", band.def) ∷ [])
        (late.more ∙ ap (λ (z : List Work). z ++ register_work (codes "late", late.def) ∷ [])
        (kind.more ∙ ap (λ (z : List Work). z ++ register_work (codes "kind", kind.def) ∷ []) empty));
    kind_is = refl;
    late_is = refl;
    band_is = refl;
  };
}

-- where the last one was put
pub are_defining : {E : Type 0} (r : Result (Unit {0}) E) (old one two three : List Work) → old ≡ []
    → Defines (codes "kind") (codes "take type") old one
    → Defines (codes "late") (codes "flag when n >= 10000 and type = \"T3\"") one two
    → OnOk r (Defines (codes "band") (codes "bucket k by 100") two three) → OnOk r (AreDefining three)
are_defining (Ok u) old one two three empty kind late band = defining old one two three empty kind late band
are_defining (Err e) old one two three empty kind late band = band

-- ---- scans

pub are_scans : {E : Type 0} (r : Result (Unit {0}) E) (old one two three : List Work) → one ≡ old ++ kind_scans 7
    → two ≡ one ++ scan_late ∷ [] → OnOk r (three ≡ two ++ band_scans 10) → OnOk r (three ≡ old ++ all_scans)
are_scans (Ok u) old one two three kinds late bands =
    bands ∙ ap (λ (z : List Work). z ++ band_scans 10) (late ∙ ap (λ (z : List Work). z ++ scan_late ∷ []) kinds)
    ∙ append_assoc (old ++ kind_scans 7) (scan_late ∷ []) (band_scans 10) ∙ append_assoc old (kind_scans 7) (scan_late ∷ band_scans 10)
are_scans (Err e) old one two three kinds late bands = bands

-- one kind or band more
pub scans_more : (f : ℕ → Work) (old works new : List Work) (n : ℕ) → works ≡ old ++ map f (range_with_len 0 n) → new ≡ works ++ f n ∷ []
    → new ≡ old ++ map f (range_with_len 0 (n + 1))
scans_more f old works new n before more =
    more ∙ ap (λ (z : List Work). z ++ f n ∷ []) before ∙ append_assoc old (map f (range_with_len 0 n)) (f n ∷ [])
    ∙ ap (λ (z : List Work). old ++ z) (sym (map-range_with_len_more f 0 n n (omega arith)))

-- ---- shares

all_one : (P : Work → Type 0) (w : Work) → P w → All P (w ∷ [])
all_one P w p zero d less = p
all_one P w p (suc i) d less = absurd (omega (less, arith))

-- the lanes that store shares are lanes of a block
pub share_lanes : (number : ℕ) (lanes : List Lane) → AreShareLanes number 4 lanes → AreLanes lanes
share_lanes number lanes h = record {
  some = (let e = h.many in omega arith);
  few = (let e = h.many in omega arith);
  new = λ i x at. (h.each i x at).new;
  acceptable = λ x at. subst (All IsAcceptable) (sym (h.each 0 x at).works) (all_one IsAcceptable _ tt);
  shared = λ i x less at. subst (All IsShared) (sym (h.each i x at).works) (all_one IsShared _ tt);
}

-- four of them
four_are : (number : ℕ) (a b c d : Lane) → IsShareLane number 1 a → IsShareLane number 2 b → IsShareLane number 3 c
    → IsShareLane number 4 d → AreShareLanes number 4 (a ∷ b ∷ c ∷ d ∷ [])
four_are number a b c d ha hb hc hd = record { many = refl; each = each }
  where
    each : (i : ℕ) (x : Lane) → slice_get (a ∷ b ∷ c ∷ d ∷ []) i ≡ Some x → IsShareLane number (i + 1) x
    each zero x at = subst (IsShareLane number 1) (some_once a x at) ha
    each (suc zero) x at = subst (IsShareLane number 2) (some_once b x at) hb
    each (suc (suc zero)) x at = subst (IsShareLane number 3) (some_once c x at) hc
    each (suc (suc (suc zero))) x at = subst (IsShareLane number 4) (some_once d x at) hd
    each (suc (suc (suc (suc i)))) x at = absurd cc

pub are_shares : {E : Type 0} (r : Result (Unit {0}) E) (number : ℕ) (old one two three four : List Lane) → old ≡ []
    → HasPushed number 1 old one → HasPushed number 2 one two → HasPushed number 3 two three → OnOk r (HasPushed number 4 three four)
    → OnOk r (AreShareLanes number 4 four)
are_shares (Ok u) number old one two three four empty a b c d =
    subst (AreShareLanes number 4) (sym (d.more ∙ ap (λ (z : List Lane). z ++ d.lane ∷ [])
    (c.more ∙ ap (λ (z : List Lane). z ++ c.lane ∷ [])
    (b.more ∙ ap (λ (z : List Lane). z ++ b.lane ∷ [])
    (a.more ∙ ap (λ (z : List Lane). z ++ a.lane ∷ []) empty)))))
    (four_are number a.lane b.lane c.lane d.lane a.is b.is c.is d.is)
are_shares (Err e) number old one two three four empty a b c d = d
