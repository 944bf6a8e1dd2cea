-- Two moments of the control pass, and the end of the log between blocks.
use Rattle.std.proofs.Common.{◌≡◌, ◌≢◌, ℕ, ◌+◌, ◌<◌, ◌≤◌, zero, suc, List, [], ◌∷◌, length, refl, sym, ◌∙◌, subst}
use Rattle.std.proofs.Common.{⊎_elim, arith, Some, slice_get}
use Rattle.std.proofs.Math.Decide.{dec_lt}
use Rattle.fish_lanes.specs.Ending.{EndsAlone}
use Rattle.fish_rule.proofs.laws.Regions.{code_once, mark-past}
use Rattle.fish_rule.proofs.laws.Regions.{starts_rise}
use Rattle.fish_rule.proofs.laws.Regions.{published}
use Rattle.fish_rule.specs.Regions.{code, kind_of}
use Rattle.fish_rule.specs.declared.view.Kind.TheVariants.{Mark}
pub use Rattle.fish_rule.proofs.laws.Learning.{learns_same}
use Rattle.fish_rule.proofs.laws.Learning.{learns_self}
use Rattle.fish_rule.specs.Logs.{Learns, KnowsMark}
use Rattle.fish_rule.specs.Parts.{RestsAt}
use Rattle.fish_rule.specs.Table.{IsOfMoment}
use Rattle.fish_rule.specs.World.{World, high, low}
use Rattle.fish_rule.specs.declared.view.View.{View}

-- ---- the end

-- the second view is of the control pass a little later: it stored nothing
pub record Closes (u t : View) : Type 0 where
  pub learns : Learns u t
  pub lane : t.lane ≡ u.lane
  pub out : t.out ≡ u.out
  pub idle : t.flight ≡ u.flight
  pub epoch : t.epoch ≡ u.epoch
  pub shut : t.shut ≡ u.shut
  pub own : t.own ≡ u.own

-- ---- positions

pub get_there : {A : Type 0} (xs : List A) (i : ℕ) → i < length xs → (x : A) × (slice_get xs i ≡ Some x)
get_there [] i h = absurd (omega arith)
get_there (x ∷ xs) zero h = (x, refl)
get_there (x ∷ xs) (suc i) h = get_there xs i (omega arith)

-- the log doesn't end before a settled number
pub ends_behind : (t : View) (to from : ℕ) → IsOfMoment t → EndsAlone t to → from ≤ t.learned.settled → from ≤ to
ends_behind t to from s h less =
    let w : World = s.moment in
    let r = s.rule in
    let floor = r.floors s.seat t s.at in
    let within = r.settling.within in
    let tail = h.tail in
    let rests : RestsAt w.count w.line (Some (record { number = high tail.0; line = low tail.0 })) =
    subst (RestsAt w.count w.line) tail.1 (r.tails s.seat t s.at h.alone.control h.alone.all) in
    let count : high tail.0 ≡ w.count = rests.0 in
    let same : high tail.0 ≡ h.count = tail.2 in
    let above = h.above in
    ⊎_elim (λ (e : to ≡ h.count). omega arith)
    (λ (m : (to < h.count) × KnowsMark t to). pick m.1 (dec_lt to w.settled)) h.ends
  where
    pick : KnowsMark t to → Dec (to < s.moment.settled) → from ≤ to
    pick mark (no not_less) = (let floor = s.rule.floors s.seat t s.at in omega arith)
    pick mark (yes inside) =
        let above = h.above in
        absurd ((s.rule.settling.below to (omega arith) inside).unmarked
        (mark t (learns_self t) s.moment s.rule s.seat s.at))

-- the control pass has counted up to the end
pub counted_from : (v : View) (from : ℕ) → EndsAlone v from → from ≤ v.learned.count
counted_from v from h =
    let a = h.counted in
    ⊎_elim (λ (e : from ≡ h.count). omega arith)
    (λ (n : (from < h.count) × KnowsMark v from). let b = n.0 in omega arith) h.ends

-- at most 16 numbers are claimed past the end
pub few_behind : (t : View) (to : ℕ) → IsOfMoment t → EndsAlone t to → t.learned.count ≤ to + 16
few_behind t to s h =
    let w : World = s.moment in
    let r = s.rule in
    let counted = (r.facts s.seat t s.at).counted in
    let tail = h.tail in
    let rests : RestsAt w.count w.line (Some (record { number = high tail.0; line = low tail.0 })) =
    subst (RestsAt w.count w.line) tail.1 (r.tails s.seat t s.at h.alone.control h.alone.all) in
    let count : high tail.0 ≡ w.count = rests.0 in
    let same : high tail.0 ≡ h.count = tail.2 in
    ⊎_elim (λ (e : to ≡ h.count). omega arith)
    (λ (m : (to < h.count) × KnowsMark t to). pick (m.1 t (learns_self t) w r s.seat s.at) (dec_lt to r.limit.first)) h.ends
  where
    pick : high (s.moment.dir to) ≡ code Mark → Dec (to < s.rule.limit.first) → t.learned.count ≤ to + 16
    pick mark (no not_less) =
        let counted = (s.rule.facts s.seat t s.at).counted in
        let few = s.rule.limit.few in
        omega arith
    pick mark (yes less) =
        let above = h.above in
        let r = s.rule in
        let there : s.moment.dir to ≢ 0 = published (s.moment.dir to) Mark mark in
        let within = r.limit.within in
        let f = r.space.finished to (omega arith) (omega arith) there in
        let is : kind_of t.about.end (r.start to) (r.start (suc to)) ≡ Mark = code_once _ Mark (sym f.kind ∙ mark) in
        let past = mark-past t.about.end (r.start to) (r.start (suc to)) is in
        let up = starts_rise t.about s.moment.count s.moment.line r.start r.space.regions (suc to) r.limit.first (omega arith)
        (omega arith) (omega arith) in
        let fits = r.limit.fits in
        absurd (omega arith)
