-- The statements of a lane after the first, from their start to their end.
use Rattle.std.proofs.Common.{◌≡◌, ◌≢◌, ℕ, ◌≤◌, List, [], ⊎_elim, sym, ap, ◌∙◌, subst, refl, arith, Bool}
use Rattle.std.specs.Prelude.{is_some}
use Rattle.fish_ingest.proofs.IngestionStart.{idle_law}
use Rattle.fish_lanes.proofs.Advancing.{run_fewer}
use Rattle.fish_lanes.proofs.Full.{unshut_test}
use Rattle.fish_lanes.proofs.Lists.{some_once}
use Rattle.fish_lanes.proofs.SoFar.{far_self}
use Rattle.fish_lanes.specs.within.Advancing.{HasFinished, HasGone, IsOn, IsOnAnyhow, IsShortFault, IsWorkSoFar}
use Rattle.fish_lanes.specs.Causes.{HasFaultCause, IsUndamaged}
use Rattle.fish_lanes.specs.Full.{IsNotFull}
use Rattle.fish_lanes.specs.within.Full.{SaysLast}
use Rattle.fish_lanes.specs.Outcome.{Stops}
use Rattle.fish_lanes.specs.within.Pasts.{WasHere}
use Rattle.fish_lanes.specs.within.Running.{CanBegin, HasDone, HasRun, SayPlans}
use Rattle.fish_lanes.specs.Spans.{IsAnswerItem}
use Rattle.fish_lanes.specs.declared.lane.Lane.{Lane}
use Rattle.fish_lanes.specs.declared.lane.LanePass.{LanePass}
use Rattle.fish_lanes.specs.declared.work.LaneFault.{LaneFault}
use Rattle.fish_lanes.specs.declared.work.LaneFault.TheVariants as fault
use Rattle.fish_lanes.specs.declared.work.Work.{Work}
use Rattle.fish_report.specs.declared.item.Item.{Item}
use Rattle.fish_rule.proofs.laws.Learning.{learns_self}
use Rattle.fish_rule.specs.Passes.{view}
use Rattle.fish_rule.specs.Views.{AllOf}
use Rattle.fish_rule.specs.declared.table.Log.{Log}
use Rattle.fish_rule.specs.declared.view.View.{View}
use Rattle.fish_whole.specs.Whole.{Whole}

-- a lane that stopped at a fault has come to its end
pub on_ended : (Past : Whole → Type 0) (v u : View) (works : List Work) (items : List Item) (why : LaneFault) → why ≢ fault.None
    → IsOn Past v u works items why → HasRun Past v u works items why × SayPlans v u works items
on_ended Past v u works items fault.None named h = absurd (named refl)
on_ended Past v u works items fault.Memory named h = h
on_ended Past v u works items fault.Disk named h = h
on_ended Past v u works items (fault.Damaged n) named h = h

-- and the other way round
pub on_fault : {Past : Whole → Type 0} (v u : View) (works : List Work) (items : List Item) (why : LaneFault) → why ≢ fault.None
    → HasRun Past v u works items why × SayPlans v u works items → IsOn Past v u works items why
on_fault v u works items fault.None named h = absurd (named refl)
on_fault v u works items fault.Memory named h = h
on_fault v u works items fault.Disk named h = h
on_fault v u works items (fault.Damaged n) named h = h

-- one that stopped at none is so far
pub on_far : (Past : Whole → Type 0) (v u : View) (works : List Work) (items : List Item) (why : LaneFault) → why ≡ fault.None
    → IsOn Past v u works items why → IsWorkSoFar Past v u works items
on_far Past v u works items why none h = subst (IsOn Past v u works items) none h

-- what is finished after some pasts is finished after each of these
pub finished_fewer : (P Q : Whole → Type 0) (full : Bool) (log : Log) (x y : Lane) → ((past : Whole) → Q past → P past)
    → HasFinished P full log x y → HasFinished Q full log x y
finished_fewer P Q full log x y fewer h = record {
  before = h.before;
  before_is = h.before_is;
  after = h.after;
  after_is = h.after_is;
  can = h.can;
  works = h.works;
  number = h.number;
  run = λ start on.
      let ran = h.run start on in
      (run_fewer P Q start (view h.after.pass) y.works y.items y.fault fewer ran.0, ran.1);
  cut = h.cut;
  last = h.last;
  answers = h.answers;
}

-- the statements were begun, and then finished
pub done_both : (Past P : Whole → Type 0) (full : Bool) (log : Log) (x y z : Lane) → ((past : Whole) → Past past → P past)
    → x.items ≡ [] → (gone : HasGone log x y) → CanBegin log gone.before.pass → full ≡ is_some (view gone.before.pass).shut
    → HasFinished P full log y z → HasDone Past log x z
done_both Past P full log x y z fewer empty gone can told fin =
    let start : View = view gone.before.pass in
    let seat : gone.after ≡ fin.before = some_once gone.after fin.before (sym gone.after_is ∙ fin.before_is) in
    let on : IsOnAnyhow start (view fin.before.pass) y.works y.items y.fault =
    subst (λ (p : LanePass × List Work). IsOnAnyhow start (view p.0.pass) p.1 y.items y.fault) (λ i. (seat i, sym gone.works i))
    (λ content k cold later. gone.on start content k cold later
    (subst (IsWorkSoFar (WasHere content k cold later) start start x.works) (sym empty)
    (far_self (WasHere content k cold later) start x.works can.start.outside (idle_law start can.of.stands can.start)
    (learns_self start)))) in
    let ran = fin.run start on in
    record {
      before = gone.before;
      before_is = gone.before_is;
      after = fin.after;
      after_is = fin.after_is;
      can = fin.can;
      run = run_fewer P Past start (view fin.after.pass) z.works z.items z.fault fewer ran.0;
      plans = ran.1;
      stops = record {
        cut = λ some. let cut = fin.cut (gone.answers (subst (AllOf IsAnswerItem) (sym empty) tt)) some in
            record { fault = cut.0; unshut = unshut_test start.shut (sym told ∙ cut.1); shut = cut.2 };
        last = λ unshut. fin.last (told ∙ ap is_some unshut) (subst (λ (s : LanePass). SaysLast (view s.pass) y.items y.fault) seat
            (gone.last unshut (subst (AllOf IsNotFull) (sym empty) tt)));
      };
      answers = fin.answers (gone.answers (subst (AllOf IsAnswerItem) (sym empty) tt));
      works = sym gone.works ∙ fin.works;
      number = fin.number ∙ gone.number;
    }

-- ---- faults

-- a fault that had a cause has it later
cause_later : (before now then : ℕ) (why : LaneFault) → now ≤ then → HasFaultCause before now why → HasFaultCause before then why
cause_later before now then fault.None le h = tt
cause_later before now then fault.Memory le h = tt
cause_later before now then fault.Disk le h = (let rose = h in omega arith)
cause_later before now then (fault.Damaged n) le h = tt

-- and since an earlier moment
pub cause_before : (first before now : ℕ) (why : LaneFault) → first ≤ before → HasFaultCause before now why → HasFaultCause first now why
cause_before first before now fault.None le h = tt
cause_before first before now fault.Memory le h = tt
cause_before first before now fault.Disk le h = (let rose = h in omega arith)
cause_before first before now (fault.Damaged n) le h = tt

-- so a lane that stopped stops
pub stops_later : (P Q : Whole → Type 0) (before now then : ℕ) (why : LaneFault) → now ≤ then → ((past : Whole) → Q past → P past)
    → Stops P before now why → Stops Q before then why
stops_later P Q before now then why le fewer h = record {
  later = (let first = h.later in omega arith);
  cause = cause_later before now then why le h.cause;
  whole = λ past behind. h.whole past (fewer past behind);
}

-- since an earlier moment too
pub stops_before : (Past : Whole → Type 0) (first before now : ℕ) (why : LaneFault) → first ≤ before → Stops Past before now why
    → Stops Past first now why
stops_before Past first before now why le h = record {
  later = (let later = h.later in omega arith);
  cause = cause_before first before now why le h.cause;
  whole = h.whole;
}

-- a lane stops where its fault is that of one that does
pub stops_fault : (Past : Whole → Type 0) (before now : ℕ) (a b : LaneFault) → b ≡ a → Stops Past before now a → Stops Past before now b
stops_fault Past before now a b same h = subst (Stops Past before now) (sym same) h

-- without its disk a lane stops for no cause of it
pub short_stops : (Past : Whole → Type 0) (before now : ℕ) (why : LaneFault) → before ≤ now → IsShortFault why → Stops Past before now why
short_stops Past before now why le short = record {
  later = le;
  cause = ⊎_elim (λ (none : why ≡ fault.None). subst (HasFaultCause before now) (sym none) tt)
      (λ (memory : why ≡ fault.Memory). subst (HasFaultCause before now) (sym memory) tt) short;
  whole = λ past behind. ⊎_elim (λ (none : why ≡ fault.None). subst IsUndamaged (sym none) tt)
      (λ (memory : why ≡ fault.Memory). subst IsUndamaged (sym memory) tt) short;
}
