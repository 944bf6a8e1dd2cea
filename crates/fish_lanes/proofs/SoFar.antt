-- How far the statements of a lane after the first are done: one more, none, a part of one, or all.
use Rattle.std.proofs.Common.{◌≡◌, ◌≢◌, ℕ, ◌+◌, ◌<◌, ◌≤◌, List, [], ◌∷◌, ◌++◌, length, take, drop, get_or, refl, sym, ap, ◌∙◌, subst}
use Rattle.std.proofs.Common.{Ok, Err, Result, inl, inr, arith, length-append, None}
use Rattle.std.proofs.lemmas.List.{take_more}
use Rattle.std.specs.Prelude.{IfOk}
use Rattle.fish_lang.specs.declared.definition.Def.{Def}
use Rattle.fish_lanes.proofs.Advancing.{answers_more, run_cut, told_more, told_on}
use Rattle.fish_lanes.proofs.Controls.{plans_on}
use Rattle.fish_lanes.proofs.Done.{told_self}
use Rattle.fish_lanes.proofs.Gaining.{gains_scans, gains_start}
use Rattle.fish_lanes.proofs.Lists.{all_more}
use Rattle.fish_lanes.proofs.Parts.{around}
use Rattle.fish_lanes.proofs.Saying.{said_cut, said_more, said_self}
use Rattle.fish_lanes.proofs.Showing.{fit_answer, free_made}
use Rattle.fish_lanes.specs.within.Advancing.{HasNextItem, HasSaid, HasAnswered, IsOn, IsShortFault, IsWorkSoFar}
use Rattle.fish_lanes.specs.within.Causes.{fault_of_stop}
use Rattle.fish_lanes.specs.within.Controlled.{IsControlled}
use Rattle.fish_lanes.specs.within.Doing.{IsFit, IsItem, IsPart}
use Rattle.fish_lanes.specs.within.Gains.{Gains}
use Rattle.fish_lanes.specs.Loading.{LoadsWithin}
use Rattle.fish_lanes.specs.Records.{LaneRow, contents_of_rows}
use Rattle.fish_lanes.specs.Running.{IsShared}
use Rattle.fish_lanes.specs.within.Running.{HasRun, IsFree, SayPlans}
use Rattle.fish_lanes.specs.within.Pasts.{anywhere}
use Rattle.fish_lanes.specs.Spans.{IsAnswerItem, answers}
use Rattle.fish_lanes.specs.Telling.{content_of}
use Rattle.fish_lanes.specs.declared.statements.Stop.{Stop}
use Rattle.fish_lanes.specs.declared.statements.Stop.TheVariants as stop
use Rattle.fish_lanes.specs.declared.work.LaneFault.{LaneFault}
use Rattle.fish_lanes.specs.declared.work.LaneFault.TheVariants as fault
use Rattle.fish_lanes.specs.declared.work.Work.{Work}
use Rattle.fish_lanes.specs.declared.work.Work.TheVariants as work
use Rattle.fish_registry.specs.declared.registrar.Registrar.{Registrar}
use Rattle.fish_report.specs.declared.item.Item.{Item}
use Rattle.fish_ingest.specs.Ingestion.{CanStart}
use Rattle.fish_rule.specs.Logs.{Learns}
use Rattle.fish_rule.specs.Table.{IsOfMoment}
use Rattle.fish_rule.specs.Views.{AllOf}
use Rattle.fish_rule.specs.declared.view.Epoch.TheVariants.{Out}
use Rattle.fish_rule.specs.declared.view.View.{View}
use Rattle.fish_scan.specs.declared.ask.Answer.{Answer}
use Rattle.fish_value.specs.declared.value.Value.{Value}
use Rattle.fish_whole.specs.Whole.{Whole}

-- ---- fewer pasts

-- the loads of an answer are few after each of these
loads_fewer : (P Q : Whole → Type 0) (u t : View) (value : Value) (answer : Answer) → ((past : Whole) → Q past → P past)
    → LoadsWithin P u t value answer → LoadsWithin Q u t value answer
loads_fewer P Q u t value answer fewer (inl one) = inl one
loads_fewer P Q u t value answer fewer (inr each) = inr (λ past behind. each past (fewer past behind))

-- what fits after some pasts fits after each of these
pub fit_fewer : (P Q : Whole → Type 0) (u t : View) (w : Work) (x : Item) → ((past : Whole) → Q past → P past) → IsFit P u t w x
    → IsFit Q u t w x
fit_fewer P Q u t (work.Register name def) x fewer f = f
fit_fewer P Q u t (work.Deregister name) x fewer f = f
fit_fewer P Q u t (work.Ingest form begin name file) x fewer f = f
fit_fewer P Q u t (work.Scan ask) x fewer (inl f) = inl (record {
  from = f.from;
  to = f.to;
  opens = f.opens;
  rows = f.rows;
  version = f.version;
  is = f.is;
  fits = record {
    known = f.fits.known;
    version_is = f.fits.version_is;
    plan = f.fits.plan;
    planned = f.fits.planned;
    opened = f.fits.opened;
    answer = λ past behind. f.fits.answer past (fewer past behind);
    loads = loads_fewer P Q u t ask.value _ fewer f.fits.loads;
  };
})
fit_fewer P Q u t (work.Scan ask) x fewer (inr f) = inr f
fit_fewer P Q u t (work.Explain ask) x fewer f = f
fit_fewer P Q u t work.Checkpoint x fewer f = f

-- and so is its item
pub item_fewer : (P Q : Whole → Type 0) (u t : View) (w : Work) (x : Item) → ((past : Whole) → Q past → P past) → IsItem P u t w x
    → IsItem Q u t w x
item_fewer P Q u t w x fewer h = record { gained = h.gained; fit = fit_fewer P Q u t w x fewer h.fit; shuts = h.shuts }

pub items_fewer : {E : Type 0} (P Q : Whole → Type 0) (u t : View) (w : Work) (r : Result Item E) → ((past : Whole) → Q past → P past)
    → IfOk r (IsItem P u t w) → IfOk r (IsItem Q u t w)
items_fewer P Q u t w (Ok x) fewer h = item_fewer P Q u t w x fewer h
items_fewer P Q u t w (Err e) fewer h = tt

-- so are those that are so whatever stood before the table
pub items_anywhere : {E : Type 0} (Q : Whole → Type 0) (u t : View) (w : Work) (r : Result Item E) → IfOk r (IsItem anywhere u t w)
    → IfOk r (IsItem Q u t w)
items_anywhere Q u t w r h = items_fewer anywhere Q u t w r (λ past behind. tt) h

-- and what the control pass did
pub controlled_fewer : (P Q : Whole → Type 0) (u : View) (r : Registrar) (t : View) (s : Registrar) (w : Work) (x : Item)
    → ((past : Whole) → Q past → P past) → IsControlled P u r t s w x → IsControlled Q u r t s w x
controlled_fewer P Q u r t s w x fewer h = record {
  rows = h.rows;
  gains = h.gains;
  first = h.first;
  fit = fit_fewer P Q u t w x fewer h.fit;
  shuts = h.shuts;
  tells = h.tells;
}

-- ---- steps

-- what any lane may do changes no definition
pub shared_free : (w : Work) → IsShared w → IsFree w
shared_free (work.Register name def) h = elim h [ ]
shared_free (work.Deregister name) h = elim h [ ]
shared_free (work.Ingest form begin name file) h = tt
shared_free (work.Scan ask) h = tt
shared_free (work.Explain ask) h = tt
shared_free work.Checkpoint h = elim h [ ]

-- any lane may do what is neither on definitions nor a checkpoint
pub shared_of : (w : Work) → ((name : List ℕ) (def : Def) → w ≡ work.Register name def → ⊥)
    → ((name : List ℕ) → w ≡ work.Deregister name → ⊥) → (w ≡ work.Checkpoint → ⊥) → IsShared w
shared_of (work.Register name def) no_register no_end no_commit = absurd (no_register name def refl)
shared_of (work.Deregister name) no_register no_end no_commit = absurd (no_end name refl)
shared_of (work.Ingest form begin name file) no_register no_end no_commit = tt
shared_of (work.Scan ask) no_register no_end no_commit = tt
shared_of (work.Explain ask) no_register no_end no_commit = tt
shared_of work.Checkpoint no_register no_end no_commit = absurd (no_commit refl)

-- none is done
pub far_self : (Past : Whole → Type 0) (v : View) (works : List Work) → v.epoch ≡ Out → v.flight ≡ None → Learns v v
    → IsWorkSoFar Past v v works []
far_self Past v works outside idle learns =
    record { told = told_self Past v outside idle; said = said_self v learns; few = omega arith }

module _ {Past : Whole → Type 0} (v u t : View) (works : List Work) (items : List Item) (h : IsWorkSoFar Past v u works items) where
  -- a step that gains nothing and answers nothing
  pub far_on : Gains u t [] → t.shut ≡ u.shut → IsWorkSoFar Past v t works items
  far_on g same = record {
    told = told_on v u t (take (length items) works) (answers items) h.told g same;
    said = record {
      size = h.said.size;
      same = h.said.same;
      learns = (told_on v u t (take (length items) works) (answers items) h.told g same).gains.on.learns;
      plans = λ r read registry. plans_on v u t r (take (length items) works) items g.on.learns (h.said.plans r read registry);
    };
    few = h.few;
  }

  module _ (w : Work) (less : length items < length works) (is : w ≡ get_or works (length items) w) where
    -- one statement more
    pub far_next : (x : Item) → IsShared w → IsOfMoment t → IsItem Past u t w x → IsWorkSoFar Past v t works (items ++ x ∷ [])
    far_next x shared stands item =
        let free = shared_free w shared in
        let g = item.gained in
        let none = free_made Past u t w x free item.fit in
        let learns = g.gains.on.learns in
        let version = learns.version in
        let answered = fit_answer Past u t w x item.fit in
        let more = length-append items (x ∷ []) in
        let next : take (length (items ++ x ∷ [])) works ≡ take (length items) works ++ w ∷ [] =
        ap (λ (n : ℕ). take n works) more ∙ take_more works (length items) w less
        ∙ ap (λ (z : Work). take (length items) works ++ z ∷ []) (sym is) in
        let told : HasAnswered Past v t (take (length items) works ++ w ∷ []) (answers items ++ x ∷ []) =
        told_more v u t (take (length items) works) (answers items) w x g.rows h.told g.gains g.first item.fit (inl shared) item.shuts
        (omega arith) in
        record {
          told = subst (λ (z : List Work × List Item). HasAnswered Past v t z.0 z.1)
              (λ j. (sym next j, sym (answers_more items x answered) j))
              told;
          said = subst (λ (z : List Work). HasSaid v t z (items ++ x ∷ [])) (sym next)
              (said_more Past v u t (take (length items) works) items w x stands h.said learns free item.fit told.gains.on.learns
              (ap (λ (z : List Item). length z) (answers_more items x answered) ∙ told.size));
          few = omega arith;
        }

    -- a part of one
    pub far_cut : (rows : List LaneRow) (count : ℕ) (why : LaneFault) → why ≢ fault.None → Gains u t rows
        → contents_of_rows rows ≡ take count (content_of w) → HasRun Past v t works items why × SayPlans v t works items
    far_cut rows count why named g first =
        let split = around works (length items) w less is in (
          subst (λ (z : List Work). HasRun Past v t z items why) split
              (run_cut v u t (take (length items) works) items w (drop (length items + 1) works) rows count why named h.told g first),
          subst (λ (z : List Work). SayPlans v t z items) split
              (said_cut v u t (take (length items) works) items (w ∷ drop (length items + 1) works) h.said g.on.learns),
        )

-- what a statement without an item leaves, where it was stopped since memory ran out
pub far_part : {Past : Whole → Type 0} (v u t : View) (works : List Work) (items : List Item) (w : Work) (why : LaneFault)
    → IsWorkSoFar Past v u works items → length items < length works → w ≡ get_or works (length items) w → why ≢ fault.None
    → IsPart u t w → HasRun Past v t works items why × SayPlans v t works items
far_part v u t works items w why h less is named part =
    far_cut v u t works items h w less is part.1.rows part.0 why named part.1.gains part.1.first

-- ---- the next statement

module _ {Past : Whole → Type 0} (v u t : View) (works : List Work) (old new : List Item) (w : Work) (h : IsWorkSoFar Past v u works old)
    (less : length old < length works) (is : w ≡ get_or works (length old) w) where
  -- it has its item
  pub next_done : (done : Unit {0}) → IsShared w → IsOfMoment t → HasNextItem u t w old new (Ok done) → IsWorkSoFar Past v t works new
  next_done done shared stands n = subst (IsWorkSoFar Past v t works) (sym n.1)
      (far_next v u t works old h w less is n.0 shared stands (item_fewer anywhere Past u t w n.0 (λ past behind. tt) n.2))

  -- it has none: memory ran out, or it is a scan of older records, and the lane is as far as it was
  pub next_stopped : (why : Stop) → u.epoch ≡ Out → u.flight ≡ None → HasNextItem u t w old new (Err why)
      → IsOn Past v t works new (fault_of_stop why)
  next_stopped stop.Memory outside idle n = subst (λ (z : List Item). IsOn Past v t works z fault.Memory) (sym n.0)
      (far_part v u t works old w fault.Memory h less is (λ e. absurd cc) n.1)
  next_stopped stop.Older outside idle n = subst (IsWorkSoFar Past v t works) (sym n.0)
      (far_on v u t works old h (gains_scans u t outside idle n.1.2) (ap (λ (z : View). z.shut) n.1.2.frame))

-- its item is an answer
pub next_answers : (u t : View) (w : Work) (old new : List Item) (r : Result (Unit {0}) Stop) → HasNextItem u t w old new r
    → AllOf IsAnswerItem old → AllOf IsAnswerItem new
next_answers u t w old new (Ok done) n h =
    subst (AllOf IsAnswerItem) (sym n.1) (all_more IsAnswerItem old n.0 h (fit_answer anywhere u t w n.0 n.2.fit))
next_answers u t w old new (Err stop.Memory) n h = subst (AllOf IsAnswerItem) (sym n.0) h
next_answers u t w old new (Err stop.Older) n h = subst (AllOf IsAnswerItem) (sym n.0) h

-- a lane stops so where memory runs out, and only then
pub stopped_short : (why : Stop) → IsShortFault (fault_of_stop why)
stopped_short stop.Memory = inr refl
stopped_short stop.Older = inl refl

-- no item is lost
pub next_more : (u t : View) (w : Work) (old new : List Item) (r : Result (Unit {0}) Stop) → HasNextItem u t w old new r
    → length old ≤ length new
next_more u t w old new (Ok done) n = (let e = ap (λ (z : List Item). length z) n.1 ∙ length-append old (n.0 ∷ []) in omega arith)
next_more u t w old new (Err stop.Memory) n = (let e = ap (λ (z : List Item). length z) n.0 in omega arith)
next_more u t w old new (Err stop.Older) n = (let e = ap (λ (z : List Item). length z) n.0 in omega arith)

-- the pass may go on
pub next_start : (u t : View) (w : Work) (old new : List Item) (r : Result (Unit {0}) Stop) → u.flight ≡ None → CanStart u
    → HasNextItem u t w old new r → CanStart t
next_start u t w old new (Ok done) idle can n = gains_start u t n.2.gained.rows can n.2.gained.gains
next_start u t w old new (Err stop.Memory) idle can n = gains_start u t n.1.1.rows can n.1.1.gains
next_start u t w old new (Err stop.Older) idle can n = gains_start u t [] can (gains_scans u t can.outside idle n.1.2)
