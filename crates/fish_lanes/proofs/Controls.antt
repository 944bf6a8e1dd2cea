-- The statements of the first lane so far, with the definitions that their items tell.
use Rattle.std.proofs.Common.{◌≡◌, ◌≢◌, ℕ, ◌+◌, ◌≤◌, List, [], ◌∷◌, ◌++◌, take, refl, sym, ap, ◌∙◌, subst, inl, inr, arith}
use Rattle.std.proofs.Common.{zero, suc, Some, None, Result, Ok, Err}
use Rattle.std.specs.Prelude.{IfErr, IfOk}
use Rattle.fish_lanes.proofs.Advancing.{answers_more, answers_same, run_cut, run_ended, told_fewer, told_more, told_on}
use Rattle.fish_lanes.proofs.Answered.{named_version}
use Rattle.fish_lanes.proofs.Fitting.{refused_version}
use Rattle.fish_lanes.proofs.Done.{HasAnswered, told_self}
use Rattle.fish_lanes.proofs.Covering.{bounds_before, bounds_in, bounds_read}
use Rattle.fish_lanes.proofs.Lists.{all_more}
use Rattle.fish_lanes.proofs.Pending.{found_on}
use Rattle.fish_lanes.proofs.Plans.{fit_so, plans_beside, plans_later, plans_longer, plans_more}
use Rattle.fish_lanes.proofs.Registrations.{after_more, registry_later}
use Rattle.fish_lanes.proofs.Showing.{fit_answer}
use Rattle.fish_lanes.proofs.Gaining.{alone_gains}
use Rattle.fish_lanes.proofs.Single.{fit_closed, fit_single, none_there, only_fewer, only_last, only_later, some_there}
use Rattle.fish_lanes.specs.within.Controlled.{HasControlled, IsControlled, IsPartControlled}
use Rattle.fish_lanes.specs.within.Controlling.{Does, HasPolled, RollsBy, SaysTail, TellsStep}
use Rattle.fish_lanes.specs.within.Doing.{GainsFirst, IsFit, IsItem, IsPart}
use Rattle.fish_lanes.specs.Ending.{EndsAlone}
use Rattle.fish_lanes.specs.within.Gains.{Gains}
use Rattle.fish_lanes.specs.Pending.{AreFound}
use Rattle.fish_lanes.specs.Plans.{KnowsListed, SaysPlans}
use Rattle.fish_lanes.specs.within.Plans.{AreBoundsIn, PlansHoldFor}
use Rattle.fish_lanes.specs.Records.{LaneRow, contents_of_rows}
use Rattle.fish_lanes.specs.Registering.{InEach, ItemFits, ItemsFit, KnowsEach, KnowsRegistry, Registry, after, after_all}
use Rattle.fish_lanes.specs.Registering.{registry_of, waiting_id}
use Rattle.fish_lanes.specs.within.Running.{IsFree}
use Rattle.fish_lanes.specs.Single.{NamesNone, SaysOnly, SaysSingle}
use Rattle.fish_lanes.specs.Spans.{answers, made_by}
use Rattle.fish_lanes.specs.Telling.{content_of, count_of}
use Rattle.fish_lanes.specs.declared.work.LaneFault.{LaneFault}
use Rattle.fish_lanes.specs.declared.work.LaneFault.TheVariants as fault
use Rattle.fish_lanes.specs.declared.work.Work.{Work}
use Rattle.fish_lanes.specs.declared.work.Work.TheVariants as work
use Rattle.fish_registry.specs.Knowing.{Knows}
use Rattle.fish_registry.specs.declared.registrar.Registrar.{Registrar}
use Rattle.fish_report.specs.declared.item.Item.{Item}
use Rattle.fish_report.specs.declared.item.Item.TheVariants as item
use Rattle.fish_rule.proofs.laws.Learning.{learns_both}
use Rattle.fish_rule.specs.Logs.{Learns}
use Rattle.fish_rule.specs.LoadSteps.{IsAlone}
use Rattle.fish_rule.specs.Table.{IsOfMoment}
use Rattle.fish_rule.specs.Views.{AllOf}
use Rattle.fish_rule.specs.declared.view.Epoch.TheVariants.{Out}
use Rattle.fish_rule.specs.declared.view.View.{View}
use Rattle.fish_whole.specs.Whole.{Whole}

-- ---- items that are so

pub so_wide : (low high low' high' : ℕ) (r : Registry) (x : Item) → low' ≤ low → high ≤ high' → ItemFits low high r x
    → ItemFits low' high' r x
so_wide low high low' high' r (item.Registered name id from def) a b h =
    (let l = h.2.0 in let u = h.2.1 in (h.0, h.1, (omega arith, omega arith)))
so_wide low high low' high' r (item.Rolling name id def seat version) a b h = h
so_wide low high low' high' r (item.Bound id from) a b h = (let l = h.1.0 in let u = h.1.1 in (h.0, (omega arith, omega arith)))
so_wide low high low' high' r (item.Deregistered name id to) a b h =
    (let l = h.2.0 in let u = h.2.1 in (h.0, h.1, (omega arith, omega arith)))
so_wide low high low' high' r x a b h = h

-- so they are between numbers that lie further apart
pub are_so_wide : (low high low' high' : ℕ) (r : Registry) (items : List Item) → low' ≤ low → high ≤ high'
    → ItemsFit low high r items → ItemsFit low' high' r items
are_so_wide low high low' high' r [] a b h = tt
are_so_wide low high low' high' r (x ∷ items) a b h =
    (so_wide low high low' high' r x a b h.0, are_so_wide low high low' high' (after r x) items a b h.1)

pub so_more : (low high : ℕ) (r : Registry) (items : List Item) (x : Item) → ItemsFit low high r items
    → ItemFits low high (after_all r items) x → ItemsFit low high r (items ++ x ∷ [])
so_more low high r [] x h one = (one, tt)
so_more low high r (y ∷ items) x h one = (h.0, so_more low high (after r y) items x h.1 one)

-- each item counts the version that it made
after_load_version : (r : Registry) (x : Item) → (after r x).version ≡ r.version + made_by x
after_load_version r (item.Registered name id from def) = omega arith
after_load_version r (item.Rolling name id def seat version) = omega arith
after_load_version r (item.Deregistered name id to) = omega arith
after_load_version r x = omega arith

-- ---- definitions that are known

-- what holds of each registry before items does so if another thing does
pub each_so : (P Q : Registry → Type 0) → ((r : Registry) → P r → Q r) → (r : Registry) (items : List Item) → InEach P r items
    → InEach Q r items
each_so P Q so r [] h = so r h
each_so P Q so r (x ∷ items) h = (so r h.0, each_so P Q so (after r x) items h.1)

pub each_later : (u t : View) (r : Registry) (items : List Item) → Learns u t → KnowsEach u r items → KnowsEach t r items
each_later u t r items learns = each_so (KnowsRegistry u) (KnowsRegistry t) (λ q. registry_later u t q learns) r items

pub each_last : (P : Registry → Type 0) (r : Registry) (items : List Item) → InEach P r items → P (after_all r items)
each_last P r [] h = h
each_last P r (x ∷ items) h = each_last P (after r x) items h.1

pub each_more : (P : Registry → Type 0) (r : Registry) (items : List Item) (x : Item) → InEach P r items
    → P (after (after_all r items) x) → InEach P r (items ++ x ∷ [])
each_more P r [] x h one = (h, one)
each_more P r (y ∷ items) x h one = (h.0, each_more P (after r y) items x h.1 one)

-- ---- statements that change no definition

-- their items change none
pub free_after : (Past : Whole → Type 0) (u t : View) (w : Work) (x : Item) (r : Registry) → IsFree w → IsFit Past u t w x → after r x ≡ r
free_after Past u t (work.Register name def) x r free f = elim free [ ]
free_after Past u t (work.Deregister name) x r free f = elim free [ ]
free_after Past u t (work.Ingest form begin name file) x r free (inl f) = ap (after r) f.is
free_after Past u t (work.Ingest form begin name file) x r free (inr (inl f)) = ap (after r) f.is
free_after Past u t (work.Ingest form begin name file) x r free (inr (inr f)) = ap (after r) f.is
free_after Past u t (work.Scan ask) x r free (inl f) = ap (after r) f.is
free_after Past u t (work.Scan ask) x r free (inr f) = ap (after r) f.is
free_after Past u t (work.Explain ask) x r free (inl f) = ap (after r) f.is
free_after Past u t (work.Explain ask) x r free (inr f) = ap (after r) f.is
free_after Past u t work.Checkpoint x r free f = ap (after r) f.is

-- ---- plans

-- what was said of plans stays so
pub plans_on : (v u t : View) (r : Registry) (works : List Work) (items : List Item) → Learns u t → PlansHoldFor v u r works items
    → PlansHoldFor v t r works items
plans_on v u t r works items learns h rows from bounds low =
    plans_later u t r rows from works items learns (h rows from (bounds_before u t rows learns bounds) low)

-- ---- statements so far

-- their items answer them, and tell of the definitions that the registrar keeps; while there is none, nothing has changed unless a
-- boundary was waited for
pub record Held (Past : Whole → Type 0) (v : View) (r : Registrar) (u : View) (s : Registrar) (works : List Work) (items : List Item)
    : Type 0 where
  pub told : HasAnswered Past v u works (answers items)
  pub so : ItemsFit v.learned.count u.learned.count (registry_of v r) items
  pub is : registry_of u s ≡ after_all (registry_of v r) items
  pub each : KnowsEach u (registry_of v r) items
  pub closed : IsAlone v → AllOf NamesNone items
  pub still : works ≡ [] → r.waiting ≡ None → (u ≡ v) × (s.waiting ≡ None) × (items ≡ [])
  pub only : (end : ℕ) → EndsAlone v end → r.waiting ≡ None → SaysOnly Past v u r.catalog end works items
  pub plans : PlansHoldFor v u (registry_of v r) works items

-- none yet
pub held_self : {Past : Whole → Type 0} (v : View) (r : Registrar) → v.epoch ≡ Out → v.flight ≡ None → KnowsRegistry v (registry_of v r)
    → Held Past v r v r [] []
held_self {Past} v r outside idle known = record {
  told = told_self Past v outside idle;
  so = tt;
  is = refl;
  each = known;
  closed = λ alone. tt;
  still = λ none wait. (refl, wait, refl);
  only = λ end e wait w one. absurd cc;
  plans = λ rows from bounds low. tt;
}

-- an item more that is so
held_item : {Past : Whole → Type 0} (v : View) (r : Registrar) (u : View) (s : Registrar) (t : View) (q : Registrar)
    (works works' : List Work)
    (items : List Item) (x : Item) → Held Past v r u s works items → Learns v u → Learns u t → Does u s t q x
    → HasAnswered Past v t works' (answers (items ++ x ∷ [])) → (IsAlone v → NamesNone x)
    → (works' ≡ [] → r.waiting ≡ None → (t ≡ v) × (q.waiting ≡ None) × (items ++ x ∷ [] ≡ []))
    → ((end : ℕ) → EndsAlone v end → r.waiting ≡ None → SaysOnly Past v t r.catalog end works' (items ++ x ∷ []))
    → PlansHoldFor v t (registry_of v r) works' (items ++ x ∷ []) → Held Past v r t q works' (items ++ x ∷ [])
held_item v r u s t q works works' items x h before learns does told none still only plans =
    let start = registry_of v r in
    let more = before.count in
    let then = learns.count in
    record {
      told = told;
      so = so_more v.learned.count t.learned.count start items x
          (are_so_wide v.learned.count u.learned.count v.learned.count t.learned.count start items (omega arith) (omega arith) h.so)
          (so_wide u.learned.count t.learned.count v.learned.count t.learned.count (after_all start items) x (omega arith)
          (omega arith) (subst (λ (z : Registry). ItemFits u.learned.count t.learned.count z x) h.is does.so));
      is = does.is ∙ ap (λ (z : Registry). after z x) h.is ∙ sym (after_more start items x);
      each = each_more (KnowsRegistry t) start items x (each_later u t start items learns h.each)
          (subst (λ (z : Registry). KnowsRegistry t (after z x)) h.is
          (does.knows (subst (KnowsRegistry u) (sym h.is) (each_last (KnowsRegistry u) start items h.each))));
      closed = λ alone. all_more NamesNone items x (h.closed alone) (none alone);
      still = still;
      only = only;
      plans = plans;
    }

-- what isn't there doesn't wait
none_waiting : (s : Registrar) (id : ℕ) → s.waiting ≡ None → ¬ (waiting_id s.waiting ≡ Some id)
none_waiting s id none is = (let bad : waiting_id None ≡ Some id = ap waiting_id (sym none) ∙ is in cc)

-- a look for a boundary
pub held_polled : {Past : Whole → Type 0} (v : View) (r : Registrar) (u : View) (s : Registrar) (t : View) (q : Registrar)
    (works : List Work)
    (items items' : List Item) → Held Past v r u s works items → Gains u t [] → t.clock.loads ≡ u.clock.loads → t.shut ≡ u.shut
    → (s.waiting ≡ None → (t ≡ u) × (q.waiting ≡ None)) → HasPolled u s t q items items' → Held Past v r t q works items'
held_polled {Past} v r u s t q works items items' h g same shut idle (inl p) =
    let learns = g.on.learns in
    let more = learns.count in
    let start = registry_of v r in
    subst (Held Past v r t q works) (sym p.0) (record {
      told = told_on v u t works (answers items) h.told g shut;
      so = are_so_wide v.learned.count u.learned.count v.learned.count t.learned.count start items (omega arith) (omega arith) h.so;
      is = p.1 ∙ h.is;
      each = each_later u t start items learns h.each;
      closed = h.closed;
      still = λ none wait. let b = h.still none wait in let i = idle b.1 in (i.0 ∙ b.0, i.1, b.2);
      only = λ end e wait. only_later v u t r.catalog end learns same Past works items (h.only end e wait);
      plans = plans_on v u t start works items learns h.plans;
    })
held_polled {Past} v r u s t q works items items' h g same shut idle (inr p) =
    let x = item.Bound p.0 p.1 in
    subst (Held Past v r t q works) (sym p.2)
    (held_item v r u s t q works works items x h h.told.gains.on.learns g.on.learns p.3
    (subst (HasAnswered Past v t works) (sym (answers_same items x refl)) (told_on v u t works (answers items) h.told g shut))
    (λ alone. tt) (λ none wait. absurd (none_waiting s p.0 (h.still none wait).1 p.3.so.0))
    (λ end e wait w one. subst (AllOf (SaysSingle Past v t r.catalog end w)) (sym (answers_same items x refl))
    (only_later v u t r.catalog end g.on.learns same Past works items (h.only end e wait) w one))
    (λ rows from bounds low. plans_beside (KnowsListed t) (registry_of v r) rows from works items x h.told.size
    (plans_on v u t (registry_of v r) works items g.on.learns h.plans rows from bounds low)))

-- a statement
pub held_done : {Past : Whole → Type 0} (v : View) (r : Registrar) (u : View) (s : Registrar) (t : View) (q : Registrar) (works : List Work)
    (items : List Item) (w : Work) (x : Item) → IsOfMoment v → IsOfMoment t → Knows v r
    → KnowsRegistry v (registry_of v r) → Knows u s → Knows t q → Held Past v r u s works items
    → IsControlled Past u s t q w x → Held Past v r t q (works ++ w ∷ []) (items ++ x ∷ [])
held_done {Past} v r u s t q works items w x stood stands began known knows now h c =
    let made : t.learned.version ≡ u.learned.version + made_by x =
    ap (λ (z : Registry). z.version) c.tells.does.is ∙ after_load_version (registry_of u s) x in
    held_item v r u s t q works (works ++ w ∷ []) items x h h.told.gains.on.learns c.gains.on.learns c.tells.does
    (subst (HasAnswered Past v t (works ++ w ∷ [])) (sym (answers_more items x (fit_answer Past u t w x c.fit)))
    (told_more v u t works (answers items) w x c.rows h.told c.gains c.first c.fit (inr (registry_of u s, c.tells.does.so)) c.shuts
    (omega arith)))
    (λ alone. c.tells.closed (alone_gains v u h.told.rows h.told.gains alone))
    (λ none wait. absurd (some_there works w [] none))
    (λ end e wait one is.
    let first = only_last works w [] one is in
    let same = (h.still first.0 wait).0 in
    let start = registry_of v r in
    let told = fit_single v t end e (learns_both v u t h.told.gains.on.learns c.gains.on.learns) stands Past one x start stood
    (bounds_read v r began) known
    (λ free.
    let registry : registry_of t q ≡ start =
    c.tells.does.is ∙ free_after Past u t w x (registry_of u s) (subst IsFree (sym first.1) free) c.fit ∙ h.is
    ∙ ap (after_all start) (h.still first.0 wait).2 in (
      subst (λ (z : Registry). AreBoundsIn t z.rows) registry (bounds_in t q stands now),
      ap (λ (z : Registry). z.version) registry,
    ))
    (subst (λ (z : View). SaysTail z x) same (c.tells.tail (subst IsAlone (sym same) e.alone)))
    (subst (λ (z : View × Work). IsFit Past z.0 t z.1 x) (λ i. (same i, first.1 i)) c.fit) in
    subst (AllOf (SaysSingle Past v t r.catalog end one)) (sym (answers_more items x (fit_answer Past u t w x c.fit)
    ∙ ap (λ (z : List Item). z ++ x ∷ []) (none_there (answers items) works h.told.size first.0))) (told, tt))
    (λ rows from bounds low.
    let start = registry_of v r in
    let learns = c.gains.on.learns in
    let settled = h.told.gains.on.learns.settled in
    let known = subst (KnowsRegistry u) (sym h.is) (each_last (KnowsRegistry u) start items h.each) in
    plans_more (KnowsListed t) start rows from works (w ∷ []) items x h.told.size
    (plans_on v u t start works items learns h.plans rows from bounds low)
    (subst (λ (z : Registry). SaysPlans (KnowsListed t) z.rows rows from w x) h.is
    (fit_so u t (registry_of u s) rows from stands learns (bounds_read u s knows) known bounds (omega arith) Past w x c.fit)))

-- ---- the end

-- all are done
pub held_ended : {Past : Whole → Type 0} (v : View) (r : Registrar) (u : View) (s : Registrar) (works : List Work) (items : List Item)
    → Held Past v r u s works items → AreFound v.clock u.clock (registry_of v r) items → HasControlled Past v u r s works items fault.None
held_ended v r u s works items h found = record {
  run = run_ended v u works items h.told;
  so = h.so;
  closed = h.closed;
  only = h.only;
  plans = h.plans;
  is = λ e. h.is;
  each = h.each;
  found = found;
}

-- or those up to one of which a part was done
pub held_cut : {Past : Whole → Type 0} (v : View) (r : Registrar) (u : View) (s : Registrar) (t : View) (q : Registrar) (works : List Work)
    (items : List Item) (w : Work) (later : List Work) (rows : List LaneRow) (count : ℕ) (why : LaneFault) → why ≢ fault.None
    → Held Past v r u s works items → AreFound v.clock u.clock (registry_of v r) items → Gains u t rows
    → contents_of_rows rows ≡ take count (content_of w)
    → HasControlled Past v t r q (works ++ w ∷ later) items why
held_cut {Past} v r u s t q works items w later rows count why named h found g first =
    let more = g.on.learns.count in
    record {
      run = run_cut v u t works items w later rows count why named h.told g first;
      so = are_so_wide v.learned.count u.learned.count v.learned.count t.learned.count (registry_of v r) items (omega arith)
          (omega arith) h.so;
      closed = h.closed;
      only = λ end e wait one is. subst (AllOf (SaysSingle Past v t r.catalog end one))
          (sym (none_there (answers items) works h.told.size (only_last works w later one is).0)) tt;
      plans = λ rows from bounds low. plans_longer (KnowsListed t) (registry_of v r) rows from works (w ∷ later) items h.told.size
          (plans_on v u t (registry_of v r) works items g.on.learns h.plans rows from bounds low);
      is = λ e. absurd (named e);
      each = each_later u t (registry_of v r) items g.on.learns h.each;
      found = found_on v.clock u.clock t.clock (registry_of v r) items found g.on.clock;
    }

-- ---- what such statements leave

-- what was gained of them
pub gained_any : (Past : Whole → Type 0) {E : Type 0} (v t : View) (w : Work) (r : Result Item E) → IfOk r (IsItem Past v t w)
    → IfErr r (λ _. IsPart v t w)
    → (count : ℕ) × GainsFirst v t (content_of w) count
gained_any Past v t w (Ok x) ok err = (count_of x, ok.gained)
gained_any Past v t w (Err e) ok err = err

-- what they answer is answered at the version of the definitions, which the call hasn't changed
only_version : (u t : View) (r : Registry) (version : ℕ) → r.version ≡ u.learned.version → t.learned.version ≡ u.learned.version
    → (u.learned.version ≤ version) × (version ≤ t.learned.version) → version ≡ r.version
only_version u t r version is same known = (let least = known.0 in let most = known.1 in omega arith)

free_so : (Past : Whole → Type 0) (u t : View) (w : Work) (x : Item) (low high : ℕ) (r : Registry) → r.version ≡ u.learned.version
    → t.learned.version ≡ u.learned.version → IsFree w → IsFit Past u t w x → ItemFits low high r x
free_so Past u t (work.Register name def) x low high r is same free f = elim free [ ]
free_so Past u t (work.Deregister name) x low high r is same free f = elim free [ ]
free_so Past u t (work.Ingest form begin name file) x low high r is same free (inl f) = subst (ItemFits low high r) (sym f.is) tt
free_so Past u t (work.Ingest form begin name file) x low high r is same free (inr (inl f)) = subst (ItemFits low high r) (sym f.is) tt
free_so Past u t (work.Ingest form begin name file) x low high r is same free (inr (inr f)) = subst (ItemFits low high r) (sym f.is) tt
free_so Past u t (work.Scan ask) x low high r is same free (inl f) =
    let e = f.fits.planned in
    subst (ItemFits low high r) (sym f.is) (only_version u t r f.version is same
    (named_version u t f.fits.known ask f.version e.position f.fits.version_is e.asked.named))
free_so Past u t (work.Scan ask) x low high r is same free (inr f) = subst (ItemFits low high r) (sym f.is)
    (only_version u t r f.version is same (refused_version u t ask f.version f.why f.fits))
free_so Past u t (work.Explain ask) x low high r is same free (inl f) =
    let e = f.fits.explained.planned in
    subst (ItemFits low high r) (sym f.is) (only_version u t r f.version is same
    (named_version u t f.fits.known ask f.version e.position f.fits.version_is e.asked.named))
free_so Past u t (work.Explain ask) x low high r is same free (inr f) = subst (ItemFits low high r) (sym f.is)
    (only_version u t r f.version is same (refused_version u t ask f.version f.why f.fits))
free_so Past u t work.Checkpoint x low high r is same free f = subst (ItemFits low high r) (sym f.is) tt

-- and none of them tells of a registration that waits
free_rolls : (Past : Whole → Type 0) (u t : View) (w : Work) (x : Item) → IsFree w → IsFit Past u t w x → RollsBy u t x
free_rolls Past u t (work.Register name def) x free f = elim free [ ]
free_rolls Past u t (work.Deregister name) x free f = elim free [ ]
free_rolls Past u t (work.Ingest form begin name file) x free (inl f) = subst (RollsBy u t) (sym f.is) tt
free_rolls Past u t (work.Ingest form begin name file) x free (inr (inl f)) = subst (RollsBy u t) (sym f.is) tt
free_rolls Past u t (work.Ingest form begin name file) x free (inr (inr f)) = subst (RollsBy u t) (sym f.is) tt
free_rolls Past u t (work.Scan ask) x free (inl f) = subst (RollsBy u t) (sym f.is) tt
free_rolls Past u t (work.Scan ask) x free (inr f) = subst (RollsBy u t) (sym f.is) tt
free_rolls Past u t (work.Explain ask) x free (inl f) = subst (RollsBy u t) (sym f.is) tt
free_rolls Past u t (work.Explain ask) x free (inr f) = subst (RollsBy u t) (sym f.is) tt
free_rolls Past u t work.Checkpoint x free f = subst (RollsBy u t) (sym f.is) tt

free_tail : (Past : Whole → Type 0) (u t : View) (w : Work) (x : Item) → IsFree w → IsFit Past u t w x → SaysTail u x
free_tail Past u t (work.Register name def) x free f = elim free [ ]
free_tail Past u t (work.Deregister name) x free f = elim free [ ]
free_tail Past u t (work.Ingest form begin name file) x free (inl f) = subst (SaysTail u) (sym f.is) tt
free_tail Past u t (work.Ingest form begin name file) x free (inr (inl f)) = subst (SaysTail u) (sym f.is) tt
free_tail Past u t (work.Ingest form begin name file) x free (inr (inr f)) = subst (SaysTail u) (sym f.is) tt
free_tail Past u t (work.Scan ask) x free (inl f) = subst (SaysTail u) (sym f.is) tt
free_tail Past u t (work.Scan ask) x free (inr f) = subst (SaysTail u) (sym f.is) tt
free_tail Past u t (work.Explain ask) x free (inl f) = subst (SaysTail u) (sym f.is) tt
free_tail Past u t (work.Explain ask) x free (inr f) = subst (SaysTail u) (sym f.is) tt
free_tail Past u t work.Checkpoint x free f = subst (SaysTail u) (sym f.is) tt

-- so their items do nothing
pub free_does : (Past : Whole → Type 0) (u t : View) (r : Registrar) (w : Work) (x : Item) → IsFree w → IsFit Past u t w x → Learns u t
    → registry_of t r ≡ registry_of u r → Does u r t r x
free_does Past u t r w x free f learns same =
    let after_is = free_after Past u t w x (registry_of u r) free f in
    record {
      so = free_so Past u t w x u.learned.count t.learned.count (registry_of u r) refl (ap (λ (z : Registry). z.version) same) free f;
      is = same ∙ sym after_is;
      knows = λ h. subst (KnowsRegistry t) (sym after_is) (registry_later u t (registry_of u r) learns h);
    }

-- nothing is the first of nothing
pub take_nothing : (count : ℕ) (w : Work) → content_of w ≡ [] → contents_of_rows [] ≡ take count (content_of w)
take_nothing count w none = by count ∙ ap (take count) (sym none)
  where
    by : (n : ℕ) → contents_of_rows [] ≡ take n []
    by zero = refl
    by (suc n) = refl

-- so is it of a statement of which nothing was done
pub take_nothing_first : (w : Work) → contents_of_rows [] ≡ take 0 (content_of w)
take_nothing_first w = refl

-- ---- one statement of the first lane

-- one on definitions
pub control_done : (Past : Whole → Type 0) {E : Type 0} (v : View) (s : Registrar) (t : View) (q : Registrar) (w : Work) (r : Result Item E)
    → content_of w ≡ [] → Gains v t [] → t.shut ≡ v.shut → IfOk r (TellsStep v s t q) → IfOk r (IsFit Past v t w)
    → IfOk r (IsControlled Past v s t q w)
control_done Past v s t q w (Ok x) none g same tells fit = record {
  rows = [];
  gains = g;
  first = take_nothing (count_of x) w none;
  fit = fit;
  shuts = λ c e. inl (sym same ∙ e);
  tells = tells;
}
control_done Past v s t q w (Err e) none g same tells fit = tt

pub control_part : {E : Type 0} (v t : View) (w : Work) (r : Result Item E) → content_of w ≡ [] → Gains v t []
    → IfErr r (λ _. IsPartControlled v t w)
control_part v t w (Ok x) none g = tt
control_part v t w (Err e) none g = record { rows = []; count = 0; gains = g; first = take_nothing 0 w none }

-- or any other one
pub free_done : (Past : Whole → Type 0) {E : Type 0} (v : View) (s : Registrar) (t : View) (w : Work) (r : Result Item E) → IsFree w
    → Learns v t
    → registry_of t s ≡ registry_of v s → IfOk r (IsItem Past v t w) → IfOk r (IsControlled Past v s t s w)
free_done Past v s t w (Ok x) free learns same item = record {
  rows = item.gained.rows;
  gains = item.gained.gains;
  first = item.gained.first;
  fit = item.fit;
  shuts = item.shuts;
  tells = record {
    closed = λ alone. fit_closed Past v t w x free alone item.fit;
    tail = λ alone. free_tail Past v t w x free item.fit;
    rolls = free_rolls Past v t w x free item.fit;
    does = free_does Past v t s w x free item.fit learns same;
  };
}
free_done Past v s t w (Err e) free learns same item = tt

pub free_part : {E : Type 0} (v t : View) (w : Work) (r : Result Item E) → IfErr r (λ _. IsPart v t w)
    → IfErr r (λ _. IsPartControlled v t w)
free_part v t w (Ok x) part = tt
free_part v t w (Err e) part =
    record { rows = part.1.rows; count = part.0; gains = part.1.gains; first = part.1.first }

-- what is held after some pasts is held after each of these
pub held_fewer : (P Q : Whole → Type 0) (v : View) (r : Registrar) (u : View) (s : Registrar) (works : List Work) (items : List Item)
    → ((past : Whole) → Q past → P past) → Held P v r u s works items → Held Q v r u s works items
held_fewer P Q v r u s works items fewer h = record {
  told = told_fewer P Q v u works (answers items) fewer h.told;
  so = h.so;
  is = h.is;
  each = h.each;
  closed = h.closed;
  still = h.still;
  only = λ end e wait. only_fewer P Q v u r.catalog end fewer works items (h.only end e wait);
  plans = h.plans;
}
