-- What a lane keeps and hands back, and what its items tell of the statements that it keeps.
use Rattle.std.proofs.Common.{◌≡◌, ◌≢◌, ◌∙◌, ◌<◌, ◌≤◌, ◌++◌, ℕ, zero, suc, List, [], ◌∷◌, None, length, take, refl, sym, ap}
use Rattle.std.proofs.Common.{inl, inr, ◌⊎◌, ⊎_elim, subst, arith, append-nil, length-append}
use Rattle.std.proofs.Math.Decide.{dec_lt}
use Rattle.std.proofs.lemmas.List.{drop_all, length-take-le, take-append-drop}
use Rattle.fish_lanes.proofs.Advancing.{run_ended}
use Rattle.fish_lanes.proofs.Full.{not_both}
use Rattle.fish_lanes.proofs.Lists.{filter_first}
use Rattle.fish_lanes.proofs.Plans.{plans_longer}
use Rattle.fish_lanes.proofs.Saying.{said_cut}
use Rattle.fish_lanes.proofs.Single.{none_there, only_last}
use Rattle.fish_lanes.specs.within.Advancing.{IsOn, IsWorkSoFar}
use Rattle.fish_lanes.specs.Causes.{HasFaultCause, IsUndamaged}
use Rattle.fish_lanes.specs.within.Controlled.{HasControlled}
use Rattle.fish_lanes.specs.within.Full.{IsHandedBack, StopsFull, SaysLast, done_of}
use Rattle.fish_lanes.specs.Gains.{WasShut}
use Rattle.fish_lanes.specs.Plans.{KnowsListed}
use Rattle.fish_lanes.specs.Records.{LaneRow, contents_of_rows}
use Rattle.fish_lanes.specs.Registering.{registry_of}
use Rattle.fish_lanes.specs.within.Running.{HasRun, SayPlans}
use Rattle.fish_lanes.specs.Seen.{Shown, shown_by}
use Rattle.fish_lanes.specs.Single.{SaysSingle}
use Rattle.fish_lanes.specs.Spans.{IsAnswerItem, Span, answers, span_after, is_answer}
use Rattle.fish_lanes.specs.Telling.{SaysItems}
use Rattle.fish_lanes.specs.declared.lane.Lane.{Lane}
use Rattle.fish_lanes.specs.declared.work.LaneFault.{LaneFault}
use Rattle.fish_lanes.specs.declared.work.LaneFault.TheVariants as fault
use Rattle.fish_lanes.specs.declared.work.Work.{Work}
use Rattle.fish_registry.specs.declared.registrar.Registrar.{Registrar}
use Rattle.fish_report.specs.declared.item.Item.{Item}
use Rattle.fish_rule.proofs.laws.Learning.{learns_self}
use Rattle.fish_rule.specs.Views.{AllOf}
use Rattle.fish_rule.specs.declared.view.View.{View}
use Rattle.fish_whole.specs.Whole.{Whole}

-- ---- lists

-- at a fault all statements count as done
pub done_fault : (why : LaneFault) (many : ℕ) (works : List Work) → why ≢ fault.None → done_of why many works ≡ works
done_fault fault.None many works named = absurd (named refl)
done_fault fault.Memory many works named = refl
done_fault fault.Disk many works named = refl
done_fault (fault.Damaged n) many works named = refl

-- without one the first so many
pub done_none : (why : LaneFault) (many : ℕ) (works : List Work) → why ≡ fault.None → done_of why many works ≡ take many works
done_none why many works none = ap (λ (z : LaneFault). done_of z many works) none

-- the first so many are as many as they are
pub take_size : (works : List Work) (i n : ℕ) → n ≡ length (take i works) → take n works ≡ take i works
take_size works i n size = ap (λ (z : ℕ). take z works) size ∙ by works i
  where
    by : (works : List Work) (i : ℕ) → take (length (take i works)) works ≡ take i works
    by works zero = refl
    by [] (suc i) = refl
    by (w ∷ works) (suc i) = ap (λ (z : List Work). w ∷ z) (by works i)

-- after the first so many stands another
rest_there : (works : List Work) (n : ℕ) → n < length works → (w : Work) × (later : List Work) × (works ≡ take n works ++ w ∷ later)
rest_there [] n less = absurd (omega arith)
rest_there (w ∷ works) zero less = (w, works, refl)
rest_there (w ∷ works) (suc n) less =
    let rest = rest_there works n (omega arith) in
    (rest.0, rest.1, ap (λ (z : List Work). w ∷ z) rest.2)

-- ---- fewer items than statements

-- where all items tell of the first statements, they tell of these and of more, of which nothing was done
says_short : (z : Whole) (s : Span) (before : List LaneRow) (shown : List Shown) (rows : List LaneRow) (works : List Work)
    (items : List Item) (w : Work) (later : List Work) → length items ≡ length works → SaysItems z s before shown rows works items
    → SaysItems z s before shown rows (works ++ w ∷ later) items
says_short z s before shown rows [] [] w later size none = (0, ap contents_of_rows none)
says_short z s before shown rows [] (x ∷ items) w later size h = elim h [ ]
says_short z s before shown rows (y ∷ works) [] w later size h = absurd (omega arith)
says_short z s before shown rows (y ∷ works) (x ∷ items) w later size (mine, rest, parts, mine_is, here, after, there) = (
  mine,
  rest,
  parts,
  mine_is,
  here,
  after,
  says_short z (span_after x s) (before ++ mine) (shown ++ shown_by x) rest works items w later (omega arith) there,
)

-- so a run that met no fault is one of more statements that memory stopped
run_short : {Past : Whole → Type 0} (v u : View) (works : List Work) (items : List Item) (w : Work) (later : List Work)
    → HasRun Past v u works items fault.None → HasRun Past v u (works ++ w ∷ later) items fault.Memory
run_short v u works items w later h =
    let size = h.ended.whole refl in
    record {
      rows = h.rows;
      gains = h.gains;
      tells = λ past behind s within full z m far.
          says_short z s [] [] h.rows works (answers items) w later size (h.tells past behind s within full z m far);
      full = h.full;
      ended = record {
        whole = λ e. absurd cc;
        cut = λ named. let a = length-append works (w ∷ later) in omega arith;
      };
      shuts = λ e. absurd cc;
    }

-- the same of the first lane
controlled_short : (Past : Whole → Type 0) (v u : View) (r s : Registrar) (works : List Work) (items : List Item) (w : Work)
    (later : List Work) → HasControlled Past v u r s works items fault.None
    → HasControlled Past v u r s (works ++ w ∷ later) items fault.Memory
controlled_short Past v u r s works items w later h =
    let size = h.run.ended.whole refl in
    record {
      run = run_short v u works items w later h.run;
      so = h.so;
      closed = h.closed;
      only = λ end e wait one is. subst (AllOf (SaysSingle Past v u r.catalog end one))
          (sym (none_there (answers items) works size (only_last works w later one is).0)) tt;
      plans = λ rows from bounds low. plans_longer (KnowsListed u) (registry_of v r) rows from works (w ∷ later) items size
          (h.plans rows from bounds low);
      is = λ e. absurd cc;
      each = h.each;
      found = h.found;
    }

-- ---- what is handed back

-- the parts are all
pub handed_parts : (works kept left : List Work) (many : ℕ) (why last : LaneFault) → IsHandedBack works many why kept left last
    → works ≡ kept ++ left
handed_parts works kept left many why last (inl h) =
    sym (append-nil works) ∙ ap (λ (z : List Work × List Work). z.0 ++ z.1) (λ i. (sym h.2 i, sym h.3 i))
handed_parts works kept left many why last (inr (inl h)) =
    sym (take-append-drop many works) ∙ ap (λ (z : List Work × List Work). z.0 ++ z.1) (λ i. (sym h.2 i, sym h.3 i))
handed_parts works kept left many why last (inr (inr h)) =
    sym (append-nil works) ∙ ap (λ (z : List Work × List Work). z.0 ++ z.1) (λ i. (sym h.2 i, sym h.3 i))

-- the lane meets no fault where it had met none
handed_none : (works kept left : List Work) (many : ℕ) (why last : LaneFault) → IsHandedBack works many why kept left last
    → last ≡ fault.None → why ≡ fault.None
handed_none works kept left many why last (inl h) e = sym h.1 ∙ e
handed_none works kept left many why last (inr (inl h)) e = h.0
handed_none works kept left many why last (inr (inr h)) e = h.0

-- a fault of the disk it met before, with its cause
pub handed_cause : (before now : ℕ) (works kept left : List Work) (many : ℕ) (why last : LaneFault)
    → IsHandedBack works many why kept left last → HasFaultCause before now why → HasFaultCause before now last
handed_cause before now works kept left many why last (inl h) cause = subst (HasFaultCause before now) (sym h.1) cause
handed_cause before now works kept left many why last (inr (inl h)) cause = subst (HasFaultCause before now) (sym h.1) tt
handed_cause before now works kept left many why last (inr (inr h)) cause = subst (HasFaultCause before now) (sym h.1) tt

pub handed_disk : (works kept left : List Work) (many : ℕ) (why last : LaneFault) → IsHandedBack works many why kept left last
    → (last ≡ fault.Disk → ⊥) → why ≡ fault.Disk → ⊥
handed_disk works kept left many why last (inl h) fine e = fine (h.1 ∙ e)
handed_disk works kept left many why last (inr (inl h)) fine e = (let bad = sym h.0 ∙ e in cc)
handed_disk works kept left many why last (inr (inr h)) fine e = (let bad = sym h.0 ∙ e in cc)

-- and damage too
pub handed_whole : (works kept left : List Work) (many : ℕ) (why last : LaneFault) → IsHandedBack works many why kept left last
    → IsUndamaged why → IsUndamaged last
handed_whole works kept left many why last (inl h) whole = subst IsUndamaged (sym h.1) whole
handed_whole works kept left many why last (inr (inl h)) whole = subst IsUndamaged (sym h.1) tt
handed_whole works kept left many why last (inr (inr h)) whole = subst IsUndamaged (sym h.1) tt

-- so its items tell no less of a full log
pub handed_last : (u : View) (items : List Item) (works kept left : List Work) (many : ℕ) (why last : LaneFault)
    → IsHandedBack works many why kept left last → SaysLast u items why → SaysLast u items last
handed_last u items works kept left many why last h tells = record {
  full = tells.full;
  found = λ e. tells.found (handed_none works kept left many why last h e);
}

-- what is handed back wasn't done: neither were all statements, nor was there a fault
pub handed_left : (works kept left : List Work) (many : ℕ) (why last : LaneFault) → IsHandedBack works many why kept left last
    → left ≢ [] → (why ≡ fault.None) × (last ≡ fault.None) × (many < length works)
handed_left works kept left many why last (inl h) some = absurd (some h.3)
handed_left works kept left many why last (inr (inl h)) some = (h.0, h.1, by (dec_lt many (length works)))
  where
    by : Dec (many < length works) → many < length works
    by (yes less) = less
    by (no not_less) = absurd (some (h.3 ∙ drop_all many works (omega arith)))
handed_left works kept left many why last (inr (inr h)) some = absurd (some h.3)

-- ---- the first lane

-- what it did it did of the statements that it keeps
pub first_handed : (Past : Whole → Type 0) (v u : View) (r s : Registrar) (works kept left : List Work) (items : List Item)
    (why last : LaneFault) → HasControlled Past v u r s (done_of why (length (answers items)) works) items why
    → IsHandedBack works (length (answers items)) why kept left last → HasControlled Past v u r s kept items last
first_handed Past v u r s works kept left items why last h (inl b) =
    subst (λ (z : List Work × LaneFault). HasControlled Past v u r s z.0 items z.1)
    (λ i. ((done_fault why (length (answers items)) works b.0 ∙ sym b.2) i, sym b.1 i)) h
first_handed Past v u r s works kept left items why last h (inr (inl b)) =
    subst (λ (z : List Work × LaneFault). HasControlled Past v u r s z.0 items z.1)
    (λ i. ((done_none why (length (answers items)) works b.0 ∙ sym b.2) i, (b.0 ∙ sym b.1) i)) h
first_handed Past v u r s works kept left items why last h (inr (inr b)) =
    let many = length (answers items) in
    let rest = rest_there works many b.4 in
    subst (λ (z : List Work × LaneFault). HasControlled Past v u r s z.0 items z.1)
    (λ i. ((sym rest.2 ∙ sym b.2) i, sym b.1 i))
    (controlled_short Past v u r s (take many works) items rest.0 rest.1
    (subst (λ (z : List Work × LaneFault). HasControlled Past v u r s z.0 items z.1)
    (λ i. (done_none why many works b.0 i, b.0 i)) h))

-- and what it leaves undone it does since it found the log full
pub first_stops : (v u : View) (works : List Work) (many : ℕ) (why : LaneFault) (y : Lane)
    → IsHandedBack works many why y.works y.left y.fault
    → (why ≡ fault.None → (length works ≤ many) ⊎ ((v.shut ≡ None) × WasShut u))
    → (v.shut ≡ None → SaysLast u y.items why) → StopsFull v u y
first_stops v u works many why y h all last = record {
  cut = λ some.
      let left = handed_left works y.works y.left many why y.fault h some in
      let less = left.2 in
      ⊎_elim (λ (none : length works ≤ many). absurd (omega arith))
      (λ (full : (v.shut ≡ None) × WasShut u). record { fault = left.1; unshut = full.0; shut = full.1 }) (all left.0);
  last = λ unshut. handed_last u y.items works y.works y.left many why y.fault h (last unshut);
}

-- so stops a lane with the same items that leaves the same
pub stops_same : (v u : View) (x y : Lane) → y.left ≡ x.left → y.items ≡ x.items → y.fault ≡ x.fault → StopsFull v u x
    → StopsFull v u y
stops_same v u x y left items why h = record {
  cut = λ some.
      let cut = h.cut (subst (λ (z : List Work). z ≢ []) left some) in
      record { fault = why ∙ cut.fault; unshut = cut.unshut; shut = cut.shut };
  last = λ unshut. subst (λ (z : List Item × LaneFault). SaysLast u z.0 z.1) (λ i. (sym items i, sym why i)) (h.last unshut);
}

-- where the log was full before, none leaves any
pub left_none : (v : View) (left : List Work) → WasShut v → (left ≢ [] → v.shut ≡ None) → left ≡ []
left_none v [] was unshut = refl
left_none v (w ∷ left) was unshut = absurd (not_both v (unshut (λ e. absurd cc)) was)

-- ---- the others

-- where all items are answers, these are all
pub all_answers : (items : List Item) → AllOf IsAnswerItem items → answers items ≡ items
all_answers [] h = refl
all_answers (x ∷ items) h =
    filter_first is_answer x items h.0 ∙ ap (λ (z : List Item). x ∷ z) (all_answers items h.1)

-- as many items as answers
far_size : {Past : Whole → Type 0} (v u : View) (works : List Work) (items : List Item) → IsWorkSoFar Past v u works items
    → length (answers items) ≡ length items
far_size v u works items h = h.said.size ∙ length-take-le (length items) works h.few

-- a lane that went on did so of the statements that it keeps
pub on_handed : (Past : Whole → Type 0) (v u : View) (works kept left : List Work) (items : List Item) (why last : LaneFault)
    → IsOn Past v u works items why → IsHandedBack works (length (answers items)) why kept left last
    → HasRun Past v u kept items last × SayPlans v u kept items
on_handed Past v u works kept left items fault.None last h (inl b) = absurd (b.0 refl)
on_handed Past v u works kept left items fault.Memory last h (inl b) =
    subst (λ (z : List Work × LaneFault). HasRun Past v u z.0 items z.1 × SayPlans v u z.0 items) (λ i. (sym b.2 i, sym b.1 i)) h
on_handed Past v u works kept left items fault.Disk last h (inl b) =
    subst (λ (z : List Work × LaneFault). HasRun Past v u z.0 items z.1 × SayPlans v u z.0 items) (λ i. (sym b.2 i, sym b.1 i)) h
on_handed Past v u works kept left items (fault.Damaged n) last h (inl b) =
    subst (λ (z : List Work × LaneFault). HasRun Past v u z.0 items z.1 × SayPlans v u z.0 items) (λ i. (sym b.2 i, sym b.1 i)) h
on_handed Past v u works kept left items why last h (inr (inl b)) =
    let far : IsWorkSoFar Past v u works items = subst (IsOn Past v u works items) b.0 h in
    let same : take (length items) works ≡ kept =
    ap (λ (n : ℕ). take n works) (sym (far_size v u works items far)) ∙ sym b.2 in
    subst (λ (z : List Work × LaneFault). HasRun Past v u z.0 items z.1 × SayPlans v u z.0 items) (λ i. (same i, sym b.1 i))
    (run_ended v u (take (length items) works) items far.told, far.said.plans)
on_handed Past v u works kept left items why last h (inr (inr b)) =
    let far : IsWorkSoFar Past v u works items = subst (IsOn Past v u works items) b.0 h in
    let size = far_size v u works items far in
    let many = length items in
    let less = b.4 in
    let rest = rest_there works many (omega arith) in
    let ran = run_ended v u (take many works) items far.told in
    subst (λ (z : List Work × LaneFault). HasRun Past v u z.0 items z.1 × SayPlans v u z.0 items)
    (λ i. ((sym rest.2 ∙ sym b.2) i, sym b.1 i)) (
      run_short v u (take many works) items rest.0 rest.1 ran,
      said_cut v u u (take many works) items (rest.0 ∷ rest.1) far.said (learns_self u),
    )
