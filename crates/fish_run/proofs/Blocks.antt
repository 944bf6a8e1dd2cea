-- What a round of a block leaves, and what stays of it later.
use Rattle.std.proofs.Common.{◌≡◌, ℕ, ◌+◌, ◌<◌, ◌≤◌, List, [], ◌∷◌, ◌++◌, length, refl, sym, ap, ◌∙◌, subst, ⊎_elim, arith}
use Rattle.std.proofs.Common.{Bool, None, Some, map, slice_get}
use Rattle.fish_catalog.specs.Listing.{listed_of}
use Rattle.fish_disk.specs.declared.disk.Disk.{Ghosts as Disks}
use Rattle.fish_lanes.proofs.Controls.{each_so}
use Rattle.fish_lanes.proofs.Gaining.{same_lines}
use Rattle.fish_lanes.proofs.Lists.{some_once}
use Rattle.fish_lanes.proofs.Plans.{plans_so}
use Rattle.fish_lanes.proofs.Single.{singles_whole}
use Rattle.fish_lanes.specs.Blocks.{AreEnded, AreLanes, HasRegistered, IsBlockSpan, IsMarkItem, NameMarks, control_items}
use Rattle.fish_lanes.specs.Blocks.{SaysBlock}
use Rattle.fish_lanes.specs.CommitRows.{LeavesRowsOf}
use Rattle.fish_lanes.specs.Controlling.{IsCheckpointAtMost}
use Rattle.fish_lanes.specs.Leaving.{LeavesStore}
use Rattle.fish_lanes.specs.Outcome.{HandsBack, LanesSayPlans, SayFullLast, SaysAlone, SaysShutBy}
use Rattle.fish_lanes.specs.Ending.{EndsAlone}
use Rattle.fish_lanes.specs.Gains.{IsMarkAt, WasShut}
use Rattle.fish_lanes.specs.Plans.{KnowsListed, RowsAre}
use Rattle.fish_lanes.specs.Registering.{ItemsFit, HasEach, HasRegistry, KnowsEach, KnowsRegistry, Registry, after_all, registry_of}
use Rattle.fish_lanes.specs.Registering.{waiting_id}
use Rattle.fish_lanes.specs.Spans.{Span, answers}
use Rattle.fish_lanes.specs.declared.block.BlockEnd.{BlockEnd}
use Rattle.fish_lanes.specs.declared.lane.Lane.{Lane}
use Rattle.fish_lanes.specs.declared.work.Work.{Work}
use Rattle.fish_registry.specs.declared.registrar.Registrar.{Registrar}
use Rattle.fish_report.specs.declared.item.Item.{Item}
use Rattle.fish_report.specs.declared.item.Item.TheVariants as item
use Rattle.fish_rule.proofs.laws.Lists.{all_among, among_either}
use Rattle.fish_rule.proofs.laws.ChainFacts.{always_later}
use Rattle.fish_rule.specs.Logs.{Learns}
use Rattle.fish_rule.specs.Passes.{view}
use Rattle.fish_rule.specs.Table.{IsOfMoment}
use Rattle.fish_rule.specs.Views.{AllOf, Among}
use Rattle.fish_rule.specs.ChainFacts.{Always}
use Rattle.fish_rule.specs.declared.view.Key.{Key}
use Rattle.fish_rule.specs.declared.view.View.{View}
use Rattle.fish_run.specs.Blocks.{AreAcknowledged, FullsAgree, IsFullOf, Round, SaysPart, after_round, first_items}
use Rattle.fish_run.specs.within.Blocks.{AreMarked}
use Rattle.fish_run.specs.Blocks.{lanes_controls}
use Rattle.fish_run.specs.within.Steps.{AreWholeLanes, HasCutOne, HasRunOne, Leaves}
use Rattle.fish_store.specs.declared.store.Store.{Store}
use Rattle.fish_whole.proofs.Wholes.{may_hold, sure_rows}
use Rattle.fish_whole.specs.Whole.{MayEnd, Whole, WillHold}

-- ---- later

-- an item that names a mark does so for who knows more
names_later : (v u : View) (items : List Item) → Learns v u → AllOf (IsMarkItem v) items → AllOf (IsMarkItem u) items
names_later v u [] learns h = tt
names_later v u (x ∷ items) learns h = (
  λ file line lines end stored refused is.
      let m = h.0 file line lines end stored refused is in (
        always_later v u (IsMarkAt line lines) learns m.0,
        m.1 ∙ ap (λ (k : Key). k.end) (sym learns.about),
      ),
  names_later v u items learns h.1,
)

pub marked_later : (v u : View) (rounds : List Round) → Learns v u → AreMarked v rounds → AreMarked u rounds
marked_later v u rounds learns h b among i x at = names_later v u x.items learns (h b among i x at)

-- a checkpoint has no more entries than a later one
pub committed_later : (count more : ℕ) (items : List Item) → count ≤ more → AllOf (IsCheckpointAtMost count) items
    → AllOf (IsCheckpointAtMost more) items
committed_later count more [] rises h = tt
committed_later count more (x ∷ items) rises h =
    (λ n is. (let few = h.0 n is in omega arith), committed_later count more items rises h.1)

-- the items of one more name marks
pub marks_more : (u : View) (rounds : List Round) (b : Round) → AreMarked u rounds → NameMarks u b.lanes → AreMarked u (rounds ++ b ∷ [])
marks_more u rounds b h one a among = ⊎_elim (λ (m : Among a rounds). h a m)
    (λ (m : Among a (b ∷ [])). ⊎_elim (λ (e : b ≡ a). subst (λ (z : Round). NameMarks u z.lanes) e one)
    (λ (bad : Among a []). elim bad [ ]) m) (among_either a rounds (b ∷ []) among)

-- the checkpoints of one more have no more entries
pub committed_more : (count : ℕ) (rounds : List Round) (b : Round) → AreAcknowledged count rounds
    → AllOf (IsCheckpointAtMost count) (first_items b.lanes) → AreAcknowledged count (rounds ++ b ∷ [])
committed_more count rounds b h one a among = ⊎_elim (λ (m : Among a rounds). h a m)
    (λ (m : Among a (b ∷ [])). ⊎_elim (λ (e : b ≡ a). subst (λ (z : Round). AllOf (IsCheckpointAtMost count) (first_items z.lanes)) e one)
    (λ (bad : Among a []). elim bad [ ]) m) (among_either a rounds (b ∷ []) among)

-- ---- refusals of a full log

-- all of them agree
pub fulls_agree : (v : View) (rounds : List Round) (end : ℕ) → IsOfMoment v → AreMarked v rounds → v.about.end ≡ end
    → FullsAgree rounds end
fulls_agree v rounds end s h is = record {
  ends = λ line lines e f. (named line lines e f).1 ∙ is;
  same = λ line a b e f p q. same_lines v line a b s (named line a e p).0 (named line b f q).0;
}
  where
    named : (line lines e : ℕ) → IsFullOf rounds line lines e → Always v (IsMarkAt line lines) × (e ≡ v.about.end)
    named line lines e f =
        let full = f.2 in
        all_among (IsMarkItem v) (item.IngestFull full.file line lines e full.stored full.refused) full.lane.items
        (h f.0 f.1 full.at full.lane full.lane_is) full.among full.file line lines e full.stored full.refused refl

-- ---- what a round left

-- what lies between two moments of the control pass
abbrev pub span_of : ℕ → ℕ → ℕ → View → View → Span
span_of from to lanes v u =
    record { from = from; to = to; first = v.learned.version; last = u.learned.version; lanes = lanes; full = v.shut }

-- the round between them
abbrev pub round_of : Bool → List (List Work) → ℕ → View → View → List Lane → BlockEnd → Round
round_of fresh given from v u lanes end =
    record { fresh = fresh; given = given; span = span_of from end.to (length lanes) v u; lanes = lanes; end = end }

-- the items of its first lane are so
first_so : (v u : View) (r s : Registrar) (lanes : List Lane) (end : BlockEnd) (k : Span) → IsBlockSpan v u end.to k
    → ((x : Lane) → slice_get lanes 0 ≡ Some x → HasRegistered v u r s x end)
    → ItemsFit k.from (k.to + 16) (registry_of v r) (first_items lanes)
first_so v u r s [] end k is has = tt
first_so v u r s (x ∷ lanes) end k is has = (has x refl).so k is

-- and the definitions that they tell are known
first_known : (v u : View) (r s : Registrar) (lanes : List Lane) (end : BlockEnd) → 0 < length lanes
    → ((x : Lane) → slice_get lanes 0 ≡ Some x → HasRegistered v u r s x end) → KnowsEach u (registry_of v r) (first_items lanes)
first_known v u r s [] end some has = absurd (omega arith)
first_known v u r s (x ∷ lanes) end some has = (has x refl).known

-- and none waits after them
first_settled : (v u : View) (r s : Registrar) (lanes : List Lane) (end : BlockEnd) → 0 < length lanes
    → ((x : Lane) → slice_get lanes 0 ≡ Some x → HasRegistered v u r s x end) → s.waiting ≡ None
first_settled v u r s [] end some has = absurd (omega arith)
first_settled v u r s (x ∷ lanes) end some has = (has x refl).settled

-- what tells of the definitions is of the first lane
controls_first : (lanes : List Lane) (end : BlockEnd) (x : Lane) → slice_get lanes 0 ≡ Some x
    → lanes_controls lanes end ≡ control_items x end
controls_first [] end x at = absurd cc
controls_first (y ∷ lanes) end x at = ap (λ (z : Lane). control_items z end) (some_once y x at)

-- where no lane stopped at a fault, so is the boundary after them
controls_so : (v u : View) (r s : Registrar) (lanes : List Lane) (end : BlockEnd) (k : Span) → IsBlockSpan v u end.to k
    → AreWholeLanes lanes → ((x : Lane) → slice_get lanes 0 ≡ Some x → HasRegistered v u r s x end)
    → ItemsFit k.from (k.to + 16) (registry_of v r) (lanes_controls lanes end)
controls_so v u r s [] end k is whole has = tt
controls_so v u r s (x ∷ lanes) end k is whole has = (has x refl).whole (whole 0 x refl) k is

-- and they tell the definitions
controls_known : (v u : View) (r s : Registrar) (lanes : List Lane) (end : BlockEnd) → 0 < length lanes → AreWholeLanes lanes
    → ((x : Lane) → slice_get lanes 0 ≡ Some x → HasRegistered v u r s x end)
    → KnowsEach u (registry_of v r) (lanes_controls lanes end)
controls_known v u r s [] end some whole has = absurd (omega arith)
controls_known v u r s (x ∷ lanes) end some whole has = (has x refl).each (whole 0 x refl)

controls_after : (v u : View) (r s : Registrar) (lanes : List Lane) (end : BlockEnd) (fresh : Bool) (given : List (List Work)) (from : ℕ)
    → 0 < length lanes → AreWholeLanes lanes → ((x : Lane) → slice_get lanes 0 ≡ Some x → HasRegistered v u r s x end)
    → registry_of u s ≡ after_round (registry_of v r) (round_of fresh given from v u lanes end)
controls_after v u r s [] end fresh given from some whole has = absurd (omega arith)
controls_after v u r s (x ∷ lanes) end fresh given from some whole has = (has x refl).is (whole 0 x refl)

-- definitions that are known before each item are those of the whole
each_whole : (past : Whole) (u : View) (w : Whole) → MayEnd past u w → (r : Registry) (items : List Item) → KnowsEach u r items
    → HasEach w r items
each_whole past u w m r items = each_so (KnowsRegistry u) (HasRegistry w)
    (λ q knows. sure_rows past u q.version (map listed_of q.rows) knows w (may_hold past u w m)) r items

-- what is so of the first lane's items is so of them
first_committed : (count : ℕ) (lanes : List Lane) → ((x : Lane) → slice_get lanes 0 ≡ Some x → AllOf (IsCheckpointAtMost count) x.items)
    → AllOf (IsCheckpointAtMost count) (first_items lanes)
first_committed count [] h = tt
first_committed count (x ∷ lanes) h = h x refl

-- what a round of these lanes says
pub leaves_of : (Past : Whole → Type 0) (count : ℕ) (v u : View) (r s : Registrar) (from : ℕ)
    (items lanes : List Lane) (end : BlockEnd) → AreLanes items → length lanes ≡ length items
    → EndsAlone v from
    → ((past : Whole) → Past past → (k : Span) → IsBlockSpan v u end.to k → k.lanes ≡ length lanes
    → (k.from ≤ k.to) × WillHold past u (λ w. SaysBlock w k lanes))
    → ((x : Lane) → slice_get lanes 0 ≡ Some x → HasRegistered v u r s x end) → AreEnded lanes → NameMarks u lanes
    → SaysShutBy v u lanes → SayFullLast v lanes → LanesSayPlans (KnowsListed u) (registry_of v r) s.catalog from lanes
    → r.waiting ≡ None → SaysAlone Past v u r lanes → ((x : Lane) → slice_get lanes 0 ≡ Some x → AllOf (IsCheckpointAtMost count) x.items)
    → HandsBack v u lanes → (WasShut v → end.to ≤ from) → Leaves Past count v u r s from lanes end
leaves_of Past count v u r s from items lanes end are many begins tells has ended marks shuts last plans settled alone committed left stays
    = record {
      some = (let some_ = are.some in omega arith);
      begins = begins;
      tells = tells;
      has = has;
      ended = ended;
      marks = marks;
      alone = λ x one.
          let a = alone x one in
          record {
            none = a.closed;
            whole = λ w only. singles_whole Past v u r.catalog from w (answers x.items) (a.only from begins settled w only);
          };
      shuts = shuts;
      last = last;
      plans = plans;
      committed = first_committed count lanes committed;
      left = left;
      stays = stays;
    }

module _ (Past : Whole → Type 0) (count : ℕ) (v u : View) (r s : Registrar) (from : ℕ)
    (lanes : List Lane) (end : BlockEnd) (h : Leaves Past count v u r s from lanes end) (fresh : Bool)
    (given : List (List Work)) where
  abbrev pub left : Round
  left = round_of fresh given from v u lanes end

  spans : IsBlockSpan v u end.to left.span
  spans = record { begins = h.begins; ends = refl; first = omega arith; last = omega arith; full = refl }

  part_of : (past w : Whole) → Past past → MayEnd past u w → SaysPart w from (registry_of v r) left
  part_of past w p m =
      let t = h.tells past p left.span spans refl in
      record {
        begins = refl;
        ends = refl;
        rises = t.0;
        first = refl;
        many = refl;
        lanes = t.1 w m;
        registers = first_so v u r s lanes end left.span spans h.has;
        definitions = each_whole past u w m (registry_of v r) (first_items lanes) (first_known v u r s lanes end h.some h.has);
        ended = h.ended;
        fulls = h.shuts.one;
        last_full = h.last;
        left = λ i x at some. let cut = h.left i x at some in (cut.fault, cut.last, cut.unshut);
        stays = λ c is. (let most = h.stays (c, is) in let least = t.0 in omega arith);
        alone = h.alone;
      }

  -- what its plans say by the definitions of the whole
  plans_by : (past w : Whole) → MayEnd past u w → LanesSayPlans (RowsAre w) (registry_of v r) s.catalog from lanes
  plans_by past w m i y at =
      plans_so (λ n ls knows. sure_rows past u n ls knows w (may_hold past u w m)) (registry_of v r) s.catalog from y.works y.items
      (h.plans i y at)

  -- a lane may have stopped at a fault
  pub left_cut : HasCutOne Past count fresh v.shut u (registry_of v r) from end.to left
  left_cut = record {
    fresh_is = refl;
    full_is = refl;
    begins = refl;
    ends = refl;
    tells = λ past p w m. record {
      part = part_of past w p m;
      behind = registry_of u s;
      last = refl;
      plans = plans_by past w m;
      behind_is = λ y at none. (h.has y at).is none ∙ ap (after_all (registry_of v r)) (sym (controls_first lanes end y at));
    };
    marks = h.marks;
    committed = h.committed;
  }

  -- none did
  pub left_whole : AreWholeLanes lanes → HasRunOne Past count fresh v.shut u (registry_of v r) (registry_of u s) from end.to left
  left_whole whole =
      let after = controls_after v u r s lanes end fresh given from h.some whole h.has in
      record {
        fresh_is = refl;
        full_is = refl;
        shut = h.shuts.by whole;
        keeps = h.shuts.keeps;
        shuts = h.shuts.shuts;
        begins = refl;
        ends = refl;
        tells = λ past p w m. record {
          part = part_of past w p m;
          whole = whole;
          registers = controls_so v u r s lanes end left.span spans whole h.has;
          definitions = each_whole past u w m (registry_of v r) (lanes_controls lanes end)
              (controls_known v u r s lanes end h.some whole h.has);
          last = ap (λ (z : Registry). z.version) after;
          settled = sym (ap (λ (z : Registry). z.waiting) after) ∙ ap waiting_id (first_settled v u r s lanes end h.some h.has);
          plans = subst (λ (z : Registry). LanesSayPlans (RowsAre w) (registry_of v r) z.rows from lanes) after (plans_by past w m);
        };
        marks = h.marks;
        committed = h.committed;
        after = after;
      }

-- what is so of the first lane of some is so of its items
first_is : (P : List Item → Type 0) (lanes : List Lane) → 0 < length lanes
    → ((x : Lane) → slice_get lanes 0 ≡ Some x → P x.items) → P (first_items lanes)
first_is P [] some h = absurd (omega arith)
first_is P (x ∷ lanes) some h = h x refl

-- so a block leaves the definitions between its items
pub block_rows : {D : Type 0} (disks : Disks D) (disk : D) (s : Store) (disk' : D) (t : Store) (lanes : List Lane) (end : BlockEnd)
    → LeavesStore disks disk s disk' t lanes end → 0 < length lanes
    → LeavesRowsOf disks disk disk' (registry_of (view s.pass) s.registrar) (first_items lanes)
block_rows disks disk s disk' t lanes end h some =
    first_is (LeavesRowsOf disks disk disk' (registry_of (view s.pass) s.registrar)) lanes some h.rows
