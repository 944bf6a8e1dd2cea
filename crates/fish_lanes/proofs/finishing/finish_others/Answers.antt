-- One lane more is finished, after what the file had before the table all the while.
use Rattle.std.proofs.Common.{◌≡◌, ◌+◌, ℕ, ◌<◌, List, Some, get_or, slice_get, set, length, refl, sym, ap, ◌∙◌, subst, arith}
use Rattle.std.proofs.Math.Decide.{ℕ_discrete}
use Rattle.std.proofs.lemmas.Option.{slice_get-get_or, slice_get_within}
use Rattle.fish_lanes.proofs.Finished.{finished_fewer, stops_before, stops_later}
use Rattle.fish_lanes.proofs.Lists.{get_set_else, get_set_here, read_at, some_once}
use Rattle.fish_lanes.proofs.Moments.{get_there}
use Rattle.fish_lanes.proofs.Pages.{here_on, reads_both, reads_none, reads_told}
use Rattle.fish_lanes.specs.within.Advancing.{HasFinished, IsShortFault}
use Rattle.fish_lanes.specs.Outcome.{Stops}
use Rattle.fish_lanes.specs.within.Pasts.{WasHere}
use Rattle.fish_lanes.specs.within.Running.{IsLaneReady}
use Rattle.fish_lanes.specs.declared.lane.Lane.{Lane}
use Rattle.fish_whole.specs.Whole.{Whole}
use Rattle.fish_lanes.proofs.finishing.finish_others.Goals as goal

pub loop-i-init : goal.loop-i-init
loop-i-init g c =
    record {
      reads = reads_none g.D.Disk c.args.log.now.key c.args.disk.now c.args.file.now c.requires.below;
      each = λ j x y less. absurd (omega arith);
      rest = λ j above. refl;
    }

-- what is so of the lanes so far is so of one more
each_more : (R : Lane → Lane → Type 0) (fn lanes : List Lane) (i : ℕ) (r y : Lane) → i < length lanes → slice_get fn i ≡ Some r
    → ((j : ℕ) (x z : Lane) → j < i → slice_get fn j ≡ Some x → slice_get lanes j ≡ Some z → R x z) → R r y
    → (j : ℕ) (x z : Lane) → j < i + 1 → slice_get fn j ≡ Some x → slice_get (set lanes i y) j ≡ Some z → R x z
each_more R fn lanes i r y less at before here j x z below at_x at_z = pick (ℕ_discrete j i)
  where
    pick : Dec (j ≡ i) → R x z
    pick (yes same) =
        let first : x ≡ r = some_once x r (sym at_x ∙ ap (slice_get fn) same ∙ at) in
        let second : z ≡ y = some_once z y (sym at_z ∙ ap (slice_get (set lanes i y)) same ∙ get_set_here lanes i y less) in
        subst (λ (p : Lane × Lane). R p.0 p.1) (λ k. (sym first k, sym second k)) here
    pick (no ne) = before j x z (omega arith) at_x (sym (get_set_else lanes i j y ne) ∙ at_z)

pub finish_lane-requires-clause-ready : goal.finish_lane-requires-clause-ready
finish_lane-requires-clause-ready g c =
    let test = c.loop-i-test.true in
    let size = c.loop-i.auto.lanes in
    let end = c.loop-i.auto.i-end in
    let i = c.loop-i.i in
    let r = c.index-lanes-i.result in
    let fn = c.args.lanes.now in
    let at_fn : slice_get fn i ≡ Some r = c.loop-i.invariant.rest i (omega arith)
    ∙ read_at c.loop-i.lanes i r (omega arith) c.index-lanes-i.is in
    subst (IsLaneReady c.args.log.now)
    (some_once (get_or fn i r) r (sym (slice_get-get_or fn i r (omega arith)) ∙ at_fn) ∙ c.index-lanes-i.is)
    (c.requires.ready i r (omega arith))

pub loop-i-preserved : goal.loop-i-preserved
loop-i-preserved g c =
    let disk = g.D.Disk in
    let inv = c.loop-i.invariant in
    let i = c.loop-i.i in
    let test = c.loop-i-test.true in
    let size = c.loop-i.auto.lanes in
    let end = c.loop-i.auto.i-end in
    let r = c.index-lanes-i.result in
    let y = c.finish_lane.new.lane in
    let k = c.args.log.now.key in
    let first = c.args.disk.now in
    let before = c.loop-i.disk in
    let now = c.finish_lane.new.disk in
    let cold = c.args.file.now.cold in
    let read = c.loop-i.file.cold in
    let step = c.finish_lane.ensures.reads in
    let at : slice_get c.loop-i.lanes i ≡ Some r = read_at c.loop-i.lanes i r (omega arith) c.index-lanes-i.is in
    let at_fn : slice_get c.args.lanes.now i ≡ Some r = inv.rest i (omega arith) ∙ at in
    let Was : Whole → Type 0 = WasHere (disk.content first) k cold (disk.content now) in
    let told = reads_told disk k inv.reads step in
    let so_far : (past : Whole) → Was past → WasHere (disk.content first) k cold (disk.content before) past =
    λ past was. record { here = was.here; told = told was.told } in
    let here : (past : Whole) → Was past → WasHere (disk.content before) k read (disk.content now) past =
    λ past was. record {
      here = here_on disk k cold read first before past inv.reads.pages (told was.told) was.here;
      told = was.told;
    } in
    let Is : Lane → Lane → Type 0 = λ x z. HasFinished Was c.args.full c.args.log.now x z
    × Stops Was (disk.faults first) (disk.faults now) z.fault in
    let mine : Is r y = (
      finished_fewer (WasHere (disk.content before) k read (disk.content now)) Was c.args.full c.args.log.now r y here
          (subst (λ (z : Lane). HasFinished (WasHere (disk.content before) k read (disk.content now)) c.args.full c.args.log.now z y)
          (sym c.index-lanes-i.is) c.finish_lane.ensures.finished),
      stops_before Was (disk.faults first) (disk.faults before) (disk.faults now) y.fault inv.reads.pages.cold.later
          (stops_later (WasHere (disk.content before) k read (disk.content now)) Was (disk.faults before) (disk.faults now)
          (disk.faults now) y.fault (omega arith) here
          (c.finish_lane.ensures.stops (subst (λ (z : Lane). IsShortFault z.fault) c.index-lanes-i.is
          (c.requires.memory i r at_fn)))),
    ) in
    record {
      reads = reads_both disk k inv.reads step;
      each = each_more Is c.args.lanes.now c.loop-i.lanes i r y (omega arith) at_fn
          (λ j x z less at_x at_z. (let e = inv.each j x z less at_x at_z in (
            finished_fewer (WasHere (disk.content first) k cold (disk.content before)) Was c.args.full c.args.log.now x z so_far e.0,
            stops_later (WasHere (disk.content first) k cold (disk.content before)) Was (disk.faults first) (disk.faults before)
                (disk.faults now) z.fault step.pages.cold.later so_far e.1,
          ))) mine;
      rest = λ j above. inv.rest j (omega arith) ∙ sym (get_set_else c.loop-i.lanes i j y (λ e. omega arith));
    }

pub returns-clause-finished : goal.returns-clause-finished
returns-clause-finished g c j x y at_x at_y =
    let test = c.loop-i-test.false in
    let size = c.loop-i.auto.lanes in
    let less = slice_get_within c.args.lanes.now j x at_x in
    (c.loop-i.invariant.each j x y (omega arith) at_x at_y).0

pub returns-clause-stops : goal.returns-clause-stops
returns-clause-stops g c j y at_y =
    let test = c.loop-i-test.false in
    let size = c.loop-i.auto.lanes in
    let less = slice_get_within c.loop-i.lanes j y at_y in
    let there = get_there c.args.lanes.now j (omega arith) in
    (c.loop-i.invariant.each j there.0 y (omega arith) there.1 at_y).1
