-- What was left of the lane is done, or handed back.
use Rattle.std.proofs.Common.{◌≡◌, ◌≤◌, ◌⊎◌, ◌++◌, ◌∙◌, List, ⊎_elim, append-nil, ap, false, length, refl, sym, subst, arith}
use Rattle.fish_lanes.proofs.Finished.{on_ended, on_far, short_stops}
use Rattle.fish_lanes.proofs.Kept.{all_answers, handed_cause, handed_last, handed_left, handed_parts, handed_whole, on_handed}
use Rattle.fish_lanes.proofs.Pages.{reads_none}
use Rattle.fish_lanes.specs.within.Advancing.{IsOn, IsWorkSoFar}
use Rattle.fish_lanes.specs.Gains.{WasShut}
use Rattle.fish_lanes.specs.within.Pasts.{WasHere}
use Rattle.fish_lanes.specs.Spans.{answers}
use Rattle.fish_lanes.specs.declared.work.Work.{Work}
use Rattle.fish_report.specs.declared.item.Item.{Item}
use Rattle.fish_rule.specs.Passes.{view}
use Rattle.fish_whole.specs.Whole.{Whole}
use Rattle.fish_lanes.proofs.finishing.finish_lane.Goals as goal

pub returns-in_default-clause-finished : goal.returns-in_default-clause-finished
returns-in_default-clause-finished g c =
    let ready = c.requires.ready in
    let lane = c.args.lane.now in
    let content = g.D.Disk.content c.args.disk.now in
    let k = c.args.log.now.key in
    let cold = c.args.file.now.cold in
    record {
      before = ready.seat;
      before_is = ready.seat_is;
      after = ready.seat;
      after_is = ready.seat_is;
      can = ready.can;
      works = sym (append-nil lane.works) ∙ ap (λ (z : List Work). lane.works ++ z) (sym ready.nothing_left);
      number = refl;
      run = λ start on. on_ended (WasHere content k cold content) start (view ready.seat.pass) lane.works lane.items lane.fault
          c.in_default.not-None (on content k cold content);
      cut = λ all some. absurd (some ready.nothing_left);
      last = λ unset tells. tells;
      answers = λ all. all;
    }

pub returns-in_default-clause-stops : goal.returns-in_default-clause-stops
returns-in_default-clause-stops g c short =
    let content = g.D.Disk.content c.args.disk.now in
    short_stops (WasHere content c.args.log.now.key c.args.file.now.cold content) (g.D.Disk.faults c.args.disk.now)
    (g.D.Disk.faults c.args.disk.now) c.args.lane.now.fault (omega arith) short

pub returns-clause-finished : goal.returns-clause-finished
returns-clause-finished g c =
    let run = c.finish_works-fault.ensures.finishes in
    let lane = c.args.lane.now in
    let content = g.D.Disk.content c.args.disk.now in
    let later = g.D.Disk.content c.finish_works-fault.new.disk in
    let k = c.args.log.now.key in
    let cold = c.args.file.now.cold in
    let v = view c.in-Some.field-0.pass in
    let u = view c.finish_works-fault.new.pass in
    let items = c.finish_works-fault.new.items in
    let many = length (answers items) in
    let why = c.finish_works-fault.result in
    let works = lane.works in
    let kept = c.hand_back-lane.new.works in
    let left = c.hand_back-lane.new.left in
    let last = c.hand_back-lane.result in
    let handed = c.hand_back-lane.ensures in
    let Past : Whole → Type 0 = WasHere content k cold later in
    record {
      before = c.in-Some.field-0;
      before_is = sym c.take.ensures.value ∙ c.in-Some.is;
      after = record { pass = c.finish_works-fault.new.pass };
      after_is = refl;
      can = c.finish_works-fault.ensures.pass;
      works = handed_parts works kept left many why last handed;
      number = refl;
      run = λ start on. on_handed Past start u works kept left items why last
          (subst (λ (w : List Work). IsOn Past start u w items why) c.as_slice.ensures
          (run.goes start (subst (λ (w : List Work). IsWorkSoFar Past start v w lane.items) (sym c.as_slice.ensures)
          (on_far Past start v works lane.items lane.fault c.in-None.is (on content k cold later))))) handed;
      cut = λ all some.
          let past = handed_left works kept left many why last handed some in
          let less = past.2 in
          let size : many ≡ length items = ap (λ (z : List Item). length z) (all_answers items (run.answers all)) in
          ⊎_elim (λ (none : length works ≤ length items). absurd (omega arith))
          (λ (full : (c.args.full ≡ false) × WasShut u). (past.1, full.0, full.1))
          (subst (λ (w : List Work). (length w ≤ length items) ⊎ ((c.args.full ≡ false) × WasShut u)) c.as_slice.ensures
          (run.all past.0));
      last = λ unset tells. handed_last u items works kept left many why last handed (run.last unset (tells.found c.in-None.is));
      answers = run.answers;
    }

pub returns-clause-stops : goal.returns-clause-stops
returns-clause-stops g c short =
    let works = c.args.lane.now.works in
    let kept = c.hand_back-lane.new.works in
    let left = c.hand_back-lane.new.left in
    let many = length (answers c.finish_works-fault.new.items) in
    let why = c.finish_works-fault.result in
    let last = c.hand_back-lane.result in
    let handed = c.hand_back-lane.ensures in
    record {
      later = c.finish_works-fault.ensures.stops.later;
      cause = handed_cause (g.D.Disk.faults c.args.disk.now) (g.D.Disk.faults c.finish_works-fault.new.disk) works kept left many why last
          handed c.finish_works-fault.ensures.stops.cause;
      whole = λ past was. handed_whole works kept left many why last handed (c.finish_works-fault.ensures.stops.whole past was);
    }

pub returns-in_default-clause-reads : goal.returns-in_default-clause-reads
returns-in_default-clause-reads g c = reads_none g.D.Disk c.args.log.now.key c.args.disk.now c.args.file.now c.requires.below
