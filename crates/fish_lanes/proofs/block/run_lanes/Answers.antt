-- The block from its start to its end.
use Rattle.std.proofs.Common.{◌≡◌, ℕ, ap, arith, length, refl, subst, sym}
use Rattle.fish_lanes.proofs.Course.{all_ended, all_marks, has_end, is_later, kept_at, says_all, vacant_at, within}
use Rattle.fish_lanes.proofs.Ends.{registered_end, taken_alone}
use Rattle.fish_lanes.proofs.Firsts.{alone_first, first_ready, first_there, kept_both, others_new, vacant_both}
use Rattle.fish_lanes.proofs.Kept.{left_none}
use Rattle.fish_lanes.proofs.Leaving.{all_last, all_left, all_plans, all_shuts}
use Rattle.fish_lanes.proofs.Moments.{counted_from, few_behind}
use Rattle.fish_lanes.proofs.Single.{only_end}
use Rattle.fish_lanes.proofs.Stepping.{stays_pass}
use Rattle.fish_lanes.specs.Blocks.{HasRegistered}
use Rattle.fish_lanes.specs.CommitRows.{LeavesRowsOf}
use Rattle.fish_lanes.specs.Controlling.{IsCheckpointAtMost}
use Rattle.fish_lanes.specs.Ending.{EndsAlone}
use Rattle.fish_lanes.specs.Outcome.{SaysAloneBy}
use Rattle.fish_lanes.specs.Registering.{registry_of}
use Rattle.fish_lanes.specs.declared.lane.Lane.{Lane}
use Rattle.fish_lanes.specs.within.Parts.{store_of}
use Rattle.fish_registry.proofs.Changing.{learns_changes}
use Rattle.fish_rule.proofs.laws.Learning.{learns_both}
use Rattle.fish_rule.specs.LoadSteps.{IsAlone}
use Rattle.fish_rule.specs.Passes.{view}
use Rattle.fish_rule.specs.Views.{AllOf}
use Rattle.fish_rule.specs.declared.view.View.{View}
use Rattle.fish_store.proofs.Running.{here_both, here_stays, may_stays}
use Rattle.fish_store.specs.Points.{Behind, point_at}
use Rattle.fish_lanes.proofs.block.run_lanes.Goals as goal

pub run_by_passes-requires-clause-run : goal.run_by_passes-requires-clause-run
run_by_passes-requires-clause-run g c κs bounds =
    let b = c.requires.between.1 in
    record { can = b.can; commit = b.commit; below = b.below }

pub run_by_passes-requires-clause-first : goal.run_by_passes-requires-clause-first
run_by_passes-requires-clause-first g c κs bounds =
    first_ready (view c.args.control.now) c.args.first.now c.args.others.now c.requires.lanes c.args.registrar.now
    c.requires.between.1.known

pub run_by_passes-requires-clause-others : goal.run_by_passes-requires-clause-others
run_by_passes-requires-clause-others g c κs bounds =
    others_new (view c.args.control.now) c.args.first.now c.args.others.now c.requires.lanes c.requires.between.0 c.requires.between.1.end

pub end_block-requires-clause-can : goal.end_block-requires-clause-can
end_block-requires-clause-can g c = c.run_by_passes.ensures.did.still.can

pub end_block-requires-clause-alone : goal.end_block-requires-clause-alone
end_block-requires-clause-alone g c =
    let course = c.run_by_passes.ensures.did.course in
    taken_alone course.ran (view c.run_by_passes.new.control) course.done course.back.takes

pub returns-clause-store : goal.returns-clause-store
returns-clause-store g c =
    let start : (from : ℕ) × EndsAlone (view c.args.control.now) from = (c.requires.between.0, c.requires.between.1.end) in
    let disk = g.D.Disk in
    let log = c.args.log.now in
    let did = c.run_by_passes.ensures.did in
    let course = did.course in
    let ended = c.end_block.ensures.ended in
    let stands = c.end_block.ensures.can.of.stands in
    let first = c.run_by_passes.new.first in
    let others = c.run_by_passes.new.others in
    let u = view c.run_by_passes.new.control in
    let t = view c.end_block.new.control in
    let before = point_at c.args.disk.now (store_of c.args.file.now log c.args.control.now c.args.registrar.now) in
    let ran = point_at c.run_by_passes.new.disk
    (store_of c.run_by_passes.new.file log c.run_by_passes.new.control c.run_by_passes.new.registrar) in
    let after = point_at c.run_by_passes.new.disk
    (store_of c.run_by_passes.new.file log c.end_block.new.control c.end_block.new.registrar) in
    let stays = stays_pass disk ran c.end_block.new.registrar.catalog t
    (learns_both u ended.bound t (learns_changes u ended.bound ended.changes) ended.settles.learns) c.end_block.ensures.grows in
    record {
      log = refl;
      can = c.end_block.ensures.can;
      below = did.still.below;
      goes = here_both disk before ran after did.still.goes (here_stays disk ran after stays);
      again = λ fine. may_stays disk ran after stays (did.still.again (fine first refl));
      ends = has_end course.run course.back ended start stands;
      later = is_later course.run course.back ended start stands;
      committed = first_there (λ (z : Lane). AllOf
          (IsCheckpointAtMost c.run_by_passes.new.file.flusher.count) z.items) first others did.committed;
      rows = first_there (λ (z : Lane). LeavesRowsOf disk c.args.disk.now c.run_by_passes.new.disk
          (registry_of (view c.args.control.now) c.args.registrar.now) z.items) first others did.rows;
    }

pub returns-clause-lanes : goal.returns-clause-lanes
returns-clause-lanes g c =
    let start : (from : ℕ) × EndsAlone (view c.args.control.now) from = (c.requires.between.0, c.requires.between.1.end) in
    let did = c.run_by_passes.ensures.did in
    let course = did.course in
    let ended = c.end_block.ensures.ended in
    let stands = c.end_block.ensures.can.of.stands in
    let x = c.args.first.now in
    let y = c.run_by_passes.new.first in
    let before = c.args.others.now in
    let after = c.run_by_passes.new.others in
    let first = course.run.first_did in
    let left = all_left course.run course.back ended start stands in
    record {
      kept = kept_both x y before after (record { number = first.number; works = first.works }) (kept_at course.run course.back);
      vacant = vacant_both x y before after first.seat (vacant_at course.run course.back);
      ended = all_ended course.run course.back;
      stops = did.stops;
      left = left;
      last = all_last course.run course.back ended start stands;
      goes_on = λ was i z at. left_none (view c.args.control.now) z.left was (λ some. (left i z at some).unshut);
      shuts = all_shuts course.run course.back ended start stands;
      marks = all_marks course.run course.back ended start stands;
    }

pub returns-clause-items : goal.returns-clause-items
returns-clause-items g c =
    let start : (from : ℕ) × EndsAlone (view c.args.control.now) from = (c.requires.between.0, c.requires.between.1.end) in
    let disk = g.D.Disk in
    let did = c.run_by_passes.ensures.did in
    let course = did.course in
    let ended = c.end_block.ensures.ended in
    let stands = c.end_block.ensures.can.of.stands in
    let stood = c.requires.between.1.can.of.stands in
    let v = view c.args.control.now in
    let t = view c.end_block.new.control in
    let r = c.args.registrar.now in
    let y = c.run_by_passes.new.first in
    let before = c.args.others.now in
    let after = c.run_by_passes.new.others in
    let Past = Behind disk c.args.disk.now (store_of c.args.file.now c.args.log.now c.args.control.now r) c.run_by_passes.new.disk in
    let few = (c.requires.lanes).few in
    let end = has_end course.run course.back ended start stands in
    record {
      sound = λ past behind k span many. (
        within course.run course.back ended start stands past behind k span (omega (many, arith)) stood,
        says_all course.run course.back ended start stands past behind k span (omega (many, arith)) stood (omega arith),
      );
      registered = first_there (λ (z : Lane). HasRegistered v t r c.end_block.new.registrar z c.end_block.result) y after
          (registered_end course ended did.still.can.of.stands did.still.can.knows stands
          (λ k span. (
            counted_from v k.from span.begins,
            let few = few_behind t c.end_block.result.to stands end in
                let e = span.ends in omega arith,
          )));
      alone = alone_first (SaysAloneBy Past v t r) y before after c.run_by_passes.auto.others
          (λ none.
          let none_here : length before ≡ 0 = ap length none in
          let given_size = course.run.given_size in
          let done_size = course.run.done_size in
          let given = course.run.gives.none none_here in
          let first = course.run.first_did in
          record {
            closed = first.controlled.closed (subst IsAlone (sym given) c.requires.between.1.end.alone);
            only = λ end e wait. only_end Past v course.run.control course.ran (view c.run_by_passes.new.control) ended.bound t r.catalog
                end y.works y.works y.items given (course.back.takes.none (omega arith)) ended.changes ended.settles refl
                (first.controlled.only end (subst (λ (z : View). EndsAlone z end) (sym given) e) wait);
          });
      plans = all_plans course.run course.back ended start stands c.requires.between.1.can.knows c.requires.between.1.known;
    }
