-- What the lane did it did of the statements that it keeps.
use Rattle.std.proofs.Common.{List, length, refl, subst}
use Rattle.fish_lanes.proofs.Kept.{first_handed, first_stops, handed_cause, handed_disk, handed_parts, handed_whole}
use Rattle.fish_lanes.specs.Spans.{answers}
use Rattle.fish_lanes.specs.declared.work.Work.{Work}
use Rattle.fish_lanes.specs.within.Parts.{RunsWorks, store_of}
use Rattle.fish_rule.specs.Passes.{view}
use Rattle.fish_store.specs.Points.{Behind}
use Rattle.fish_lanes.proofs.block.run_first.Goals as goal

pub returns : goal.returns
returns g c =
    let disk = g.D.Disk in
    let before = store_of c.args.file.now c.args.log.now c.args.control.now c.args.registrar.now in
    let after = store_of c.run_control-fault.new.file c.args.log.now c.run_control-fault.new.pass c.run_control-fault.new.registrar in
    let works = c.args.lane.now.works in
    let kept = c.hand_back-lane.new.works in
    let left = c.hand_back-lane.new.left in
    let items = c.run_control-fault.new.items in
    let many = length (answers items) in
    let why = c.run_control-fault.result in
    let last = c.hand_back-lane.result in
    let v = view c.args.control.now in
    let u = view c.run_control-fault.new.pass in
    let handed = c.hand_back-lane.ensures in
    let ran = subst (λ (w : List Work). RunsWorks disk c.args.disk.now before c.run_control-fault.new.disk after w items why)
    c.as_slice.ensures c.run_control-fault.ensures.ran in
    record {
      did = record {
        still = record {
          can = ran.still.can;
          below = ran.still.below;
          goes = ran.still.goes;
          again = λ fine. ran.still.again (handed_disk works kept left many why last handed fine);
        };
        run = record {
          controlled = first_handed (Behind disk c.args.disk.now before c.run_control-fault.new.disk) v u c.args.registrar.now
              c.run_control-fault.new.registrar works kept left items why last ran.run handed;
          stops = first_stops v u works many why _ handed ran.all ran.last;
          works = handed_parts works kept left many why last handed;
          number = refl;
          seat = refl;
        };
        stops = record {
          later = ran.stops.later;
          cause = handed_cause (disk.faults c.args.disk.now) (disk.faults c.run_control-fault.new.disk) works kept left many why last handed
              ran.stops.cause;
          whole = λ past sound. handed_whole works kept left many why last handed (ran.stops.whole past sound);
        };
        committed = ran.committed;
        rows = ran.rows;
      };
    }
