-- The record is written into the lines of its claim, and published; the pass stays entered, whatever the claim became.
use Rattle.std.proofs.Common.{arith}
use Rattle.bench.proofs.Placing.{can_place, entered_published, flying, lane_published}
use Rattle.fish_ingest.proofs.PlacementClaims.{trying_begins, trying_placed}
use Rattle.fish_ingest.proofs.PlacementRecord.{can_write, few_lines_of, placed_flight}
use Rattle.fish_rule.specs.Passes.{view}
use Rattle.fish_rule.specs.SpaceSteps.{flight_at}
use Rattle.bench.proofs.stores.place_one.Goals as goal

pub claim-requires-clause-lines : goal.claim-requires-clause-lines
claim-requires-clause-lines c =
    let few = few_lines_of (view c.args.pass.now) c.args.prepared (can_place c.args.log.now (view c.args.pass.now)
    c.args.prepared c.requires.pass.about c.requires.pass.stands c.requires.entered c.requires.prepared
    c.requires.unshut) in
    let e = c.lines.ensures in
    (omega arith, omega arith)

pub write_record-requires-clause-can : goal.write_record-requires-clause-can
write_record-requires-clause-can c =
    let v = view c.args.pass.now in
    let u = view c.claim.new.pass in
    let at = c.in-Placed in
    let can = can_place c.args.log.now v c.args.prepared c.requires.pass.about c.requires.pass.stands c.requires.entered
    c.requires.prepared c.requires.unshut in
    let position = trying_placed v v u c.lines.result (trying_begins v can.claim) at.number at.line at.ensures.claimed in (
      placed_flight v c.args.prepared can at.number u c.lines.result c.lines.ensures position,
      can_write v c.args.prepared can at.number u c.lines.result c.lines.ensures position,
    )

pub publish-requires-clause-view : goal.publish-requires-clause-view
publish-requires-clause-view c =
    let v = view c.args.pass.now in
    let u = view c.claim.new.pass in
    let at = c.in-Placed in
    let written = c.write_record.ensures.written (flight_at at.number at.line c.lines.result)
    (flying v u c.lines.result at.number at.line at.ensures.claimed) in
    (written.flight, written.ready, written.stored)

pub returns-in-Placed-clause-entered : goal.returns-in-Placed-clause-entered
returns-in-Placed-clause-entered c =
    let v = view c.args.pass.now in
    let u = view c.claim.new.pass in
    let at = c.in-Placed in
    let written = c.write_record.ensures.written (flight_at at.number at.line c.lines.result)
    (flying v u c.lines.result at.number at.line at.ensures.claimed) in
    entered_published v u c.lines.result at.number at.line at.ensures.claimed (view c.write_record.new.pass)
    (view c.publish.new.pass) written (c.publish.ensures.view written.flight written.ready.flying) c.requires.entered

pub returns-in-Placed-clause-lane : goal.returns-in-Placed-clause-lane
returns-in-Placed-clause-lane c =
    let v = view c.args.pass.now in
    let u = view c.claim.new.pass in
    let at = c.in-Placed in
    let written = c.write_record.ensures.written (flight_at at.number at.line c.lines.result)
    (flying v u c.lines.result at.number at.line at.ensures.claimed) in
    lane_published v u c.lines.result at.number at.line at.ensures.claimed (view c.write_record.new.pass)
    (view c.publish.new.pass) written (c.publish.ensures.view written.flight written.ready.flying)
