-- The lines of the record are claimed, and its words written there.
use Rattle.std.proofs.Common.{refl, arith}
use Rattle.fish_ingest.proofs.PlacementRecord.{can_write, few_lines_of, has_placed, placed_flight, shut_by}
use Rattle.fish_rule.specs.Passes.{view}
use Rattle.fish_ingest.proofs.placement.place.Goals as goal

pub claim_place-requires-clause-lines : goal.claim_place-requires-clause-lines
claim_place-requires-clause-lines c =
    let h = few_lines_of (view c.args.pass.now) c.args.prepared c.requires.can in
    let e = c.lines.ensures in
    (omega arith, omega arith)

-- the place is the record's
pub write_record-requires-clause-can : goal.write_record-requires-clause-can
write_record-requires-clause-can c =
    let u = view c.claim_place.new.pass in
    let place = c.in-Ok.ensures.placed in (
      placed_flight (view c.args.pass.now) c.args.prepared c.requires.can c.in-Ok.number u c.lines.result c.lines.ensures place,
      can_write (view c.args.pass.now) c.args.prepared c.requires.can c.in-Ok.number u c.lines.result c.lines.ensures place,
    )

pub returns-in-Ok-clause-placed : goal.returns-in-Ok-clause-placed
returns-in-Ok-clause-placed c can =
    let v = view c.args.pass.now in
    let u = view c.claim_place.new.pass in
    let place = c.in-Ok.ensures.placed in
    let write = can_write v c.args.prepared can c.in-Ok.number u c.lines.result c.lines.ensures place in
    let f = placed_flight v c.args.prepared can c.in-Ok.number u c.lines.result c.lines.ensures place in
    has_placed v c.args.prepared can c.in-Ok.number u c.lines.result c.lines.ensures place
    (view c.write_record.new.pass) _ refl (c.write_record.ensures.written f place.flying)
    (c.write_record.ensures.stored f write)

pub returns-in-Err-clause-shut : goal.returns-in-Err-clause-shut
returns-in-Err-clause-shut c can =
    shut_by (view c.args.pass.now) c.args.prepared can (view c.claim_place.new.pass) c.in-Err.shut c.lines.result
    c.lines.ensures c.in-Err.ensures.shut
