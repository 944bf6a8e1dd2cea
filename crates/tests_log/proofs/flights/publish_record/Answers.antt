-- The record is written, so it may be published, and then nothing is in flight.
use Rattle.std.proofs.Common.{ap, ◌∙◌}
use Rattle.fish_rule.specs.declared.view.Flight.{Flight}
use Rattle.fish_rule.specs.declared.view.View.{View}
use Rattle.tests_log.proofs.flights.publish_record.Goals as goal

-- it is written with all its entries linked
pub publish-requires-clause-view : goal.publish-requires-clause-view
publish-requires-clause-view c =
    let f : Flight = c.requires.can.0 in
    let done = c.write_record.ensures.written f c.requires.can.1.flying in
    (done.flight, done.ready, done.stored)

-- so nothing is in flight
pub returns-clause-idle : goal.returns-clause-idle
returns-clause-idle c =
    let f : Flight = c.requires.can.0 in
    let done = c.write_record.ensures.written f c.requires.can.1.flying in
    ap (λ (z : View). z.flight) (c.publish.ensures.view done.flight done.ready.flying)

-- the lane stays
pub returns-clause-lane : goal.returns-clause-lane
returns-clause-lane c =
    let f : Flight = c.requires.can.0 in
    let done = c.write_record.ensures.written f c.requires.can.1.flying in
    ap (λ (z : View). z.lane) (c.publish.ensures.view done.flight done.ready.flying) ∙ ap (λ (z : View). z.lane) done.only.frame

-- and the lanes that are out
pub returns-clause-out : goal.returns-clause-out
returns-clause-out c =
    let f : Flight = c.requires.can.0 in
    let done = c.write_record.ensures.written f c.requires.can.1.flying in
    ap (λ (z : View). z.out) (c.publish.ensures.view done.flight done.ready.flying) ∙ ap (λ (z : View). z.out) done.only.frame
