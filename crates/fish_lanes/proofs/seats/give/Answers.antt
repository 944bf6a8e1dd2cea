-- A pass that was split off, with definitions of which nothing was read.
use Rattle.std.proofs.Common.{refl}
use Rattle.fish_lanes.proofs.seats.give.Goals as goal

pub returns-clause-seat : goal.returns-clause-seat
returns-clause-seat c = record {
  seat = record { pass = c.split_pass-pass.result };
  is = refl;
  of = c.split_pass-pass.ensures.pass;
  view_is = c.split_pass-pass.ensures.right;
}
