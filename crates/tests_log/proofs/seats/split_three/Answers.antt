-- Each pass is out.
use Rattle.std.proofs.Common.{◌∙◌, ap, arith}
use Rattle.fish_rule.specs.SeatSteps.{split_left}
use Rattle.tests_log.proofs.SeatLemmas.{all_three}
use Rattle.tests_log.specs.Lanes.{IsOutOf}
use Rattle.tests_log.specs.declared.seats.Seat.{Seat}
use Rattle.tests_log.proofs.seats.split_three.Goals as goal

pub returns-clause-left : goal.returns-clause-left
returns-clause-left c =
    c.split_seat-fourth.ensures.left
    ∙ ap (split_left 4) (c.split_seat-third.ensures.left ∙ ap (split_left 3) c.split_seat-second.ensures.left)

pub returns-clause-seats : goal.returns-clause-seats
returns-clause-seats c = record {
  all = all_three (λ (seat : Seat). IsOutOf c.args.log.now seat.pass) _ _ _ c.split_seat-second.ensures.seat
      c.split_seat-third.ensures.seat c.split_seat-fourth.ensures.seat;
  some = omega arith;
}
