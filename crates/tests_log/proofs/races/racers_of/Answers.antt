-- Each pass is out.
use Rattle.std.proofs.Common.{arith}
use Rattle.tests_log.proofs.SeatLemmas.{all_three}
use Rattle.tests_log.specs.Lanes.{IsOutOf}
use Rattle.tests_log.specs.declared.races.Racer.{Racer}
use Rattle.tests_log.proofs.races.racers_of.Goals as goal

pub returns : goal.returns
returns c = record {
  all = all_three (λ (racer : Racer). IsOutOf c.args.log.now racer.seat.pass) _ _ _ c.racer_of.ensures c.racer_of-2.ensures
      c.racer_of-3.ensures;
  some = omega arith;
}
