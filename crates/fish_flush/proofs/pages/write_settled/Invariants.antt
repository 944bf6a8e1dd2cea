-- The regions below a number were copied, and those of full pages are written.
use Rattle.std.proofs.Common.{◌≤◌}
use Rattle.fish_rule.specs.Logs.{Extends}
use Rattle.fish_rule.specs.Passes.{IsPassOf, view}
use Rattle.fish_flush.proofs.PageTurns.{IsTurn}
use Rattle.fish_flush.proofs.pages.write_settled.Given as goal

-- the regions below a number were copied, and those of full pages are written
abbrev pub invariant-loop-number : goal.invariant-loop-number
invariant-loop-number g l = record {
  of : IsPassOf l.log l.pass;
  extends : Extends (view l.fn.pass) (view l.pass);
  settled : l.to ≤ (view l.pass).learned.settled;
  counted : l.to ≤ (view l.pass).learned.count;
  turn : IsTurn g.D.Disk.content g.D.Disk.images g.D.Disk.since g.D.Disk.moment g.D.Disk.faults l.fn.disk (view l.fn.pass)
      l.log.key.end l.from l.to l.fn.batch (view l.pass) l.number l.batch l.disk;
}
