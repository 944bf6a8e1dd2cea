-- The lines up to some line were given to the checker.
use Rattle.std.proofs.Common.{◌≡◌, ◌+◌, ◌-◌, ◌%◌, ◌<◌, ◌≤◌}
use Rattle.std.specs.Prelude.{IfSome}
use Rattle.fish_disk.specs.Content.{StillReads}
use Rattle.fish_disk.specs.Crash.{LeavesOnly}
use Rattle.fish_image.specs.Checking.{HasSeen, IsChecker}
use Rattle.fish_recover.specs.Opening.{pages_of}
use Rattle.fish_recover.specs.within.Opening.{HasReadLines, first_words}
use Rattle.fish_recover.proofs.lines.check_lines.Given as goal

-- the lines up to some line were given to the checker, and the disk was only read
abbrev pub invariant-loop-line : goal.invariant-loop-line
invariant-loop-line g l = record {
  upto : l.line ≤ l.commit.lines;
  checker : IsChecker l.checker;
  seen : IfSome (g.D.Disk.content l.disk) (λ c. HasSeen l.commit l.checker (first_words l.line c));
  read : HasReadLines l.commit l.checker l.line;
  content : StillReads (g.D.Disk.content l.fn.disk) (g.D.Disk.content l.disk);
  crash : LeavesOnly g.D.Disk.images g.D.Disk.since g.D.Disk.moment l.fn.disk l.disk (g.D.Disk.images l.fn.disk);
  whole : l.line < l.commit.lines → l.line % 32768 ≡ 0;
  calls : g.D.Disk.moment l.disk ≤ g.D.Disk.moment l.fn.disk + pages_of l.line;
  faults : g.D.Disk.faults l.fn.disk ≤ g.D.Disk.faults l.disk;
}

abbrev pub decreases-loop-line : goal.decreases-loop-line
decreases-loop-line g l = l.commit.lines - l.line
