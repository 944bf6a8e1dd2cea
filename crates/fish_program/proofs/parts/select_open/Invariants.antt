-- What was selected from the parts so far is so of the file; each part takes from the room that is left.
use Rattle.std.specs.Prelude.{IsSome}
use Rattle.fish_feed.specs.OpenFiles.{CanRead}
use Rattle.fish_program.specs.within.Selecting.{HasSelected}
use Rattle.fish_program.proofs.parts.select_open.Given as goal

abbrev pub invariant-loop-found : goal.invariant-loop-found
invariant-loop-found g l = record {
  selected : HasSelected g.F.Source.left (g.F.Source.left l.fn.file.feed) l.command l.file l.found;
  can : CanRead g.F.Source.faults l.file;
  told : IsSome (g.F.Source.left l.file.feed) → IsSome (g.F.Source.left l.fn.file.feed);
}

abbrev pub decreases-loop-found : goal.decreases-loop-found
decreases-loop-found g l = l.file.room
