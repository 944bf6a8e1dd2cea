-- The page starts so far.
use Rattle.std.proofs.Common.{◌≡◌, take}
use Rattle.fish_recover.proofs.table.copied_starts.Given as goal

-- the page starts so far
abbrev pub invariant-loop-start : goal.invariant-loop-start
invariant-loop-start l = l.copy ≡ take l.start-index l.starts
