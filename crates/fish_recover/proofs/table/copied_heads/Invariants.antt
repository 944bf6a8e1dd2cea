-- The heads so far.
use Rattle.std.proofs.Common.{◌≡◌, take}
use Rattle.fish_recover.proofs.table.copied_heads.Given as goal

-- the heads so far
abbrev pub invariant-loop-head : goal.invariant-loop-head
invariant-loop-head l = l.copy ≡ take l.head-index l.heads
