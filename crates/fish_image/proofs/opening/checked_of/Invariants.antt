-- The heads so far.
use Rattle.std.proofs.Common.{◌≡◌, take}
use Rattle.fish_image.proofs.opening.checked_of.Given as goal

-- the heads so far
abbrev pub invariant-loop-head : goal.invariant-loop-head
invariant-loop-head l = l.heads ≡ take l.head-index l.at.heads.items
