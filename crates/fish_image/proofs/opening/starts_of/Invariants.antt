-- The page starts so far.
use Rattle.std.proofs.Common.{◌≡◌, take}
use Rattle.fish_image.proofs.opening.starts_of.Given as goal

-- the page starts so far
abbrev pub invariant-loop-start : goal.invariant-loop-start
invariant-loop-start l = l.starts ≡ take l.start-index l.at.starts.items
