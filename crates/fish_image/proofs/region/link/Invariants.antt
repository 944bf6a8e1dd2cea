-- The first key entries are linked.
use Rattle.std.proofs.Common.{◌≡◌, ℕ, List, length}
use Rattle.fish_image.specs.Progress.{AreHeads}
use Rattle.fish_image.proofs.Regions.{IsLinkedTo}
use Rattle.fish_image.proofs.region.link.Given as goal

-- the first key entries are linked
abbrev pub invariant-loop-c : goal.invariant-loop-c
invariant-loop-c l = record {
  size : length l.heads.items ≡ length l.fn.heads.items;
  linked : (places : List (ℕ × ℕ)) → AreHeads (length l.fn.heads.items) places l.fn.heads.items
      → (q : List (ℕ × ℕ)) × IsLinkedTo (length l.fn.heads.items) l.line l.c l.keys places q l.heads.items;
}
