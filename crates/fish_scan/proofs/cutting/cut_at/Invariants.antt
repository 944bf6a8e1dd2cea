-- The parts of the pieces so far.
use Rattle.std.proofs.Common.{◌≡◌, take}
use Rattle.std.specs.List.{filter_map}
use Rattle.fish_scan.specs.Cutting.{above_of, below_of}
use Rattle.fish_scan.proofs.cutting.cut_at.Given as goal

abbrev pub invariant-loop-piece : goal.invariant-loop-piece
invariant-loop-piece l = record {
  upper : l.above.items ≡ filter_map (above_of l.base) (take l.piece-index l.pieces);
  lower : l.below.items ≡ filter_map (below_of l.base) (take l.piece-index l.pieces);
}
