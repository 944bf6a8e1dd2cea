-- The first bytes were mixed in.
use Rattle.std.proofs.Common.{◌≡◌, ◌+◌}
use Rattle.std.specs.Prelude.{map, slice_index}
use Rattle.std.specs.List.{range_with_len}
use Rattle.fish_layout.specs.Bucket.{byte_behind}
use Rattle.fish_layout.specs.Hash.{fnv1a_behind}
use Rattle.fish_flush.proofs.bucket.mix_value.Given as goal

-- the first bytes were mixed in
abbrev pub invariant-loop-j : goal.invariant-loop-j
invariant-loop-j l = l.mixed
    ≡ fnv1a_behind l.hash (map (λ j. byte_behind (slice_index l.words) l.behind (l.from + j)) (range_with_len 0 l.j))
