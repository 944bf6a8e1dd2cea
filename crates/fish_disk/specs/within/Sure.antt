-- A disk with room that never fails. What private clauses need of it.
use Rattle.std.specs.Prelude.{ℕ, List, length, take, nat_le, if◌then◌else◌}
use Rattle.fish_disk.specs.Content.{put_at}

-- bytes with a piece put over those from `at` on, as far as they fit the room. A piece that begins
-- past the end is dropped
abbrev pub kept_with : ℕ → ℕ → List ℕ → List ℕ → List ℕ
kept_with room at piece bytes =
    if nat_le at (length bytes) then take room (put_at at piece bytes) else bytes
