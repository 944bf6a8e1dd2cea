-- The files of a sample's lanes.
use Rattle.std.specs.Prelude.{ℕ, ◌++◌, List, [], ◌∷◌}
use Rattle.std.specs.List.{flat_map}
use Rattle.fish_gen.specs.Sample.{sample_text}

-- the line of a record, which ends by LF
abbrev pub line_of : ℕ → List ℕ
line_of i = sample_text i ++ 10 ∷ []

-- those of records, in order
abbrev pub sample_lines : List ℕ → List ℕ
sample_lines numbers = flat_map line_of numbers
