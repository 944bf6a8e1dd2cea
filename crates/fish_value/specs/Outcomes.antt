-- What came of the lines or rows of a file: of each its payload, or none where it is refused.
use Rattle.std.specs.Prelude.{ℕ, List, Option, is_none, count_by}
use Rattle.std.specs.List.{filter_map}

-- the payloads that were accepted, in order
abbrev pub accepted : List (Option (List ℕ)) → List (List ℕ)
accepted os = filter_map (λ o. o) os

-- how many lines or rows were refused
abbrev pub refused : List (Option (List ℕ)) → ℕ
refused os = count_by is_none os
