-- What the records of a sample are.
use Rattle.std.specs.Prelude.{ℕ, ◌*◌, ◌%◌, ◌^◌, List, ◌++◌, codes, decimal}

-- the key of a number: its product with a factor, modulo 2^32, and of that what is left past whole thousands
abbrev pub sample_key : ℕ → ℕ
sample_key n = ((n * 2654435761) % 2 ^ 32) % 1000

-- `{"type":"TK","n":N,"k":K}`
unfoldable pub sample_text : ℕ → List ℕ
sample_text n =
    codes "{\"type\":\"T" ++ (decimal (n % 7) ++ (codes "\",\"n\":" ++ (decimal n ++ (codes ",\"k\":" ++ (decimal (sample_key n) ++ codes "}")))))
