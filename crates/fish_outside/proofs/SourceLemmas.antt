-- A source in memory gives the next bytes and goes on after them.
use Rattle.std.proofs.Common.{◌≡◌, ℕ, ◌+◌, ◌<◌, List, [], ◌++◌, length, take, drop, sym, arith, length-drop}
use Rattle.std.specs.Prelude.{min}
use Rattle.std.proofs.lemmas.List.{drop-drop, take-append-drop, nil_from_length}

-- what is left is the bytes that are given, and then what is left after them
pub drop-given : (at count : ℕ) (bytes given : List ℕ) →
    given ≡ take count (drop at bytes) → drop at bytes ≡ given ++ drop (at + count) bytes
drop-given at count bytes given same =
    rw (same, ← drop-drop count at bytes) (sym (take-append-drop count (drop at bytes)))

-- where there is room and nothing is given, nothing is left
pub drop-end : (at count room : ℕ) (bytes : List ℕ) →
    count ≡ min (length (drop at bytes)) room → 0 < room → count ≡ 0 → drop (at + count) bytes ≡ []
drop-end at count room bytes most some none =
    nil_from_length (drop (at + count) bytes)
    (omega (arith, length-drop (at + count) bytes, length-drop at bytes))
