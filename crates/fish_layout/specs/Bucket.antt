-- The bucket of a key entry, from the words of its record.
use Rattle.std.specs.Prelude.{ℕ, ◌+◌, ◌/◌, ◌%◌, ◌^◌, List, ◌++◌, map}
use Rattle.std.specs.Int.{to_le_bytes}
use Rattle.std.specs.Int.Width.{w16}
use Rattle.std.specs.List.{range_with_len}
use Rattle.fish_layout.specs.Cleared.{entry_at}
use Rattle.fish_layout.specs.Entry.{entry_id, value_offset, value_size}
use Rattle.fish_layout.specs.Hash.{bucket_in, fnv1a}
use Rattle.fish_layout.specs.Header.{keys_of}

-- byte o of the words from one on, low byte first
abbrev pub byte_behind : (ℕ → ℕ) → ℕ → ℕ → ℕ
byte_behind e at o = e (at + o / 8) / 256 ^ (o % 8) % 256

-- the bytes of the value of key entry c: so many from its offset on, among those after the key entries
abbrev pub value_in : (ℕ → ℕ) → ℕ → List ℕ
value_in e c =
    map (λ j. byte_behind e (entry_at (keys_of (e 0))) (value_offset (e (entry_at c + 2)) + j))
    (range_with_len 0 (value_size (e (entry_at c + 2))))

-- the bucket of key entry c among so many: that of the hash of its id's and its value's bytes
unfoldable pub bucket_of : ℕ → (ℕ → ℕ) → ℕ → ℕ
bucket_of buckets e c = bucket_in (fnv1a (to_le_bytes w16 (entry_id (e (entry_at c + 1))) ++ value_in e c)) buckets
