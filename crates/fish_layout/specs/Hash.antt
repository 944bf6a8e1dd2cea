-- FNV-1a of 64 bits, by Fowler, Noll and Vo, and the hash of a key by it.
use Rattle.std.specs.Prelude.{ℕ, ◌*◌, ◌%◌, ◌^◌, List, ◌++◌, bit_xor}
use Rattle.std.specs.Int.{to_le_bytes}
use Rattle.std.specs.Int.Width.{w16}
use Rattle.std.specs.List.{fold}
use Rattle.fish_layout.specs.Values.{value_bytes}
use Rattle.fish_value.specs.declared.value.Value.{Value}

-- one byte more: exclusive-or with the byte, and then the product modulo 2^64
abbrev pub fnv_step : ℕ → ℕ → ℕ
fnv_step hash byte = (bit_xor hash byte * 1099511628211) % 2 ^ 64

-- the hash of bytes after those that gave this hash
abbrev pub fnv1a_behind : ℕ → List ℕ → ℕ
fnv1a_behind hash bytes = fold fnv_step hash bytes

-- the hash of bytes
abbrev pub fnv1a : List ℕ → ℕ
fnv1a bytes = fnv1a_behind 14695981039346656037 bytes

-- the hash of a key: the id's two bytes, low byte first, and then the value's
abbrev pub key_hash_of : ℕ → Value → ℕ
key_hash_of id value = fnv1a (to_le_bytes w16 id ++ value_bytes value)

-- the bucket of a hash, of so many
abbrev pub bucket_in : ℕ → ℕ → ℕ
bucket_in hash buckets = hash % buckets
