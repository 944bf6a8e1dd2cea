-- The entries that the words of a log spell.
use Rattle.std.specs.Prelude.{ℕ, ◌+◌, ◌*◌, zero, suc, List, drop, map, slice_index}
use Rattle.std.specs.List.{range_with_len}
use Rattle.std.proofs.Math.Decide.{ℕ_discrete}
use Rattle.fish_catalog.specs.declared.entry.Entry.{Entry}
use Rattle.fish_catalog.specs.declared.entry.Entry.TheVariants as entry
use Rattle.fish_layout.specs.Bytes.{bytes_in, words_for}
use Rattle.fish_layout.specs.Cleared.{choose, entry_at}
use Rattle.fish_layout.specs.Entry.{value_offset, value_size}
use Rattle.fish_layout.specs.Header.{form_of, keys_of, lane_of, length_of, lines_of}
use Rattle.fish_rule.specs.Regions.{code}
use Rattle.fish_rule.specs.World.{high, low}
use Rattle.fish_rule.specs.declared.view.Kind.TheVariants.{Void}
use Rattle.fish_value.specs.declared.field.Form.{Form}
use Rattle.fish_value.specs.declared.field.Form.TheVariants.{Json, Csv}

-- how many bytes the values of a record with n key entries have: its last entry says where they end
abbrev pub values_in : List ℕ → ℕ → ℕ
values_in words zero = 0
values_in words (suc n) = value_offset (slice_index words (3 * suc n)) + value_size (slice_index words (3 * suc n))

-- the payload of a record, which comes after its values
abbrev pub payload_in : List ℕ → List ℕ
payload_in words =
    bytes_in (drop (entry_at (keys_of (slice_index words 0))
    + words_for (values_in words (keys_of (slice_index words 0)))) words) (length_of (slice_index words 0))

-- the form with a code
abbrev pub form_with : ℕ → Form
form_with c = choose (ℕ_discrete c 1) Csv Json

-- the entry that the words of a record are
unfoldable pub record_in : List ℕ → Entry
record_in words = entry.Stored (lane_of (slice_index words 0)) (form_with (form_of (slice_index words 0)))
    (payload_in words)

-- the words of the region at a line, as many as its header says
abbrev pub region_at : (ℕ → ℕ) → ℕ → List ℕ
region_at log line = map (λ i. log (line * 4 + i)) (range_with_len 0 (lines_of (log (line * 4 + 0)) * 4))

-- the entry at number n, by its directory word and the words of the log
unfoldable pub entry_in : (ℕ → ℕ) → (ℕ → ℕ) → ℕ → Entry
entry_in dir log n = choose (ℕ_discrete (high (dir n)) (code Void)) entry.Void (record_in (region_at log (low (dir n))))

-- so many entries, from a number on
abbrev pub entries_in : (ℕ → ℕ) → (ℕ → ℕ) → ℕ → ℕ → List Entry
entries_in dir log base count = map (λ i. entry_in dir log (base + i)) (range_with_len 0 count)
