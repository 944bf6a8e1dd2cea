-- The bytes of one value, from the words in which they lie.
use Rattle.std.proofs.Common.{◌≡◌, ℕ, ◌+◌, ◌-◌, ◌*◌, ◌/◌, ◌%◌, ◌<◌, ◌≤◌, List, ◌++◌, length, take, drop}
use Rattle.std.proofs.Common.{refl, sym, ap, ◌∙◌, arith, drop-drop, take-take}
use Rattle.std.specs.Int.{to_le_bytes}
use Rattle.std.specs.Int.Width.{w64}
use Rattle.std.specs.List.{flat_map}
use Rattle.std.proofs.lemmas.Grind.{flat_map-append}
use Rattle.std.proofs.lemmas.List.{drop-take, length-take-le, take-append-drop}
use Rattle.std.proofs.Common.{length-drop}
use Rattle.fish_layout.proofs.Outlines.{range_from}
use Rattle.std.proofs.Math.Seq.{drop-append_seam}
use Rattle.fish_layout.specs.Bytes.{bytes_in, words_for}
use Rattle.fish_layout.proofs.Bytes.{length_words}

-- the bytes of the words after so many are those after eight times as many
drop_words : (n : ℕ) (ws : List ℕ) → n ≤ length ws →
    flat_map (to_le_bytes w64) (drop n ws) ≡ drop (8 * n) (flat_map (to_le_bytes w64) ws)
drop_words n ws room =
    let bytes = flat_map (to_le_bytes w64) in
    let whole : bytes (take n ws) ++ bytes (drop n ws) ≡ bytes ws =
    sym (flat_map-append (to_le_bytes w64) (take n ws) (drop n ws)) ∙ ap bytes (take-append-drop n ws) in
    let front : 8 * n ≡ length (bytes (take n ws)) =
    omega (arith, length_words (take n ws), length-take-le n ws room) in
    sym (drop-append_seam (bytes (take n ws)) (bytes (drop n ws)))
    ∙ ap (λ m. drop m (bytes (take n ws) ++ bytes (drop n ws))) (sym front)
    ∙ ap (drop (8 * n)) whole

-- so many bytes from one on, among more
part_of_more : (F : List ℕ) (from size n more : ℕ) → from + size ≡ n → take size (drop from (take (n + more) F)) ≡ take size (drop from F)
part_of_more F from size n more at =
    let longer : n + more ≡ from + (size + more) = omega arith in
    ap (λ m. take size (drop from (take m F))) longer
    ∙ ap (take size) (drop-take from (size + more) F)
    ∙ take-take size (size + more) (drop from F) (omega arith)

-- as many bytes as words have
pub length-bytes_in : (ws : List ℕ) (n : ℕ) → words_for n ≤ length ws → length (bytes_in ws n) ≡ n
length-bytes_in ws n room =
    length-take-le n (flat_map (to_le_bytes w64) ws) (omega (arith, length_words ws))

-- the bytes from one on, from the word in which it lies, are those among all
pub bytes_part : (ws : List ℕ) (from skip first size n : ℕ) → words_for n ≤ length ws → from + size ≤ n →
    from ≡ 8 * first + skip → skip < 8 →
    drop skip (bytes_in (drop first ws) (skip + size)) ≡ take size (drop from (bytes_in ws n))
bytes_part ws from skip first size n room within at low =
    let F = flat_map (to_le_bytes w64) ws in
    let behind : first ≤ length ws = omega arith in
    let more : from + size + (n - (from + size)) ≡ n = omega arith in
    ap (λ b. drop skip (take (skip + size) b)) (drop_words first ws behind)
    ∙ drop-take skip size (drop (8 * first) F)
    ∙ ap (take size) (drop-drop skip (8 * first) F ∙ ap (λ m. drop m F) (omega arith))
    ∙ sym (part_of_more F from size (from + size) (n - (from + size)) refl)
    ∙ ap (λ m. take size (drop from (take m F))) more

-- so many of the bytes lie after those that are skipped
pub behind_skip : (ws : List ℕ) (first skip size : ℕ) (bytes : List ℕ) → bytes ≡ bytes_in
    (take (length ws - first) (drop first ws)) (skip + size) →
    (words : ℕ) → words ≡ words_for (skip + size) → first + words ≤ length ws → skip ≤ length bytes
behind_skip ws first skip size bytes is words few room =
    omega (
      arith,
      ap length is,
      length-bytes_in (take (length ws - first) (drop first ws)) (skip + size)
          (omega (arith, ap length (range_from ws first), length-drop first ws)),
    )

-- the bytes after those that are skipped, in the words from the one in which an offset lies, are those at the offset
pub value_part : (ws : List ℕ) (skip_offset first_offset size n from many : ℕ) (bytes : List ℕ) →
    bytes ≡ bytes_in (take (length ws - first_offset / 8) (drop (first_offset / 8) ws)) (skip_offset % 8 + size) →
    skip_offset ≡ from → first_offset ≡ from → size ≡ many → from + many ≤ n → words_for n ≤ length ws →
    take (length bytes - skip_offset % 8) (drop (skip_offset % 8) bytes) ≡ take many (drop from (bytes_in ws n))
value_part ws skip_offset first_offset size n from many bytes is skip first sized within room =
    range_from bytes (skip_offset % 8)
    ∙ ap (drop (skip_offset % 8)) is
    ∙ ap (λ l. drop (skip_offset % 8) (bytes_in l (skip_offset % 8 + size))) (range_from ws (first_offset / 8))
    ∙ bytes_part ws from (skip_offset % 8) (first_offset / 8) size n room (omega arith) (omega arith) (omega arith)
    ∙ ap (λ m. take m (drop from (bytes_in ws n))) sized
