-- Readings of bytes, with and without UTF-8.
use Rattle.std.proofs.Common.{◌≡◌, ℕ, List, refl}
use Rattle.std.specs.Prelude.{None, if◌then◌else◌, true, false, IsUtf8}
use Rattle.std.specs.Str.{is_utf8}
use Rattle.std.proofs.lemmas.Str.{IsUtf8-from_is_utf8, is_utf8-from_IsUtf8}
use Rattle.serde_json.specs.Read.{read}
use Rattle.fish_value.specs.Json.{reading}

-- of a text, the reading is that of `serde_json`
pub reading_of_text : (b : List ℕ) → IsUtf8 b → reading b ≡ read b
unfolding reading
reading_of_text b text = rw (is_utf8-from_IsUtf8 b text)

-- of bytes that are no text, there is none
pub reading_of_other : (b : List ℕ) → ¬ (IsUtf8 b) → reading b ≡ None
unfolding reading
reading_of_other b other =
    elim (is_utf8 b) as (λ t. is_utf8 b ≡ t → (if t then read b else None) ≡ None) [
      | true ↦ λ e. absurd (other (IsUtf8-from_is_utf8 b e))
      | false ↦ λ _. refl
    ] refl
