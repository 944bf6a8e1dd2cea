-- JSON as the kit's `serde_json` reads it, and JSON strings as it writes them (RFC 8259).
use Rattle.std.specs.Prelude.{ℕ, List, Option, None, if◌then◌else◌}
use Rattle.std.specs.Str.{is_utf8}
use Rattle.serde_json.specs.Data.{Data, string}
use Rattle.serde_json.specs.Read.{read}
use Rattle.serde_json.specs.Written.{compact_text}

-- the JSON that bytes are: none where they are not UTF-8, or where `serde_json` has no reading of them
unfoldable pub reading : List ℕ → Option Data
reading b = if is_utf8 b then read b else None

-- a text as the JSON string that `serde_json` writes for it
unfoldable pub quoted : List ℕ → List ℕ
quoted s = compact_text (string s)
