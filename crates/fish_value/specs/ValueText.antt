-- The texts of values.
use Rattle.std.specs.Prelude.{ℕ, ◌&&◌, ◌==◌, ◌-◌, ℤ, List, Bool, true, false, nat_le, nat_lt, Option, Some, None}
use Rattle.std.specs.Prelude.{option_and_then, length, slice_index, if◌then◌else◌}
use Rattle.std.specs.Fmt.{signed_decimal}
use Rattle.std.specs.Str.{bytes_eq}
use Rattle.std.specs.Str.Parse.{true_text, false_text}
use Rattle.serde_json.specs.Data.{Data}
use Rattle.serde_json.specs.Find.{as_str}
use Rattle.fish_value.specs.Json.{quoted, reading}
use Rattle.fish_value.specs.Limits.{longest_value}
use Rattle.fish_value.specs.Number.{int_of}
use Rattle.fish_value.specs.declared.value.Value.{Value}
use Rattle.fish_value.specs.declared.value.Value.TheVariants as kind

-- the text of a value: `true`, `false`, the decimal, or the JSON string
abbrev pub value_print : Value → List ℕ
value_print (kind.Bool true) = true_text
value_print (kind.Bool false) = false_text
value_print (kind.Int n) = signed_decimal n
value_print (kind.Text s) = quoted s

-- a text as a value: none over 256 bytes
abbrev pub text_value : List ℕ → Option Value
text_value s = if nat_le (length s) longest_value then Some (kind.Text s) else None

-- the text begins and ends with a quotation mark
abbrev pub is_quoted : List ℕ → Bool
is_quoted b = nat_lt 1 (length b) && (slice_index b 0 == 34) && (slice_index b (length b - 1) == 34)

-- the value that a JSON string stands for
abbrev pub string_value : Option Data → Option Value
string_value d = option_and_then text_value (option_and_then as_str d)

-- a whole number where there is one, else the JSON string that the text is
abbrev pub int_or_string : Option ℤ → List ℕ → Option Value
int_or_string (Some n) b = Some (kind.Int n)
int_or_string None b = if is_quoted b then string_value (reading b) else None

-- the value that a text stands for: `true`, `false`, a whole number, or a JSON string of at most 256 bytes when read
unfoldable pub value_text : List ℕ → Option Value
value_text b = if bytes_eq b true_text then Some (kind.Bool true) else
    (if bytes_eq b false_text then Some (kind.Bool false) else int_or_string (int_of b) b)
