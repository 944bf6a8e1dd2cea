-- What a payload has, from the record that it is.
use Rattle.std.proofs.Common.{◌≡◌, ℕ, List, Option, Some, None, Bool, true, false, if◌then◌else◌, option_and_then, nat_le, length, ap}
use Rattle.std.specs.Prelude.{IsUtf8}
use Rattle.std.specs.Str.{is_utf8}
use Rattle.std.proofs.lemmas.Str.{IsUtf8-from_is_utf8}
use Rattle.serde_json.specs.Data.{Data}
use Rattle.serde_json.specs.Read.{read}
use Rattle.fish_value.specs.Json.{reading}
use Rattle.fish_json.specs.Reading.{at_path, items, items_in, items_of, json_field, json_field_in, json_field_of, if_object, record_of}
use Rattle.fish_value.specs.Limits.{longest_payload}

-- what a payload has at a path is what its record has there
pub field_of_record : (b : List ℕ) (path : List (List ℕ)) (d : Data) → record_of b ≡ Some d
    → json_field b path ≡ json_field_in path d
unfolding json_field json_field_in
field_of_record b path d e = ap (λ r. json_field_of (option_and_then (at_path path) r)) e

-- and the elements at a path are those of the payload
pub items_of_record : (b : List ℕ) (path : List (List ℕ)) (d : Data) → record_of b ≡ Some d
    → items b path ≡ items_in path d
unfolding items items_in
items_of_record b path d e = ap (λ r. items_of (option_and_then (at_path path) r)) e

tested : (short text : Bool) (o : Option Data) (d : Data)
    → (if short then option_and_then if_object (if text then o else None) else None) ≡ Some d → text ≡ true
tested true true o d e = cc
tested true false o d e = cc
tested false text o d e = cc

-- a record's bytes are a text
pub record_is_text : (b : List ℕ) (d : Data) → record_of b ≡ Some d → IsUtf8 b
unfolding record_of reading
record_is_text b d e = IsUtf8-from_is_utf8 b (tested (nat_le (length b) longest_payload) (is_utf8 b) (read b) d e)
