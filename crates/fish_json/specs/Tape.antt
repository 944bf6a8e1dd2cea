-- What the tokens of a tape stand for, as the data that `serde_json` reads from the same text.
use Rattle.std.specs.Prelude.{List, Option, option_map}
use Rattle.std.specs.Prelude.{option_and_then}
use Rattle.json.specs.Token.{Token}
use Rattle.json.specs.Json as json
use Rattle.serde_json.specs.Data.{Data}
use Rattle.serde_json.specs.Read.{max_depth, of_json}

-- the data that tokens begin with, where it is data
unfoldable pub data_at : List Token → Option Data
data_at ts = option_and_then of_json (option_map (λ p. p.0) (json.value json.max_depth ts))
