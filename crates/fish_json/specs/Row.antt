-- What callers know of a record that was read over a tape.
use Rattle.std.specs.Prelude.{unwrap_or}
use Rattle.serde_json.specs.Data.{Data, null}
use Rattle.fish_json.specs.Tape.{data_at}
use Rattle.fish_json.specs.declared.row.JsonRow.{JsonRow}

-- the object that was read
unfoldable pub row_contents : JsonRow → Data
row_contents r = unwrap_or (data_at r.tape) null
