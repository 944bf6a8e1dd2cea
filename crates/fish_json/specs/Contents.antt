-- What callers know of a record that was read.
use Rattle.serde_json.specs.Data.{Data}
use Rattle.serde_json.specs.View.{view}
use Rattle.fish_json.specs.declared.record.JsonRecord.{JsonRecord}

-- the object that was read
unfoldable pub contents : JsonRecord → Data
contents r = view r.value
