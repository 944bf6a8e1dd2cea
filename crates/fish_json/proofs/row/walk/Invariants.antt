-- Whatever data the value stands for: from here the names that are left lead where all names lead from the value.
use Rattle.std.proofs.Common.{◌≡◌, drop}
use Rattle.serde_json.specs.Data.{Data}
use Rattle.fish_json.specs.Reading.{at_path}
use Rattle.fish_json.specs.within.Tape.{StandsForData}
use Rattle.fish_json.proofs.row.walk.Given as goal

abbrev pub invariant-loop-name : goal.invariant-loop-name
invariant-loop-name l =
    (d : Data) → StandsForData l.fn.value d
    → (e : Data) × StandsForData l.found e × (at_path l.steps d ≡ at_path (drop l.name-index l.steps) e)
