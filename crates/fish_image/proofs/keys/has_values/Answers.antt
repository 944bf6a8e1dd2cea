-- Where the index covers the record all values are wanted, and else some.
use Rattle.std.proofs.Common.{rules}
use Rattle.fish_image.specs.Log.{values_under}
use Rattle.fish_image.proofs.RowValues.{all_wanted, some_wanted}
use Rattle.fish_image.proofs.keys.has_values.Goals as goal
use Rattle.fish_image.proofs.keys.has_values.Goals.{then-covered, else-covered}

pub returns : goal.returns
returns g c =
    let are = c.in_ok-given.ensures in
    let vs = values_under c.args.id c.args.keys.now in
    elim c.if-covered.branch [
      | then-covered w ↦
          (let l = all_wanted c.args.row.now c.args.number (g.R.Parsed.fields c.args.rec.now) vs _ are (search rules) in
          (λ yes. l.0 (search rules), λ h. let e = l.1 h in search rules))
      | else-covered w ↦
          (let l = some_wanted c.args.row.now c.args.number (g.R.Parsed.fields c.args.rec.now) vs _ are (λ covers. search rules) in
          (λ yes. l.0 (search rules), λ h. let e = l.1 h in search rules))
    ]
