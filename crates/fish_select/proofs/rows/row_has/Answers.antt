-- What the row that was read has is what its text has.
use Rattle.std.proofs.lemmas.Result.{IfOk-weaker}
use Rattle.fish_lang.specs.Definition.{definition_of}
use Rattle.fish_select.proofs.RowLemmas.{row_counts}
use Rattle.fish_select.proofs.rows.row_has.Goals as goal

pub returns-in-Ok : goal.returns-in-Ok
returns-in-Ok c =
    let def = definition_of c.args.def.now in
    IfOk-weaker c.gives-has.result _ _
    (λ has same. row_counts def c.args.value.now c.args.text.now _ has c.in-Ok.ensures.ok same)
    c.gives-has.ensures.test
