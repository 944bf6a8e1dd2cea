-- The row is one of 256, and its words spell its definition.
use Rattle.std.proofs.Common.{arith}
use Rattle.std.specs.Prelude.{slice_index}
use Rattle.fish_epoch.proofs.Outcomes.{ok_map}
use Rattle.fish_epoch.proofs.Reading.{row_read}
use Rattle.fish_rule.proofs.laws.Versions.{row_law}
use Rattle.fish_rule.specs.Passes.{view}
use Rattle.fish_epoch.proofs.rows.registered_row.Goals as goal

pub overflow_cast-id : goal.overflow_cast-id
overflow_cast-id c =
    let few = row_law (view c.args.pass.now) c.args.id c.requires.pass.stands c.requires.row in omega arith

pub returns-clause-row : goal.returns-clause-row
returns-clause-row c = ok_map c.read_row.result (λ l is. row_read (view c.read_words-words.new.pass) c.args.id
    (slice_index c.read_words-words.result) l c.read_words-words.ensures.words is) c.read_row.ensures
