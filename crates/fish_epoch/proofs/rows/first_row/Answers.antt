-- The row is one of 256, and its words spell its definition.
use Rattle.std.proofs.Common.{arith}
use Rattle.std.specs.Prelude.{slice_index}
use Rattle.fish_epoch.proofs.Reading.{first_known, first_listed}
use Rattle.fish_rule.proofs.laws.Versions.{row_law}
use Rattle.fish_rule.specs.Passes.{view}
use Rattle.fish_epoch.proofs.Outcomes.{ok_map}
use Rattle.fish_epoch.proofs.rows.first_row.Goals as goal

pub overflow_cast-id : goal.overflow_cast-id
overflow_cast-id c =
    let v = view c.args.pass.now in
    let few = row_law v c.args.id c.requires.pass.stands (first_known v c.args.id c.requires.there) in omega arith

pub returns-clause-row : goal.returns-clause-row
returns-clause-row c = ok_map c.read_row.result (λ l is. first_listed (view c.args.pass.now)
    (view c.read_words-words.new.pass) c.args.id (slice_index c.read_words-words.result) l c.active_in.result
    c.requires.pass.stands c.read_words-words.ensures.reads.extends.learns.about c.requires.there
    c.read_words-words.ensures.words c.active_in.ensures is) c.read_row.ensures
