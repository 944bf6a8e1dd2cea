-- The row is one of 256, and its word is told by its place.
use Rattle.std.proofs.Common.{arith, inr, refl}
use Rattle.fish_rule.proofs.laws.Versions.{row_law}
use Rattle.fish_rule.specs.Passes.{view}
use Rattle.fish_rule.proofs.registry.load_row.Goals as goal

pub overflow_mul-id : goal.overflow_mul-id
overflow_mul-id c =
    let few = row_law (view c.args.pass.now) c.args.id c.requires.pass.stands c.requires.row in omega arith

pub overflow_add-id : goal.overflow_add-id
overflow_add-id c =
    let few = row_law (view c.args.pass.now) c.args.id c.requires.pass.stands c.requires.row in omega arith

pub overflow_add-id-2 : goal.overflow_add-id-2
overflow_add-id-2 c =
    let few = row_law (view c.args.pass.now) c.args.id c.requires.pass.stands c.requires.row in omega arith

-- the word lasts
pub load_registry-requires-clause-view : goal.load_registry-requires-clause-view
load_registry-requires-clause-view c =
    inr (inr (c.args.id, c.args.place, c.requires.row, c.requires.place.0, c.requires.place.1, refl))

-- a row of the start has its words
pub returns-clause-row : goal.returns-clause-row
returns-clause-row c row there =
    c.load_registry.ensures.row c.args.id c.args.place row there c.requires.place.0 c.requires.place.1 refl
