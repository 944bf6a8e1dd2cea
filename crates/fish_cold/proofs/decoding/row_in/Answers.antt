-- The record's words are before its key entry.
use Rattle.std.proofs.Common.{arith}
use Rattle.fish_cold.proofs.RegionHeads.{node_room}
use Rattle.fish_cold.proofs.decoding.row_in.Goals as goal

pub returns-then-words-at-clause-entry : goal.returns-then-words-at-clause-entry
returns-then-words-at-clause-entry g c line p k h =
    let room = (node_room c.args.words.now c.args.at line p c.args.node.now.key k h).within in
    let few = c.if-words-at.true in
    absurd (omega arith)

pub returns-in-None-clause-entry : goal.returns-in-None-clause-entry
returns-in-None-clause-entry g c line p k h = absurd ((rw c.in-None.is at c.rest_around.ensures.rest) line h.at)
