-- The record's words are whole, and are before its key entry.
use Rattle.std.proofs.Common.{sym, subst}
use Rattle.fish_cold.specs.within.Regions.{IsRegionWhole}
use Rattle.fish_cold.proofs.RegionHeads.{node_room}
use Rattle.fish_cold.proofs.decoding.key_around.Goals as goal

pub returns-in_default : goal.returns-in_default
returns-in_default c line p k h = absurd ((rw c.in_default.is at c.rest_around.ensures.rest) line h.at)

pub returns-in_default-region_in : goal.returns-in_default-region_in
returns-in_default-region_in c line p k h =
    let rest = (rw c.in-Some.is at c.rest_around.ensures.rest) line h.at in
    let none = rw c.in_default-region_in.is at c.region_in.ensures in
    absurd (none (subst IsRegionWhole (sym rest) (node_room c.args.words.now c.args.at line p c.args.key k h).whole))
