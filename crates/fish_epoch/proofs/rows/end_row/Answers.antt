-- The definition at the position of the id ends, or there is none.
use Rattle.std.proofs.Common.{◌∙◌, ℕ, ap, arith, get_or, set}
use Rattle.fish_catalog.specs.Listing.{ended}
use Rattle.fish_epoch.proofs.Ended.{ended_here, ended_none}
use Rattle.fish_epoch.proofs.rows.end_row.Goals as goal

pub returns-then-position-rows : goal.returns-then-position-rows
returns-then-position-rows c =
    let ls = c.args.rows.now in
    let at = c.from-position.ensures in
    let less = c.if-position-rows.true in
    ap (λ (z : ℕ). set ls z (ended (get_or ls z c.index-rows-position.result))) at
    ∙ ended_here ls c.requires c.args.id c.index-rows-position.result (omega arith)

pub returns-else-position-rows : goal.returns-else-position-rows
returns-else-position-rows c =
    let at = c.from-position.ensures in
    let more = c.if-position-rows.false in
    ended_none c.args.rows.now c.requires c.args.id (omega arith)
