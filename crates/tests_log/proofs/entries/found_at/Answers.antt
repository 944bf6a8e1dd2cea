-- The look found the record, and either call leaves a pass of the log.
use Rattle.std.proofs.Common.{subst, sym, ◌∙◌}
use Rattle.fish_rule.specs.Passes.{IsPassOf, view}
use Rattle.fish_walk.proofs.Records.{stored_law}
use Rattle.tests_log.proofs.entries.found_at.Goals as goal
use Rattle.tests_log.proofs.entries.found_at.Goals.{in-Stored+in_ok-entry+else-not-same, in_default}

pub returns : goal.returns
returns g c =
    elim c.match-found.branch [
      | in-Stored+in_ok-entry+else-not-same w ↦
          subst (IsPassOf c.args.log.now) (sym w.pass-is) w.read_entry.ensures.pass
      | in_default w ↦ subst (IsPassOf c.args.log.now) (sym w.pass-is) c.look-found.ensures.pass
    ]

pub read_entry-requires-clause-stored : goal.read_entry-requires-clause-stored
read_entry-requires-clause-stored g c =
    let told = c.look-found.ensures.view in
    stored_law (view c.count_now-count.new.pass) (view c.look-found.new.pass) c.args.number told.0 told.1 told.2
    (sym c.in-Stored.is ∙ told.3)
