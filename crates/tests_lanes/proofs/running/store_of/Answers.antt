-- A store that was opened is between two blocks.
use Rattle.fish_lanes.proofs.Beginning.{between_opened}
use Rattle.tests_lanes.proofs.running.store_of.Goals as goal

pub returns-in-Ok : goal.returns-in-Ok
returns-in-Ok g c =
    let h = c.in-Ok.ensures.opened in (
      c.of_opened.result.log.key.number,
      between_opened g.D.Disk c.open_store.new.disk h.commit h.log c.in-Ok.opened h.opened c.of_opened.result c.of_opened.ensures,
    )
