-- The parts are those that were opened.
use Rattle.std.proofs.Common.{refl}
use Rattle.fish_store.proofs.store.Store.of_opened.Goals as goal

pub returns : goal.returns
returns c = record { log = refl; pass = refl; first = c.new.ensures.knows; rows = c.new.ensures.rows; flusher = refl; cold = refl }
