-- An image has one commit, and a body tells one.
use Rattle.fish_store.proofs.Kept.{stays_carried}
use Rattle.fish_store.proofs.law.law_carried.Goals as goal

pub returns : goal.returns
returns c = stays_carried
