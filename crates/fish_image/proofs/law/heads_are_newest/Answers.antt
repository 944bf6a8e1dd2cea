-- Key entries stand in the order of their positions.
use Rattle.fish_image.proofs.Newest.{agrees_lower, agrees_newest}
use Rattle.fish_image.proofs.law.heads_are_newest.Goals as goal

pub returns-clause-newest : goal.returns-clause-newest
returns-clause-newest c = agrees_newest

pub returns-clause-lower : goal.returns-clause-lower
returns-clause-lower c = agrees_lower
