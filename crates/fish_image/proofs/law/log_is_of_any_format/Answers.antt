-- Nothing that is asked of the words names the format.
use Rattle.fish_image.proofs.Formats.{stands_other}
use Rattle.fish_image.proofs.law.log_is_of_any_format.Goals as goal

pub returns : goal.returns
returns c = stands_other
