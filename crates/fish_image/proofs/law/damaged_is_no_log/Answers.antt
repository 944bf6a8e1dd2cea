-- In a log all entries agree.
use Rattle.fish_image.proofs.Agreement.{no_log}
use Rattle.fish_image.proofs.law.damaged_is_no_log.Goals as goal

pub returns : goal.returns
returns c = no_log
