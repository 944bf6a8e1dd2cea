-- Each turn has a lane less.
use Rattle.std.proofs.Common.{length}
use Rattle.fish_run.proofs.rounds.+step_all.Given as goal

abbrev pub decreases-step_all : goal.decreases-step_all
decreases-step_all l = length l.lanes.now
