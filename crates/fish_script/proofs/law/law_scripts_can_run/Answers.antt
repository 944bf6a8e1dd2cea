-- The law is a lemma.
use Rattle.fish_script.proofs.Runnable.{script_can_run}
use Rattle.fish_script.proofs.law.law_scripts_can_run.Goals as goal

pub returns : goal.returns
returns c = script_can_run
