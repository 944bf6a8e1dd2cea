-- At the end of the file the open line is whole.
use Rattle.fish_lines.proofs.SplitLemmas.{HasTaken-finish}
use Rattle.fish_lines.proofs.splitter.Splitter.finish.Goals as goal

pub returns-clause-taken : goal.returns-clause-taken
returns-clause-taken c = λ b taken h. HasTaken-finish c.args.self.now b taken h
