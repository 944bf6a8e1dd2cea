-- It has seen no word.
use Rattle.std.proofs.Common.{[]}
use Rattle.fish_image.proofs.checker.Checker.new.Goals as goal

pub returns-clause-checker : goal.returns-clause-checker
returns-clause-checker c = record { commit = c.args.c.now; words = []; seen = c.in_ok-checker.ensures }
