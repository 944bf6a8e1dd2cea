-- Of no bytes no line is given, and they may begin a byte order mark.
use Rattle.std.proofs.Common.{refl}
use Rattle.fish_lines.specs.Lines.{whole_lines}
use Rattle.fish_lines.proofs.splitter.Splitter.new.Goals as goal

pub returns-clause-taken : goal.returns-clause-taken
unfolding whole_lines
returns-clause-taken c = record {
  all = rw c.new.ensures.items refl;
  going = λ _. record {
    rest = c.new-2.ensures.open;
    undecided = λ _. refl;
    held = λ _. c.new-2.ensures.open.kept;
    decided = λ wrong. cc;
  };
}
