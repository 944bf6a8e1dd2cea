-- The list has as many entries as were counted.
use Rattle.std.proofs.Common.{◌∙◌, length, sym, ap}
use Rattle.fish_rule.proofs.basics.KeptWords.{many_kept}
use Rattle.fish_rule.proofs.kept.LogEntries.len.Goals as goal

pub returns : goal.returns
returns c = sym (many_kept c.self.inside c.self.invariant) ∙ ap length c.self.view_is
