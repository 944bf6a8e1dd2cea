-- What was found in all is the selection.
use Rattle.fish_select.proofs.SelectionLemmas.{found_all}
use Rattle.fish_select.proofs.selection.end_select.Goals as goal

pub returns : goal.returns
returns c = λ def v form os h. rw c.reverse.ensures (found_all def v form os c.args.found h)
