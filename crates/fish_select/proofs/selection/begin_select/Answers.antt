-- Nothing was found in nothing.
use Rattle.std.proofs.Common.{[], subst, sym}
use Rattle.fish_select.proofs.SelectionLemmas.{found_nothing}
use Rattle.fish_select.specs.Selection.{HasFoundRows}
use Rattle.fish_select.specs.declared.found.Found.{Found}
use Rattle.fish_select.proofs.selection.begin_select.Goals as goal

pub returns-clause-empty : goal.returns-clause-empty
returns-clause-empty c = λ def v form.
    subst (λ (z : Found). HasFoundRows def v form [] z) (sym c.nothing.ensures) (found_nothing def v form)
