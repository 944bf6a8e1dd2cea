-- Words are read in one way.
use Rattle.std.proofs.Common.{refl, sym, ap, ◌∙◌}
use Rattle.fish_image.specs.Reached.{Reached}
use Rattle.fish_image.proofs.Agreement.{agrees_once}
use Rattle.fish_image.proofs.law.checked_is_one_log.Goals as goal

pub returns-clause-some : goal.returns-clause-some
returns-clause-some c k w checked h = (h.end.entries, record { end = h.end; agrees = h.agrees; lines = h.lines; entries = refl })

pub returns-clause-one : goal.returns-clause-one
returns-clause-one c k w log other h g =
    sym h.entries ∙ ap (λ (z : Reached). z.entries) (agrees_once k w k.count h.end g.end h.agrees g.agrees) ∙ g.entries
