-- The first pass stored the boundaries of its rows, and a registrar's are those that were stored last.
use Rattle.fish_flush.proofs.Lasting.{first_holds, holds_on, known_held}
use Rattle.fish_flush.proofs.law.law_rows_held.Goals as goal

pub returns-clause-first : goal.returns-clause-first
returns-clause-first c = first_holds

pub returns-clause-known : goal.returns-clause-known
returns-clause-known c = known_held

pub returns-clause-on : goal.returns-clause-on
returns-clause-on c = holds_on
