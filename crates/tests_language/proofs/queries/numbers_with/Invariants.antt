-- The counter's ledger is that of the blank.
use Rattle.tests_language.proofs.queries.numbers_with.Given as goal

abbrev pub ghosts-numbers_in : goal.ghosts-numbers_in
ghosts-numbers_in a = record { name = a.blank.name; parts = a.blank.parts }
