-- The counter's ledger is that of the blank.
use Rattle.tests_store.proofs.many_pages.pages_stay_as_the_base_moves.Given as goal

abbrev pub ghosts-grown_told : goal.ghosts-grown_told
ghosts-grown_told g a = record { name = a.blank.name; parts = a.blank.parts }
