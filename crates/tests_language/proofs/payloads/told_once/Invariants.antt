-- The counter's ledger is that of the blank.
use Rattle.tests_language.proofs.payloads.told_once.Given as goal

abbrev pub ghosts-told : goal.ghosts-told
ghosts-told a = record { name = a.blank.name; parts = a.blank.parts }
