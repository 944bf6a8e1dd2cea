-- Each counter's ledger is that of its blank.
use Rattle.tests_store.proofs.across.asked_told.Given as goal

abbrev pub ghosts-scanned-P-Ledger : goal.ghosts-scanned-P-Ledger
ghosts-scanned-P-Ledger g a = record { name = a.parses.name; parts = a.parses.parts }

abbrev pub ghosts-scanned-L-Ledger : goal.ghosts-scanned-L-Ledger
ghosts-scanned-L-Ledger g a = record { name = a.loads.name; parts = a.loads.parts }
