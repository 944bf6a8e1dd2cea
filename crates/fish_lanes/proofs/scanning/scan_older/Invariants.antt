-- Each counter's ledger is that of its blank.
use Rattle.fish_lanes.proofs.scanning.scan_older.Given as goal

abbrev pub ghosts-older_with-P-Ledger : goal.ghosts-older_with-P-Ledger
ghosts-older_with-P-Ledger g a = record { name = a.parses.name; parts = a.parses.parts }

abbrev pub ghosts-older_with-L-Ledger : goal.ghosts-older_with-L-Ledger
ghosts-older_with-L-Ledger g a = record { name = a.loads.name; parts = a.loads.parts }
