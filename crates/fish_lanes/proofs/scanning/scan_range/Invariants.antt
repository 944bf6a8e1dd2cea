-- Each counter's ledger is that of its blank.
use Rattle.fish_lanes.proofs.scanning.scan_range.Given as goal

abbrev pub ghosts-scan_with-P-Ledger : goal.ghosts-scan_with-P-Ledger
ghosts-scan_with-P-Ledger a = record { name = a.parses.name; parts = a.parses.parts }

abbrev pub ghosts-scan_with-L-Ledger : goal.ghosts-scan_with-L-Ledger
ghosts-scan_with-L-Ledger a = record { name = a.loads.name; parts = a.loads.parts }
