-- What is kept of the last commit stays, and the pages below the table are read as they were.
use Rattle.fish_store.proofs.Scanning.{below_stays}
use Rattle.fish_store.proofs.file.StoreFile.scan.Goals as goal

pub returns-clause-base : goal.returns-clause-base
returns-clause-base g c = below_stays _ _ _ c.scan_with.ensures.cold.base c.requires.base

pub returns-clause-reads : goal.returns-clause-reads
returns-clause-reads g c = record { cold = c.scan_with.ensures.cold; kept = c.scan_with.ensures.kept }
