-- The counter's ledger is that of the blank.
use Rattle.tests_store.proofs.many_pages.each_page_is_read_once.Given as goal

abbrev pub ghosts-reads_told : goal.ghosts-reads_told
ghosts-reads_told g a = record { name = a.blank.name; parts = a.blank.parts }
