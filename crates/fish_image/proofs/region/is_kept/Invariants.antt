-- The counter's ledger is that of the blank.
use Rattle.fish_image.proofs.region.is_kept.Given as goal

abbrev pub ghosts-is_kept_counted : goal.ghosts-is_kept_counted
ghosts-is_kept_counted a = record { name = a.blank.name; parts = a.blank.parts }
