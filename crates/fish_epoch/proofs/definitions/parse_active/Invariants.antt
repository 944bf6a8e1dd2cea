-- The active ones of the definitions so far are parsed, and are what their texts are read as.
use Rattle.std.proofs.Common.{◌≡◌, All, map, take}
use Rattle.fish_catalog.specs.Listing.{active_texts}
use Rattle.fish_rule.specs.Keys.{IsWritten, text_of}
use Rattle.fish_epoch.proofs.definitions.parse_active.Given as goal

abbrev pub invariant-loop-row : goal.invariant-loop-row
invariant-loop-row l = record {
  texts : map text_of l.active.items ≡ active_texts (take l.row-index l.rows);
  written : All IsWritten l.active.items;
}
