-- The lines or rows so far are stored, and each took a byte at least.
use Rattle.std.proofs.Common.{◌≡◌, ◌+◌, ◌≤◌}
use Rattle.fish_epoch.specs.Definitions.{IsDefsOf}
use Rattle.fish_ingest.specs.Ingestion.{CanStart}
use Rattle.fish_lanes.specs.within.Storing.{IsStoredUpTo}
use Rattle.fish_lines.specs.Texts.{bytes_left, form_of_texts, texts_left}
use Rattle.fish_rule.specs.Passes.{IsPassOf, view}
use Rattle.fish_value.specs.Limits.{longest_file}
use Rattle.fish_lanes.proofs.ingesting.ingest_texts.Given as goal

abbrev pub invariant-loop-text : goal.invariant-loop-text
invariant-loop-text g l = record {
  of : IsPassOf l.log l.pass;
  start : CanStart (view l.pass);
  read : IsDefsOf (view l.pass) l.defs;
  form : form_of_texts l.texts ≡ form_of_texts l.fn.texts;
  stored : IsStoredUpTo (view l.fn.pass) (view l.pass) (form_of_texts l.fn.texts) (texts_left l.fn.texts) (texts_left l.texts) l.tally;
  shut : (view l.pass).shut ≡ (view l.fn.pass).shut;
  room : l.tally.stored + l.tally.refused + bytes_left l.texts ≤ longest_file;
}

abbrev pub decreases-loop-text : goal.decreases-loop-text
decreases-loop-text g l = bytes_left l.texts
