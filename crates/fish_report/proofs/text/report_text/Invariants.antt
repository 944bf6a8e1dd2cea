-- The text so far is that of the items so far.
use Rattle.std.proofs.Common.{◌≡◌, take}
use Rattle.std.specs.Prelude.{string_bytes}
use Rattle.std.specs.List.{flat_map}
use Rattle.fish_report.specs.ReportText.{item_text}
use Rattle.fish_report.proofs.text.report_text.Given as goal

abbrev pub invariant-loop-item : goal.invariant-loop-item
invariant-loop-item l = string_bytes l.text ≡ flat_map item_text (take l.item-index l.item-items)
