-- The text so far has the lines of the items so far.
use Rattle.std.proofs.Common.{◌≡◌, ◌++◌, take}
use Rattle.std.specs.Prelude.{codes, string_bytes}
use Rattle.std.specs.List.{flat_map}
use Rattle.fish_sample.specs.within.Items.{item_line}
use Rattle.fish_sample.specs.Sample.{number_line}
use Rattle.fish_sample.proofs.summary.summary_of.Given as goal

abbrev pub invariant-loop-item : goal.invariant-loop-item
invariant-loop-item l =
    string_bytes l.text ≡ number_line (codes "sample") l.number ++ flat_map item_line (take l.item-index l.items)
