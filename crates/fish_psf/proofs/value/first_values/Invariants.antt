-- The values so far are those of the fields so far, and there are at most eight.
use Rattle.std.proofs.Common.{◌≡◌, ◌≤◌, length, take}
use Rattle.fish_psf.specs.Eval.{most_values}
use Rattle.fish_psf.proofs.FirstValues.{gathered}
use Rattle.fish_psf.proofs.value.first_values.Given as goal

abbrev pub invariant-loop-field : goal.invariant-loop-field
invariant-loop-field l = (l.values ≡ gathered (take l.field-index l.fields)) × (length l.values ≤ most_values)
