-- What was written and the steps to come make the whole.
use Rattle.std.proofs.Common.{◌≡◌, ◌++◌, drop}
use Rattle.std.specs.Prelude.{string_bytes}
use Rattle.fish_lang.specs.Canonical.{steps_text}
use Rattle.fish_lang.proofs.print.write_steps.Given as goal

abbrev pub invariant-loop-step : goal.invariant-loop-step
invariant-loop-step l = string_bytes l.out ++ steps_text (drop l.step-index l.more)
    ≡ string_bytes l.initial.out ++ steps_text l.more
