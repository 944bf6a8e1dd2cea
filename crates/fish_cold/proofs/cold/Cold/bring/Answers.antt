-- A page that is held isn't read, and one that isn't is.
use Rattle.std.proofs.Common.{◌∙◌, sym, refl, arith}
use Rattle.fish_cold.proofs.Untouched.{copied_some, nothing_read}
use Rattle.fish_cold.proofs.cold.Cold.bring.Goals as goal

pub returns-then-is_some : goal.returns-then-is_some
returns-then-is_some g c =
    let found = copied_some c.held.result (sym c.is_some.ensures ∙ c.if-is_some.true) in
    record {
      held = (λ _. (found.0, sym c.held.ensures ∙ found.1), λ _. refl);
      fresh = tt;
      untouched = λ _. (refl, refl);
      outside = nothing_read g.D.Disk c.args.disk.now;
      cause = record { later = omega arith; failed = λ h. absurd cc };
      whole = tt;
    }
