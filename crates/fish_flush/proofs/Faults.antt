-- Causes of calls that come one after the other.
use Rattle.std.proofs.Common.{ℕ, ◌≤◌, arith}
use Rattle.std.specs.Prelude.{Result, Ok, Err}
use Rattle.fish_outside.specs.Causes.{HasCause}

-- a later call's cause is one since an earlier count
pub cause_from : {T E : Type 0} (a b c : ℕ) (r : Result T E) → a ≤ b → HasCause b c r → HasCause a c r
cause_from a b c (Ok x) le h = record { later = (let l = h.later in omega arith); failed = tt }
cause_from a b c (Err e) le h =
    record { later = (let l = h.later in omega arith); failed = (let f = h.failed in omega arith) }
