-- The heads so far are those of as many buckets, and nothing was settled meanwhile.
use Rattle.std.proofs.Common.{◌≡◌, ℕ, length}
use Rattle.fish_rule.proofs.basics.Context.{get_elem?, some, view}
use Rattle.fish_rule.specs.within.ClosedLog.{HasHead}
use Rattle.fish_rule.specs.Logs.{Extends}
use Rattle.fish_rule.specs.Passes.{IsPassOf}
use Rattle.fish_rule.proofs.close.all_heads.Given as goal

abbrev pub invariant-loop-bucket : goal.invariant-loop-bucket
invariant-loop-bucket l = record {
  of : IsPassOf l.log l.control;
  extends : Extends (view l.fn.control) (view l.control);
  same : (view l.control).learned.settled ≡ (view l.fn.control).learned.settled;
  many : length l.heads ≡ l.bucket;
  each : (b x : ℕ) → get_elem? l.heads b ≡ some x → HasHead (view l.control) (view l.fn.control).learned.settled b x;
}
