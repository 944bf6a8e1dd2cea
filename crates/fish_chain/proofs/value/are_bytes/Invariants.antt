-- The bytes so far are those of the record. A word has up to eight of them, and only the first and the last fewer.
use Rattle.std.proofs.Common.{◌≡◌, ◌+◌, ◌-◌, ◌*◌, ◌%◌, ◌<◌, ◌≤◌, ◌⊎◌, length}
use Rattle.fish_chain.specs.within.Values.{AreBytesIn}
use Rattle.fish_rule.specs.Logs.{Extends}
use Rattle.fish_rule.specs.Passes.{IsPassOf, view}
use Rattle.fish_rule.specs.ChainFacts.{Always}
use Rattle.fish_chain.proofs.value.are_bytes.Given as goal

abbrev pub invariant-loop-done : goal.invariant-loop-done
invariant-loop-done g l = record {
  of : IsPassOf l.log l.pass;
  extends : Extends (view l.fn.pass) (view l.pass);
  within : l.done ≤ length l.bytes;
  are : Always (view l.pass) (AreBytesIn l.number l.first l.bytes l.done);
  counted : l.loads + (view l.fn.pass).clock.loads ≡ l.fn.loads + (view l.pass).clock.loads;
  aligned : l.done < length l.bytes → (l.done ≡ 0) ⊎ ((l.first + l.done) % 8 ≡ 0);
  full : l.done < length l.bytes → 8 * l.loads ≤ 8 * l.fn.loads + l.first % 8 + l.done;
  few : 8 * l.loads ≤ 8 * l.fn.loads + l.first % 8 + l.done + 7;
}

abbrev pub decreases-loop-done : goal.decreases-loop-done
decreases-loop-done g l = length l.bytes - l.done
