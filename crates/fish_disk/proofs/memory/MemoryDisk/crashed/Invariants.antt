-- What is left so far is one of the images after the calls so far.
use Rattle.std.proofs.Common.{take}
use Rattle.fish_disk.specs.Calls.{Only, after_calls}
use Rattle.fish_disk.proofs.memory.MemoryDisk.crashed.Given as goal

abbrev pub invariant-loop-call : goal.invariant-loop-call
invariant-loop-call l = after_calls (Only l.self.first) (take l.call-index l.self.calls) l.left
