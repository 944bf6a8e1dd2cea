-- Each call takes what is left to one of the images after it.
use Rattle.std.proofs.Common.{◌≡◌, ◌<◌, length, get_or, subst, arith, ap, ◌∙◌}
use Rattle.fish_disk.specs.Calls.{Only, after_call}
use Rattle.fish_disk.proofs.Recorded.{replayed}
use Rattle.fish_disk.proofs.memory.MemoryDisk.crashed.Goals as goal

pub loop-call-preserved : goal.loop-call-preserved
loop-call-preserved c =
    let calls = c.args.self.now.calls in
    let k = c.loop-call.call-index in
    let call = c.call-item.result in
    let same = c.as_slice-call-items.ensures in
    let within : k < length calls = omega (arith, c.loop-call-test.true, ap length same) in
    let is : call ≡ get_or calls k call = c.call-item.is ∙ ap (λ items. get_or items k call) same in
    replayed c.args.self.now.first calls k call c.loop-call.left c.in_ok-left-2.left
    within is c.loop-call.invariant
    (subst (λ bytes. after_call call (Only bytes) c.in_ok-left-2.left) c.as_bytes.ensures c.in_ok-left-2.ensures)
