-- One head more is of older records.
use Rattle.std.proofs.Common.{ℕ, ◌+◌, sym, subst, arith}
use Rattle.tests_store.proofs.Heads.{older_push}
use Rattle.tests_store.specs.Heads.{AreOlder}
use Rattle.tests_store.proofs.across.heads_of.Goals as goal

pub loop-bucket-preserved : goal.loop-bucket-preserved
loop-bucket-preserved c =
    let n : ℕ = c.loop-bucket.bucket in
    let few = c.head_of.ensures in
    let least = c.requires in
    subst (AreOlder c.args.line (n + 1)) (sym c.in_ok-push.ensures.ok)
    (older_push c.args.line n c.head_of.result c.loop-bucket.heads (λ some. omega arith) c.loop-bucket.invariant)
