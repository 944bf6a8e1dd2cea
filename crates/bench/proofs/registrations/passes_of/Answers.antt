-- The next lane's pass is ready too.
use Rattle.std.proofs.Common.{All, sym, subst, arith}
use Rattle.std.proofs.lemmas.List.Elements.{All-push}
use Rattle.bench.proofs.Keeping.{kept_within}
use Rattle.bench.specs.Opening.{IsReady}
use Rattle.bench.proofs.registrations.passes_of.Goals as goal

pub loop-number-preserved : goal.loop-number-preserved
loop-number-preserved c =
    let log = c.args.log.now in
    let before = c.loop-number.invariant in
    let inside = c.loop-number-test.true in
    let next = c.next_pass in
    let pushed = All-push (IsReady log) c.loop-number.passes.items next.result before.ready next.ensures.ready in
    record {
      kept = next.ensures.kept;
      few = omega arith;
      ready = subst (All (IsReady log)) (sym c.in_ok-push.ensures.items) pushed;
    }

pub returns-clause-kept : goal.returns-clause-kept
returns-clause-kept c =
    let few = c.loop-number.invariant.few in
    kept_within c.loop-number.number c.args.log.now c.loop-number.control c.args.registrar.now (omega arith)
    c.loop-number.invariant.kept
