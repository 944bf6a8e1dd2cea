-- The walk's range is empty, so it passes all of the table's part of the chain.
use Rattle.std.proofs.Common.{ℕ, ◌+◌, ◌*◌, suc, length, sym, subst, arith}
use Rattle.fish_chain.specs.Walks.{LeadDown}
use Rattle.fish_rule.proofs.laws.Learning.{extends_both}
use Rattle.fish_rule.specs.Logs.{Extends}
use Rattle.fish_rule.specs.Passes.{view, walk_of}
use Rattle.fish_rule.specs.declared.table.Pass.{Pass}
use Rattle.fish_scan.proofs.Descending.{entries_above, entries_passed}
use Rattle.fish_scan.specs.within.OlderWork.{IsWalkWork}
use Rattle.fish_scan.proofs.chained.rest_of.Goals as goal

pub returns-clause-extends : goal.returns-clause-extends
returns-clause-extends g c =
    subst (λ (z : Pass). Extends (view c.args.pass.now) (view z)) (sym c.walk_rest.ensures.kept)
    (extends_both _ _ _ c.walk_start.ensures.extends c.walk_next.ensures.extends)

-- two loads for each entry, one for the head, and one more
pub returns-clause-loads : goal.returns-clause-loads
returns-clause-loads g c =
    let walk = walk_of c.walk_start.new.pass in
    let range = c.walk_start.ensures.begun.range in
    let few = c.in-None.ensures.few in
    let counted = c.walk_next.ensures.counted in
    let first = c.walk_start.ensures.loads in
    let own = c.walk_start.ensures.counted in
    let most = few.few in
    let u = view c.walk_next.new.pass in
    subst (λ (z : Pass). IsWalkWork (view c.args.pass.now) (view z) c.args.bucket c.args.loads.now c.walk_next.new.loads)
    (sym c.walk_rest.ensures.kept) (
      2 * length few.passed + 2,
      record {
        top = suc walk.place;
        entries = few.passed;
        linked = entries_above u c.args.bucket 0 0 (suc few.end) (suc walk.place) few.passed (omega arith)
            (entries_passed u c.args.bucket 0 walk.place few.end few.passed
            (subst (λ (z : ℕ × ℕ). LeadDown u z.0 z.1 walk.place few.end few.passed) (λ i. (range.bucket_is i, range.from_is i)) few.down));
        few = omega arith;
      },
      record { counted = omega arith; own = omega arith },
    )
