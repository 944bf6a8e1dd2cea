-- A look tells of the mark, unless the range begins, or ends, no further than where the settled numbers stop.
use Rattle.std.proofs.Common.{refl, inl, inr, subst, arith}
use Rattle.fish_rule.specs.Logs.{KnowsMark}
use Rattle.fish_rule.specs.Passes.{view}
use Rattle.fish_rule.proofs.laws.Alone.{knows_mark}
use Rattle.fish_scan.proofs.Ends.{look_mark}
use Rattle.fish_scan.proofs.Looking.{unmarked}
use Rattle.fish_walk.proofs.Looking.{look_looks}
use Rattle.fish_walk.specs.Looks.{IsLookAt}
use Rattle.fish_scan.proofs.reach.cut_end.Goals as goal

pub returns-in-Overflow-clause-only : goal.returns-in-Overflow-clause-only
returns-in-Overflow-clause-only c =
    let t = c.look.ensures.view in
    look_looks _ _ c.args.stop t.0 t.1 t.2

-- what the look found is a mark
pub returns-in-Overflow-clause-cut : goal.returns-in-Overflow-clause-cut
returns-in-Overflow-clause-cut c =
    let found = subst (IsLookAt (view c.look.new.pass) c.args.stop) c.in-Overflow.is c.look.ensures.found in
    let behind = c.if-from-stop.false in
    let inside = c.if-end-stop.false in
    inr (
      omega arith,
      omega arith,
      refl,
      subst (KnowsMark (view c.look.new.pass)) found.2
          (knows_mark (view c.look.new.pass) found.0 found.1 found.3),
    )

-- where it found no mark there is none, for a pass that is alone
pub returns-in-Unfinished : goal.returns-in-Unfinished
returns-in-Unfinished c =
    let t = c.look.ensures.view in
    let u = view c.look.new.pass in
    record {
      pass = c.look.ensures.pass;
      only = look_looks _ _ c.args.stop t.0 t.1 t.2;
      cut = inl refl;
      alone = λ alone behind mark. absurd (unmarked c.look.result c.in-Unfinished.is
          (look_mark u c.look.ensures.pass.stands c.args.stop c.look.result mark c.look.ensures.found (c.look.ensures.alone alone)));
    }
