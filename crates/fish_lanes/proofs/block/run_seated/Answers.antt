-- What the pass of the lane left.
use Rattle.std.proofs.Common.{◌≡◌, ◌∙◌, refl, sym, subst, List, true, false}
use Rattle.fish_lanes.specs.within.Advancing.{GoesOnBy}
use Rattle.fish_lanes.specs.declared.work.Work.{Work}
use Rattle.fish_rule.specs.Passes.{view}
use Rattle.fish_lanes.proofs.block.run_seated.Goals as goal

pub run_works-lane-requires-clause-defs : goal.run_works-lane-requires-clause-defs
run_works-lane-requires-clause-defs g c = λ r. let bad : false ≡ true = sym c.new-defs.ensures.unread ∙ r in absurd cc

pub returns : goal.returns
returns g c =
    let run = c.run_works-lane.ensures.advances in
    record {
      gone = record {
        before = c.in-Some.field-0;
        before_is = sym c.take.ensures.value ∙ c.in-Some.is;
        after = record { pass = c.run_works-lane.new.pass };
        after_is = refl;
        can = c.run_works-lane.ensures.can;
        works = refl;
        number = refl;
        left = refl;
        on = subst (λ (z : List Work). GoesOnBy (view c.in-Some.field-0.pass) (view c.run_works-lane.new.pass) z
            c.args.lane.now.items c.run_works-lane.new.items c.run_works-lane.result) c.as_slice.ensures run.goes;
        last = run.last;
        short = run.short;
        more = run.more;
        answers = run.answers;
      };
    }
