-- The tokens to come lead from the state to what all lead to from the start.
use Rattle.std.proofs.Common.{◌≡◌}
use Rattle.std.specs.Vec.Iter.{into_iter_items}
use Rattle.fish_lang.specs.within.Machine.{start}
use Rattle.fish_lang.specs.within.Outcome.{run}
use Rattle.fish_lang.specs.within.Views.{state_view}
use Rattle.fish_lang.proofs.parse.definition.Given as goal

abbrev pub invariant-loop-placed : goal.invariant-loop-placed
invariant-loop-placed l = record {
  can : (goal.iterator-loop-placed).can_next l.placed-iterator;
  finite : (goal.iterator-loop-placed).is_finite l.placed-iterator;
  rest : run (state_view l.state) (into_iter_items l.placed-iterator) l.end
      ≡ run start l.fn.found.items l.end;
}
