-- The statements are done as far as there are items, whichever pass had begun them.
use Rattle.std.proofs.Common.{◌≡◌, ◌≤◌, ℕ, List, Option, None, length}
use Rattle.fish_cold.specs.declared.cold.Cold.{Cold}
use Rattle.fish_epoch.specs.Definitions.{IsDefsOf}
use Rattle.fish_lanes.specs.within.Advancing.{IsWorkSoFar}
use Rattle.fish_lanes.specs.Full.{IsNotFull}
use Rattle.fish_lanes.specs.within.Full.{HasMetFull}
use Rattle.fish_lanes.specs.within.Pasts.{WasHere}
use Rattle.fish_lanes.specs.within.Running.{CanBegin}
use Rattle.fish_lanes.specs.Spans.{IsAnswerItem}
use Rattle.fish_rule.specs.Passes.{view}
use Rattle.fish_rule.specs.Views.{AllOf}
use Rattle.fish_rule.specs.declared.view.Key.{Key}
use Rattle.fish_rule.specs.declared.view.View.{View}
use Rattle.fish_lanes.proofs.statements.run_works.Given as goal

abbrev pub invariant-loop-next : goal.invariant-loop-next
invariant-loop-next g l = record {
  can : CanBegin l.log l.pass;
  read : IsDefsOf (view l.pass) l.defs;
  position : length l.items ≡ l.next;
  far : (start : View) (content : Option (List ℕ)) (k : Key) (cold : Cold) (later : Option (List ℕ))
      → IsWorkSoFar (WasHere content k cold later) start (view l.fn.pass) l.works l.fn.items
      → IsWorkSoFar (WasHere content k cold later) start (view l.pass) l.works l.items;
  last : (view l.fn.pass).shut ≡ None → AllOf IsNotFull l.fn.items → HasMetFull (view l.pass) l.items;
  more : length l.fn.items ≤ length l.items;
  answers : AllOf IsAnswerItem l.fn.items → AllOf IsAnswerItem l.items;
}
