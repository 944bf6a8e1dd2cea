-- What a block goes through, from its start to its end.
use Rattle.std.specs.Prelude.{ℕ, ◌≡◌, ◌≤◌, List, length, None}
use Rattle.fish_lanes.specs.within.Blocks.{AreDone, AreSeated, HasGiven, HasRunFirst, HasTakenAll, WereTaken}
use Rattle.fish_lanes.specs.within.Controlling.{IsBoundaryFound}
use Rattle.fish_lanes.specs.declared.block.BlockEnd.{BlockEnd}
use Rattle.fish_lanes.specs.declared.lane.Lane.{Lane}
use Rattle.fish_registry.specs.Changing.{Changes}
use Rattle.fish_registry.specs.Knowing.{Knows}
use Rattle.fish_registry.specs.declared.registrar.Registrar.{Registrar}
use Rattle.fish_rule.specs.Table.{IsOfMoment}
use Rattle.fish_rule.specs.declared.table.Log.{Log}
use Rattle.fish_rule.specs.declared.view.View.{View}
use Rattle.fish_walk.specs.Settling.{EndsAt, HasTail, OnlySettles}
use Rattle.fish_whole.specs.Whole.{Whole}

-- the control pass gave each other lane its pass, and all did their statements
pub record AllRan (Past : Whole → Type 0) (log : Log) (v w : View) (r q : Registrar) (first first' : Lane)
    (before done : List Lane)
    : Type 0 where
  pub control : View
  pub given : List Lane
  pub gives : HasGiven v control (length before)
  pub seated : AreSeated log v before given
  pub first_did : HasRunFirst Past control w r q first first'
  pub others_did : AreDone Past log given done
  pub stands : IsOfMoment w
  pub knows : Knows w q
  pub given_size : length given ≡ length before
  pub done_size : length done ≡ length given

-- it took the passes back
pub record AllBack (w u : View) (done after : List Lane) : Type 0 where
  pub takes : HasTakenAll w u done (length done)
  pub taken : WereTaken done after
  pub size : length after ≡ length done

-- the one and the other
pub record HasRunLanes (Past : Whole → Type 0) (log : Log) (v u : View) (r q : Registrar) (first first' : Lane)
    (before after : List Lane) : Type 0 where
  pub ran : View
  pub done : List Lane
  pub run : AllRan Past log v ran r q first first' before done
  pub back : AllBack ran u done after

-- it then stored the boundary that waited, if one did, and found where the log ends
pub record HasFoundEnd (u t : View) (q s : Registrar) (end : BlockEnd) : Type 0 where
  pub bound : View
  pub changes : Changes u bound
  pub found : IsBoundaryFound u q bound s end.bound
  pub unset : s.waiting ≡ None
  pub stands : IsOfMoment bound
  pub knows : Knows bound s
  pub settles : OnlySettles bound t
  pub rises : bound.learned.settled ≤ end.to
  pub settled : end.to ≤ t.learned.settled
  pub count : ℕ
  pub tail : HasTail t count
  pub ends : EndsAt t end.to count
