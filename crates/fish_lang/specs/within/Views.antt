-- The parser's state without the places in memory of its parts.
use Rattle.std.specs.Prelude.{[], Option, Some, None}
use Rattle.fish_lang.specs.Definition.{Steps, formula_of}
use Rattle.fish_lang.specs.within.Machine as machine
use Rattle.fish_lang.specs.declared.position.Whole.{Whole}
use Rattle.fish_lang.specs.declared.position.Joint.{Joint}
use Rattle.fish_lang.specs.declared.position.Operand.{Operand}
use Rattle.fish_lang.specs.declared.position.Joint.TheVariants.{Top, Group', InWhole, BehindOr, InJoint, BehindAnd}
use Rattle.fish_lang.specs.declared.position.Joint.TheVariants.{UnderNot'}
use Rattle.fish_lang.specs.declared.state.Head.{Head}
use Rattle.fish_lang.specs.declared.state.Head.TheVariants as head
use Rattle.fish_lang.specs.declared.state.Owner.{Owner}
use Rattle.fish_lang.specs.declared.state.Owner.TheVariants as owner
use Rattle.fish_lang.specs.declared.state.State.{State}
use Rattle.fish_lang.specs.declared.state.State.TheVariants as state

abbrev mutual
  pub whole_view : Whole → machine.Enclosing
  whole_view Top = machine.top
  whole_view (Group' p k) = machine.in_group (operand_view k)

  pub joint_view : Joint → machine.Joint
  joint_view (InWhole w) = machine.in_whole (whole_view w)
  joint_view (BehindOr a w) = machine.behind_or (formula_of a) (whole_view w)

  pub operand_view : Operand → machine.Operand
  operand_view (InJoint j) = machine.in_joint (joint_view j)
  operand_view (BehindAnd a j) = machine.behind_and (formula_of a) (joint_view j)
  operand_view (UnderNot' p k) = machine.under_not (operand_view k)

abbrev pub head_view : Head → machine.Head
head_view (head.Take p) = machine.take_when p
head_view (head.Each p) = machine.each_when p
head_view (head.Bucket p n) = machine.bucket_when p n
head_view head.Flag = machine.flag_when

abbrev pub owner_view : Owner → machine.Owner
owner_view owner.Take = machine.of_take
owner_view owner.Each = machine.of_each
owner_view owner.Bucket = machine.of_bucket
owner_view (owner.Test h k) = machine.of_test (head_view h) (operand_view k)

-- the steps of a path that may not have begun
abbrev pub steps_so_far : Option Steps → Steps
steps_so_far None = []
steps_so_far (Some p) = p

abbrev pub state_view : State → machine.State
state_view state.Start = machine.start
state_view state.Flag = machine.flag
state_view (state.Step o p) = machine.step (owner_view o) (steps_so_far p)
state_view (state.BehindStep o p) = machine.behind_step (owner_view o) p
state_view (state.Width p) = machine.width p
state_view (state.BehindWidth p n) = machine.behind_width p n
state_view (state.Operand h k) = machine.operand (head_view h) (operand_view k)
state_view (state.Literal h k p op) = machine.literal (head_view h) (operand_view k) p op
state_view (state.Prefix h k p) = machine.prefix (head_view h) (operand_view k) p
state_view (state.BehindOperand h j a) = machine.behind_operand (head_view h) (joint_view j) (formula_of a)
