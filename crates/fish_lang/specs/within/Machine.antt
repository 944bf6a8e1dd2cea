-- What the parser knows between two tokens. The grammar stands in `Grammar`; these words are for the
-- clauses of private functions.
use Rattle.std.specs.Prelude.{ℕ, suc, ℤ}
use Rattle.fish_lang.specs.Definition.{Steps, Formula, negated, both, either}
use Rattle.fish_lang.specs.declared.definition.Op.{Op}

-- where a condition, a part of an `or` and a part of an `and` stands: what is in front and not closed
mutual
  pub data Enclosing : Type 0 where
    top : Enclosing
    in_group : Operand → Enclosing

  pub data Joint : Type 0 where
    in_whole : Enclosing → Joint
    behind_or : Formula → Enclosing → Joint

  pub data Operand : Type 0 where
    in_joint : Joint → Operand
    behind_and : Formula → Joint → Operand
    under_not : Operand → Operand

-- what stands before a condition
pub data Head : Type 0 where
  take_when : Steps → Head
  each_when : Steps → Head
  bucket_when : Steps → ℤ → Head
  flag_when : Head

-- what a path is part of
pub data Owner : Type 0 where
  of_take : Owner
  of_each : Owner
  of_bucket : Owner
  of_test : Head → Operand → Owner

-- what comes next, and what is known so far
pub data State : Type 0 where
  start : State
  flag : State
  step : Owner → Steps → State
  behind_step : Owner → Steps → State
  width : Steps → State
  behind_width : Steps → ℤ → State
  operand : Head → Operand → State
  literal : Head → Operand → Steps → Op → State
  prefix : Head → Operand → Steps → State
  behind_operand : Head → Joint → Formula → State

-- how many `(` and `not` are open
abbrev mutual
  pub whole_nesting : Enclosing → ℕ
  whole_nesting top = 0
  whole_nesting (in_group k) = suc (nesting k)

  pub joint_nesting : Joint → ℕ
  joint_nesting (in_whole w) = whole_nesting w
  joint_nesting (behind_or a w) = whole_nesting w

  pub nesting : Operand → ℕ
  nesting (in_joint j) = joint_nesting j
  nesting (behind_and a j) = joint_nesting j
  nesting (under_not k) = suc (nesting k)

-- the condition that ends with a part of an `or`, and where it stands
abbrev pub or_with : Joint → Formula → Formula
or_with (in_whole w) a = a
or_with (behind_or b w) a = either b a

abbrev pub whole_of : Joint → Enclosing
whole_of (in_whole w) = w
whole_of (behind_or b w) = w

-- after an operand, which completes a `not` and an `and` before it
abbrev pub complete : Head → Operand → Formula → State
complete h (in_joint j) a = behind_operand h j a
complete h (behind_and b j) a = behind_operand h j (both b a)
complete h (under_not k) a = complete h k (negated a)

-- where a condition begins
abbrev pub at_front : Enclosing → Operand
at_front w = in_joint (in_whole w)
