-- What the parser knows, as unfinished derivations: each stands for a state, has spelled its tokens so
-- far, and can be finished.
use Rattle.std.proofs.Common.{◌≡◌, List, [], ◌∷◌, ◌++◌, refl, ◌∙◌, append_assoc, append-nil}
use Rattle.std.specs.Prelude.{ℤ, pos, false, Option, Some, unwrap_or}
use Rattle.fish_lang.specs.Grammar.{Terminal, terminal, keyword, path_terminals, nesting_fault, width_fault}
use Rattle.fish_lang.specs.Grammar.{cond_terminals, conj_terminals, neg_terminals, terminals}
use Rattle.fish_lang.specs.Derivation.{Path, Cond, one_conj, more_conjs, Conj, one_neg, more_negs, Neg, not_neg, group}
use Rattle.fish_lang.specs.Derivation.{Derivation, take_def, each_def, bucket_def, flag_def, path_steps, cond_formula}
use Rattle.fish_lang.specs.Derivation.{conj_formula, neg_formula}
use Rattle.fish_lang.specs.within.Machine as machine
use Rattle.fish_lang.specs.within.Machine.{State, complete, nesting, joint_nesting, whole_nesting}
use Rattle.fish_lang.specs.declared.definition.Op.{Op}
use Rattle.fish_lang.specs.declared.token.Keyword.TheVariants as word
use Rattle.fish_lang.specs.declared.token.Token.TheVariants as kind

mutual
  pub data Whole : Type 0 where
    top : Whole
    in_group : Operand → Whole

  pub data Joint : Type 0 where
    in_whole : Whole → Joint
    behind_or : Cond → Whole → Joint

  pub data Operand : Type 0 where
    in_joint : Joint → Operand
    behind_and : Conj → Joint → Operand
    under_not : Operand → Operand

pub data Head : Type 0 where
  take_when : Path → Head
  each_when : Path → Head
  bucket_when : Path → Option ℤ → Head
  flag_when : Head

pub data Owner : Type 0 where
  of_take : Owner
  of_each : Owner
  of_bucket : Owner
  of_test : Head → Operand → Owner

pub data Tree : Type 0 where
  start_tree : Tree
  flag_tree : Tree
  first_of_take : Tree
  first_of_each : Tree
  first_of_bucket : Tree
  behind_dot : Owner → Path → Tree
  behind_step : Owner → Path → Tree
  width : Path → Tree
  behind_width : Path → Option ℤ → Tree
  operand : Head → Operand → Tree
  literal : Head → Operand → Path → Op → Tree
  prefix : Head → Operand → Path → Tree
  behind_operand : Head → Joint → Conj → Tree

-- the state that each stands for
abbrev mutual
  pub whole_state : Whole → machine.Enclosing
  whole_state top = machine.top
  whole_state (in_group k) = machine.in_group (operand_state k)

  pub joint_state : Joint → machine.Joint
  joint_state (in_whole w) = machine.in_whole (whole_state w)
  joint_state (behind_or a w) = machine.behind_or (cond_formula a) (whole_state w)

  pub operand_state : Operand → machine.Operand
  operand_state (in_joint j) = machine.in_joint (joint_state j)
  operand_state (behind_and a j) = machine.behind_and (conj_formula a) (joint_state j)
  operand_state (under_not k) = machine.under_not (operand_state k)

abbrev pub head_state : Head → machine.Head
head_state (take_when p) = machine.take_when (path_steps p)
head_state (each_when p) = machine.each_when (path_steps p)
head_state (bucket_when p n) = machine.bucket_when (path_steps p) (unwrap_or n (pos 0))
head_state flag_when = machine.flag_when

abbrev pub owner_state : Owner → machine.Owner
owner_state of_take = machine.of_take
owner_state of_each = machine.of_each
owner_state of_bucket = machine.of_bucket
owner_state (of_test h k) = machine.of_test (head_state h) (operand_state k)

abbrev pub state_of : Tree → State
state_of start_tree = machine.start
state_of flag_tree = machine.flag
state_of first_of_take = machine.step machine.of_take []
state_of first_of_each = machine.step machine.of_each []
state_of first_of_bucket = machine.step machine.of_bucket []
state_of (behind_dot o p) = machine.step (owner_state o) (path_steps p)
state_of (behind_step o p) = machine.behind_step (owner_state o) (path_steps p)
state_of (width p) = machine.width (path_steps p)
state_of (behind_width p n) = machine.behind_width (path_steps p) (unwrap_or n (pos 0))
state_of (operand h k) = machine.operand (head_state h) (operand_state k)
state_of (literal h k p op) = machine.literal (head_state h) (operand_state k) (path_steps p) op
state_of (prefix h k p) = machine.prefix (head_state h) (operand_state k) (path_steps p)
state_of (behind_operand h j c) = machine.behind_operand (head_state h) (joint_state j) (conj_formula c)

-- what each has spelled
abbrev pub head_terminals : Head → List Terminal
head_terminals (take_when p) = keyword word.Take ∷ (path_terminals p ++ keyword word.When ∷ [])
head_terminals (each_when p) = keyword word.Each ∷ (path_terminals p ++ keyword word.When ∷ [])
head_terminals (bucket_when p n) = keyword word.Bucket ∷ (path_terminals p
    ++ keyword word.By ∷ record { token = kind.Number false n; fault = width_fault n } ∷ keyword
    word.When ∷ [])
head_terminals flag_when = keyword word.Flag ∷ keyword word.When ∷ []

abbrev mutual
  pub whole_before : Head → Whole → List Terminal
  whole_before h top = head_terminals h
  whole_before h (in_group k) = operand_before h k
      ++ record { token = kind.Open; fault = nesting_fault (nesting (operand_state k)) } ∷ []

  pub joint_before : Head → Joint → List Terminal
  joint_before h (in_whole w) = whole_before h w
  joint_before h (behind_or a w) = whole_before h w ++ (cond_terminals (whole_nesting (whole_state w)) a
      ++ keyword word.Or ∷ [])

  pub operand_before : Head → Operand → List Terminal
  operand_before h (in_joint j) = joint_before h j
  operand_before h (behind_and c j) = joint_before h j
      ++ (conj_terminals (joint_nesting (joint_state j)) c ++ keyword word.And ∷ [])
  operand_before h (under_not k) = operand_before h k
      ++ record { token = kind.Keyword word.Not; fault = nesting_fault (nesting (operand_state k)) } ∷ []

abbrev pub owner_before : Owner → List Terminal
owner_before of_take = keyword word.Take ∷ []
owner_before of_each = keyword word.Each ∷ []
owner_before of_bucket = keyword word.Bucket ∷ []
owner_before (of_test h k) = operand_before h k

abbrev pub before : Tree → List Terminal
before start_tree = []
before flag_tree = keyword word.Flag ∷ []
before first_of_take = keyword word.Take ∷ []
before first_of_each = keyword word.Each ∷ []
before first_of_bucket = keyword word.Bucket ∷ []
before (behind_dot o p) = owner_before o ++ (path_terminals p ++ terminal kind.Dot ∷ [])
before (behind_step o p) = owner_before o ++ path_terminals p
before (width p) = keyword word.Bucket ∷ (path_terminals p ++ keyword word.By ∷ [])
before (behind_width p n) = keyword word.Bucket ∷ (path_terminals p
    ++ keyword word.By ∷ record { token = kind.Number false n; fault = width_fault n } ∷ [])
before (operand h k) = operand_before h k
before (literal h k p op) = operand_before h k ++ (path_terminals p ++ terminal (kind.Compare op) ∷ [])
before (prefix h k p) = operand_before h k ++ (path_terminals p ++ keyword word.Starts ∷ [])
before (behind_operand h j c) = joint_before h j ++ conj_terminals (joint_nesting (joint_state j)) c

-- after an operand
abbrev pub completed : Head → Operand → Neg → Tree
completed h (in_joint j) a = behind_operand h j (one_neg a)
completed h (behind_and c j) a = behind_operand h j (more_negs c a)
completed h (under_not k) a = completed h k (not_neg a)

pub completed-state : (h : Head) (k : Operand) (a : Neg) → state_of (completed h k a)
    ≡ complete (head_state h) (operand_state k) (neg_formula a)
completed-state h (in_joint j) a = refl
completed-state h (behind_and c j) a = refl
completed-state h (under_not k) a = completed-state h k (not_neg a)

pub completed-before : (h : Head) (k : Operand) (a : Neg) → before (completed h k a)
    ≡ operand_before h k ++ neg_terminals (nesting (operand_state k)) a
completed-before h (in_joint j) a = refl
completed-before h (behind_and c j) a = simp append_assoc
completed-before h (under_not k) a = completed-before h k (not_neg a) ∙ simp append_assoc

-- a whole derivation round a part, and the tokens after the part
abbrev pub with_cond : Head → Cond → Derivation
with_cond (take_when p) c = take_def p (Some c)
with_cond (each_when p) c = each_def p (Some c)
with_cond (bucket_when p n) c = bucket_def p n (Some c)
with_cond flag_when c = flag_def c

abbrev mutual
  pub round_whole : Head → Whole → Cond → Derivation
  round_whole h top c = with_cond h c
  round_whole h (in_group k) c = round h k (group c)

  pub round_joint : Head → Joint → Conj → Derivation
  round_joint h (in_whole w) c = round_whole h w (one_conj c)
  round_joint h (behind_or a w) c = round_whole h w (more_conjs a c)

  pub round : Head → Operand → Neg → Derivation
  round h (in_joint j) a = round_joint h j (one_neg a)
  round h (behind_and c j) a = round_joint h j (more_negs c a)
  round h (under_not k) a = round h k (not_neg a)

abbrev mutual
  pub whole_behind : Whole → List Terminal
  whole_behind top = []
  whole_behind (in_group k) = terminal kind.Close ∷ behind k

  pub joint_behind : Joint → List Terminal
  joint_behind (in_whole w) = whole_behind w
  joint_behind (behind_or a w) = whole_behind w

  pub behind : Operand → List Terminal
  behind (in_joint j) = joint_behind j
  behind (behind_and c j) = joint_behind j
  behind (under_not k) = behind k

pub with_cond-terminals : (h : Head) (c : Cond) → terminals (with_cond h c) ≡ head_terminals h ++ cond_terminals 0 c
with_cond-terminals (take_when p) c = simp append_assoc
with_cond-terminals (each_when p) c = simp append_assoc
with_cond-terminals (bucket_when p n) c = simp append_assoc
with_cond-terminals flag_when c = refl

mutual
  pub round_whole-terminals : (h : Head) (w : Whole) (c : Cond) → terminals (round_whole h w c)
      ≡ whole_before h w ++ (cond_terminals (whole_nesting (whole_state w)) c ++ whole_behind w)
  round_whole-terminals h top c = with_cond-terminals h c ∙ simp append-nil
  round_whole-terminals h (in_group k) c = round-terminals h k (group c) ∙ simp append_assoc

  pub round_joint-terminals : (h : Head) (j : Joint) (c : Conj) → terminals (round_joint h j c)
      ≡ joint_before h j ++ (conj_terminals (joint_nesting (joint_state j)) c ++ joint_behind j)
  round_joint-terminals h (in_whole w) c = round_whole-terminals h w (one_conj c)
  round_joint-terminals h (behind_or a w) c = round_whole-terminals h w (more_conjs a c) ∙ simp append_assoc

  pub round-terminals : (h : Head) (k : Operand) (a : Neg) → terminals (round h k a) ≡ operand_before h k
      ++ (neg_terminals (nesting (operand_state k)) a ++ behind k)
  round-terminals h (in_joint j) a = round_joint-terminals h j (one_neg a)
  round-terminals h (behind_and c j) a = round_joint-terminals h j (more_negs c a) ∙ simp append_assoc
  round-terminals h (under_not k) a = round-terminals h k (not_neg a) ∙ simp append_assoc
