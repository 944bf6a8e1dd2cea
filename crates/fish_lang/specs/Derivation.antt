-- The grammar, one kind of derivation a rule, and what a derivation means. `Grammar` has what it spells.
use Rattle.std.specs.Prelude.{ℤ, pos, List, [], ◌∷◌, ◌++◌, ℕ, Bool, Option, option_map, unwrap_or}
use Rattle.fish_value.specs.declared.value.Value.{Value}
use Rattle.fish_value.specs.declared.value.Value.TheVariants as value
use Rattle.fish_lang.specs.Definition.{Steps, Formula, compares, is_there, begins, negated, both, either}
use Rattle.fish_lang.specs.Definition.{Definition, takes, eaches, buckets, flags}
use Rattle.fish_lang.specs.declared.definition.Op.{Op}

-- STEP = IDENT | STRING
pub data Step : Type 0 where
  ident : List ℕ → Step
  string : List ℕ → Step

-- PATH = STEP { "." STEP }
pub data Path : Type 0 where
  one_step : Step → Path
  more_steps : Path → Step → Path

-- LIT = "true" | "false" | NUMBER | STRING
pub data Literal : Type 0 where
  truth : Bool → Literal
  number : (negative : Bool) (n : Option ℤ) → Literal
  text : List ℕ → Literal

-- TEST = PATH OP LIT | PATH "exists" | PATH "starts" STRING
pub data Test : Type 0 where
  compare : Path → Op → Literal → Test
  exist : Path → Test
  start : Path → List ℕ → Test

-- COND = CONJ { "or" CONJ }, CONJ = NEG { "and" NEG }, NEG = "not" NEG | "(" COND ")" | TEST
mutual
  pub data Cond : Type 0 where
    one_conj : Conj → Cond
    more_conjs : Cond → Conj → Cond

  pub data Conj : Type 0 where
    one_neg : Neg → Conj
    more_negs : Conj → Neg → Conj

  pub data Neg : Type 0 where
    not_neg : Neg → Neg
    group : Cond → Neg
    test : Test → Neg

-- DEF = "take" PATH [ "when" COND ] | "each" PATH [ "when" COND ] | "bucket" PATH "by" NUMBER [ "when" COND ]
-- | "flag" "when" COND, where the number has no `-`
pub data Derivation : Type 0 where
  take_def : Path → Option Cond → Derivation
  each_def : Path → Option Cond → Derivation
  bucket_def : Path → (width : Option ℤ) → Option Cond → Derivation
  flag_def : Cond → Derivation

abbrev pub step_name : Step → List ℕ
step_name (ident s) = s
step_name (string s) = s

abbrev pub path_steps : Path → Steps
path_steps (one_step s) = step_name s ∷ []
path_steps (more_steps p s) = path_steps p ++ step_name s ∷ []

abbrev pub literal_value : Literal → Value
literal_value (truth b) = value.Bool b
literal_value (number negative n) = value.Int (unwrap_or n (pos 0))
literal_value (text s) = value.Text s

abbrev pub test_formula : Test → Formula
test_formula (compare p op l) = compares (path_steps p) op (literal_value l)
test_formula (exist p) = is_there (path_steps p)
test_formula (start p s) = begins (path_steps p) s

abbrev mutual
  pub cond_formula : Cond → Formula
  cond_formula (one_conj c) = conj_formula c
  cond_formula (more_conjs a c) = either (cond_formula a) (conj_formula c)

  pub conj_formula : Conj → Formula
  conj_formula (one_neg a) = neg_formula a
  conj_formula (more_negs c a) = both (conj_formula c) (neg_formula a)

  pub neg_formula : Neg → Formula
  neg_formula (not_neg a) = negated (neg_formula a)
  neg_formula (group c) = cond_formula c
  neg_formula (test t) = test_formula t

abbrev pub meaning : Derivation → Definition
meaning (take_def p w) = takes (path_steps p) (option_map cond_formula w)
meaning (each_def p w) = eaches (path_steps p) (option_map cond_formula w)
meaning (bucket_def p n w) = buckets (path_steps p) (unwrap_or n (pos 0)) (option_map cond_formula w)
meaning (flag_def c) = flags (cond_formula c)
