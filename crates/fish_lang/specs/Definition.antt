-- Definitions by what they say, without the places in memory of their parts.
use Rattle.std.specs.Prelude.{ℕ, ℤ, List, Option, option_map}
use Rattle.fish_value.specs.declared.value.Value.{Value}
use Rattle.fish_lang.specs.declared.definition.Op.{Op}
use Rattle.fish_lang.specs.declared.definition.Cond.{Cond}
use Rattle.fish_lang.specs.declared.definition.Cond.TheVariants.{Compare, Exists, Starts, Not', And', Or'}
use Rattle.fish_lang.specs.declared.definition.Def.{Def}
use Rattle.fish_lang.specs.declared.definition.Def.TheVariants.{Take, Each, Bucket, Flag}

-- the names of a path, from the outside in
abbrev pub Steps : Type 0
Steps = List (List ℕ)

-- a condition: a test of a field, or conditions under `not`, `and` and `or`
pub data Formula : Type 0 where
  compares : (path : Steps) (op : Op) (literal : Value) → Formula
  is_there : (path : Steps) → Formula
  begins : (path : Steps) (prefix : List ℕ) → Formula
  negated : (a : Formula) → Formula
  both : (a b : Formula) → Formula
  either : (a b : Formula) → Formula

-- a definition: a field, the elements of an array, a number rounded down to a multiple of a width, or a condition
pub data Definition : Type 0 where
  takes : (path : Steps) (when : Option Formula) → Definition
  eaches : (path : Steps) (when : Option Formula) → Definition
  buckets : (path : Steps) (width : ℤ) (when : Option Formula) → Definition
  flags : (when : Formula) → Definition

-- what a condition says
abbrev pub formula_of : Cond → Formula
formula_of (Compare path op literal) = compares path op literal
formula_of (Exists path) = is_there path
formula_of (Starts path prefix) = begins path prefix
formula_of (Not' p a) = negated (formula_of a)
formula_of (And' p a q b) = both (formula_of a) (formula_of b)
formula_of (Or' p a q b) = either (formula_of a) (formula_of b)

-- what a definition says
abbrev pub definition_of : Def → Definition
definition_of (Take path when) = takes path (option_map formula_of when)
definition_of (Each path when) = eaches path (option_map formula_of when)
definition_of (Bucket path width when) = buckets path width (option_map formula_of when)
definition_of (Flag when) = flags (formula_of when)
