-- The one text that a definition is printed as. Between tokens stands one space, but nothing stands
-- around a dot, after an opening and before a closing parenthesis.
use Rattle.std.specs.Prelude.{ℕ, List, [], ◌∷◌, ◌++◌, Bool, true, false, Option, Some, None, codes, if◌then◌else◌}
use Rattle.std.specs.Fmt.{signed_decimal}
use Rattle.fish_value.specs.Json.{quoted}
use Rattle.fish_lang.specs.Definition.{Steps, Formula, compares, is_there, begins, negated, both, either}
use Rattle.fish_lang.specs.Definition.{Definition, takes, eaches, buckets, flags}
use Rattle.fish_lang.specs.Token.{is_ident}
use Rattle.fish_value.specs.ValueText.{value_print}
use Rattle.fish_lang.specs.declared.definition.Op.{Op}
use Rattle.fish_lang.specs.declared.definition.Op.TheVariants.{Eq, Ne, Lt, Le, Gt, Ge}
use Rattle.fish_lang.specs.declared.print.Part.{Part}
use Rattle.fish_lang.specs.declared.print.Part.TheVariants.{Whole, OfOr, OfAnd}

-- a step: bare where it can be, else a JSON string
unfoldable pub step_text : List ℕ → List ℕ
step_text s = if is_ident s then s else quoted s

-- each further step has a dot in front
abbrev pub steps_text : Steps → List ℕ
steps_text [] = []
steps_text (s ∷ more) = 46 ∷ (step_text s ++ steps_text more)

-- a path
abbrev pub path_text : Steps → List ℕ
path_text [] = []
path_text (s ∷ more) = step_text s ++ steps_text more

abbrev pub op_text : Op → List ℕ
op_text Eq = codes " = "
op_text Ne = codes " != "
op_text Lt = codes " < "
op_text Le = codes " <= "
op_text Gt = codes " > "
op_text Ge = codes " >= "

-- an `and` needs parentheses as a part of an `and`: under `not`, or as the right side
abbrev pub closes_and : Part → Bool
closes_and Whole = false
closes_and OfOr = false
closes_and OfAnd = true

-- an `or` needs them there, and as a part of an `or` as well: under `and`, or as the right side
abbrev pub closes_or : Part → Bool
closes_or Whole = false
closes_or OfOr = true
closes_or OfAnd = true

abbrev pub opening : Bool → List ℕ
opening wanted = if wanted then codes "(" else []

abbrev pub closing : Bool → List ℕ
closing wanted = if wanted then codes ")" else []

-- a condition where it stands. The left side of `and` and of `or` takes in an equal one bare, since
-- they group to the left.
abbrev pub formula_text : Part → Formula → List ℕ
formula_text part (compares path op literal) = path_text path ++ (op_text op ++ value_print literal)
formula_text part (is_there path) = path_text path ++ codes " exists"
formula_text part (begins path prefix) = path_text path ++ (codes " starts " ++ quoted prefix)
formula_text part (negated a) = codes "not " ++ formula_text OfAnd a
formula_text part (both a b) = opening (closes_and part)
    ++ (formula_text OfOr a ++ (codes " and " ++ (formula_text OfAnd b ++ closing (closes_and part))))
formula_text part (either a b) = opening (closes_or part)
    ++ (formula_text Whole a ++ (codes " or " ++ (formula_text OfOr b ++ closing (closes_or part))))

abbrev pub when_text : Option Formula → List ℕ
when_text None = []
when_text (Some a) = codes " when " ++ formula_text Whole a

-- a definition
abbrev pub definition_text : Definition → List ℕ
definition_text (takes path when) = codes "take " ++ (path_text path ++ when_text when)
definition_text (eaches path when) = codes "each " ++ (path_text path ++ when_text when)
definition_text (buckets path width when) = codes "bucket "
    ++ (path_text path ++ (codes " by " ++ (signed_decimal width ++ when_text when)))
definition_text (flags when) = codes "flag when " ++ formula_text Whole when
