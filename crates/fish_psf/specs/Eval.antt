-- What a definition gives for a record, from what the record has at each path.
use Rattle.std.specs.Prelude.{ℕ, ◌&&◌, ◌||◌, ℤ, pos, ◌-ℤ◌, int_lt, List, Bool, true, false, not, nat_eq, Option, Some}
use Rattle.std.specs.Prelude.{None, [], ◌∷◌, option_map, option_to_list, take, if◌then◌else◌}
use Rattle.std.specs.Int.{int_rem_euclid}
use Rattle.std.specs.List.{filter, filter_map, starts_with}
use Rattle.std.specs.Cmp.Lexicographic.{slice_cmp}
use Rattle.std.specs.declared.cmp.Ordering.{Ordering}
use Rattle.std.specs.Ordering.{bool_cmp, int_cmp, nat_cmp, is_eq, is_ne, is_lt, is_le, is_gt, is_ge}
use Rattle.fish_value.specs.Number.{fits_i64}
use Rattle.fish_value.specs.Same.{same_value}
use Rattle.fish_value.specs.ValueText.{text_value}
use Rattle.fish_value.specs.declared.value.Value.{Value}
use Rattle.fish_value.specs.declared.value.Value.TheVariants as value
use Rattle.fish_value.specs.declared.field.Field.{Field}
use Rattle.fish_value.specs.declared.field.Field.TheVariants as field
use Rattle.fish_lang.specs.Definition.{Definition, takes, eaches, buckets, flags}
use Rattle.fish_lang.specs.Definition.{Formula, compares, is_there, begins, negated, both, either}
use Rattle.fish_lang.specs.declared.definition.Op.{Op}
use Rattle.fish_lang.specs.declared.definition.Op.TheVariants.{Eq, Ne, Lt, Le, Gt, Ge}

-- what a record has: a field at each path, and the fields of the elements of an array there
pub record Fields : Type 0 where
  pub at : List (List ℕ) → Field
  pub items : List (List ℕ) → List Field

-- ---- conditions

-- the order of a field and a literal, where they are of one kind: false is below true, numbers go by size,
-- texts by their bytes
abbrev pub order_of : Field → Value → Option Ordering
order_of (field.Bool a) (value.Bool b) = Some (bool_cmp a b)
order_of (field.Int a) (value.Int b) = Some (int_cmp a b)
order_of (field.Text a) (value.Text b) = Some (slice_cmp nat_cmp a b)
order_of _ _ = None

-- there is something at the path, be it null
abbrev pub exists : Field → Bool
exists field.Missing = false
exists field.Null = true
exists (field.Bool b) = true
exists (field.Int n) = true
exists (field.Text s) = true
exists field.Other = true

-- the order is one that the operator wants
abbrev pub meets : Op → Ordering → Bool
meets Eq o = is_eq o
meets Ne o = is_ne o
meets Lt o = is_lt o
meets Le o = is_le o
meets Gt o = is_gt o
meets Ge o = is_ge o

-- a field of another kind is unequal, where there is one, and nothing else
abbrev pub meets_other : Op → Field → Bool
meets_other Ne f = exists f
meets_other Eq f = false
meets_other Lt f = false
meets_other Le f = false
meets_other Gt f = false
meets_other Ge f = false

-- a comparison with a literal holds
abbrev pub meets_order : Op → Field → Option Ordering → Bool
meets_order op f (Some o) = meets op o
meets_order op f None = meets_other op f

-- the field is a text that begins so
abbrev pub begins_with : List ℕ → Field → Bool
begins_with prefix (field.Text s) = starts_with nat_eq s prefix
begins_with prefix field.Missing = false
begins_with prefix field.Null = false
begins_with prefix (field.Bool b) = false
begins_with prefix (field.Int n) = false
begins_with prefix field.Other = false

-- a condition holds on what a record has at each path
abbrev pub holds : Formula → Fields → Bool
holds (compares path op literal) fields = meets_order op (fields.at path) (order_of (fields.at path) literal)
holds (is_there path) fields = exists (fields.at path)
holds (begins path prefix) fields = begins_with prefix (fields.at path)
holds (negated a) fields = not (holds a fields)
holds (both a b) fields = holds a fields && holds b fields
holds (either a b) fields = holds a fields || holds b fields

-- a condition that is not there holds
abbrev pub holds_when : Option Formula → Fields → Bool
holds_when None fields = true
holds_when (Some a) fields = holds a fields

-- ---- values

-- a field as a value: a truth value, a whole number, or a text of at most 256 bytes
abbrev pub value_of : Field → Option Value
value_of (field.Bool b) = Some (value.Bool b)
value_of (field.Int n) = Some (value.Int n)
value_of (field.Text s) = text_value s
value_of field.Missing = None
value_of field.Null = None
value_of field.Other = None

-- the greatest multiple of a width that is not above a number
abbrev pub floor_multiple : ℤ → ℤ → ℤ
floor_multiple width n = n -ℤ int_rem_euclid n width

-- a number rounded down to a multiple of a width: none below the least i64, and none for a width below 1
abbrev pub bucket : ℤ → ℤ → Option ℤ
bucket width n =
    if not (int_lt width (pos 1)) && fits_i64 (floor_multiple width n) then Some (floor_multiple width n) else None

-- a whole number at the path rounded down, and nothing else
abbrev pub bucketed : ℤ → Field → Option Value
bucketed width (field.Int n) = option_map value.Int (bucket width n)
bucketed width field.Missing = None
bucketed width field.Null = None
bucketed width (field.Bool b) = None
bucketed width (field.Text s) = None
bucketed width field.Other = None

-- the most values that a definition gives for a record
abbrev pub most_values : ℕ
most_values = 8

-- values, each once, in the order of their first places
abbrev pub distinct : List Value → List Value
distinct [] = []
distinct (v ∷ vs) = v ∷ filter (λ w. not (same_value v w)) (distinct vs)

-- the values among fields, each once, in the order of their first places, and of these the first eight
unfoldable pub first_values : List Field → List Value
first_values fs = take most_values (distinct (filter_map value_of fs))

-- the values that a definition gives, each once: the field's, the bucket's, true, or those of an array's elements; and
-- none where its condition doesn't hold
unfoldable pub values : Definition → Fields → List Value
values (takes path when) fields = if holds_when when fields then option_to_list (value_of (fields.at path)) else []
values (eaches path when) fields = if holds_when when fields then first_values (fields.items path) else []
values (buckets path width when) fields =
    if holds_when when fields then option_to_list (bucketed width (fields.at path)) else []
values (flags when) fields = if holds when fields then value.Bool true ∷ [] else []
