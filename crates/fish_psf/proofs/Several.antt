-- The values of a definition: there are at most eight, no two are the same, and each is that of a field.
use Rattle.std.proofs.Common.{◌≡◌, ℕ, ◌≤◌, List, [], ◌∷◌, All, Bool, true, false, refl, arith, length, take, suc, zero}
use Rattle.std.specs.Prelude.{Option, Some, None, option_to_list, if◌then◌else◌}
use Rattle.std.specs.List.{cons_option, filter_map, list_any}
use Rattle.std.proofs.lemmas.List.{length-take}
use Rattle.std.proofs.lemmas.List.Elements.{All-cons, All-head, All-nil, All-tail}
use Rattle.fish_lang.specs.Definition.{Definition, takes, eaches, buckets, flags}
use Rattle.fish_value.specs.Same.{same_value}
use Rattle.fish_value.specs.declared.field.Field.{Field}
use Rattle.fish_value.specs.declared.value.Value.{Value}
use Rattle.fish_value.specs.declared.value.Value.TheVariants as value
use Rattle.fish_psf.specs.Eval.{Fields, distinct, first_values, holds, holds_when, most_values, value_of, values}
use Rattle.fish_psf.proofs.Distinct.{Differ, distinct_all, distinct_differ, neither}

-- few, and no two the same
pub record AreFew (vs : List Value) : Type 0 where
  pub few : length vs ≤ 8
  pub differ : Differ vs

none_few : AreFew []
none_few = record { few = omega arith; differ = tt }

one_few : (v : Value) → AreFew (v ∷ [])
one_few v = record { few = omega arith; differ = (refl, tt) }

list_few : (o : Option Value) → AreFew (option_to_list o)
list_few None = none_few
list_few (Some v) = one_few v

-- a value that isn't among values isn't among the first of them
none_first : (n : ℕ) (v : Value) (vs : List Value) → list_any (same_value v) vs ≡ false → list_any (same_value v) (take n vs) ≡ false
none_first zero v vs none = refl
none_first (suc n) v [] none = refl
none_first (suc n) v (w ∷ vs) none =
    let parts = neither (same_value v w) (list_any (same_value v) vs) none in
    rw parts.0 (none_first n v vs parts.1)

first_differ : (n : ℕ) (vs : List Value) → Differ vs → Differ (take n vs)
first_differ zero vs h = tt
first_differ (suc n) [] h = tt
first_differ (suc n) (v ∷ vs) h = (none_first n v vs h.0, first_differ n vs h.1)

-- the values among fields are few
first_few : (fs : List Field) → AreFew (first_values fs)
unfolding first_values
first_few fs = record {
  few = omega (arith, length-take most_values (distinct (filter_map value_of fs)));
  differ = first_differ most_values _ (distinct_differ _);
}

when_few : (b : Bool) (vs : List Value) → AreFew vs → AreFew (if b then vs else [])
when_few true vs h = h
when_few false vs h = none_few

-- the values of a definition are few
pub values_few : (d : Definition) (fields : Fields) → AreFew (values d fields)
unfolding values
values_few (takes path when) fields = when_few (holds_when when fields) _ (list_few _)
values_few (eaches path when) fields = when_few (holds_when when fields) _ (first_few (fields.items path))
values_few (buckets path width when) fields = when_few (holds_when when fields) _ (list_few _)
values_few (flags when) fields = when_few (holds when fields) _ (one_few (value.Bool true))

-- ---- each is that of a field

-- what holds of each value of a field holds of all of them
fields_all : (P : Value → Type 0) → ((f : Field) (v : Value) → value_of f ≡ Some v → P v) → (fs : List Field)
    → All P (filter_map value_of fs)
fields_all P each [] = All-nil P
fields_all P each (f ∷ fs) = by (fields_all P each fs) (value_of f) refl
  where
    by : All P (filter_map value_of fs) → (o : Option Value) → value_of f ≡ o
        → All P (cons_option o (filter_map value_of fs))
    by rest None is = rest
    by rest (Some v) is = All-cons P v _ (each f v is) rest

-- what holds of all holds of the first of them
take_all_of : (P : Value → Type 0) (n : ℕ) (vs : List Value) → All P vs → All P (take n vs)
take_all_of P zero vs all = All-nil P
take_all_of P (suc n) [] all = all
take_all_of P (suc n) (v ∷ vs) all =
    All-cons P v (take n vs) (All-head P v vs all) (take_all_of P n vs (All-tail P v vs all))

-- what holds of each value of a field holds of the values among fields
pub first_all : (P : Value → Type 0) → ((f : Field) (v : Value) → value_of f ≡ Some v → P v) → (fs : List Field)
    → All P (first_values fs)
unfolding first_values
first_all P each fs = take_all_of P most_values _ (distinct_all P _ (fields_all P each fs))
