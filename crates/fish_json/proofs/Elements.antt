-- What a value of the tape is, as data.
use Rattle.std.proofs.Common.{◌≡◌, ℕ, List, Bool, true, false, Option, Some, None, option_map, option_and_then, is_some}
use Rattle.std.proofs.Common.{MatchOption, refl, sym, ap, ◌∙◌}
use Rattle.json.specs.Json as json
use Rattle.json.specs.Token.{Token}
use Rattle.json.specs.Find.{BeginsWith, InMembers, as_str, as_number, as_bool, as_object, is_null}
use Rattle.serde_json.specs.Data.{Data, no_members, number, array, object}
use Rattle.serde_json.specs.Find.{as_i64}
use Rattle.serde_json.specs.Read.{number_of, of_json, of_items, of_members}
use Rattle.fish_value.specs.declared.field.Field.TheVariants as kind
use Rattle.fish_json.specs.within.Tape.{StandsForData}
use Rattle.fish_json.specs.Reading.{if_object, int_or_other, kind_of_data}

inner : {A : Type 0} (f : A → Data) (o : Option A) (d : Data) → option_map f o ≡ Some d
    → (a : A) × (o ≡ Some a) × (d ≡ f a)
inner f None d e = absurd (cc)
inner f (Some a) d e = (a, refl, cc)

pub kind_text : (j : json.Json) (d : Data) (s : List ℕ) → as_str j ≡ Some s → of_json j ≡ Some d
    → kind.Text s ≡ kind_of_data d
kind_text json.null d s a e = absurd (cc)
kind_text (json.boolean b) d s a e = absurd (cc)
kind_text (json.number t) d s a e = absurd (cc)
kind_text (json.string t) d s a e =
    let is : d ≡ Data.string t = cc in let same : s ≡ t = cc in ap kind.Text same ∙ sym (ap kind_of_data is)
kind_text (json.array js) d s a e = absurd (cc)
kind_text (json.object ms) d s a e = absurd (cc)

pub kind_number : (j : json.Json) (d : Data) (s : List ℕ) → as_number j ≡ Some s → of_json j ≡ Some d
    → int_or_other (option_and_then as_i64 (number_of s)) ≡ kind_of_data d
kind_number json.null d s a e = absurd (cc)
kind_number (json.boolean b) d s a e = absurd (cc)
kind_number (json.number t) d s a e =
    let same : s ≡ t = cc in
    let x = inner number (number_of t) d e in
    ap (λ o. int_or_other (option_and_then as_i64 o)) (ap number_of same ∙ x.1) ∙ sym (ap kind_of_data x.2)
kind_number (json.string t) d s a e = absurd (cc)
kind_number (json.array js) d s a e = absurd (cc)
kind_number (json.object ms) d s a e = absurd (cc)

pub kind_bool : (j : json.Json) (d : Data) (b : Bool) → as_bool j ≡ Some b → of_json j ≡ Some d
    → kind.Bool b ≡ kind_of_data d
kind_bool json.null d b a e = absurd (cc)
kind_bool (json.boolean t) d b a e =
    let is : d ≡ Data.boolean t = cc in let same : b ≡ t = cc in ap kind.Bool same ∙ sym (ap kind_of_data is)
kind_bool (json.number t) d b a e = absurd (cc)
kind_bool (json.string t) d b a e = absurd (cc)
kind_bool (json.array js) d b a e = absurd (cc)
kind_bool (json.object ms) d b a e = absurd (cc)

pub kind_null : (j : json.Json) (d : Data) → is_null j ≡ true → of_json j ≡ Some d → kind.Null ≡ kind_of_data d
kind_null json.null d a e = let is : d ≡ Data.null = cc in sym (ap kind_of_data is)
kind_null (json.boolean b) d a e = absurd (cc)
kind_null (json.number t) d a e = absurd (cc)
kind_null (json.string t) d a e = absurd (cc)
kind_null (json.array js) d a e = absurd (cc)
kind_null (json.object ms) d a e = absurd (cc)

-- what is no text, number, truth value or null is an array or an object
pub kind_other : (j : json.Json) (d : Data) → as_str j ≡ None → as_number j ≡ None → as_bool j ≡ None
    → is_null j ≡ false → of_json j ≡ Some d → kind.Other ≡ kind_of_data d
kind_other json.null d s n b z e = absurd (cc)
kind_other (json.boolean t) d s n b z e = absurd (cc)
kind_other (json.number t) d s n b z e = absurd (cc)
kind_other (json.string t) d s n b z e = absurd (cc)
kind_other (json.array js) d s n b z e = let x = inner array (of_items js) d e in sym (ap kind_of_data x.2)
kind_other (json.object ms) d s n b z e = let x = inner object (of_members ms no_members) d e in sym (ap kind_of_data x.2)

pub object_yes : (j : json.Json) (d : Data) (ms : json.Members) → j ≡ json.object ms → of_json j ≡ Some d
    → is_some (if_object d) ≡ true
object_yes j d ms is e =
    let x = inner object (of_members ms no_members) d (sym (ap of_json is) ∙ e) in
    ap (λ y. is_some (if_object y)) x.2

pub object_no : (j : json.Json) (d : Data) → as_object j ≡ None → of_json j ≡ Some d → is_some (if_object d) ≡ false
object_no json.null d a e = let is : d ≡ Data.null = cc in ap (λ y. is_some (if_object y)) is
object_no (json.boolean b) d a e = let is : d ≡ Data.boolean b = cc in ap (λ y. is_some (if_object y)) is
object_no (json.number t) d a e = let x = inner number (number_of t) d e in ap (λ y. is_some (if_object y)) x.2
object_no (json.string t) d a e = let is : d ≡ Data.string t = cc in ap (λ y. is_some (if_object y)) is
object_no (json.array js) d a e = let x = inner array (of_items js) d e in ap (λ y. is_some (if_object y)) x.2
object_no (json.object ms) d a e = absurd (cc)

-- the members that were found, or that none were, say whether the data is an object
pub object_found : (ts : List Token) (d : Data) (r : Option (List Token))
    → ((j : json.Json) → BeginsWith ts j
    → MatchOption r (as_object j ≡ None) (λ rest. (ms : json.Members) × (j ≡ json.object ms) × InMembers rest ms))
    → StandsForData ts d → is_some r ≡ is_some (if_object d)
object_found ts d None all h = sym (object_no h.0 d (all h.0 h.1) h.2)
object_found ts d (Some rest) all h = let x = all h.0 h.1 in sym (object_yes h.0 d x.0 x.1 h.2)
