-- The elements of an array, as data.
use Rattle.std.proofs.Common.{◌≡◌, List, [], ◌∷◌, Option, Some, None, option_map, option_and_then, map, refl, sym, ap, ◌∙◌}
use Rattle.json.specs.Json as json
use Rattle.json.specs.Token.{Token}
use Rattle.json.specs.Find.{BeginsWith, InItems, NextItem, as_array}
use Rattle.serde_json.specs.Data.{Data, Items, no_items, item, array, number, object, no_members}
use Rattle.serde_json.specs.Find as find
use Rattle.serde_json.specs.Read.{number_of, of_items, of_json, of_members}
use Rattle.serde_json.specs.View.{items_view, view}
use Rattle.serde_json.specs.declared.value.Value.{Value}
use Rattle.std.specs.Option.{option_map_or}
use Rattle.fish_value.specs.declared.field.Field.{Field}
use Rattle.fish_json.specs.Reading.{items_of, item_fields, kind_of_data}
use Rattle.fish_json.specs.within.Tape.{StandItems, StandsForData}

-- what an optional value was made of
inner : {A B : Type 0} (f : A → B) (o : Option A) (d : B) → option_map f o ≡ Some d
    → (a : A) × (o ≡ Some a) × (d ≡ f a)
inner f None d e = absurd cc
inner f (Some a) d e = (a, refl, cc)

-- data that is the same has the same elements
same_items : (d e : Data) → d ≡ e → items_of (Some d) ≡ items_of (Some e)
same_items d e is = ap (λ (x : Data). items_of (Some x)) is

-- an array's elements are its items
pub array_items : (ts rest : List Token) (d : Data)
    → ((j : json.Json) → BeginsWith ts j → (js : json.Items) × (j ≡ json.array js) × InItems rest js)
    → StandsForData ts d → (ds : Items) × StandItems rest ds × (items_of (Some d) ≡ item_fields ds)
array_items ts rest d all h =
    let found = all h.0 h.1 in
    let inside = inner array (of_items found.0) d (sym (ap of_json found.1) ∙ h.2) in
    (inside.0, (found.0, found.2, inside.1), same_items _ _ inside.2)

-- any other data has none
no_array : (j : json.Json) (d : Data) → as_array j ≡ None → of_json j ≡ Some d → items_of (Some d) ≡ []
no_array json.null d a e = let is : d ≡ Data.null = cc in same_items _ _ is
no_array (json.boolean b) d a e = let is : d ≡ Data.boolean b = cc in same_items _ _ is
no_array (json.number t) d a e = same_items _ _ (inner number (number_of t) d e).2
no_array (json.string t) d a e = let is : d ≡ Data.string t = cc in same_items _ _ is
no_array (json.array js) d a e = absurd cc
no_array (json.object ms) d a e = same_items _ _ (inner object (of_members ms no_members) d e).2

-- the same for what tokens begin with
pub other_items : (ts : List Token) (d : Data) → ((j : json.Json) → BeginsWith ts j → as_array j ≡ None) → StandsForData ts d
    → items_of (Some d) ≡ []
other_items ts d all h = no_array h.0 d (all h.0 h.1) h.2

-- no item is left
pub items_over : (ts after : List Token) (ds : Items) → NextItem ts None after → StandItems ts ds → item_fields ds ≡ []
items_over ts after ds next h =
    let none = next h.0 h.1 in
    let same : no_items ≡ ds = (let e = ap of_items none in cc) in
    ap item_fields (sym same)

-- one item is at these tokens and the others at those after it, and their fields are those of all items
abbrev pub HasNext : List Token → List Token → Items → Type 0
HasNext at after ds = (d : Data) × (left : Items) × StandsForData at d × StandItems after left
    × (item_fields ds ≡ kind_of_data d ∷ item_fields left)

-- one item is the next, and the others come after it
pub items_next : (ts at after : List Token) (ds : Items) → NextItem ts (Some at) after → StandItems ts ds → HasNext at after ds
items_next ts at after ds next h =
    let x = next h.0 h.1 in
    go x.0 x.1 x.3 x.4 (of_json x.0) refl (sym (ap of_items x.2) ∙ h.2)
  where
    more : (j : json.Json) (js : json.Items) (d : Data) → BeginsWith at j → InItems after js → of_json j ≡ Some d
        → option_map (item d) (of_items js) ≡ Some ds → HasNext at after ds
    more j js d begins within is e =
        let left = inner (item d) (of_items js) ds e in
        (d, left.0, (j, begins, is), (js, within, left.1), ap item_fields left.2)

    go : (j : json.Json) (js : json.Items) → BeginsWith at j → InItems after js → (o : Option Data) → of_json j ≡ o
        → option_and_then (λ d. option_map (item d) (of_items js)) (of_json j) ≡ Some ds → HasNext at after ds
    go j js begins within None is e =
        let bad = ap (option_and_then (λ d. option_map (item d) (of_items js))) (sym is) ∙ e in
        absurd cc
    go j js begins within (Some d) is e =
        more j js d begins within is (ap (option_and_then (λ d. option_map (item d) (of_items js))) (sym is) ∙ e)

-- the elements of data are its items, where it is an array
pub items_as : (d : Data) → items_of (Some d) ≡ option_map_or item_fields (find.as_array d) []
items_as Data.null = refl
items_as (Data.boolean b) = refl
items_as (Data.number n) = refl
items_as (Data.string s) = refl
items_as (Data.array ds) = refl
items_as (Data.object ms) = refl

-- the fields of items that are seen as data
pub items_seen : (vs : List Value) → item_fields (items_view vs) ≡ map (λ v. kind_of_data (view v)) vs
items_seen [] = refl
items_seen (v ∷ vs) = ap (λ (l : List Field). kind_of_data (view v) ∷ l) (items_seen vs)
