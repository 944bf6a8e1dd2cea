-- The key entries of a record, definition by definition, and their values.
use Rattle.std.proofs.Common.{All, Bool, List, None, Option, Some, [], ap, arith, false, get_or, inl, inr, length}
use Rattle.std.proofs.Common.{map, subst, suc, sym, take, true, ℕ, ℤ, ◌++◌, ◌+◌, ◌<◌, ◌∙◌, ◌∷◌, ◌≡◌, ◌≤◌}
use Rattle.std.proofs.lemmas.Bool.Decides.{nat_tests}
use Rattle.std.proofs.lemmas.Bool.{cases_Bool}
use Rattle.std.proofs.Common.{◌||◌, append-nil, append_assoc, ap₂, length-append, refl, ◌*◌}
use Rattle.std.proofs.lemmas.Bool.{true≢false}
use Rattle.std.proofs.lemmas.List.Elements.{All-append, All-cons, All-head, All-nil, All-tail}
use Rattle.std.proofs.lemmas.List.{length-map, map-append}
use Rattle.std.specs.List.Sorted.{IsStrictlyIncreasing}
use Rattle.std.specs.List.{list_any}
use Rattle.std.specs.Prelude.{IfSome, None, Option, Some, if◌then◌else◌, nat_le, option_map, option_to_list}
use Rattle.fish_ingest.specs.Preparation.{AreDefs, id_of}
use Rattle.fish_ingest.specs.within.Preparation.{AreEntriesFor, AreMore, IsKey, IsShortValue}
use Rattle.fish_lang.specs.Definition.{Definition, buckets, definition_of, eaches, flags, takes}
use Rattle.fish_layout.specs.Body.{AreProperKeys, IsApart}
use Rattle.fish_layout.specs.Cleared.{AreUnlinked}
use Rattle.fish_layout.specs.declared.parts.KeyPart.{KeyPart}
use Rattle.fish_psf.proofs.KeyLemmas.{keys_more}
use Rattle.fish_psf.proofs.Distinct.{Differ}
use Rattle.fish_psf.proofs.Several.{first_all, values_few}
use Rattle.fish_psf.specs.Eval.{Fields, bucket, bucketed, holds, holds_when, value_of, values}
use Rattle.fish_psf.specs.Keys.{keys_for, keys_under, value_under}
use Rattle.fish_psf.specs.declared.key.ActiveDef.{ActiveDef}
use Rattle.fish_psf.specs.declared.key.KeyValue.{KeyValue}
use Rattle.fish_rule.specs.Keys.{property}
use Rattle.fish_value.proofs.SameLemmas.{same_value-Decides}
use Rattle.fish_value.specs.Same.{same_value}
use Rattle.fish_value.specs.ValueText.{text_value}
use Rattle.fish_value.specs.declared.field.Field.TheVariants as field
use Rattle.fish_value.specs.declared.field.Field.{Field}
use Rattle.fish_value.specs.declared.value.Value.TheVariants as kind
use Rattle.fish_value.specs.declared.value.Value.{Value}
use Rattle.fish_value.specs.declared.value_text.TheConstants.{MAX_VALUE}

-- ---- values

-- no value, or a short one
abbrev IsShortIfThere : Option Value → Type 0
IsShortIfThere None = Unit {0}
IsShortIfThere (Some v) = IsShortValue v

-- a text is a value where it is short
text_short : (s : List ℕ) → IsShortIfThere (text_value s)
text_short s =
    elim (cases_Bool (nat_le (length s) MAX_VALUE)) [
      | inl short ↦ rw short (grind (arith, nat_tests))
      | inr long ↦ rw long tt
    ]

-- so a field's value is short
field_short : (f : Field) → IsShortIfThere (value_of f)
field_short (field.Bool b) = tt
field_short (field.Int n) = tt
field_short (field.Text s) = text_short s
field_short field.Missing = tt
field_short field.Null = tt
field_short field.Other = tt

-- a bucket is a number
number_short : (o : Option ℤ) → IsShortIfThere (option_map kind.Int o)
number_short None = tt
number_short (Some n) = tt

-- so a field's bucket is short
bucket_short : (width : ℤ) (f : Field) → IsShortIfThere (bucketed width f)
bucket_short width (field.Int n) = number_short (bucket width n)
bucket_short width (field.Bool b) = tt
bucket_short width (field.Text s) = tt
bucket_short width field.Missing = tt
bucket_short width field.Null = tt
bucket_short width field.Other = tt

-- ---- several values

-- no value, or short ones
list_short : (o : Option Value) → IsShortIfThere o → All IsShortValue (option_to_list o)
list_short None h = All-nil IsShortValue
list_short (Some v) h = All-cons IsShortValue v [] h (All-nil IsShortValue)

-- values under a condition are short
when_short : (b : Bool) (vs : List Value) → All IsShortValue vs → All IsShortValue (if b then vs else [])
when_short true vs h = h
when_short false vs h = All-nil IsShortValue

-- the value of a field is short
short_of : (f : Field) (v : Value) → value_of f ≡ Some v → IsShortValue v
short_of f v is = subst IsShortIfThere is (field_short f)

-- the values that a definition gives are short
pub values_short : (d : Definition) (fields : Fields) → All IsShortValue (values d fields)
unfolding values
values_short (takes path when) fields =
    when_short (holds_when when fields) _ (list_short _ (field_short (fields.at path)))
values_short (eaches path when) fields =
    when_short (holds_when when fields) _ (first_all IsShortValue short_of (fields.items path))
values_short (buckets path width when) fields =
    when_short (holds_when when fields) _ (list_short _ (bucket_short width (fields.at path)))
values_short (flags when) fields =
    when_short (holds when fields) _ (All-cons IsShortValue (kind.Bool true) [] tt (All-nil IsShortValue))

-- ---- ids

-- the id is below 256
abbrev IsBelow : ActiveDef → Type 0
IsBelow d = d.id < 256

-- ids that ascend from one id on ascend without it
ascends_without : (m : ℕ) (ids : List ℕ) → IsStrictlyIncreasing (m ∷ ids) → IsStrictlyIncreasing ids
ascends_without m ids h k within =
    let next : suc k + 1 ≡ suc (k + 1) = omega arith in
    subst (λ n. get_or ids k 0 < get_or (m ∷ ids) n 0) next (h (suc k) (omega arith))

-- a bound on the ids may be lowered
lowered : (low high : ℕ) (keys : List KeyPart) → low ≤ high → AreProperKeys high keys → AreProperKeys low keys
lowered low high [] le h = tt
lowered low high (k ∷ ks) le h = (omega (arith, h.0), h.1, h.2, h.3, h.4)

-- the id of the first of values
abbrev first_id : List KeyValue → ℕ
first_id [] = 0
first_id (z ∷ zs) = z.id

-- the first of values
abbrev value_first : List KeyValue → Value
value_first [] = kind.Bool true
value_first (z ∷ zs) = z.value

-- values without the first
abbrev without_first : List KeyValue → List KeyValue
without_first [] = []
without_first (z ∷ zs) = zs

-- the ids of values are above this one
abbrev AreAbove : ℕ → List KeyValue → Type 0
AreAbove m [] = Unit {0}
AreAbove m (z ∷ zs) = (m < z.id) × AreAbove m zs

above_append : (m : ℕ) (xs ys : List KeyValue) → AreAbove m xs → AreAbove m ys → AreAbove m (xs ++ ys)
above_append m [] ys hx hy = hy
above_append m (x ∷ xs) ys hx hy = (hx.0, above_append m xs ys hx.1 hy)

above_under : (m id : ℕ) (vs : List Value) → m < id → AreAbove m (map (value_under id) vs)
above_under m id [] less = tt
above_under m id (v ∷ vs) less = (less, above_under m id vs less)

above_lower : (m n : ℕ) (zs : List KeyValue) → m < n → AreAbove n zs → AreAbove m zs
above_lower m n [] less h = tt
above_lower m n (z ∷ zs) less h = (omega (arith, h.0), above_lower m n zs less h.1)

-- those of definitions after an id
above_keys : (fields : Fields) (m : ℕ) (defs : List ActiveDef) → IsStrictlyIncreasing (m ∷ map id_of defs)
    → AreAbove m (keys_for fields defs)
unfolding keys_for
above_keys fields m [] up = tt
above_keys fields m (d ∷ ds) up =
    let first : m < d.id = up 0 (omega arith) in
    above_append m (keys_under fields d) (keys_for fields ds) (above_under m d.id (values (definition_of d.def) fields) first)
    (above_lower m d.id (keys_for fields ds) first
    (above_keys fields d.id ds (ascends_without m (map id_of (d ∷ ds)) up)))

-- an entry is apart from those of other values of its definition, and from those of others
apart_behind : (k : KeyPart) (m : ℕ) (vs : List Value) (values : List KeyValue) (keys : List KeyPart) → k.id ≡ m
    → list_any (same_value k.value) vs ≡ false → AreAbove m values → map property keys ≡ map (value_under m) vs ++ values
    → IsApart k keys
apart_behind k m vs values [] own none above e = tt
apart_behind k m [] [] (x ∷ xs) own none above e = absurd cc
apart_behind k m [] (z ∷ values) (x ∷ xs) own none above e =
    let id : x.id ≡ z.id = ap first_id e in (
      λ same value. absurd (omega (arith, above.0)),
      apart_behind k m [] values xs own none above.1 (ap without_first e),
    )
apart_behind k m (v ∷ vs) values (x ∷ xs) own none above e =
    let parts = neither (same_value k.value v) (list_any (same_value k.value) vs) none in
    let is : x.value ≡ v = ap value_first e in (
      λ same value. true≢false (sym ((same_value-Decides k.value v).1 (sym value ∙ is)) ∙ parts.0),
      apart_behind k m vs values xs own parts.1 above (ap without_first e),
    )
  where
    neither : (a b : Bool) → (a || b) ≡ false → (a ≡ false) × (b ≡ false)
    neither true b e = absurd cc
    neither false b e = (refl, e)

-- entries of one id before those that are proper from it on are proper
values_behind : (low : ℕ) (d : ActiveDef) (vs : List Value) (keys : List KeyPart) (values : List KeyValue) → low ≤ d.id
    → d.id < 256 → Differ vs → AreAbove d.id values
    → ((rest : List KeyPart) → map property rest ≡ values → All IsKey rest → AreProperKeys d.id rest)
    → map property keys ≡ map (value_under d.id) vs ++ values
    → All IsKey keys → AreProperKeys low keys
values_behind low d [] keys values less few differ above rest e all = lowered low d.id keys less (rest keys e all)
values_behind low d (v ∷ vs) [] values less few differ above rest e all = tt
values_behind low d (v ∷ vs) (k ∷ ks) values less few differ above rest e all =
    let id : k.id ≡ d.id = ap first_id e in
    let is : k.value ≡ v = ap value_first e in
    let entry : IsKey k = All-head IsKey k ks all in
    let more : AreProperKeys d.id ks =
    values_behind d.id d vs ks values (omega arith) few differ.1 above rest (ap without_first e) (All-tail IsKey k ks all) in (
      omega arith,
      omega arith,
      entry.proper,
      subst (λ n. AreProperKeys n ks) (sym id) more,
      apart_behind k d.id vs values ks id (ap (λ (w : Value). list_any (same_value w) vs) is ∙ differ.0) above (ap without_first e),
    )

-- key entries of definitions from an id on are proper from it on
behind : (fields : Fields) (m : ℕ) (defs : List ActiveDef) (keys : List KeyPart)
    → IsStrictlyIncreasing (m ∷ map id_of defs)
    → All IsBelow defs → map property keys ≡ keys_for fields defs → All IsKey keys → AreProperKeys m keys
unfolding keys_for
behind fields m [] [] up low e all = tt
behind fields m [] (k ∷ ks) up low e all = absurd cc
behind fields m (d ∷ ds) keys up low e all =
    let first : m < d.id = up 0 (omega arith) in
    let up_behind = ascends_without m (map id_of (d ∷ ds)) up in
    values_behind m d (values (definition_of d.def) fields) keys (keys_for fields ds) (omega arith)
    (All-head IsBelow d ds low) (values_few (definition_of d.def) fields).differ (above_keys fields d.id ds up_behind)
    (λ rest. behind fields d.id ds rest up_behind (All-tail IsBelow d ds low))
    e all

-- the key entries of proper definitions are proper
pub keys_proper : (fields : Fields) (defs : List ActiveDef) (keys : List KeyPart) → AreDefs defs
    → AreEntriesFor fields defs keys → AreProperKeys 0 keys
unfolding keys_for
keys_proper fields [] [] are h = tt
keys_proper fields [] (k ∷ ks) are h = (let none = h.values in absurd cc)
keys_proper fields (d ∷ ds) keys are h =
    values_behind 0 d (values (definition_of d.def) fields) keys (keys_for fields ds) (omega arith)
    (All-head IsBelow d ds are.below) (values_few (definition_of d.def) fields).differ (above_keys fields d.id ds are.ascending)
    (λ rest. behind fields d.id ds rest are.ascending (All-tail IsBelow d ds are.below)) h.values h.entries

-- there are at most eight for each definition
few_keys : (fields : Fields) (defs : List ActiveDef) → length (keys_for fields defs) ≤ 8 * length defs
unfolding keys_for
few_keys fields [] = omega arith
few_keys fields (d ∷ ds) =
    let own : List KeyValue = keys_under fields d in
    omega (
      arith,
      length-append own (keys_for fields ds),
      length-map (values (definition_of d.def) fields) (value_under d.id),
      (values_few (definition_of d.def) fields).few,
      few_keys fields ds,
    )

-- so a record has few
pub keys_few : (fields : Fields) (defs : List ActiveDef) (keys : List KeyPart) → AreDefs defs
    → AreEntriesFor fields defs keys → length keys ≤ 256
keys_few fields defs keys are h =
    omega (arith, length-map keys property, ap length h.values, few_keys fields defs, are.few)

-- key entries have no previous nodes
pub keys_unlinked : (keys : List KeyPart) → All IsKey keys → AreUnlinked keys
keys_unlinked [] all = tt
keys_unlinked (k ∷ ks) all =
    ((All-head IsKey k ks all).unlinked, keys_unlinked ks (All-tail IsKey k ks all))

-- ---- one definition more

-- with one definition more its entries go after the others
pub entries_more : (fields : Fields) (defs : List ActiveDef) (i : ℕ) (d : ActiveDef) (keys after : List KeyPart)
    → i < length defs → d ≡ get_or defs i d → AreMore d.id (values (definition_of d.def) fields) keys after
    → AreEntriesFor fields (take i defs) keys → AreEntriesFor fields (take (i + 1) defs) after
entries_more fields defs i d keys after within is more h =
    record {
      values = ap (map property) more.behind ∙ map-append property keys more.more
          ∙ ap₂ (λ a b. a ++ b) h.values more.values ∙ sym (keys_more fields defs i d within is);
      entries = subst (All IsKey) (sym more.behind) (All-append IsKey keys more.more h.entries more.entries);
    }

-- no value more
pub none_more : (id : ℕ) (keys : List KeyPart) → AreMore id [] keys keys
none_more id keys = record { more = []; behind = sym (append-nil keys); values = refl; entries = All-nil IsKey }

-- values more, and then some
pub more_more : (id : ℕ) (us vs : List Value) (a b c : List KeyPart) → AreMore id us a b → AreMore id vs b c
    → AreMore id (us ++ vs) a c
more_more id us vs a b c p q = record {
  more = p.more ++ q.more;
  behind = q.behind ∙ ap (λ l. l ++ q.more) p.behind ∙ append_assoc a p.more q.more;
  values = map-append property p.more q.more ∙ ap₂ (λ x y. x ++ y) p.values q.values
      ∙ sym (map-append (value_under id) us vs);
  entries = All-append IsKey p.more q.more p.entries q.entries;
}
