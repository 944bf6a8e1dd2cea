-- An entry of a chain and a value that a definition gives: each record of an index has the one exactly where it has the other.
use Rattle.std.proofs.Common.{◌≡◌, ℕ, ◌+◌, ◌*◌, ◌<◌, ◌≤◌, List, length, map, sym, refl, ap, ◌∙◌}
use Rattle.std.proofs.Common.{subst, arith, Some, slice_get}
use Rattle.std.specs.Prelude.{All}
use mathlib.Core.Option.{some}
use Rattle.std.proofs.Math.ListN.{get_elem?}
use Rattle.std.proofs.lemmas.Option.{get_or_from_slice_get, slice_get_read, slice_get_within}
use Rattle.fish_catalog.specs.declared.entry.Entry.TheVariants as entry
use Rattle.fish_chain.specs.Values.{HasValue}
use Rattle.fish_lang.proofs.Outcomes.{outcome-only}
use Rattle.fish_lang.specs.Canonical.{definition_text}
use Rattle.fish_lang.specs.Definition.{Definition, definition_of}
use Rattle.fish_lang.specs.Language.{IsAccepted}
use Rattle.fish_layout.proofs.Buckets.{bucket_of-key, entry_id-key, entry_number-key}
use Rattle.fish_layout.proofs.Entries.{some_element}
use Rattle.fish_layout.proofs.Once.{spelled_once}
use Rattle.fish_layout.proofs.Spelled.{spelled_keys}
use Rattle.fish_layout.specs.Cleared.{entry_at}
use Rattle.fish_layout.specs.Hash.{bucket_in, key_hash_of}
use Rattle.fish_layout.specs.declared.parts.BodyParts.{BodyParts}
use Rattle.fish_layout.specs.declared.parts.KeyPart.{KeyPart}
use Rattle.fish_psf.specs.Eval.{Fields, values}
use Rattle.fish_psf.specs.Keys.{keys_for, keys_under, value_under}
use Rattle.fish_psf.specs.Records.{GivesValue, fields_of_payload}
use Rattle.fish_psf.specs.declared.key.ActiveDef.{ActiveDef}
use Rattle.fish_psf.specs.declared.key.KeyValue.{KeyValue}
use Rattle.fish_epoch.proofs.Reading.{knows_later}
use Rattle.fish_rule.proofs.laws.Members.{among_at, among_flat, among_map, at_among, flat_among, map_among}
use Rattle.fish_rule.proofs.laws.Intervals.{intervals_stay, known_indexed}
use Rattle.fish_rule.proofs.laws.Moments.{stored_above}
use Rattle.fish_rule.specs.Intervals.{IsIndexed}
use Rattle.fish_rule.specs.Keys.{IsWritten, property, text_of}
use Rattle.fish_rule.specs.Logs.{IsEntry, Learns}
use Rattle.fish_rule.specs.Regions.{code}
use Rattle.fish_rule.specs.Rule.{Rule}
use Rattle.fish_rule.specs.Views.{Among}
use Rattle.fish_rule.specs.ChainFacts.{IsNodeIn}
use Rattle.fish_rule.specs.World.{World, high, low}
use Rattle.fish_rule.specs.declared.view.Key.{Key}
use Rattle.fish_rule.specs.declared.view.Kind.TheVariants.{Stored}
use Rattle.fish_rule.specs.declared.view.View.{View}
use Rattle.fish_scan.proofs.Lists.{among_contains, contains_among}
use Rattle.fish_scan.specs.Indices.{bucket_of_value}
use Rattle.fish_scan.specs.within.Indices.{IsIndex}
use Rattle.fish_scan.specs.Matching.{Matches}
use Rattle.fish_value.specs.declared.field.Form.{Form}
use Rattle.fish_value.specs.declared.value.Value.{Value}

-- ---- texts of definitions

-- a text means one definition
pub means_once : (text : List ℕ) (d e : Definition) → IsAccepted text d → IsAccepted text e → d ≡ e
means_once text d e p q =
    let same = sym (outcome-only text (Rattle.std.specs.Prelude.Ok d) p) ∙ outcome-only text (Rattle.std.specs.Prelude.Ok e) q in cc

-- ---- keys of a record

-- an element of a list meets what all do
all_at : {A : Type 0} (P : A → Type 0) (xs : List A) (x : A) → All P xs → Among x xs → P x
all_at P xs x all m = (let t = among_at xs x m in
    subst P (get_or_from_slice_get xs t.0 x x t.1) (all t.0 x (slice_get_within xs t.0 x t.1)))

module _ (k : Key) (w : World) (id n : ℕ) (text : List ℕ) (def : Definition) (means : IsAccepted text def)
    (i : IsIndexed k w id text n) where
  -- a definition of the record's version under the id is the one asked for
  the_one : (d : ActiveDef) → Among d i.keyed.keys.defs → d.id ≡ id → definition_of d.def ≡ def
  the_one d m same =
      let t : definition_text (definition_of d.def) ≡ text = i.only (definition_text (definition_of d.def))
      (subst (λ (z : ℕ). Among {A = ℕ × List ℕ} (z, definition_text (definition_of d.def)) (map text_of i.keyed.keys.defs))
      same (map_among text_of i.keyed.keys.defs d m)) in
      means_once text (definition_of d.def) def (subst (λ (z : List ℕ). IsAccepted z (definition_of d.def)) t
      (all_at IsWritten i.keyed.keys.defs d i.keyed.keys.written m)) means

  -- where the definition gives a value, the record has an entry with it
  pub value_entry : (value : Value) → GivesValue def i.parts.form i.parts.payload value
      → (c : ℕ) × (key : KeyPart) × (slice_get i.parts.keys c ≡ Some key) × (key.id ≡ id) × (key.value ≡ value)
  unfolding keys_for
  value_entry value gives =
      let fields : Fields = fields_of_payload i.parts.form i.parts.payload in
      let d = among_map text_of i.keyed.keys.defs (id, text) i.active in
      let own : d.0.id ≡ id = ap (λ (z : ℕ × List ℕ). z.0) d.2 in
      let is : Among value (values (definition_of d.0.def) fields) =
      subst (λ (z : Definition). Among value (values z fields)) (sym (the_one d.0 d.1 own)) (contains_among _ value gives) in
      let x : KeyValue = value_under d.0.id value in
      let among = flat_among (keys_under fields) i.keyed.keys.defs d.0 x d.1
      (map_among (value_under d.0.id) (values (definition_of d.0.def) fields) value is) in
      let key = among_map property i.parts.keys x (subst (Among x) (sym i.keyed.keys.keys) among) in
      let at = among_at i.parts.keys key.0 key.1 in
      (at.0, key.0, at.1, ap (λ (z : KeyValue). z.id) key.2 ∙ own, ap (λ (z : KeyValue). z.value) key.2)

  -- and of an entry under the id the definition gives the value
  pub entry_value : (c : ℕ) (key : KeyPart) → slice_get i.parts.keys c ≡ Some key → key.id ≡ id
      → GivesValue def i.parts.form i.parts.payload key.value
  unfolding keys_for
  entry_value c key at own =
      let fields : Fields = fields_of_payload i.parts.form i.parts.payload in
      let among : Among (property key) (keys_for fields i.keyed.keys.defs) = subst (Among (property key)) i.keyed.keys.keys
      (map_among property i.parts.keys key (at_among i.parts.keys c key at)) in
      let d = among_flat (keys_under fields) i.keyed.keys.defs (property key) among in
      let v = among_map (value_under d.0.id) (values (definition_of d.0.def) fields) (property key) d.2 in
      among_contains _ key.value (subst (λ (z : Definition × Value). Among z.1 (values z.0 fields))
      (λ j. (the_one d.0 d.1 (ap (λ (z : KeyValue). z.id) v.2 ∙ own) j, ap (λ (z : KeyValue). z.value) v.2 j)) v.1)

-- ---- entries and matches

-- in a moment, what a pass knows of an index says of each of its records
module _ (v : View) {u : View} (learns : Learns v u) (def : Definition) (id from to : ℕ)
    (x : IsIndex v def id from to) (w : World) (r : Rule u.about w) (seat : ℕ) (at : get_elem? w.views seat ≡ some u)
    (n : ℕ) (after : from ≤ n) (before : n < to) (stored : high (w.dir n) ≡ code Stored) where
  -- it has the keys of a version at which the row's text is active
  pub index_there : IsIndexed u.about w id x.listed.def n
  index_there =
      let begin = x.after in
      let end = x.before in
      known_indexed u w seat id x.begin x.end n x.version x.rows x.listed r at
      (intervals_stay v u id x.begin x.end learns x.interval) (knows_later v u x.version x.rows learns x.knows) x.there
      (omega arith) (omega arith) stored

  -- where the definition gives the value for it, it has an entry with the value
  pub match_entry : (value : Value) (payload : List ℕ) → Matches def value (record { number = n; payload = payload }) u.about w
      → (c : ℕ) × (p : ℕ) × IsNodeIn (bucket_of_value u id value) n c p id u.about w × HasValue n c value u.about w × (1 ≤ p)
  match_entry value payload (lane, form, (q, e), gives) =
      let i = index_there in
      let same : q ≡ i.parts = spelled_once e.spells i.keyed.record_of.spells
      (e.number_is ∙ sym i.keyed.record_of.number_is) in
      let found = value_entry u.about w id n x.listed.def def x.means i value
      (subst (λ (z : Form × List ℕ). GivesValue def z.0 z.1 value)
      (λ j. (
        (sym e.form_is ∙ ap (λ (z : BodyParts). z.form) same) j,
        (sym e.payload_is ∙ ap (λ (z : BodyParts). z.payload) same) j,
      )) gives) in
      let c : ℕ = found.0 in
      let key : KeyPart = found.1 in
      let spells = i.keyed.record_of.spells in
      let keys = spelled_keys spells in
      let within = slice_get_within i.parts.keys c key found.2 in
      let hash = bucket_of-key u.about.buckets c key spells found.2 in (
        c,
        low (w.dir n) * 4 + entry_at c,
        record {
          entry = record {
            above = stored_above r n stored;
            stored = stored;
            is = record {
              is = refl;
              counts = omega arith;
              bucket = hash ∙ ap (λ (z : ℕ × Value). bucket_in (key_hash_of z.0 z.1) u.about.buckets)
                  (λ j. (found.3 j, found.4 j));
            };
          };
          definition = entry_id-key c key spells found.2 ∙ found.3;
        },
        record { parts = i.parts; spells = spells; key = key; there = found.2; is = found.4 },
        omega arith,
      )

  -- of an entry with the value and the id, the definition gives the value for the record
  pub entry_match : (value : Value) (b c p lane : ℕ) (form : Form) (payload : List ℕ)
      → IsEntry w n (entry.Stored lane form payload) → IsNodeIn b n c p id u.about w → HasValue n c value u.about w
      → GivesValue def form payload value
  entry_match value b c p lane form payload (q, e) node has =
      let i = index_there in
      let same : q ≡ i.parts = spelled_once e.spells i.keyed.record_of.spells
      (e.number_is ∙ sym i.keyed.record_of.number_is) in
      let own_keys = spelled_keys has.spells in
      let their_keys = spelled_keys i.keyed.record_of.spells in
      let within = slice_get_within has.parts.keys c has.key has.there in
      let key = some_element i.parts.keys c (omega arith) in
      let number : has.parts.number ≡ i.parts.number = sym (entry_number-key c has.key has.spells has.there)
      ∙ entry_number-key c key.0 i.keyed.record_of.spells
      (slice_get_read i.parts.keys (length i.parts.keys) c key.0 refl (omega arith) key.1) in
      let own : has.parts ≡ i.parts = spelled_once has.spells i.keyed.record_of.spells number in
      let there : slice_get i.parts.keys c ≡ Some has.key =
      subst (λ (z : BodyParts). slice_get z.keys c ≡ Some has.key) own has.there in
      let id_is : has.key.id ≡ id = sym (entry_id-key c has.key i.keyed.record_of.spells there) ∙ node.definition in
      let gives = entry_value u.about w id n x.listed.def def x.means i c has.key there id_is in
      subst (λ (z : Form × List ℕ). GivesValue def z.0 z.1 value)
      (λ j. (
        (sym (ap (λ (z : BodyParts). z.form) same) ∙ e.form_is) j,
        (sym (ap (λ (z : BodyParts). z.payload) same) ∙ e.payload_is) j,
      )) (subst (GivesValue def i.parts.form i.parts.payload) has.is gives)
