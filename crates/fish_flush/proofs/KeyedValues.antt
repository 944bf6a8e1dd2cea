-- The values of a record's key entries under an id are those that the one definition with the id gives.
use Rattle.std.proofs.Common.{◌≡◌, ℕ, suc, ◌+◌, ◌<◌, ◌≤◌, ◌⊎◌, inl, inr, List, [], ◌∷◌, ◌++◌}
use Rattle.std.proofs.Common.{map, sym, refl, ap, ◌∙◌, subst, arith, rules, Bool, true, false, Some, get_or, slice_get}
use Rattle.std.specs.Prelude.{◌==◌, if◌then◌else◌}
use Rattle.std.specs.List.{flat_map}
use Rattle.std.specs.List.Sorted.{IsStrictlyIncreasing}
use Rattle.std.proofs.lemmas.List.{append-nil}
use Rattle.fish_image.specs.Log.{AreSomeOf, values_under}
use Rattle.fish_lang.specs.Definition.{definition_of}
use Rattle.fish_layout.specs.Cleared.{unlink}
use Rattle.fish_layout.specs.declared.parts.KeyPart.{KeyPart}
use Rattle.fish_psf.specs.Eval.{Fields, values}
use Rattle.fish_psf.specs.Keys.{keys_under, value_under}
use Rattle.fish_psf.specs.declared.key.ActiveDef.{ActiveDef}
use Rattle.fish_psf.specs.declared.key.KeyValue.{KeyValue}
use Rattle.fish_rule.specs.Keys.{property, text_of}
use Rattle.fish_rule.specs.Views.{Among}
use Rattle.fish_value.specs.declared.value.Value.{Value}

-- ---- values

-- all of a list are some of it
pub some_all : (vs : List Value) → AreSomeOf vs vs
some_all [] = tt
some_all (v ∷ vs) = inl (refl, some_all vs)

-- none are some of any
pub some_none : (vs ws : List Value) → vs ≡ [] → AreSomeOf vs ws
some_none vs ws none = subst (λ (us : List Value). AreSomeOf us ws) (sym none) tt

-- ---- entries

-- an entry of another definition gives no value
other_entry : (id : ℕ) (k : KeyPart) (ks : List KeyPart) → (k.id ≡ id → ⊥) → values_under id (k ∷ ks) ≡ values_under id ks
other_entry id k ks other = search rules

-- previous nodes say nothing of values
pub under_unlink : (id : ℕ) (ks : List KeyPart) → values_under id (unlink ks) ≡ values_under id ks
under_unlink id [] = refl
under_unlink id (k ∷ ks) =
    ap (λ (vs : List Value). if k.id == id then k.value ∷ vs else vs) (under_unlink id ks)

-- entries whose ids lie below another give none under that one
pub under_above : (id most : ℕ) (ks : List KeyPart) → ((j : ℕ) (k : KeyPart) → slice_get ks j ≡ Some k → k.id < most) → most ≤ id
    → values_under id ks ≡ []
under_above id most [] low above = refl
under_above id most (k ∷ ks) low above =
    let first : k.id < most = low 0 k refl in
    other_entry id k ks (λ same. absurd (omega arith)) ∙ under_above id most ks (λ j x at. low (suc j) x at) above

-- ---- properties

-- the values of properties under an id
abbrev pub under : ℕ → List KeyValue → List Value
under id [] = []
under id (x ∷ xs) = if x.id == id then x.value ∷ under id xs else under id xs

-- those of key entries are those of their properties
pub under_property : (id : ℕ) (ks : List KeyPart) → values_under id ks ≡ under id (map property ks)
under_property id [] = refl
under_property id (k ∷ ks) =
    ap (λ (vs : List Value). if k.id == id then k.value ∷ vs else vs) (under_property id ks)

-- of two lists the ones of the first stand in front
under_append : (id : ℕ) (xs ys : List KeyValue) → under id (xs ++ ys) ≡ under id xs ++ under id ys
under_append id [] ys = refl
under_append id (x ∷ xs) ys = by (under_append id xs ys) (x.id == id)
  where
    by : under id (xs ++ ys) ≡ under id xs ++ under id ys → (b : Bool)
        → (if b then x.value ∷ under id (xs ++ ys) else under id (xs ++ ys))
        ≡ (if b then x.value ∷ under id xs else under id xs) ++ under id ys
    by rest true = ap (λ (vs : List Value). x.value ∷ vs) rest
    by rest false = rest

-- a property under the id
same_property : (id : ℕ) (x : KeyValue) (xs : List KeyValue) → x.id ≡ id → under id (x ∷ xs) ≡ x.value ∷ under id xs
same_property id x xs same = search rules

-- and one under another
other_property : (id : ℕ) (x : KeyValue) (xs : List KeyValue) → (x.id ≡ id → ⊥) → under id (x ∷ xs) ≡ under id xs
other_property id x xs other = search rules

-- the values of a definition under its own id
under_own : (id e : ℕ) (vs : List Value) → e ≡ id → under id (map (value_under e) vs) ≡ vs
under_own id e [] same = refl
under_own id e (v ∷ vs) same =
    same_property id (value_under e v) (map (value_under e) vs) same ∙ ap (λ (ws : List Value). v ∷ ws) (under_own id e vs same)

-- and under another
under_other : (id e : ℕ) (vs : List Value) → (e ≡ id → ⊥) → under id (map (value_under e) vs) ≡ []
under_other id e [] other = refl
under_other id e (v ∷ vs) other =
    other_property id (value_under e v) (map (value_under e) vs) other ∙ under_other id e vs other

-- ---- definitions

-- their ids
abbrev pub ids_of : List ActiveDef → List ℕ
ids_of defs = map (λ (t : ℕ × List ℕ). t.0) (map text_of defs)

-- ids that ascend from one on ascend without it
ascend_without : (m : ℕ) (ids : List ℕ) → IsStrictlyIncreasing (m ∷ ids) → IsStrictlyIncreasing ids
ascend_without m ids h k within =
    let next : suc k + 1 ≡ suc (k + 1) = omega arith in
    subst (λ n. get_or ids k 0 < get_or (m ∷ ids) n 0) next (h (suc k) (omega arith))

-- and all of these lie above it
ids_above : (m : ℕ) (defs : List ActiveDef) → IsStrictlyIncreasing (m ∷ ids_of defs) → (d : ActiveDef) → Among d defs → m < d.id
ids_above m [] up d a = elim a [ ]
ids_above m (e ∷ defs) up d (inl same) = subst (λ (x : ActiveDef). m < x.id) same (up 0 (omega arith))
ids_above m (e ∷ defs) up d (inr a) =
    let first : m < e.id = up 0 (omega arith) in
    let rest = ids_above e.id defs (ascend_without m (ids_of (e ∷ defs)) up) d a in
    omega arith

-- where no definition has the id, none is given under it
pub keyed_none : (fields : Fields) (id : ℕ) (defs : List ActiveDef) → ((d : ActiveDef) → Among d defs → d.id ≡ id → ⊥)
    → under id (flat_map (keys_under fields) defs) ≡ []
keyed_none fields id [] none = refl
keyed_none fields id (d ∷ defs) none =
    let rest : List KeyValue = flat_map (keys_under fields) defs in
    under_append id (keys_under fields d) rest
    ∙ ap (λ (vs : List Value). vs ++ under id rest) (under_other id d.id (values (definition_of d.def) fields) (none d (inl refl)))
    ∙ keyed_none fields id defs (λ e a. none e (inr a))

-- where one has it, just its values are
pub keyed_one : (fields : Fields) (id : ℕ) (defs : List ActiveDef) (d : ActiveDef) → Among d defs → d.id ≡ id
    → IsStrictlyIncreasing (ids_of defs) → under id (flat_map (keys_under fields) defs) ≡ values (definition_of d.def) fields
keyed_one fields id [] d a is up = elim a [ ]
keyed_one fields id (e ∷ defs) d (inl same) is up =
    let rest : List KeyValue = flat_map (keys_under fields) defs in
    let own : e.id ≡ id = ap (λ (x : ActiveDef). x.id) same ∙ is in
    let given : List Value = values (definition_of e.def) fields in
    under_append id (keys_under fields e) rest
    ∙ ap (λ (vs : List Value). vs ++ under id rest) (under_own id e.id given own)
    ∙ ap (λ (vs : List Value). given ++ vs)
    (keyed_none fields id defs (λ x a x_is. (let above = ids_above e.id defs up x a in absurd (omega arith))))
    ∙ append-nil given ∙ ap (λ (x : ActiveDef). values (definition_of x.def) fields) same
keyed_one fields id (e ∷ defs) d (inr a) is up =
    let rest : List KeyValue = flat_map (keys_under fields) defs in
    let above = ids_above e.id defs up d a in
    under_append id (keys_under fields e) rest
    ∙ ap (λ (vs : List Value). vs ++ under id rest)
    (under_other id e.id (values (definition_of e.def) fields) (λ same. absurd (omega arith)))
    ∙ keyed_one fields id defs d a is (ascend_without e.id (ids_of defs) up)

-- what is in one of two lists
among_append : {A : Type 0} (xs ys : List A) (x : A) → Among x (xs ++ ys) → Among x xs ⊎ Among x ys
among_append [] ys x a = inr a
among_append (z ∷ xs) ys x (inl e) = inl (inl e)
among_append {A} (z ∷ xs) ys x (inr a) = by (among_append xs ys x a)
  where
    by : Among x xs ⊎ Among x ys → Among x (z ∷ xs) ⊎ Among x ys
    by (inl b) = inl (inr b)
    by (inr b) = inr b

-- a value of a definition has its id
value_id : (id : ℕ) (vs : List Value) (x : KeyValue) → Among x (map (value_under id) vs) → id ≡ x.id
value_id id [] x a = elim a [ ]
value_id id (v ∷ vs) x (inl e) = ap (λ (z : KeyValue). z.id) e
value_id id (v ∷ vs) x (inr a) = value_id id vs x a

-- what is given is of one of the definitions
pub keyed_of : (fields : Fields) (defs : List ActiveDef) (x : KeyValue) → Among x (flat_map (keys_under fields) defs)
    → (d : ActiveDef) × Among d defs × (d.id ≡ x.id)
keyed_of fields [] x a = elim a [ ]
keyed_of fields (d ∷ defs) x a =
    by (λ b. keyed_of fields defs x b) (among_append (keys_under fields d) (flat_map (keys_under fields) defs) x a)
  where
    by : (Among x (flat_map (keys_under fields) defs) → (e : ActiveDef) × Among e defs × (e.id ≡ x.id))
        → Among x (keys_under fields d) ⊎ Among x (flat_map (keys_under fields) defs)
        → (e : ActiveDef) × Among e (d ∷ defs) × (e.id ≡ x.id)
    by rest (inl b) = (d, inl refl, value_id d.id (values (definition_of d.def) fields) x b)
    by rest (inr b) = (let t = rest b in (t.0, inr t.1, t.2))
