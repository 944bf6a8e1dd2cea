-- The values of a definition's key entries in a record.
use Rattle.std.proofs.Common.{◌≡◌, ℕ, zero, suc, ◌<◌, List, [], ◌∷◌, Bool, true, false, length, get_or, inl, inr, refl, sym, ap, ◌∙◌}
use Rattle.std.proofs.Common.{subst, arith}
use Rattle.std.specs.Prelude.{◌==◌, if◌then◌else◌}
use Rattle.std.proofs.lemmas.Bool.{eqb-true, eq-eqb}
use Rattle.fish_image.specs.Log.{values_under}
use Rattle.fish_layout.specs.declared.parts.KeyPart.{KeyPart}
use Rattle.fish_rule.specs.Views.{Among}
use Rattle.fish_value.specs.declared.value.Value.{Value}

-- the first of two lists where a test holds
pub if_true : {A : Type 0} (t : Bool) (x y : A) → t ≡ true → (if t then x else y) ≡ x
if_true true x y h = refl
if_true false x y h = absurd (cc h)

-- and else the second
pub if_false : {A : Type 0} (t : Bool) (x y : A) → t ≡ false → (if t then x else y) ≡ y
if_false true x y h = absurd (cc h)
if_false false x y h = refl

-- with an entry of the definition its value comes in front
under_more : (id : ℕ) (k : KeyPart) (ks : List KeyPart) (v : Value) (t : Bool) → (k.id == id) ≡ t → Among v (values_under id ks)
    → Among v (values_under id (k ∷ ks))
under_more id k ks v true is m =
    subst (Among v) (sym (if_true (k.id == id) (k.value ∷ values_under id ks) (values_under id ks) is)) (inr m)
under_more id k ks v false is m =
    subst (Among v) (sym (if_false (k.id == id) (k.value ∷ values_under id ks) (values_under id ks) is)) m

-- an entry of the definition has one of its values
pub under_has : (id : ℕ) (ks : List KeyPart) (j : ℕ) (key : KeyPart) → j < length ks → key ≡ get_or ks j key → key.id ≡ id
    → Among key.value (values_under id ks)
under_has id [] j key within is own = absurd (omega arith)
under_has id (k ∷ ks) zero key within is own =
    let test : (k.id == id) ≡ true = eq-eqb k.id id (sym (ap (λ (z : KeyPart). z.id) is) ∙ own) in
    subst (Among key.value) (sym (if_true (k.id == id) (k.value ∷ values_under id ks) (values_under id ks) test))
    (inl (sym (ap (λ (z : KeyPart). z.value) is)))
under_has id (k ∷ ks) (suc j) key within is own =
    under_more id k ks key.value (k.id == id) refl (under_has id ks j key (omega arith) is own)

-- an entry of a definition that has a value
pub record IsUnder (id : ℕ) (ks : List KeyPart) (v : Value) : Type 0 where
  pub at : ℕ
  pub key : KeyPart
  pub within : at < length ks
  pub is : key ≡ get_or ks at key
  pub own : key.id ≡ id
  pub value : key.value ≡ v

under_next : (id : ℕ) (k : KeyPart) (ks : List KeyPart) (v : Value) → IsUnder id ks v → IsUnder id (k ∷ ks) v
under_next id k ks v h = (let within = h.within in record {
  at = suc h.at;
  key = h.key;
  within = omega arith;
  is = h.is;
  own = h.own;
  value = h.value;
})

-- a value of an entry in front, or one of the others
under_first : (id : ℕ) (k : KeyPart) (ks : List KeyPart) (v : Value) → (Among v (values_under id ks) → IsUnder id ks v)
    → (k.id == id) ≡ true → Among v (k.value ∷ values_under id ks) → IsUnder id (k ∷ ks) v
under_first id k ks v rest is (inl e) =
    record { at = 0; key = k; within = omega arith; is = refl; own = eqb-true k.id id is; value = e }
under_first id k ks v rest is (inr n) = under_next id k ks v (rest n)

under_by : (id : ℕ) (k : KeyPart) (ks : List KeyPart) (v : Value) → (Among v (values_under id ks) → IsUnder id ks v)
    → Among v (values_under id (k ∷ ks)) → (t : Bool) → (k.id == id) ≡ t → IsUnder id (k ∷ ks) v
under_by id k ks v rest m true is = under_first id k ks v rest is
    (subst (Among v) (if_true (k.id == id) (k.value ∷ values_under id ks) (values_under id ks) is) m)
under_by id k ks v rest m false is = under_next id k ks v
    (rest (subst (Among v) (if_false (k.id == id) (k.value ∷ values_under id ks) (values_under id ks) is) m))

-- and each of the values is that of such an entry
pub has_under : (id : ℕ) (ks : List KeyPart) (v : Value) → Among v (values_under id ks) → IsUnder id ks v
has_under id [] v m = elim m [ ]
has_under id (k ∷ ks) v m = under_by id k ks v (λ n. has_under id ks v n) m (k.id == id) refl
