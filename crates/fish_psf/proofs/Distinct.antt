-- Values, each once: what one more changes, and that no two are the same.
use Rattle.std.proofs.Common.{◌≡◌, List, [], ◌∷◌, ◌++◌, Bool, true, false, All, refl, sym, ap, ◌∙◌, append_assoc, append-nil}
use Rattle.std.specs.Prelude.{◌||◌, not, if◌then◌else◌}
use Rattle.std.specs.List.{filter, list_any}
use Rattle.std.proofs.lemmas.List.Elements.{All-cons, All-head, All-tail, filter-append}
use Rattle.fish_value.proofs.SameLemmas.{same_value-Decides}
use Rattle.fish_value.specs.Same.{same_value}
use Rattle.fish_value.specs.declared.value.Value.{Value}
use Rattle.fish_psf.specs.Eval.{distinct}
use Rattle.fish_psf.specs.within.Gathering.{with_value}

-- no two are the same
abbrev pub Differ : List Value → Type 0
Differ [] = Unit {0}
Differ (v ∷ vs) = (list_any (same_value v) vs ≡ false) × Differ vs

-- those that are not this one
abbrev others : Value → List Value → List Value
others x vs = filter (λ w. not (same_value x w)) vs

-- what is not the same isn't the other way round
turned_by : (v w : Value) (b : Bool) → same_value w v ≡ b → same_value v w ≡ false → b ≡ false
turned_by v w true is apart = let same : same_value v w ≡ true = (same_value-Decides v w).1 (sym ((same_value-Decides w v).0 is)) in cc
turned_by v w false is apart = refl

turned : (v w : Value) → same_value v w ≡ false → same_value w v ≡ false
turned v w apart = turned_by v w (same_value w v) refl apart

-- ---- one value more

-- a value other than x is among the others exactly where it is among all
among_others : (x v : Value) → same_value v x ≡ false → (vs : List Value)
    → list_any (same_value v) (others x vs) ≡ list_any (same_value v) vs
among_others x v apart [] = refl
among_others x v apart (w ∷ vs) = kept (among_others x v apart vs) (same_value x w) refl
  where
    kept : list_any (same_value v) (others x vs) ≡ list_any (same_value v) vs → (b : Bool) → same_value x w ≡ b
        → list_any (same_value v) (if not b then w ∷ others x vs else others x vs) ≡ list_any (same_value v) (w ∷ vs)
    kept rest true same =
        let is = sym ((same_value-Decides x w).0 same) in
        let other : same_value v w ≡ false = ap (same_value v) is ∙ apart in
        rest ∙ sym (ap (λ (b : Bool). b || list_any (same_value v) vs) other)
    kept rest false same = ap (λ (b : Bool). same_value v w || b) rest

-- the others, where x itself comes after values, are the others of those
more_same : (x v : Value) → x ≡ v → (vs : List Value) (b : Bool)
    → others x (if b then vs else vs ++ v ∷ []) ≡ others x vs
more_same x v is vs true = refl
more_same x v is vs false =
    let same : same_value x v ≡ true = (same_value-Decides x v).1 is in
    filter-append _ vs (v ∷ []) ∙ rw same (append-nil (others x vs))

-- and where another value comes after them, it does so after the others too
more_other : (x v : Value) → same_value x v ≡ false → (vs : List Value) (b : Bool)
    → others x (if b then vs else vs ++ v ∷ []) ≡ (if b then others x vs else others x vs ++ v ∷ [])
more_other x v apart vs true = refl
more_other x v apart vs false = filter-append _ vs (v ∷ []) ∙ rw apart refl

-- a first value before those with one more
first_more : (x v : Value) (vs : List Value) → x ∷ others x (with_value vs v) ≡ with_value (x ∷ others x vs) v
first_more x v vs = by (same_value v x) refl
  where
    front : (a b : Bool) → a ≡ b
        → x ∷ (if a then others x vs else others x vs ++ v ∷ [])
        ≡ (if b then x ∷ others x vs else x ∷ others x vs ++ v ∷ [])
    front true b is = rw (← is) refl
    front false b is = rw (← is) refl

    by : (b : Bool) → same_value v x ≡ b
        → x ∷ others x (with_value vs v)
        ≡ (if b || list_any (same_value v) (others x vs) then x ∷ others x vs else x ∷ others x vs ++ v ∷ [])
    by true same = ap (λ (l : List Value). x ∷ l) (more_same x v (sym ((same_value-Decides v x).0 same)) vs _)
    by false apart =
        ap (λ (l : List Value). x ∷ l) (more_other x v (turned v x apart) vs _)
        ∙ front (list_any (same_value v) vs) (list_any (same_value v) (others x vs)) (sym (among_others x v apart vs))

-- with one more value after all, it is among them or comes last
pub distinct-more : (vs : List Value) (v : Value) → distinct (vs ++ v ∷ []) ≡ with_value (distinct vs) v
distinct-more [] v = refl
distinct-more (x ∷ vs) v = ap (λ (l : List Value). x ∷ others x l) (distinct-more vs v) ∙ first_more x v (distinct vs)

-- with one more value, none or one comes after those that were there
one_after : (vs : List Value) (v : Value) (b : Bool) → list_any (same_value v) (distinct vs) ≡ b
    → (more : List Value) × (distinct (vs ++ v ∷ []) ≡ distinct vs ++ more)
one_after vs v true is = ([], distinct-more vs v ∙ rw is (sym (append-nil (distinct vs))))
one_after vs v false is = (v ∷ [], distinct-more vs v ∙ rw is refl)

-- more values come after those that were there
pub distinct-append : (vs ws : List Value) → (more : List Value) × (distinct (vs ++ ws) ≡ distinct vs ++ more)
distinct-append vs [] = ([], ap distinct (append-nil vs) ∙ sym (append-nil (distinct vs)))
distinct-append vs (w ∷ ws) =
    let one = one_after vs w (list_any (same_value w) (distinct vs)) refl in
    let rest = distinct-append (vs ++ w ∷ []) ws in (
      one.0 ++ rest.0,
      ap distinct (sym (append_assoc vs (w ∷ []) ws)) ∙ rest.1 ∙ ap (λ (l : List Value). l ++ rest.0) one.1
          ∙ append_assoc (distinct vs) one.0 rest.0,
    )

-- ---- what holds of all

-- what holds of all holds of those that are not one
others_all : (P : Value → Type 0) (x : Value) (vs : List Value) → All P vs → All P (others x vs)
others_all P x [] all = all
others_all P x (w ∷ vs) all = kept (others_all P x vs (All-tail P w vs all)) (not (same_value x w))
  where
    kept : All P (others x vs) → (b : Bool) → All P (if b then w ∷ others x vs else others x vs)
    kept rest true = All-cons P w (others x vs) (All-head P w vs all) rest
    kept rest false = rest

-- and of all of them, each once
pub distinct_all : (P : Value → Type 0) (vs : List Value) → All P vs → All P (distinct vs)
distinct_all P [] all = all
distinct_all P (v ∷ vs) all =
    All-cons P v _ (All-head P v vs all) (others_all P v (distinct vs) (distinct_all P vs (All-tail P v vs all)))

-- ---- no two are the same

-- a value is none of the others
none_other : (x : Value) (vs : List Value) → list_any (same_value x) (others x vs) ≡ false
none_other x [] = refl
none_other x (w ∷ vs) = kept (none_other x vs) (same_value x w) refl
  where
    kept : list_any (same_value x) (others x vs) ≡ false → (b : Bool) → same_value x w ≡ b
        → list_any (same_value x) (if not b then w ∷ others x vs else others x vs) ≡ false
    kept rest true same = rest
    kept rest false same = rw same rest

-- where neither of two holds, none does
pub neither : (a b : Bool) → (a || b) ≡ false → (a ≡ false) × (b ≡ false)
neither true b e = absurd cc
neither false b e = (refl, e)

-- what is not among values isn't among the others
still_none : (x v : Value) (vs : List Value) → list_any (same_value v) vs ≡ false → list_any (same_value v) (others x vs) ≡ false
still_none x v [] none = refl
still_none x v (w ∷ vs) none =
    let parts = neither (same_value v w) (list_any (same_value v) vs) none in
    by parts.0 (still_none x v vs parts.1) (not (same_value x w))
  where
    by : same_value v w ≡ false → list_any (same_value v) (others x vs) ≡ false → (b : Bool)
        → list_any (same_value v) (if b then w ∷ others x vs else others x vs) ≡ false
    by is rest true = rw is rest
    by is rest false = rest

others_differ : (x : Value) (vs : List Value) → Differ vs → Differ (others x vs)
others_differ x [] h = tt
others_differ x (w ∷ vs) h = kept (others_differ x vs h.1) (not (same_value x w))
  where
    kept : Differ (others x vs) → (b : Bool) → Differ (if b then w ∷ others x vs else others x vs)
    kept rest true = (still_none x w vs h.0, rest)
    kept rest false = rest

-- of values, each once, no two are the same
pub distinct_differ : (vs : List Value) → Differ (distinct vs)
distinct_differ [] = tt
distinct_differ (v ∷ vs) = (none_other v (distinct vs), others_differ v (distinct vs) (distinct_differ vs))
