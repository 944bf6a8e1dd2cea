-- One byte of a row, as `csv` takes it at each position.
use Rattle.std.specs.Prelude.{◌||◌, ◌⊎◌, Option, None, Result, Ok, Err, IfOk}
use Rattle.std.proofs.Common.{◌≡◌, ◌≢◌, ◌==◌, ◌++◌, ◌∷◌, ◌∙◌, [], ℕ, List, Bool, Some, refl, true, false, inl, inr}
use Rattle.std.proofs.lemmas.Bool.{eqb-true, ne_eqb}
use Rattle.csv.specs.Machine.{next_record}
use Rattle.csv.specs.Reading.{default_config}
use Rattle.csv.specs.declared.parser.State.{State}
use Rattle.csv.specs.declared.parser.State.TheVariants as st
use Rattle.csv.proofs.RoundTrip.{after-quote-same, record-same, start-same}
use Rattle.fish_csv.specs.within.Machine.{ReadsNextField, IsBetweenRows, row_from}
use Rattle.fish_csv.specs.declared.machine.Position.{Position}
use Rattle.fish_csv.specs.declared.machine.Position.TheVariants as position

-- neither of two tests holds where their choice doesn't
pub neither : (a b : Bool) → (a || b) ≡ false → (a ≡ false) × (b ≡ false)
neither true b e = cc e
neither false b e = (refl, e)

-- one of two tests holds where their choice does
pub either : (a b : Bool) → (a || b) ≡ true → (a ≡ true) ⊎ (b ≡ true)
either true b e = inl refl
either false b e = inr e

-- a comma ends a field
pub plain-comma : (c : ℕ) (fields : List (List ℕ)) (field rest : List ℕ) → c ≡ 44
    → next_record default_config st.InField fields field (c ∷ rest) ≡ next_record default_config st.StartField
    (fields ++ (field ∷ [])) [] rest
unfolding next_record
plain-comma c fields field rest e = rw e refl

-- a line end ends the row
pub plain-end : (c : ℕ) (fields : List (List ℕ)) (field rest : List ℕ) → (c == 13 || c == 10) ≡ true
    → (s : State) × IsBetweenRows s × (next_record default_config st.InField fields field (c ∷ rest)
    ≡ Some (fields ++ (field ∷ []), s, rest))
unfolding next_record
plain-end c fields field rest e = elim (either (c == 13) (c == 10) e) [
  | inl cr ↦ (st.AfterCr, inr refl, rw (eqb-true c 13 cr) refl)
  | inr lf ↦ (st.StartRecord, inl refl, rw (eqb-true c 10 lf) refl)
]

-- another byte joins the field
pub plain-other : (c : ℕ) (fields : List (List ℕ)) (field rest : List ℕ) → c ≢ 44 → (c == 13 || c == 10) ≡ false
    → next_record default_config st.InField fields field (c ∷ rest) ≡ next_record default_config st.InField fields (field ++ (c ∷ [])) rest
unfolding next_record
plain-other c fields field rest n e =
    let q = neither (c == 13) (c == 10) e in
    rw (ne_eqb c 44 n, q.0, q.1) refl

-- a quote before a field
pub field-quote : (c : ℕ) (fields : List (List ℕ)) (field rest : List ℕ) → c ≡ 34
    → next_record default_config st.StartField fields field (c ∷ rest) ≡ next_record default_config st.InQuoted fields field rest
unfolding next_record
field-quote c fields field rest e = rw e refl

-- another byte before a field
pub field-other : (c : ℕ) (fields : List (List ℕ)) (field rest : List ℕ) → c ≢ 34
    → next_record default_config st.StartField fields field (c ∷ rest) ≡ next_record default_config st.InField fields field (c ∷ rest)
field-other c fields field rest n = start-same fields field c rest (ne_eqb c 34 n)

-- a quote between quotes
pub quoted-quote : (c : ℕ) (fields : List (List ℕ)) (field rest : List ℕ) → c ≡ 34
    → next_record default_config st.InQuoted fields field (c ∷ rest) ≡ next_record default_config st.AfterQuote fields field rest
unfolding next_record
quoted-quote c fields field rest e = rw e refl

-- another byte between quotes
pub quoted-other : (c : ℕ) (fields : List (List ℕ)) (field rest : List ℕ) → c ≢ 34
    → next_record default_config st.InQuoted fields field (c ∷ rest) ≡ next_record default_config st.InQuoted fields
    (field ++ (c ∷ [])) rest
unfolding next_record
quoted-other c fields field rest n = rw (ne_eqb c 34 n) refl

-- a quote after a quote
pub closed-quote : (fields : List (List ℕ)) (field rest : List ℕ)
    → next_record default_config st.AfterQuote fields field (34 ∷ rest) ≡ next_record default_config st.InQuoted fields
    (field ++ (34 ∷ [])) rest
unfolding next_record
closed-quote fields field rest = refl

-- another byte after a quote
pub closed-other : (c : ℕ) (fields : List (List ℕ)) (field rest : List ℕ) → c ≢ 34
    → next_record default_config st.AfterQuote fields field (c ∷ rest) ≡ next_record default_config st.InField fields field (c ∷ rest)
closed-other c fields field rest n = after-quote-same fields field c rest (ne_eqb c 34 n)

-- a line end before a row
pub row-end : (c : ℕ) (fields : List (List ℕ)) (field rest : List ℕ) → (c == 13 || c == 10) ≡ true
    → next_record default_config st.StartRecord fields field (c ∷ rest) ≡ next_record default_config st.StartRecord fields field rest
unfolding next_record
row-end c fields field rest e = rw e refl

-- another byte before a row
pub row-other : (c : ℕ) (fields : List (List ℕ)) (field rest : List ℕ) → (c == 13 || c == 10) ≡ false
    → next_record default_config st.StartRecord fields field (c ∷ rest) ≡ next_record default_config st.StartField fields field (c ∷ rest)
row-other c fields field rest e =
    let q = neither (c == 13) (c == 10) e in
    record-same fields field c rest q.0 q.1

-- what one byte does at a position it does at each position that takes it alike
pub ReadsNextField-as : (at to : Position) (c : ℕ) (fields : List (List ℕ)) (field : List ℕ) (o : Option Position)
    (after : List (List ℕ)) (next : List ℕ)
    → ((rest : List ℕ) → row_from at fields field (c ∷ rest) ≡ row_from to fields field (c ∷ rest))
    → ReadsNextField to c fields field o after next → ReadsNextField at c fields field o after next
ReadsNextField-as at to c fields field None after next same h = λ rest. let x = h rest in (x.0, x.1, same rest ∙ x.2)
ReadsNextField-as at to c fields field (Some p) after next same h = λ rest. same rest ∙ h rest

-- the same of a call's answer
pub IfOk-as : {E : Type 0} (r : Result (Option Position) E) (at to : Position) (c : ℕ) (fields : List (List ℕ))
    (field : List ℕ) (after : List (List ℕ)) (next : List ℕ)
    → ((rest : List ℕ) → row_from at fields field (c ∷ rest) ≡ row_from to fields field (c ∷ rest))
    → IfOk r (λ o. ReadsNextField to c fields field o after next) → IfOk r (λ o. ReadsNextField at c fields field o after next)
IfOk-as (Ok o) at to c fields field after next same h = ReadsNextField-as at to c fields field o after next same h
IfOk-as (Err e) at to c fields field after next same h = tt

-- before a row the end of the text ends none, elsewhere it ends one
pub end-row : (fields : List (List ℕ)) (field : List ℕ) → row_from position.Row fields field [] ≡ None
unfolding next_record
end-row fields field = refl

pub end-other : (at : Position) (fields : List (List ℕ)) (field : List ℕ) → at ≢ position.Row
    → row_from at fields field [] ≡ Some (fields ++ (field ∷ []), st.StartRecord, [])
unfolding next_record
end-other position.Row fields field n = absurd (n refl)
end-other position.Field fields field n = refl
end-other position.Plain fields field n = refl
end-other position.Quoted fields field n = refl
end-other position.Closed fields field n = refl
