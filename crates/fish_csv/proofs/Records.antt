-- All rows of a text, row by row: the number of rows that `csv`'s definition counts down is always enough.
use Rattle.std.specs.Prelude.{◌-◌, ◌||◌, Option, None, if◌then◌else◌}
use Rattle.std.proofs.Common.{◌≡◌, ◌==◌, ◌<◌, ◌≤◌, ◌+◌, ◌++◌, ◌∷◌, ◌∙◌, [], ℕ, List, Bool, Some, zero, suc, refl, sym}
use Rattle.std.proofs.Common.{ap, true, false, length, take, drop, add-one, arith, inl, inr}
use Rattle.std.proofs.lemmas.Bool.{cases_Bool, eqb-true}
use Rattle.std.proofs.lemmas.List.{take-append-drop}
use Rattle.csv.proofs.ReadFacts.{run-copies}
use Rattle.csv.specs.Machine.{Read, Runs, field_after, fields_after, is_end, next_record, step}
use Rattle.csv.specs.Reading.{default_config, records_from, records_next}
use Rattle.csv.specs.declared.parser.State.{State}
use Rattle.csv.specs.declared.parser.State.TheVariants as st
use Rattle.fish_csv.specs.within.Machine.{EndsRow, IsBetweenRows, row_from, state_of}
use Rattle.fish_csv.specs.declared.machine.Position.{Position}
use Rattle.fish_csv.specs.Reading.{rows_in}
use Rattle.fish_csv.specs.declared.machine.Position.TheVariants as position
use Rattle.fish_csv.proofs.Inside.{inside-ends, inside-leaves, is_inside}
use Rattle.fish_csv.proofs.Steps.{row-end, row-other}

-- a text in which a row has begun has that row, and the machine stands between rows after it
begun : (s : State) (fields : List (List ℕ)) (field xs : List ℕ) → is_inside s ≡ true
    → (q : Read) × (next_record default_config s fields field xs ≡ Some q) × IsBetweenRows q.1 × (length q.2 ≤ length xs - 1)
unfolding next_record
begun s fields field [] h = rw (inside-ends s h) ((fields ++ (field ∷ []), st.StartRecord, []), refl, inl refl, omega arith)
begun s fields field (c ∷ rest) h =
    let leaves = inside-leaves s c h in
    elim (cases_Bool (is_end (step default_config s c).1)) [
      | inl ends ↦ rw ends (
        (fields_after (step default_config s c).1 fields field, (step default_config s c).0, rest),
        refl,
        leaves.0 ends,
        omega arith,
      )
      | inr on ↦
          let later = begun (step default_config s c).0 (fields_after (step default_config s c).1 fields field)
          (field_after (step default_config s c).1 c field) rest (leaves.1 on) in
          rw on (later.0, later.1, later.2, omega (arith, later.3))
    ]

-- a byte that ends no line begins a row
pub row-there : (c : ℕ) (xs : List ℕ) → (c == 13 || c == 10) ≡ false
    → (q : Read) × (row_from position.Row [] [] (c ∷ xs) ≡ Some q) × IsBetweenRows q.1 × (length q.2 < length (c ∷ xs))
row-there c xs e =
    let found = begun st.StartField [] [] (c ∷ xs) refl in
    (found.0, row-other c [] [] xs e ∙ found.1, found.2, omega (arith, found.3))

-- the next row of a text is shorter than the text, and after it the machine stands between rows
abbrev pub IsNext : List ℕ → Option Read → Type 0
IsNext xs None = Unit {0}
IsNext xs (Some q) = IsBetweenRows q.1 × (length q.2 < length xs)

IsNext-more : (c : ℕ) (xs : List ℕ) (o : Option Read) → IsNext xs o → IsNext (c ∷ xs) o
IsNext-more c xs None h = tt
IsNext-more c xs (Some q) h = (h.0, omega (arith, h.1))

pub next-row : (xs : List ℕ) → IsNext xs (row_from position.Row [] [] xs)
unfolding next_record
next-row [] = tt
next-row (c ∷ xs) = elim (cases_Bool (c == 13 || c == 10)) [
  | inl ends ↦ rw (row-end c [] [] xs ends) (IsNext-more c xs (row_from position.Row [] [] xs) (next-row xs))
  | inr begins ↦ (let found = row-there c xs begins in rw found.1 (found.2, found.3))
]

-- after CR a text goes on as from its start
after-cr : (b : List ℕ) → next_record default_config st.AfterCr [] [] b ≡ next_record default_config st.StartRecord [] [] b
unfolding next_record
after-cr [] = refl
after-cr (c ∷ rest) = elim (cases_Bool (c == 10)) [
  | inl lf ↦ rw (eqb-true c 10 lf) refl
  | inr other ↦ rw other refl
]

-- between rows a text goes on as from its start
between-same : (s : State) (b : List ℕ) → IsBetweenRows s
    → next_record default_config s [] [] b ≡ next_record default_config st.StartRecord [] [] b
between-same s b (inl e) = rw e refl
between-same s b (inr e) = rw e (after-cr b)

IsNext-between : (s : State) (xs : List ℕ) → IsBetweenRows s → IsNext xs (next_record default_config s [] [] xs)
IsNext-between s xs h = rw (between-same s xs h) (next-row xs)

-- two ways to read on that agree on every shorter text give the same rows
next-alike : (f g : State → List ℕ → List (List (List ℕ))) (xs : List ℕ) (o : Option Read) → IsNext xs o
    → ((s : State) (ys : List ℕ) → IsBetweenRows s → length ys < length xs → f s ys ≡ g s ys) → records_next f o ≡ records_next g o
next-alike f g xs None h same = refl
next-alike f g xs (Some q) h same = ap (λ rows. q.0 ∷ rows) (same q.1 q.2 h.0 h.1)

-- counts that are both above the length of the text give the same rows
enough : (m n : ℕ) (s : State) (xs : List ℕ) → IsBetweenRows s → length xs < m → length xs < n
    → records_from default_config m s xs ≡ records_from default_config n s xs
unfolding records_from
enough zero n s xs h a b = absurd (omega arith)
enough (suc m) zero s xs h a b = absurd (omega arith)
enough (suc m) (suc n) s xs h a b =
    next-alike (records_from default_config m) (records_from default_config n) xs
    (next_record default_config s [] [] xs) (IsNext-between s xs h)
    (λ s2 ys h2 lt. enough m n s2 ys h2 (omega arith) (omega arith))

-- between rows the rows that are left are those of the text that is left
rows-left : (n : ℕ) (s : State) (xs : List ℕ) → IsBetweenRows s → length xs < n → records_from default_config n s xs ≡ rows_in xs
unfolding records_from rows_in
rows-left zero s xs h a = absurd (omega arith)
rows-left (suc n) s xs h a = rw (between-same s xs h) (enough (suc n) (length xs + 1) st.StartRecord xs (inl refl) a (omega arith))

-- the first row of a text and those after it
pub rows-next : (xs : List ℕ) → rows_in xs ≡ records_next (λ s ys. rows_in ys) (row_from position.Row [] [] xs)
unfolding records_from rows_in
rows-next xs = rw (add-one (length xs))
    (next-alike (records_from default_config (length xs)) (λ s ys. rows_in ys) xs (row_from position.Row [] [] xs)
    (next-row xs) (λ s ys h lt. rows-left (length xs) s ys h lt))

-- a text with no first row has no rows
pub rows-none : (xs : List ℕ) → row_from position.Row [] [] xs ≡ None → rows_in xs ≡ []
rows-none xs e = rows-next xs ∙ rw e refl

-- a text with a first row has that row and those after it, in a shorter text
pub rows-more : (xs : List ℕ) (fields : List (List ℕ)) (s : State) (rest : List ℕ) → row_from position.Row [] [] xs ≡ Some (fields, s, rest)
    → (rows_in xs ≡ fields ∷ rows_in rest) × (length rest < length xs)
rows-more xs fields s rest e = (rows-next xs ∙ rw e refl, (rw e at (next-row xs)).1)

-- texts with the same first row have the same rows
pub rows-alike : (xs ys : List ℕ) → row_from position.Row [] [] xs ≡ row_from position.Row [] [] ys → rows_in xs ≡ rows_in ys
rows-alike xs ys e = rows-next xs ∙ rw e (sym (rows-next ys))

-- a line end in front counts nowhere
pub rows-end : (c : ℕ) (xs : List ℕ) → (c == 13 || c == 10) ≡ true → rows_in (c ∷ xs) ≡ rows_in xs
rows-end c xs e = rows-alike (c ∷ xs) xs (row-end c [] [] xs e)

-- no bytes have no rows
pub rows-nil : rows_in [] ≡ []
unfolding next_record
rows-nil = rows-none [] refl

-- a text that begins with no line end has a row
pub rows-there : (c : ℕ) (xs : List ℕ) → (c == 13 || c == 10) ≡ false → rows_in (c ∷ xs) ≡ [] → ⊥
rows-there c xs e none =
    let found = row-there c xs e in
    let some = (rows-more (c ∷ xs) found.0.0 found.0.1 found.0.2 found.1).0 in
    cc (sym none ∙ some)

-- a run of bytes that join the field
run-taken : (at : Position) (fields : List (List ℕ)) (field rest : List ℕ) (n : ℕ) → Runs default_config (state_of at) (take n rest)
    → row_from at fields field rest ≡ row_from at fields (field ++ take n rest) (drop n rest)
run-taken at fields field rest n runs =
    ap (λ t. row_from at fields field t) (sym (take-append-drop n rest))
    ∙ run-copies default_config (state_of at) fields field (take n rest) (drop n rest) runs

-- a turn's run, as the code names its parts
pub turn-run : (b : List ℕ) (at : Position) (fields : List (List ℕ)) (field rest run behind after : List ℕ) (n : ℕ)
    → row_from position.Row [] [] b ≡ row_from at fields field rest → Runs default_config (state_of at) (take n rest)
    → run ≡ take n rest → behind ≡ drop n rest → after ≡ field ++ run
    → row_from position.Row [] [] b ≡ row_from at fields after behind
turn-run b at fields field rest run behind after n same runs e f g = same ∙ run-taken at fields field rest n runs ∙ rw (g, e, f) refl

-- the end of the text, as the code names its parts
pub turn-end : (b : List ℕ) (at : Position) (fields : List (List ℕ)) (field behind : List ℕ) (after : List (List ℕ)) (found : Bool)
    → row_from position.Row [] [] b ≡ row_from at fields field behind → behind ≡ [] → EndsRow at fields field found after
    → row_from position.Row [] [] b ≡ (if found then Some (after, st.StartRecord, []) else None)
turn-end b at fields field behind after found same e ends = same ∙ rw e ends
