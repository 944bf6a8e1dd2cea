-- Rows that stand in a log, and are all of their lane there, are the lane's rows.
use Rattle.std.proofs.Common.{◌≡◌, ◌≢◌, ℕ, ◌+◌, ◌-◌, ◌<◌, ◌≤◌, zero, suc, List, [], ◌∷◌, length, take, drop, refl, sym}
use Rattle.std.proofs.Common.{ap, ◌∙◌, subst, inl, inr, ⊎_elim, arith}
use Rattle.std.proofs.Common.{Some, slice_get, length-drop}
use Rattle.std.proofs.lemmas.List.{length-take}
use Rattle.std.proofs.lemmas.Option.{slice_get_within}
use Rattle.std.proofs.Math.Decide.{ℕ_discrete}
use Rattle.fish_catalog.specs.declared.entry.Entry.{Entry}
use Rattle.fish_catalog.specs.declared.entry.Entry.TheVariants as entry
use Rattle.fish_layout.specs.Cleared.{choose}
use Rattle.fish_lanes.proofs.RowLists.{has_above}
use Rattle.fish_lanes.specs.Records.{HasNumber, LaneRow, rows_from, rows_of_lane}
use Rattle.fish_lanes.specs.within.Records.{Ascends, entry_of}
use Rattle.fish_value.specs.declared.field.Form.{Form}

-- each row is the entry at its number, where the first entry has the number `at`
abbrev pub StandIn : ℕ → ℕ → List Entry → List LaneRow → Type 0
StandIn lane at entries [] = Unit {0}
StandIn lane at entries (r ∷ rows) = (slice_get entries (r.number - at) ≡ Some (entry_of lane r)) × StandIn lane at entries rows

-- each record of the lane is one of the rows
abbrev pub AllOfLane : ℕ → ℕ → List Entry → List LaneRow → Type 0
AllOfLane lane at entries rows = (i : ℕ) (form : Form) (payload : List ℕ)
    → slice_get entries i ≡ Some (entry.Stored lane form payload) → HasNumber (at + i) rows

-- two equal records are equal part by part
lane_in : Entry → ℕ
lane_in (entry.Stored lane form payload) = lane
lane_in entry.Void = 0

form_in : Form → Entry → Form
form_in d (entry.Stored lane form payload) = form
form_in d entry.Void = d

payload_in : Entry → List ℕ
payload_in (entry.Stored lane form payload) = payload
payload_in entry.Void = []

some_once : (a b : Entry) → Some a ≡ Some b → a ≡ b
some_once a b h = cc

-- without the first entry
behind_one : (lane at to : ℕ) (x : Entry) (entries : List Entry) (rows : List LaneRow) → Ascends (suc at) rows to
    → StandIn lane at (x ∷ entries) rows → StandIn lane (suc at) entries rows
behind_one lane at to x entries [] up stand = tt
behind_one lane at to x entries (r ∷ rows) up stand =
    let above = up.0 in
    let next : r.number - at ≡ suc (r.number - suc at) = omega arith in (
      sym (ap (slice_get (x ∷ entries)) next) ∙ stand.0,
      behind_one lane at to x entries rows (lower (suc at) (suc r.number) to rows (omega arith) up.1) stand.1,
    )
  where
    lower : (low from to : ℕ) (rows : List LaneRow) → low ≤ from → Ascends from rows to → Ascends low rows to
    lower low from to [] le h = omega arith
    lower low from to (r ∷ rows) le h = (let a = h.0 in omega arith, h.1)

-- where the first number isn't there, the rows begin after it
begins_behind : (at to : ℕ) (rows : List LaneRow) → at < to → ¬ HasNumber at rows → Ascends at rows to
    → Ascends (suc at) rows to
begins_behind at to [] less none up = omega arith
begins_behind at to (r ∷ rows) less none up =
    let a = up.0 in
    let ne : r.number ≢ at = λ e. none (inl e) in
    (omega arith, up.1)

-- of another lane than the first entry's no row has the first number
not_first : (lane at to : ℕ) (x : Entry) (entries : List Entry) (rows : List LaneRow) → lane_in x ≢ lane
    → Ascends at rows to → StandIn lane at (x ∷ entries) rows → ¬ HasNumber at rows
unfolding lane_in
not_first lane at to x entries [] ne up stand h = elim h [ ]
not_first lane at to x entries (r ∷ rows) ne up stand (inl e) =
    let zero_ : r.number - at ≡ 0 = omega arith in
    let is : Some x ≡ Some (entry_of lane r) = sym (ap (slice_get (x ∷ entries)) zero_) ∙ stand.0 in
    ne (ap lane_in (some_once x (entry_of lane r) is))
not_first lane at to x entries (r ∷ rows) ne up stand (inr m) =
    (let a = up.0 in let b = has_above at (suc r.number) to rows up.1 m in omega arith)

-- the first row is the first entry, where it is of the lane
first_row : (lane at to : ℕ) (form : Form) (payload : List ℕ) (entries : List Entry) (rows : List LaneRow)
    → HasNumber at rows → Ascends at rows to → StandIn lane at (entry.Stored lane form payload ∷ entries) rows
    → (rest : List LaneRow) × (record { number = at; form = form; payload = payload } ∷ rest ≡ rows)
    × Ascends (suc at) rest to
    × StandIn lane at (entry.Stored lane form payload ∷ entries) rest
unfolding form_in payload_in
first_row lane at to form payload entries [] h up stand = elim h [ ]
first_row lane at to form payload entries (r ∷ rows) (inr m) up stand =
    (let a = up.0 in let b = has_above at (suc r.number) to rows up.1 m in absurd (omega arith))
first_row lane at to form payload entries (r ∷ rows) (inl e) up stand =
    let zero_ : r.number - at ≡ 0 = omega arith in
    let is : entry.Stored lane form payload ≡ entry_of lane r = some_once _ _
    (sym (ap (slice_get (entry.Stored lane form payload ∷ entries)) zero_) ∙ stand.0) in (
      rows,
      (λ i. record { number = sym e i; form = form_in form (is i); payload = payload_in (is i) } ∷ rows),
      subst (λ (z : ℕ). Ascends (suc z) rows to) e up.1,
      stand.1,
    )

-- all of the lane are among the rows after the first
all_behind : (lane at to : ℕ) (x : Entry) (entries : List Entry) (rows : List LaneRow)
    → AllOfLane lane at (x ∷ entries) rows → AllOfLane lane (suc at) entries rows
all_behind lane at to x entries rows all i form payload is =
    let next : at + suc i ≡ suc at + i = omega arith in
    subst (λ (z : ℕ). HasNumber z rows) next (all (suc i) form payload is)

all_but_first : (lane at : ℕ) (entries : List Entry) (r : LaneRow) (rest rows : List LaneRow) → r.number ≡ at → r ∷ rest ≡ rows
    → AllOfLane lane (suc at) entries rows → AllOfLane lane (suc at) entries rest
all_but_first lane at entries r rest rows e split all i form payload is =
    ⊎_elim (λ (h : r.number ≡ suc at + i). absurd (omega arith)) (λ (h : HasNumber (suc at + i) rest). h)
    (subst (HasNumber (suc at + i)) (sym split) (all i form payload is))

-- one entry more in front
one_more : (lane at to l : ℕ) (form : Form) (payload : List ℕ) (entries : List Entry) (rows : List LaneRow) → at < to
    → Ascends at rows to → StandIn lane at (entry.Stored l form payload ∷ entries) rows
    → AllOfLane lane at (entry.Stored l form payload ∷ entries) rows
    → ((rows : List LaneRow) → Ascends (suc at) rows to → StandIn lane (suc at) entries rows
    → AllOfLane lane (suc at) entries rows → rows_from lane (suc at) entries ≡ rows)
    → (d : Dec (l ≡ lane)) → choose d
    (record { number = at; form = form; payload = payload } ∷ rows_from lane (suc at) entries)
    (rows_from lane (suc at) entries) ≡ rows
unfolding lane_in
one_more lane at to l form payload entries rows less up stand all again (no ne) =
    let none = not_first lane at to (entry.Stored l form payload) entries rows ne up stand in
    let up' : Ascends (suc at) rows to = begins_behind at to rows less none up in
    again rows up' (behind_one lane at to (entry.Stored l form payload) entries rows up' stand)
    (all_behind lane at to (entry.Stored l form payload) entries rows all)
one_more lane at to l form payload entries rows less up stand all again (yes e) =
    let stand' : StandIn lane at (entry.Stored lane form payload ∷ entries) rows =
    subst (λ (z : ℕ). StandIn lane at (entry.Stored z form payload ∷ entries) rows) e stand in
    let zero_ : at + 0 ≡ at = omega arith in
    let here : HasNumber at rows = subst (λ (z : ℕ). HasNumber z rows) zero_
    (all 0 form payload (λ i. Some (entry.Stored (e i) form payload))) in
    let f = first_row lane at to form payload entries rows here up stand' in
    ap (λ (z : List LaneRow). record { number = at; form = form; payload = payload } ∷ z)
    (again f.0 f.2 (behind_one lane at to (entry.Stored lane form payload) entries f.0 f.2 f.3)
    (all_but_first lane at entries (record { number = at; form = form; payload = payload }) f.0 rows refl f.1
    (all_behind lane at to (entry.Stored l form payload) entries rows all)))
    ∙ f.1

-- the rows of the lane among the entries are these
pub exact : (lane at to : ℕ) (entries : List Entry) (rows : List LaneRow) → at + length entries ≡ to
    → Ascends at rows to → StandIn lane at entries rows → AllOfLane lane at entries rows
    → rows_from lane at entries ≡ rows
exact lane at to [] [] size up stand all = refl
exact lane at to [] (r ∷ rows) size up stand all = absurd cc
exact lane at to (entry.Void ∷ entries) rows size up stand all =
    let none : ¬ HasNumber at rows = not_void at to rows up stand in
    let up' : Ascends (suc at) rows to = begins_behind at to rows (omega arith) none up in
    exact lane (suc at) to entries rows (omega arith) up' (behind_one lane at to entry.Void entries rows up' stand)
    (all_behind lane at to entry.Void entries rows all)
  where
    not_void : (at to : ℕ) (rows : List LaneRow) → Ascends at rows to → StandIn lane at (entry.Void ∷ entries) rows
        → ¬ HasNumber at rows
    not_void at to [] up stand h = elim h [ ]
    not_void at to (r ∷ rows) up stand (inl e) =
        let zero_ : r.number - at ≡ 0 = omega arith in
        let is : entry.Void ≡ entry_of lane r = some_once _ _
        (sym (ap (slice_get (entry.Void ∷ entries)) zero_) ∙ stand.0) in
        absurd cc
    not_void at to (r ∷ rows) up stand (inr m) =
        (let a = up.0 in let b = has_above at (suc r.number) to rows up.1 m in omega arith)
exact lane at to (entry.Stored l form payload ∷ entries) rows size up stand all =
    one_more lane at to l form payload entries rows (omega arith) up stand all
    (λ rows up stand all. exact lane (suc at) to entries rows (omega arith) up stand all) (ℕ_discrete l lane)

-- ---- a part of a log

pub get_drop : (xs : List Entry) (a i : ℕ) → slice_get (drop a xs) i ≡ slice_get xs (a + i)
get_drop [] zero i = refl
get_drop [] (suc a) i = refl
get_drop (x ∷ xs) zero i = ap (slice_get (x ∷ xs)) (let e : i ≡ 0 + i = omega arith in e)
get_drop (x ∷ xs) (suc a) i = get_drop xs a i ∙ ap (slice_get (x ∷ xs)) (let e : suc (a + i) ≡ suc a + i = omega arith in e)

get_take : (xs : List Entry) (m i : ℕ) → i < m → slice_get (take m xs) i ≡ slice_get xs i
get_take [] zero i h = absurd (omega arith)
get_take [] (suc m) i h = refl
get_take (x ∷ xs) zero i h = absurd (omega arith)
get_take (x ∷ xs) (suc m) zero h = refl
get_take (x ∷ xs) (suc m) (suc i) h = get_take xs m i (omega arith)

module _ (log : List Entry) (from to lane : ℕ) (within : from ≤ to) (inside : to ≤ length log) where
  abbrev part : List Entry
  part = take (to - from) (drop from log)

  part_size : from + length part ≡ to
  part_size = (let a = length-take (to - from) (drop from log) in let b = length-drop from log in omega arith)

  part_get : (i : ℕ) → i < to - from → slice_get part i ≡ slice_get log (from + i)
  part_get i h = get_take (drop from log) (to - from) i h ∙ get_drop log from i

  -- the rows are in the log
  abbrev pub StandAt : List LaneRow → Type 0
  StandAt [] = Unit {0}
  StandAt (r ∷ rows) = (slice_get log r.number ≡ Some (entry_of lane r)) × StandAt rows

  stand_in : (low : ℕ) (rows : List LaneRow) → from ≤ low → Ascends low rows to → StandAt rows → StandIn lane from part rows
  stand_in low [] le up h = tt
  stand_in low (r ∷ rows) le up h =
      let above = up.0 in
      let below = Rattle.fish_lanes.proofs.RowLists.ascends_le (suc r.number) to rows up.1 in
      let index : from + (r.number - from) ≡ r.number = omega arith in (
        part_get (r.number - from) (omega arith) ∙ ap (slice_get log) index ∙ h.0,
        stand_in (suc r.number) rows (omega arith) up.1 h.1,
      )

  -- they are the lane's rows between the two numbers, where each record of the lane there is one of them
  pub rows_exact : (rows : List LaneRow) → Ascends from rows to → StandAt rows
      → ((n : ℕ) (form : Form) (payload : List ℕ) → from ≤ n → n < to
      → slice_get log n ≡ Some (entry.Stored lane form payload) → HasNumber n rows)
      → rows_of_lane log from to lane ≡ rows
  rows_exact rows up stand all = exact lane from to part rows part_size up (stand_in from rows (omega arith) up stand)
      (λ i form payload is.
      let less : i < length part = slice_get_within part i _ is in
      let size = part_size in
      all (from + i) form payload (omega arith) (omega arith) (sym (part_get i (omega arith)) ∙ is))
