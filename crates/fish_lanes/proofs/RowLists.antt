-- Rows after other rows.
use Rattle.std.proofs.Common.{◌≡◌, ℕ, ◌<◌, ◌≤◌, suc, List, [], ◌∷◌, ◌++◌, refl, sym, ap, inl, inr, ◌⊎◌, ⊎_elim, arith}
use Rattle.fish_rule.proofs.laws.Alone.{knows_as_later}
use Rattle.fish_lanes.specs.within.Gains.{AreRowsKnown}
use Rattle.fish_lanes.specs.Records.{Content, HasNumber, LaneRow, contents_of_rows}
use Rattle.fish_lanes.specs.within.Records.{Ascends, entry_of, owned}
use Rattle.fish_rule.specs.Logs.{Learns}
use Rattle.fish_rule.specs.Views.{Among}
use Rattle.fish_rule.specs.declared.view.Own.{Own}
use Rattle.fish_rule.specs.declared.view.View.{View}

-- numbers that ascend from one on ascend from a lower one on
pub ascends_lower : (low from to : ℕ) (rows : List LaneRow) → low ≤ from → Ascends from rows to → Ascends low rows to
ascends_lower low from to [] le h = omega arith
ascends_lower low from to (r ∷ rows) le h = (let a = h.0 in omega arith, h.1)

-- they reach the end
pub ascends_le : (from to : ℕ) (rows : List LaneRow) → Ascends from rows to → from ≤ to
ascends_le from to [] h = h
ascends_le from to (r ∷ rows) h = (let a = h.0 in let b = ascends_le (suc r.number) to rows h.1 in omega arith)

-- and others after them ascend with them
pub ascends_append : (from mid to : ℕ) (xs ys : List LaneRow) → Ascends from xs mid → Ascends mid ys to
    → Ascends from (xs ++ ys) to
ascends_append from mid to [] ys h t = ascends_lower from mid to ys h t
ascends_append from mid to (r ∷ xs) ys h t = (h.0, ascends_append (suc r.number) mid to xs ys h.1 t)

pub owned_append : (lane : ℕ) (xs ys : List LaneRow) → owned lane (xs ++ ys) ≡ owned lane xs ++ owned lane ys
owned_append lane [] ys = refl
owned_append lane (r ∷ xs) ys = ap (λ (z : List Own). record { lane = lane; number = r.number } ∷ z) (owned_append lane xs ys)

pub contents_append : (xs ys : List LaneRow) → contents_of_rows (xs ++ ys) ≡ contents_of_rows xs ++ contents_of_rows ys
contents_append [] ys = refl
contents_append (r ∷ xs) ys = ap (λ (z : List Content). (r.form, r.payload) ∷ z) (contents_append xs ys)

pub has_either : (n : ℕ) (xs ys : List LaneRow) → HasNumber n (xs ++ ys) → HasNumber n xs ⊎ HasNumber n ys
has_either n [] ys h = inr h
has_either n (r ∷ xs) ys (inl e) = inl (inl e)
has_either n (r ∷ xs) ys (inr h) = ⊎_elim (λ (m : HasNumber n xs). inl (inr m)) (λ (m : HasNumber n ys). inr m)
    (has_either n xs ys h)

-- a number of the rows is below the end
pub has_below : (n from to : ℕ) (rows : List LaneRow) → Ascends from rows to → HasNumber n rows → n < to
has_below n from to [] h m = elim m [ ]
has_below n from to (r ∷ rows) h (inl e) = (let a = ascends_le (suc r.number) to rows h.1 in omega arith)
has_below n from to (r ∷ rows) h (inr m) = has_below n (suc r.number) to rows h.1 m

-- and not below the first
pub has_above : (n from to : ℕ) (rows : List LaneRow) → Ascends from rows to → HasNumber n rows → from ≤ n
has_above n from to [] h m = elim m [ ]
has_above n from to (r ∷ rows) h (inl e) = (let a = h.0 in omega arith)
has_above n from to (r ∷ rows) h (inr m) = (let a = h.0 in let b = has_above n (suc r.number) to rows h.1 m in omega arith)

-- a record of a lane has the number of one of its rows, and the lane
pub owned_number : (lane : ℕ) (o : Own) (rows : List LaneRow) → Among o (owned lane rows) → HasNumber o.number rows × (o.lane ≡ lane)
owned_number lane o [] m = elim m [ ]
owned_number lane o (r ∷ rows) (inl e) = (inl (ap (λ (z : Own). z.number) e), sym (ap (λ (z : Own). z.lane) e))
owned_number lane o (r ∷ rows) (inr m) = (let h = owned_number lane o rows m in (inr h.0, h.1))

-- ---- what is told

pub told_later : (v u : View) (lane : ℕ) (rows : List LaneRow) → Learns v u → AreRowsKnown v lane rows → AreRowsKnown u lane rows
told_later v u lane [] learns h = tt
told_later v u lane (r ∷ rows) learns h =
    (knows_as_later v u r.number (entry_of lane r) learns h.0, told_later v u lane rows learns h.1)

pub told_append : (v : View) (lane : ℕ) (xs ys : List LaneRow) → AreRowsKnown v lane xs → AreRowsKnown v lane ys
    → AreRowsKnown v lane (xs ++ ys)
told_append v lane [] ys h t = t
told_append v lane (r ∷ xs) ys h t = (h.0, told_append v lane xs ys h.1 t)
