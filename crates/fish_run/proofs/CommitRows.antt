-- Which definitions a crash may leave, over the rounds of a run.
use Rattle.std.proofs.Common.{◌≡◌, List, [], ◌∷◌, ◌++◌, Bool, true, false, refl, sym, subst, inl, inr, ⊎_elim}
use Rattle.std.proofs.Common.{Result, Ok, Err}
use Rattle.std.specs.Result.{IsErrAnd}
use Rattle.fish_catalog.specs.declared.row.CatRow.{CatRow}
use Rattle.fish_disk.specs.declared.disk.Disk.{Ghosts as Disks}
use Rattle.fish_lanes.proofs.CommitRows.{rows_same}
use Rattle.fish_lanes.specs.CommitRows.{LeavesRowsOf, left_rows, rows_between}
use Rattle.fish_lanes.specs.Registering.{Registry}
use Rattle.fish_rule.proofs.laws.Lists.{among_either, among_left, among_right}
use Rattle.fish_rule.specs.Views.{Among}
use Rattle.fish_run.specs.Blocks.{Round, after_round, after_rounds, begun_for, first_items}
use Rattle.fish_run.specs.CommitRows.{by_roll, last_rows, recent_rows, rows_through}
use Rattle.fish_store.proofs.CommitRows.{rows_more, rows_then}
use Rattle.fish_store.specs.CommitRows.{LeavesRows, by_checkpoint}

-- ---- lists

recent_join : (r : Registry) (rounds more : List Round) (was : List (List CatRow))
    → recent_rows r (rounds ++ more) was ≡ recent_rows (after_rounds r rounds) more (recent_rows r rounds was)
recent_join r [] more was = refl
recent_join r (b ∷ rounds) more was = recent_join (after_round (begun_for b r) b) rounds more
    (left_rows (begun_for b r) (first_items b.lanes) (by_roll b.fresh r was))

after_both : (r : Registry) (rounds more : List Round) → after_rounds r (rounds ++ more) ≡ after_rounds (after_rounds r rounds) more
after_both r [] more = refl
after_both r (b ∷ rounds) more = after_both (after_round (begun_for b r) b) rounds more

-- those before rounds are among them, and those after them
through_first : (r : Registry) (rounds : List Round) → Among r.rows (rows_through r rounds)
through_first r [] = inl refl
through_first r (b ∷ rounds) = inl refl

through_last : (r : Registry) (rounds : List Round) → Among (after_rounds r rounds).rows (rows_through r rounds)
through_last r [] = inl refl
through_last r (b ∷ rounds) = inr (among_right (after_rounds r (b ∷ rounds)).rows (rows_between (begun_for b r) (first_items b.lanes))
    (rows_through (after_round (begun_for b r) b) rounds) (through_last (after_round (begun_for b r) b) rounds))

-- with other rounds after them
through_left : (r : Registry) (rounds more : List Round) (rows : List CatRow) → Among rows (rows_through r rounds)
    → Among rows (rows_through r (rounds ++ more))
through_left r [] more rows (inl e) = subst (λ (z : List CatRow). Among z (rows_through r more)) e (through_first r more)
through_left r [] more rows (inr m) = elim m [ ]
through_left r (b ∷ rounds) more rows (inl e) = inl e
through_left r (b ∷ rounds) more rows (inr m) =
    let next : Registry = after_round (begun_for b r) b in
    let these = rows_between (begun_for b r) (first_items b.lanes) in
    inr (⊎_elim (λ (k : Among rows these). among_left rows these (rows_through next (rounds ++ more)) k)
    (λ (k : Among rows (rows_through next rounds)).
    among_right rows these (rows_through next (rounds ++ more)) (through_left next rounds more rows k))
    (among_either rows these (rows_through next rounds) m))

through_right : (r : Registry) (rounds more : List Round) (rows : List CatRow) → Among rows (rows_through (after_rounds r rounds) more)
    → Among rows (rows_through r (rounds ++ more))
through_right r [] more rows m = m
through_right r (b ∷ rounds) more rows m =
    inr (among_right rows (rows_between (begun_for b r) (first_items b.lanes))
    (rows_through (after_round (begun_for b r) b) (rounds ++ more)) (through_right (after_round (begun_for b r) b) rounds more rows m))

-- and those of one round
through_round : (r : Registry) (rounds : List Round) (b : Round) (rows : List CatRow)
    → Among rows (rows_between (begun_for b (after_rounds r rounds)) (first_items b.lanes)) → Among rows (rows_through r (rounds ++ b ∷ []))
through_round r rounds b rows m =
    let last : Registry = after_rounds r rounds in
    through_right r rounds (b ∷ []) rows (inr (among_left rows (rows_between (begun_for b last) (first_items b.lanes))
    (rows_through (after_round (begun_for b last) b) []) m))

-- those of a list, and of one more that is among others with it
among_two : (these those : List (List CatRow)) (one rows : List CatRow) → ((z : List CatRow) → Among z these → Among z those)
    → Among one those → Among rows (these ++ one ∷ []) → Among rows those
among_two these those one rows more there m = ⊎_elim (λ (k : Among rows these). more rows k)
    (λ (k : Among rows (one ∷ [])). ⊎_elim (λ (e : one ≡ rows). subst (λ (z : List CatRow). Among z those) e there)
    (λ (bad : Among rows []). elim bad [ ]) k) (among_either rows these (one ∷ []) m)

-- ---- a checkpoint that failed

module _ {D : Type 0} (disks : Disks D) where
  pub rows_failed : {T E : Type 0} (a b : D) (rows : List CatRow) (r : Result T E) (P : E → Type 0) → IsErrAnd r P
      → LeavesRows disks a b (λ was. was ++ rows ∷ []) (rows ∷ []) → LeavesRows disks a b (by_checkpoint r rows) (rows ∷ [])
  rows_failed a b rows (Ok x) P is h = elim is [ ]
  rows_failed a b rows (Err e) P is h = h

  -- one that was done may have failed
  pub rows_or : (a b : D) (rows : List CatRow) → LeavesRows disks a b (λ was. rows ∷ []) (rows ∷ [])
      → LeavesRows disks a b (λ was. was ++ rows ∷ []) (rows ∷ [])
  rows_or a b rows h = rows_more disks a b (λ was. rows ∷ []) (λ was. was ++ rows ∷ []) (rows ∷ []) (rows ∷ [])
      (λ was these m. among_right these was (rows ∷ []) m) (λ these m. m) h

  -- or none was
  pub rows_none : (a : D) (rows : List CatRow) → LeavesRows disks a a (λ was. was ++ rows ∷ []) (rows ∷ [])
  rows_none a rows = rows_more disks a a (λ was. was) (λ was. was ++ rows ∷ []) [] (rows ∷ [])
      (λ was these m. among_left these was (rows ∷ []) m) (λ these m. elim m [ ]) (rows_same disks a)

  -- ---- rounds

  -- so it is after rounds, and perhaps a new table
  abbrev pub HaveLeftRounds : D → D → Registry → List Round → Bool → Type 0
  HaveLeftRounds a b r rounds fresh = LeavesRows disks a b (λ was. by_roll fresh (after_rounds r rounds) (recent_rows r rounds was))
      (rows_through r rounds)

  -- and at the end of them
  abbrev pub HaveLeftLast : D → D → Registry → List Round → Type 0
  HaveLeftLast a b r rounds = LeavesRows disks a b (last_rows r rounds) (rows_through r rounds)

  pub left_start : (a : D) (r : Registry) → HaveLeftRounds a a r [] false
  left_start a r = rows_more disks a a (λ was. was) (λ was. was) [] (rows_through r []) (λ was these m. m) (λ these m. elim m [ ])
      (rows_same disks a)

  module _ (a b c : D) (r : Registry) (rounds : List Round) where
    -- one more ran
    pub left_round : (x : Round) → HaveLeftRounds a b r rounds x.fresh
        → LeavesRowsOf disks b c (begun_for x (after_rounds r rounds)) (first_items x.lanes)
        → HaveLeftRounds a c r (rounds ++ x ∷ []) false
    left_round x h step =
        let s : Registry = begun_for x (after_rounds r rounds) in
        let items = first_items x.lanes in
        rows_more disks a c (λ was. left_rows s items (by_roll x.fresh (after_rounds r rounds) (recent_rows r rounds was)))
        (λ was. recent_rows r (rounds ++ x ∷ []) was) (rows_through r rounds ++ rows_between s items)
        (rows_through r (rounds ++ x ∷ []))
        (λ was these m. subst (Among these) (sym (recent_join r rounds (x ∷ []) was)) m)
        (λ these m. ⊎_elim (λ (k : Among these (rows_through r rounds)). through_left r rounds (x ∷ []) these k)
        (λ (k : Among these (rows_between s items)). through_round r rounds x these k)
        (among_either these (rows_through r rounds) (rows_between s items) m))
        (rows_then disks a b c (λ was. by_roll x.fresh (after_rounds r rounds) (recent_rows r rounds was)) (left_rows s items)
        (rows_through r rounds) (rows_between s items) h step)

    -- a new table was begun after them
    pub left_rolled : HaveLeftRounds a b r rounds false
        → LeavesRows disks b c (λ was. (after_rounds r rounds).rows ∷ []) ((after_rounds r rounds).rows ∷ [])
        → HaveLeftRounds a c r rounds true
    left_rolled h step =
        let rows : List CatRow = (after_rounds r rounds).rows in
        rows_more disks a c (λ was. rows ∷ []) (λ was. rows ∷ []) (rows_through r rounds ++ rows ∷ []) (rows_through r rounds)
        (λ was these m. m)
        (λ these m. among_two (rows_through r rounds) (rows_through r rounds) rows these (λ z k. k) (through_last r rounds) m)
        (rows_then disks a b c (recent_rows r rounds) (λ was. rows ∷ []) (rows_through r rounds) (rows ∷ []) h step)

    -- a commit followed, or none did
    pub left_ended : (fresh : Bool) → HaveLeftRounds a b r rounds fresh
        → LeavesRows disks b c (λ was. was ++ (after_rounds r rounds).rows ∷ []) ((after_rounds r rounds).rows ∷ [])
        → HaveLeftLast a c r rounds
    left_ended fresh h step =
        let rows : List CatRow = (after_rounds r rounds).rows in
        rows_more disks a c (λ was. by_roll fresh (after_rounds r rounds) (recent_rows r rounds was) ++ rows ∷ []) (last_rows r rounds)
        (rows_through r rounds ++ rows ∷ []) (rows_through r rounds)
        (λ was these m. among_two (by_roll fresh (after_rounds r rounds) (recent_rows r rounds was)) (last_rows r rounds was) rows these
        (rolled fresh was) (among_right rows (recent_rows r rounds was) (rows ∷ []) (inl refl)) m)
        (λ these m. among_two (rows_through r rounds) (rows_through r rounds) rows these (λ z k. k) (through_last r rounds) m)
        (rows_then disks a b c (λ was. by_roll fresh (after_rounds r rounds) (recent_rows r rounds was)) (λ was. was ++ rows ∷ [])
        (rows_through r rounds) (rows ∷ []) h step)
      where
        rolled : (f : Bool) (was : List (List CatRow)) (z : List CatRow)
            → Among z (by_roll f (after_rounds r rounds) (recent_rows r rounds was)) → Among z (last_rows r rounds was)
        rolled true was z m = among_right z (recent_rows r rounds was) ((after_rounds r rounds).rows ∷ []) m
        rolled false was z m = among_left z (recent_rows r rounds was) ((after_rounds r rounds).rows ∷ []) m

    -- the same once more
    pub left_on : HaveLeftLast a b r rounds
        → LeavesRows disks b c (λ was. was ++ (after_rounds r rounds).rows ∷ []) ((after_rounds r rounds).rows ∷ [])
        → HaveLeftLast a c r rounds
    left_on h step =
        let rows : List CatRow = (after_rounds r rounds).rows in
        rows_more disks a c (λ was. last_rows r rounds was ++ rows ∷ []) (last_rows r rounds)
        (rows_through r rounds ++ rows ∷ []) (rows_through r rounds)
        (λ was these m. among_two (last_rows r rounds was) (last_rows r rounds was) rows these (λ z k. k)
        (among_right rows (recent_rows r rounds was) (rows ∷ []) (inl refl)) m)
        (λ these m. among_two (rows_through r rounds) (rows_through r rounds) rows these (λ z k. k) (through_last r rounds) m)
        (rows_then disks a b c (last_rows r rounds) (λ was. was ++ rows ∷ []) (rows_through r rounds) (rows ∷ []) h step)

    -- other rounds after them
    module _ (more : List Round) (h : HaveLeftRounds a b r rounds false) where
      parts : (these : List CatRow) → Among these (rows_through r rounds ++ rows_through (after_rounds r rounds) more)
          → Among these (rows_through r (rounds ++ more))
      parts these m = ⊎_elim (λ (k : Among these (rows_through r rounds)). through_left r rounds more these k)
          (λ (k : Among these (rows_through (after_rounds r rounds) more)). through_right r rounds more these k)
          (among_either these (rows_through r rounds) (rows_through (after_rounds r rounds) more) m)

      pub left_both : (fresh : Bool) → HaveLeftRounds b c (after_rounds r rounds) more fresh → HaveLeftRounds a c r (rounds ++ more) fresh
      left_both fresh k =
          let s : Registry = after_rounds r rounds in
          rows_more disks a c (λ was. by_roll fresh (after_rounds s more) (recent_rows s more (recent_rows r rounds was)))
          (λ was. by_roll fresh (after_rounds r (rounds ++ more)) (recent_rows r (rounds ++ more) was))
          (rows_through r rounds ++ rows_through s more) (rows_through r (rounds ++ more))
          (λ was these m. subst (λ (z : Registry × List (List CatRow)). Among these (by_roll fresh z.0 z.1))
          (λ i. (sym (after_both r rounds more) i, sym (recent_join r rounds more was) i)) m) parts
          (rows_then disks a b c (recent_rows r rounds) (λ was. by_roll fresh (after_rounds s more) (recent_rows s more was))
          (rows_through r rounds) (rows_through s more) h k)

      pub left_first : HaveLeftLast b c (after_rounds r rounds) more → HaveLeftLast a c r (rounds ++ more)
      left_first k =
          let s : Registry = after_rounds r rounds in
          rows_more disks a c (λ was. last_rows s more (recent_rows r rounds was)) (last_rows r (rounds ++ more))
          (rows_through r rounds ++ rows_through s more) (rows_through r (rounds ++ more))
          (λ was these m. subst (λ (z : Registry × List (List CatRow)). Among these (z.1 ++ z.0.rows ∷ []))
          (λ i. (sym (after_both r rounds more) i, sym (recent_join r rounds more was) i)) m) parts
          (rows_then disks a b c (recent_rows r rounds) (last_rows s more) (rows_through r rounds) (rows_through s more) h k)
