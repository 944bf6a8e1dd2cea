-- Rounds, one after the other, over tables that take each other's place.
use Rattle.std.proofs.Common.{◌≡◌, ℕ, ◌<◌, ◌≤◌, List, [], ◌∷◌, ◌++◌, refl, sym, ap, ◌∙◌, subst, inl, inr, ⊎_elim}
use Rattle.std.proofs.Common.{Bool, None, Option, Some, false, true, append_assoc}
use Rattle.std.specs.Prelude.{IsSome}
use Rattle.fish_disk.specs.declared.disk.Disk.{Ghosts as Disks}
use Rattle.fish_lanes.specs.CommitRows.{LeavesRowsOf}
use Rattle.fish_lanes.specs.Ending.{EndsAlone}
use Rattle.fish_lanes.specs.Outcome.{IsFullIn}
use Rattle.fish_lanes.specs.Registering.{Registry}
use Rattle.fish_rule.proofs.laws.Lists.{among_either, among_left, among_right}
use Rattle.fish_rule.specs.Logs.{Learns}
use Rattle.fish_rule.specs.Views.{Among}
use Rattle.fish_rule.specs.declared.view.Shut.{Shut}
use Rattle.fish_rule.specs.declared.view.Key.{Key}
use Rattle.fish_rule.specs.declared.view.View.{View}
use Rattle.fish_run.proofs.Blocks.{committed_later, committed_more, marked_later, marks_more}
use Rattle.fish_run.proofs.CommitRows.{HaveLeftLast, HaveLeftRounds, left_both, left_ended, left_first, left_on, left_rolled, left_round}
use Rattle.fish_run.proofs.CommitRows.{left_start, rows_none}
use Rattle.fish_run.proofs.Tables.{table_both, table_cut, table_join, table_more, table_on, table_push, table_rolled, table_self}
use Rattle.fish_run.specs.Blocks.{AreAcknowledged, AreFullSince, HasFoundFull, IsFullOf, Round, SaysCut, SaysFirst, SaysOne}
use Rattle.fish_run.specs.within.Blocks.{AreMarked}
use Rattle.fish_run.specs.Blocks.{SaysRest, SaysRounds, after_round, after_rounds, begun_anew, begun_for, first_items, in_table, last_table}
use Rattle.fish_run.specs.Blocks.{left_table, with_cut}
use Rattle.fish_run.specs.Tables.{table_by}
use Rattle.fish_run.specs.within.Tables.{table_after}
use Rattle.fish_run.specs.within.Steps.{HasCutOne, HasRounds, HasRunRounds, HasRunOne, IsTableAfter}
use Rattle.fish_store.proofs.Running.{runs_both}
use Rattle.fish_store.specs.CommitRows.{LeavesRows}
use Rattle.fish_store.specs.Sound.{GoesOnHere, IsSoundBehind, Point, StoreRuns}
use Rattle.fish_whole.proofs.Parts.{goes_later}
use Rattle.fish_whole.specs.Whole.{Later, Whole, WillHold}

-- ---- what rounds tell

-- one more, which begins where they end
says_push : (w : Whole) (from mid : ℕ) (r : Registry) (rounds : List Round) (b : Round) → b.span.from ≡ mid
    → SaysRounds w from r rounds mid → SaysOne w mid (begun_for b (after_rounds r rounds)) b
    → SaysRounds w from r (rounds ++ b ∷ []) b.span.to
says_push w from mid r [] b at h one = (subst (λ (z : ℕ). SaysOne w z (begun_for b r) b) (sym h) one, refl)
says_push w from mid r (x ∷ rounds) b at h one =
    (h.0, says_push w x.span.to mid (after_round (begun_for x r) x) rounds b at h.1 one)

-- and others
says_join : (w : Whole) (from mid to : ℕ) (r : Registry) (rounds more : List Round) → SaysRounds w from r rounds mid
    → SaysRounds w mid (after_rounds r rounds) more to → SaysRounds w from r (rounds ++ more) to
says_join w from mid to r [] more h next = subst (λ (z : ℕ). SaysRounds w z r more to) (sym h) next
says_join w from mid to r (x ∷ rounds) more h next =
    (h.0, says_join w x.span.to mid to (after_round (begun_for x r) x) rounds more h.1 next)

-- the registry after one more, and after others
after_push : (r : Registry) (rounds : List Round) (b : Round)
    → after_rounds r (rounds ++ b ∷ []) ≡ after_round (begun_for b (after_rounds r rounds)) b
after_push r [] b = refl
after_push r (x ∷ rounds) b = after_push (after_round (begun_for x r) x) rounds b

after_join : (r : Registry) (rounds more : List Round) → after_rounds r (rounds ++ more) ≡ after_rounds (after_rounds r rounds) more
after_join r [] more = refl
after_join r (x ∷ rounds) more = after_join (after_round (begun_for x r) x) rounds more

-- ---- the last table

last_push : (before rounds : List Round) (b : Round)
    → last_table before (rounds ++ b ∷ []) ≡ in_table b.fresh (last_table before rounds) ++ b ∷ []
last_push before [] b = refl
last_push before (x ∷ rounds) b = last_push (in_table x.fresh before ++ x ∷ []) rounds b

last_join : (before rounds more : List Round) → last_table before (rounds ++ more) ≡ last_table (last_table before rounds) more
last_join before [] more = refl
last_join before (x ∷ rounds) more = last_join (in_table x.fresh before ++ x ∷ []) rounds more

since_push : (before rounds : List Round) (b : Round) → AreFullSince before rounds
    → HasFoundFull (in_table b.fresh (last_table before rounds)) b.span.full → AreFullSince before (rounds ++ b ∷ [])
since_push before [] b h one = (one, tt)
since_push before (x ∷ rounds) b h one = (h.0, since_push (in_table x.fresh before ++ x ∷ []) rounds b h.1 one)

since_join : (before rounds more : List Round) → AreFullSince before rounds → AreFullSince (last_table before rounds) more
    → AreFullSince before (rounds ++ more)
since_join before [] more h next = next
since_join before (x ∷ rounds) more h next = (h.0, since_join (in_table x.fresh before ++ x ∷ []) rounds more h.1 next)

-- the cut one comes after all
pub cut_join : (rounds more : List Round) (cut : Option Round) → with_cut (rounds ++ more) cut ≡ rounds ++ with_cut more cut
cut_join rounds more None = refl
cut_join rounds more (Some b) = append_assoc rounds more (b ∷ [])

left_join : (fresh : Bool) (before rounds more : List Round) (cut : Option Round)
    → left_table fresh before (rounds ++ more) cut ≡ left_table fresh (last_table before rounds) more cut
left_join fresh before rounds more None = ap (in_table fresh) (last_join before rounds more)
left_join fresh before rounds more (Some b) =
    ap (last_table before) (append_assoc rounds more (b ∷ [])) ∙ last_join before rounds (more ++ b ∷ [])

-- ---- a full table

full_left : (rounds : List Round) (b : Round) (line lines end : ℕ) → IsFullOf rounds line lines end
    → IsFullOf (rounds ++ b ∷ []) line lines end
full_left rounds b line lines end h = (h.0, among_left h.0 rounds (b ∷ []) h.1, h.2)

-- what shuts the pass after one more, an item tells of, and it is shut where one does
full_push : (Past : Whole → Type 0) (count : ℕ) (fresh : Bool) (full : Option Shut) (u : View) (r t : Registry) (mid to : ℕ)
    (rounds : List Round) (b : Round) → HasFoundFull rounds full → HasRunOne Past count fresh full u r t mid to b
    → HasFoundFull (rounds ++ b ∷ []) u.shut
full_push Past count fresh full u r t mid to rounds b before one = record {
  told = λ c e. ⊎_elim (λ (same : full ≡ Some c). full_left rounds b c.line c.lines c.end (before.told c same))
      (λ (k : IsFullIn b.lanes c.line c.lines c.end). (b, among_right b rounds (b ∷ []) (inl refl), k)) (one.shut c e);
  some = λ line lines end f. ⊎_elim
      (λ (m : Among f.0 rounds). let k = before.some line lines end (f.0, m, f.2) in (k.0, one.keeps k.0 k.1))
      (λ (m : Among f.0 (b ∷ [])). one.shuts line lines end (here f.0 line lines end m f.2))
      (among_either f.0 rounds (b ∷ []) f.1);
}
  where
    here : (a : Round) (line lines end : ℕ) → Among a (b ∷ []) → IsFullIn a.lanes line lines end → IsFullIn b.lanes line lines end
    here a line lines end (inl e) k = subst (λ (z : Round). IsFullIn z.lanes line lines end) (sym e) k
    here a line lines end (inr bad) k = elim bad [ ]

-- no round found an unshut table full
pub none_full : (full : Option Shut) → full ≡ None → HasFoundFull [] full
none_full full unshut = record {
  told = λ c e. (let bad : None ≡ Some c = sym unshut ∙ e in absurd cc);
  some = λ line lines end f. elim f.1 [ ];
}

acknowledged_join : (count : ℕ) (rounds more : List Round) → AreAcknowledged count rounds → AreAcknowledged count more
    → AreAcknowledged count (rounds ++ more)
acknowledged_join count rounds more h k b among =
    ⊎_elim (λ (m : Among b rounds). h b m) (λ (m : Among b more). k b m) (among_either b rounds more among)

acknowledged_later : (count more : ℕ) (rounds : List Round) → count ≤ more → AreAcknowledged count rounds → AreAcknowledged more rounds
acknowledged_later count more rounds rises h b among = committed_later count more (first_items b.lanes) rises (h b among)

module _
    {D : Type 0} (disks : Disks D) where
  -- ---- moments

  -- what goes on in one table, and what is told after every past
  pub runs_step : (p q : Point D) (P : Whole → Type 0) → GoesOnHere disks p q → Later p.view q.view
      → ((past : Whole) → IsSoundBehind disks p (disks.content q.disk) past → WillHold past q.view P)
      → StoreRuns disks p q P
  runs_step p q P h later told = record {
    told_before = h.told_before;
    rises = h.rises;
    reaches = λ past s still. record {
      next = past;
      goes = goes_later past p.view q.view later s.fits;
      told = told past (record { sound = s; told = still });
      sound = h.sound past s still;
      crash = h.crash past s still;
    };
  }

  -- the moment itself
  pub runs_self : (p : Point D) (P : Whole → Type 0) → GoesOnHere disks p p → Later p.view p.view
      → ((w : Whole) → P w) → StoreRuns disks p p P
  runs_self p P h later all = runs_step p p P h later (λ past s w may. all w)

  -- after a past it is sound at a later moment too, after another
  pub behind_next : (p m : Point D) (P : Whole → Type 0) (later : Option (List ℕ)) → StoreRuns disks p m P
      → (IsSome later → IsSome (disks.content m.disk)) → (past : Whole) → IsSoundBehind disks p later past
      → (next : Whole) × IsSoundBehind disks m later next
  behind_next p m P later a told past s =
      let r = a.reaches past s.sound (told s.told) in
      (r.next, record { sound = r.sound; told = s.told })

  -- ---- rounds

  -- none ran
  pub rounds_none : (p : Point D) (from : ℕ) (r : Registry) → GoesOnHere disks p p → Later p.view p.view
      → HasRounds disks p p from r [] false from r
  rounds_none p from r h later = record {
    runs = runs_self p (λ w. SaysRounds w from r [] from) h later (λ w. refl);
    after = refl;
    committed = λ b among. elim among [ ];
    fulls = λ before full. tt;
    full = λ before full. full;
    marks = λ before marked. marked;
    rows = left_start disks p.disk r;
    begins = refl;
    shape = refl;
    table = table_self p.view;
  }

  module _ (p m q : Point D) (from mid to : ℕ) (r s t : Registry) (rounds : List Round) (fresh : Bool) (b : Round)
      (h : HasRounds disks p m from r rounds fresh mid s) (goes : GoesOnHere disks m q)
      (later : Later m.view q.view) (shape : q.shape ≡ m.shape) (rows : LeavesRowsOf disks m.disk q.disk s (first_items b.lanes)) where
    -- one more tells of what it began with
    began : b.fresh ≡ fresh → b.span.from ≡ mid → s ≡ begun_for b (after_rounds r rounds)
    began fresh_is begins = h.after ∙ ap (λ (z : Bool). begun_anew z mid (after_rounds r rounds)) (sym fresh_is)
        ∙ ap (λ (z : ℕ). begun_anew b.fresh z (after_rounds r rounds)) (sym begins)

    left_more : b.fresh ≡ fresh → b.span.from ≡ mid → HaveLeftRounds disks p.disk q.disk r (rounds ++ b ∷ []) false
    left_more fresh_is begins = left_round disks p.disk m.disk q.disk r rounds b
        (subst (λ (z : Bool). HaveLeftRounds disks p.disk m.disk r rounds z) (sym fresh_is) h.rows)
        (subst (λ (z : Registry). LeavesRowsOf disks m.disk q.disk z (first_items b.lanes)) (began fresh_is begins) rows)

    acknowledged : AreAcknowledged q.flusher.count rounds
    acknowledged = acknowledged_later m.flusher.count q.flusher.count rounds goes.rises h.committed

    -- one more ran
    pub rounds_more : HasRunOne (IsSoundBehind disks m (disks.content q.disk)) q.flusher.count fresh m.view.shut q.view s t mid to b
        → HasRounds disks p q from r (rounds ++ b ∷ []) false to t
    rounds_more one = record {
      runs = runs_both disks p m q (λ w. SaysRounds w from r rounds mid) (λ w. SaysOne w mid s b)
          (λ w. SaysRounds w from r (rounds ++ b ∷ []) to)
          (λ w before now. subst (SaysRounds w from r (rounds ++ b ∷ [])) one.ends
          (says_push w from mid r rounds b one.begins before
          (subst (λ (z : Registry). SaysOne w mid z b) (began one.fresh_is one.begins) now)))
          h.runs (runs_step m q (λ w. SaysOne w mid s b) goes later one.tells);
      after = one.after ∙ ap (λ (z : Registry). after_round z b) (began one.fresh_is one.begins) ∙ sym (after_push r rounds b);
      committed = committed_more q.flusher.count rounds b acknowledged one.committed;
      fulls = λ before full. since_push before rounds b (h.fulls before full) (found before full);
      full = λ before full. subst (λ (z : List Round). HasFoundFull z q.view.shut) (sym (last_push before rounds b))
          (full_push (IsSoundBehind disks m (disks.content q.disk)) q.flusher.count fresh m.view.shut q.view s t mid to
          (in_table b.fresh (last_table before rounds)) b (table before full) one);
      marks = λ before marked. subst (AreMarked q.view) (sym (last_push before rounds b))
          (marks_more q.view (in_table b.fresh (last_table before rounds)) b
          (marked_later m.view q.view (in_table b.fresh (last_table before rounds)) goes.learns
          (subst (λ (z : Bool). AreMarked m.view (in_table z (last_table before rounds))) (sym one.fresh_is) (h.marks before marked)))
          one.marks);
      rows = left_more one.fresh_is one.begins;
      begins = ap (λ (z : Key). z.number) goes.learns.about ∙ h.begins
          ∙ (λ i. table_by (sym one.fresh_is i) (sym one.begins i) (table_after p.view.about.number rounds))
          ∙ sym (table_push p.view.about.number rounds b);
      shape = shape ∙ h.shape;
      table = table_more p.view m.view q.view rounds fresh b h.table one.fresh_is goes.learns.about;
    }
      where
        table : (before : List Round) → HasFoundFull before p.view.shut
            → HasFoundFull (in_table b.fresh (last_table before rounds)) m.view.shut
        table before full =
            subst (λ (z : Bool). HasFoundFull (in_table z (last_table before rounds)) m.view.shut) (sym one.fresh_is) (h.full before full)

        found : (before : List Round) → HasFoundFull before p.view.shut
            → HasFoundFull (in_table b.fresh (last_table before rounds)) b.span.full
        found before full =
            subst (HasFoundFull (in_table b.fresh (last_table before rounds))) (sym one.full_is) (table before full)

    -- and one more was cut
    pub rounds_cut : HasCutOne (IsSoundBehind disks m (disks.content q.disk)) q.flusher.count fresh m.view.shut q.view s mid to b
        → EndsAlone q.view to → HasRunRounds disks p q from r rounds fresh (Some b) to
    rounds_cut one ends = record {
      runs = runs_both disks p m q (λ w. SaysRounds w from r rounds mid) (λ w. SaysCut w mid s b)
          (λ w. SaysFirst w from r rounds (Some b) to)
          (λ w before now. record {
            to = mid;
            whole = before;
            rest = (subst (λ (z : Registry). SaysCut w mid z b) (began one.fresh_is one.begins) now, one.ends);
          })
          h.runs (runs_step m q (λ w. SaysCut w mid s b) goes later one.tells);
      committed = committed_more q.flusher.count rounds b acknowledged one.committed;
      fulls = λ before full. since_push before rounds b (h.fulls before full)
          (subst (HasFoundFull (in_table b.fresh (last_table before rounds))) (sym one.full_is)
          (subst (λ (z : Bool). HasFoundFull (in_table z (last_table before rounds)) m.view.shut) (sym one.fresh_is) (h.full before full)));
      marks = λ before marked. subst (AreMarked q.view) (sym (last_push before rounds b))
          (marks_more q.view (in_table b.fresh (last_table before rounds)) b
          (marked_later m.view q.view (in_table b.fresh (last_table before rounds)) goes.learns
          (subst (λ (z : Bool). AreMarked m.view (in_table z (last_table before rounds))) (sym one.fresh_is) (h.marks before marked)))
          one.marks);
      rows = left_ended disks p.disk q.disk q.disk r (rounds ++ b ∷ []) false (left_more one.fresh_is one.begins)
          (rows_none disks q.disk (after_rounds r (rounds ++ b ∷ [])).rows);
      ends = ends;
      shape = shape ∙ h.shape;
      table = table_cut p.view m.view q.view rounds fresh b h.table one.fresh_is goes.learns.about;
    }

  module _ (p m q : Point D) (from mid : ℕ) (r s : Registry) (rounds : List Round) where
    -- a new table was begun after them
    pub rounds_rolled : (t : Registry) → HasRounds disks p m from r rounds false mid s
        → StoreRuns disks m q (λ w. Unit {0}) → t ≡ begun_anew true mid s → q.view.shut ≡ None
        → q.shape ≡ m.shape → m.view.about.number < q.view.about.number
        → LeavesRows disks m.disk q.disk (λ was. (after_rounds r rounds).rows ∷ []) ((after_rounds r rounds).rows ∷ [])
        → q.view.about.number ≡ mid → HasRounds disks p q from r rounds true mid t
    rounds_rolled t h runs is unshut shape higher rows number = record {
      runs = runs_both disks p m q (λ w. SaysRounds w from r rounds mid) (λ w. Unit {0})
          (λ w. SaysRounds w from r rounds mid) (λ w before now. before) h.runs runs;
      after = is ∙ ap (begun_anew true mid) h.after;
      committed = acknowledged_later m.flusher.count q.flusher.count rounds runs.rises h.committed;
      fulls = h.fulls;
      full = λ before full. none_full q.view.shut unshut;
      marks = λ before marked b among. elim among [ ];
      rows = left_rolled disks p.disk m.disk q.disk r rounds h.rows rows;
      begins = number;
      shape = shape ∙ h.shape;
      table = table_rolled p.view m.view q.view rounds h.table higher;
    }

    -- they ended the run, which goes on in the same table at most
    pub rounds_end : (fresh : Bool) → HasRounds disks p m from r rounds fresh mid s
        → StoreRuns disks m q (λ w. Unit {0}) → Learns m.view q.view → EndsAlone q.view mid → q.shape ≡ m.shape
        → LeavesRows disks m.disk q.disk (λ was. was ++ (after_rounds r rounds).rows ∷ []) ((after_rounds r rounds).rows ∷ [])
        → HasRunRounds disks p q from r rounds fresh None mid
    rounds_end fresh h runs learns ends shape rows = record {
      runs = runs_both disks p m q (λ w. SaysRounds w from r rounds mid) (λ w. Unit {0})
          (λ w. SaysFirst w from r rounds None mid) (λ w before now. record { to = mid; whole = before; rest = refl }) h.runs runs;
      committed = acknowledged_later m.flusher.count q.flusher.count rounds runs.rises h.committed;
      fulls = h.fulls;
      marks = λ before marked. marked_later m.view q.view (in_table fresh (last_table before rounds)) learns (h.marks before marked);
      rows = left_ended disks p.disk m.disk q.disk r rounds fresh h.rows rows;
      ends = ends;
      shape = shape ∙ h.shape;
      table = table_on p.view m.view q.view rounds fresh h.table learns.about;
    }

  -- what the first ones tell they tell later, where the store goes on in the same table at most
  pub first_on : (p m q : Point D) (from to : ℕ) (r : Registry) (rounds : List Round) (fresh : Bool) (cut : Option Round)
      → HasRunRounds disks p m from r rounds fresh cut to → StoreRuns disks m q (λ w. Unit {0})
      → Learns m.view q.view → EndsAlone q.view to → q.shape ≡ m.shape
      → LeavesRows disks m.disk q.disk (λ was. was ++ (after_rounds r (with_cut rounds cut)).rows ∷ [])
      ((after_rounds r (with_cut rounds cut)).rows ∷ []) → HasRunRounds disks p q from r rounds fresh cut to
  first_on p m q from to r rounds fresh cut h runs learns ends shape rows = record {
    runs = runs_both disks p m q (λ w. SaysFirst w from r rounds cut to) (λ w. Unit {0})
        (λ w. SaysFirst w from r rounds cut to) (λ w before now. before) h.runs runs;
    committed = acknowledged_later m.flusher.count q.flusher.count (with_cut rounds cut) runs.rises h.committed;
    fulls = h.fulls;
    marks = λ before marked. marked_later m.view q.view (left_table fresh before rounds cut) learns (h.marks before marked);
    rows = left_on disks p.disk m.disk q.disk r (with_cut rounds cut) h.rows rows;
    ends = ends;
    shape = shape ∙ h.shape;
    table = table_on p.view m.view q.view (with_cut rounds cut) fresh h.table learns.about;
  }

  module _ (p m q : Point D) (from mid to : ℕ) (r s t : Registry) (rounds more : List Round)
      (h : HasRounds disks p m from r rounds false mid s) where
    -- other rounds after them
    pub rounds_both : (fresh : Bool) → HasRounds disks m q mid s more fresh to t
        → HasRounds disks p q from r (rounds ++ more) fresh to t
    rounds_both fresh k = record {
      runs = runs_both disks p m q (λ w. SaysRounds w from r rounds mid) (λ w. SaysRounds w mid s more to)
          (λ w. SaysRounds w from r (rounds ++ more) to)
          (λ w before now. says_join w from mid to r rounds more before
          (subst (λ (z : Registry). SaysRounds w mid z more to) h.after now)) h.runs k.runs;
      after = k.after ∙ ap (begun_anew fresh to) (ap (λ (z : Registry). after_rounds z more) h.after ∙ sym (after_join r rounds more));
      committed = acknowledged_join q.flusher.count rounds more
          (acknowledged_later m.flusher.count q.flusher.count rounds k.runs.rises h.committed) k.committed;
      fulls = λ before full. since_join before rounds more (h.fulls before full) (k.fulls (last_table before rounds) (h.full before full));
      full = λ before full. subst (λ (z : List Round). HasFoundFull (in_table fresh z) q.view.shut) (sym (last_join before rounds more))
          (k.full (last_table before rounds) (h.full before full));
      marks = λ before marked. subst (λ (z : List Round). AreMarked q.view (in_table fresh z)) (sym (last_join before rounds more))
          (k.marks (last_table before rounds) (h.marks before marked));
      rows = left_both disks p.disk m.disk q.disk r rounds more h.rows fresh
          (subst (λ (z : Registry). HaveLeftRounds disks m.disk q.disk z more fresh) h.after k.rows);
      begins = k.begins ∙ ap (λ (z : ℕ). table_by fresh to (table_after z more)) h.begins
          ∙ ap (table_by fresh to) (sym (table_join p.view.about.number rounds more));
      shape = k.shape ∙ h.shape;
      table = table_both p.view m.view q.view rounds more fresh h.table k.table;
    }

    -- and others, of which one was cut perhaps
    pub rounds_first : (fresh : Bool) (cut : Option Round) → HasRunRounds disks m q mid s more fresh cut to
        → HasRunRounds disks p q from r (rounds ++ more) fresh cut to
    rounds_first fresh cut k = record {
      runs = runs_both disks p m q (λ w. SaysRounds w from r rounds mid) (λ w. SaysFirst w mid s more cut to)
          (λ w. SaysFirst w from r (rounds ++ more) cut to)
          (λ w before now. record {
            to = now.to;
            whole = says_join w from mid now.to r rounds more before
                (subst (λ (z : Registry). SaysRounds w mid z more now.to) h.after now.whole);
            rest = subst (λ (z : Registry). SaysRest w now.to z cut to)
                (ap (λ (z : Registry). after_rounds z more) h.after ∙ sym (after_join r rounds more)) now.rest;
          }) h.runs k.runs;
      committed = subst (AreAcknowledged q.flusher.count) (sym (cut_join rounds more cut))
          (acknowledged_join q.flusher.count rounds (with_cut more cut)
          (acknowledged_later m.flusher.count q.flusher.count rounds k.runs.rises h.committed) k.committed);
      fulls = λ before full. subst (AreFullSince before) (sym (cut_join rounds more cut))
          (since_join before rounds (with_cut more cut) (h.fulls before full) (k.fulls (last_table before rounds) (h.full before full)));
      marks = λ before marked. subst (AreMarked q.view) (sym (left_join fresh before rounds more cut))
          (k.marks (last_table before rounds) (h.marks before marked));
      rows = subst (HaveLeftLast disks p.disk q.disk r) (sym (cut_join rounds more cut))
          (left_first disks p.disk m.disk q.disk r rounds (with_cut more cut) h.rows
          (subst (λ (z : Registry). HaveLeftLast disks m.disk q.disk z (with_cut more cut)) h.after k.rows));
      ends = k.ends;
      shape = k.shape ∙ h.shape;
      table = subst (λ (z : List Round). IsTableAfter p.view q.view z fresh) (sym (cut_join rounds more cut))
          (table_both p.view m.view q.view rounds (with_cut more cut) fresh h.table k.table);
    }
