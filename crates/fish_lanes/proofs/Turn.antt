-- A turn of the first lane: a look at the registration that waits, and a statement after it.
use Rattle.std.proofs.Common.{◌≡◌, ◌≢◌, ◌≤◌, ◌⊎◌, ℕ, List, [], ◌∷◌, ◌++◌, length, take, sym, ap, ◌∙◌, subst, arith, inl, None}
use Rattle.std.proofs.Common.{Err, Ok, Result}
use Rattle.std.specs.Prelude.{IfErr, IfOk, IsErrOf}
use Rattle.fish_disk.specs.declared.disk.Disk.{Ghosts as Disks}
use Rattle.fish_ingest.proofs.IngestionStart.{idle_law}
use Rattle.fish_lanes.proofs.CommitRows.{HaveLeft, left_all, left_done, left_failed, left_none, left_polled}
use Rattle.fish_lanes.proofs.Committing.{committed_on, committed_polled}
use Rattle.fish_lanes.proofs.Controls.{Held, held_cut, held_done, held_ended, held_fewer, held_polled, held_self, take_nothing_first}
use Rattle.fish_lanes.proofs.Finished.{cause_before}
use Rattle.fish_lanes.proofs.Full.{fault_tells, found_more, found_none, found_tells, polled_found}
use Rattle.fish_lanes.proofs.Kept.{done_fault, take_size}
use Rattle.fish_lanes.proofs.Lists.{all_more}
use Rattle.fish_lanes.proofs.Parts.{same_fault}
use Rattle.fish_lanes.proofs.Pending.{found_next, found_polled}
use Rattle.fish_lanes.proofs.SoFar.{controlled_fewer}
use Rattle.fish_lanes.proofs.Stepping.{looked_goes, looked_may, rows_self, stays_pass}
use Rattle.fish_lanes.specs.Controlling.{IsCheckpointAtMost}
use Rattle.fish_lanes.specs.Full.{IsNotFull}
use Rattle.fish_lanes.specs.Gains.{WasShut}
use Rattle.fish_lanes.specs.Outcome.{Stops}
use Rattle.fish_lanes.specs.Pending.{AreFound}
use Rattle.fish_lanes.specs.Records.{LaneRow, contents_of_rows}
use Rattle.fish_lanes.specs.Registering.{KnowsRegistry, Registry, after_all, registry_of}
use Rattle.fish_lanes.specs.Spans.{answers}
use Rattle.fish_lanes.specs.Telling.{content_of, count_of}
use Rattle.fish_lanes.specs.declared.work.LaneFault.{LaneFault}
use Rattle.fish_lanes.specs.declared.work.LaneFault.TheVariants as cause
use Rattle.fish_lanes.specs.declared.work.Work.{Work}
use Rattle.fish_lanes.specs.within.CommitRows.{rows_by}
use Rattle.fish_lanes.specs.within.Controlled.{HasControlled, IsControlled, IsPartControlled}
use Rattle.fish_lanes.specs.within.Controlling.{HasPolled, LooksForBoundary}
use Rattle.fish_lanes.specs.within.Full.{HasMetFull}
use Rattle.fish_lanes.specs.within.Gains.{Gains}
use Rattle.fish_lanes.specs.within.Parts.{CanRunStore, RunsStatement, RunsWorks, StillRuns, StopsBy, store_of}
use Rattle.fish_registry.specs.Knowing.{Knows}
use Rattle.fish_registry.specs.declared.registrar.Registrar.{Registrar}
use Rattle.fish_report.specs.declared.item.Item.{Item}
use Rattle.fish_rule.proofs.laws.Clocks.{later_self}
use Rattle.fish_rule.proofs.laws.Learning.{learns_self}
use Rattle.fish_rule.specs.Passes.{view}
use Rattle.fish_rule.specs.Table.{IsOfMoment}
use Rattle.fish_rule.specs.Views.{AllOf}
use Rattle.fish_rule.specs.declared.table.Pass.{Pass}
use Rattle.fish_store.proofs.Running.{behind_on, here_both, here_stays}
use Rattle.fish_store.specs.CommitRows.{LeavesRows}
use Rattle.fish_store.specs.Points.{Behind, point_at}
use Rattle.fish_store.specs.Sound.{GoesOnHere}
use Rattle.fish_store.specs.declared.store.Store.{Store}
use Rattle.fish_whole.specs.Whole.{Whole}

module _ {D : Type 0} (disks : Disks D) (start : D) (s : Store) where
  -- the definitions before the statements
  abbrev first : Registry
  first = registry_of (view s.pass) s.registrar

  -- these statements are done, and these items tell of them, over the store that was s at the start
  pub record Going (disk : D) (t : Store) (works : List Work) (items : List Item) : Type 0 where
    pub still : StillRuns disks start s disk t ⊥
    pub held : Held (Behind disks start s disk) (view s.pass) s.registrar (view t.pass) t.registrar works items
    pub found : AreFound (view s.pass).clock (view t.pass).clock first items
    pub committed : AllOf (IsCheckpointAtMost t.file.flusher.count) items
    pub rows : HaveLeft disks start first disk items
    pub last : (view s.pass).shut ≡ None → HasMetFull (view t.pass) items
    pub later : disks.faults start ≤ disks.faults disk

  -- none yet
  pub going_self : CanRunStore disks.images start s → KnowsRegistry (view s.pass) first → (items : List Item) → items ≡ []
      → Going start s [] items
  going_self run known items none = subst (Going start s []) (sym none) (
      let v = view s.pass in
      let r = s.registrar in
      let p = point_at start s in
      record {
        still = record {
          can = run.can;
          below = run.below;
          goes = here_stays disks p p (stays_pass disks p r.catalog v (learns_self v) (rows_self v r.catalog));
          again = λ fine. run.commit;
        };
        held = held_self v r run.can.start.outside (idle_law v run.can.of.stands run.can.start) known;
        found = later_self v.clock;
        committed = tt;
        rows = left_none disks start first;
        last = λ unshut. inl (unshut, tt);
        later = omega arith;
      })

  -- no more are to be done
  pub ended : (disk : D) (t : Store) (all : List Work) (i : ℕ) (items : List Item) → Going disk t (take i all) items
      → (length all ≤ length (answers items)) ⊎ (((view s.pass).shut ≡ None) × WasShut (view t.pass))
      → RunsWorks disks start s disk t all items cause.None
  ended disk t all i items go done = record {
    still = record {
      can = go.still.can;
      below = go.still.below;
      goes = go.still.goes;
      again = λ fine. go.still.again (λ bad. bad);
    };
    run = subst (λ (z : List Work). HasControlled (Behind disks start s disk) (view s.pass) (view t.pass) s.registrar t.registrar z items
        cause.None) (sym (take_size all i (length (answers items)) go.held.told.size))
        (held_ended (view s.pass) s.registrar (view t.pass) t.registrar (take i all) items go.held go.found);
    all = λ none. done;
    last = λ unshut. found_tells (view t.pass) items cause.None (go.last unshut);
    committed = go.committed;
    rows = left_all disks start first disk items go.rows;
    stops = record { later = go.later; cause = tt; whole = λ past behind. tt };
  }

  -- ---- a look, of a pass that isn't shut unless it was so at the start

  module _ {disk : D} {t : Store} {works : List Work} {items : List Item} (go : Going disk t works items)
      (free : (view s.pass).shut ≡ None → (view t.pass).shut ≡ None) (q : Pass) (k : Registrar)
      (looks : LooksForBoundary t.log t.pass t.registrar q k) where
    -- the store after the look
    abbrev pub looked : Store
    looked = store_of t.file t.log q k

    looked_on : GoesOnHere disks (point_at start s) (point_at disk looked)
    looked_on = looked_goes disks (point_at start s) disk t.file t.log t.pass q t.registrar k go.still.goes
        looks.on.gains.on.learns looks.on.grows

    -- a statement may follow
    pub looked_run : CanRunStore disks.images disk looked
    looked_run = record {
      can = looks.on.can;
      commit = looked_may disks disk t.file t.log t.pass q t.registrar k (go.still.again (λ bad. bad)) looks.on.gains.on.learns
          looks.on.grows;
      below = go.still.below;
    }

    -- memory ran out for its item
    pub missed : (all rest : List Work) (w : Work) (items' : List Item) → works ++ w ∷ rest ≡ all → items' ≡ items
        → RunsWorks disks start s disk looked all items' cause.Memory
    missed all rest w items' whole same =
        subst (λ (z : List Work × List Item). RunsWorks disks start s disk looked z.0 z.1 cause.Memory) (λ j. (whole j, sym same j))
        (record {
          still = record {
            can = looks.on.can;
            below = go.still.below;
            goes = looked_on;
            again = λ fine. looked_run.commit;
          };
          run = held_cut (view s.pass) s.registrar (view t.pass) t.registrar (view q) k works items w rest [] 0 cause.Memory
              (λ e. absurd cc) go.held go.found looks.on.gains (take_nothing_first w);
          all = λ none. absurd cc;
          last = λ unshut. fault_tells (view q) items cause.Memory (λ e. absurd cc)
              (found_none (view t.pass) items (go.last unshut) (free unshut));
          committed = go.committed;
          rows = left_all disks start first disk items go.rows;
          stops = record { later = go.later; cause = tt; whole = λ past behind. tt };
        })

    -- ---- and a statement after it

    module _ (items' : List Item) (polled : HasPolled (view t.pass) t.registrar (view q) k items items') (disk' : D) (t' : Store) (w : Work)
        (result : Result Item LaneFault) (ran : RunsStatement disks disk looked disk' t' w result) where
      held_look : Held (Behind disks start s disk) (view s.pass) s.registrar (view q) k works items'
      held_look = held_polled (view s.pass) s.registrar (view t.pass) t.registrar (view q) k works items items' go.held looks.on.gains
          looks.loads looks.on.shut looks.idle polled

      -- what stood before the table still does
      here : (past : Whole) → Behind disks start s disk' past → Behind disks disk looked disk' past
      here past sound = behind_on disks (point_at start s) (point_at disk looked) (disks.content disk') past looked_on sound
          ran.still.goes.told_before

      held_here : Held (Behind disks start s disk') (view s.pass) s.registrar (view q) k works items'
      held_here = held_fewer (Behind disks start s disk) (Behind disks start s disk') (view s.pass) s.registrar (view q) k works items'
          (λ past sound. record { sound = sound.sound; told = ran.still.goes.told_before sound.told }) held_look

      found_look : AreFound (view s.pass).clock (view q).clock first items'
      found_look = found_polled (view s.pass).clock first (view t.pass) (view q) t.registrar k items items' go.found go.held.is
          looks.on.gains.on.clock polled

      rows_look : HaveLeft disks start first disk items'
      rows_look = left_polled disks start first disk (view t.pass) t.registrar (view q) k items items' polled go.rows

      last_rows : k.catalog ≡ (after_all first items').rows
      last_rows = ap (λ (z : Registry). z.rows) held_look.is

      committed_here : AllOf (IsCheckpointAtMost t'.file.flusher.count) items'
      committed_here = committed_on t.file.flusher.count t'.file.flusher.count items' ran.still.goes.rises
          (committed_polled t.file.flusher.count (view t.pass) t.registrar (view q) k items items' polled go.committed)

      none_full : (view s.pass).shut ≡ None → AllOf IsNotFull items'
      none_full unshut = polled_found (view t.pass) t.registrar (view q) k items items' polled
          (found_none (view t.pass) items (go.last unshut) (free unshut))

      goes_on : GoesOnHere disks (point_at start s) (point_at disk' t')
      goes_on = here_both disks (point_at start s) (point_at disk looked) (point_at disk' t') looked_on ran.still.goes

      -- the lane stops there at a fault
      cut : (all rest : List Work) (why : LaneFault) → works ++ w ∷ rest ≡ all → why ≢ cause.None → (rows : List LaneRow) (count : ℕ)
          → Gains (view q) (view t'.pass) rows → contents_of_rows rows ≡ take count (content_of w)
          → (IsErrOf result cause.Disk → why ≡ cause.Disk)
          → Stops (Behind disks disk looked disk') (disks.faults disk) (disks.faults disk') why
          → RunsWorks disks start s disk' t' all items' why
      cut all rest why whole named rows count gains content broke stops = record {
        still = record {
          can = ran.still.can;
          below = ran.still.below;
          goes = goes_on;
          again = λ fine. ran.still.again (λ bad. fine (broke bad));
        };
        run = subst (λ (z : List Work). HasControlled (Behind disks start s disk') (view s.pass) (view t'.pass) s.registrar t'.registrar z
            items' why) (whole ∙ sym (done_fault why (length (answers items')) all named))
            (held_cut (view s.pass) s.registrar (view q) k (view t'.pass) t'.registrar works items' w rest rows count why named held_here
            found_look gains content);
        all = λ none. absurd (named none);
        last = λ unshut. fault_tells (view t'.pass) items' why named (none_full unshut);
        committed = committed_here;
        rows = left_failed disks start first disk disk' items' k.catalog last_rows rows_look result ran.rows;
        stops = record {
          later = (let before = go.later in let after = ran.later in omega arith);
          cause = cause_before (disks.faults start) (disks.faults disk) (disks.faults disk') why go.later stops.cause;
          whole = λ past sound. stops.whole past (here past sound);
        };
      }

      -- at its own
      pub failed : (all rest : List Work) (why : LaneFault) → works ++ w ∷ rest ≡ all → result ≡ Err why
          → RunsWorks disks start s disk' t' all items' why
      failed all rest why whole is =
          let part = subst (λ (z : Result Item LaneFault). IfErr z (λ _. IsPartControlled (view q) (view t'.pass) w)) is ran.part in
          let stops = subst (λ (z : Result Item LaneFault). IfErr z (StopsBy (Behind disks disk looked disk') (disks.faults disk)
          (disks.faults disk'))) is ran.stops in
          cut all rest why whole stops.0 part.rows part.count part.gains part.first
          (λ bad. same_fault why cause.Disk (subst (λ (z : Result Item LaneFault). IsErrOf z cause.Disk) is bad)) stops.1

      -- it has its item
      module _ (x : Item) (is : result ≡ Ok x) where
        done : IsControlled (Behind disks disk looked disk') (view q) k (view t'.pass) t'.registrar w x
        done = subst (λ (z : Result Item LaneFault). IfOk z (IsControlled (Behind disks disk looked disk') (view q) k (view t'.pass)
            t'.registrar w)) is ran.done

        unbroken : IsErrOf result cause.Disk → ⊥
        unbroken bad = (let wrong : Ok x ≡ Err cause.Disk = sym is ∙ bad in absurd cc)

        -- for which memory ran out
        pub lost : (all rest : List Work) (items'' : List Item) → works ++ w ∷ rest ≡ all → items'' ≡ items'
            → RunsWorks disks start s disk' t' all items'' cause.Memory
        lost all rest items'' whole same = subst (λ (z : List Item). RunsWorks disks start s disk' t' all z cause.Memory) (sym same)
            (cut all rest cause.Memory whole (λ e. absurd cc) done.rows (count_of x) done.gains done.first (λ bad. absurd (unbroken bad))
            (record { later = ran.later; cause = tt; whole = λ past behind. tt }))

        -- which is told
        pub stepped : (works' : List Work) (items'' : List Item) → works' ≡ works ++ w ∷ [] → items'' ≡ items' ++ x ∷ []
            → IsOfMoment (view s.pass) → Knows (view s.pass) s.registrar → KnowsRegistry (view s.pass) first → Going disk' t' works' items''
        stepped works' items'' next told stood began known =
            subst (λ (z : List Work × List Item). Going disk' t' z.0 z.1) (λ j. (sym next j, sym told j)) (record {
              still = record {
                can = ran.still.can;
                below = ran.still.below;
                goes = goes_on;
                again = λ fine. ran.still.again unbroken;
              };
              held = held_done (view s.pass) s.registrar (view q) k (view t'.pass) t'.registrar works items' w x stood
                  ran.still.can.of.stands began known looks.on.can.knows ran.still.can.knows held_here
                  (controlled_fewer (Behind disks disk looked disk') (Behind disks start s disk') (view q) k (view t'.pass) t'.registrar w x
                  here done);
              found = found_next (view s.pass).clock first (view t.pass) (view q) t.registrar k items items' go.found go.held.is
                  looks.on.gains.on.clock polled (view t'.pass) (view q).learned.count (view t'.pass).learned.count x looks.looked
                  done.gains.on.clock done.tells.rolls done.tells.does.so;
              committed = all_more (IsCheckpointAtMost t'.file.flusher.count) items' x committed_here
                  (subst (λ (z : Result Item LaneFault). IfOk z (IsCheckpointAtMost t'.file.flusher.count)) is ran.committed);
              rows = left_done disks start first disk disk' items' k.catalog last_rows rows_look x
                  (subst (λ (z : Result Item LaneFault). LeavesRows disks disk disk' (rows_by z k.catalog) (k.catalog ∷ [])) is ran.rows);
              last = λ unshut. found_more (Behind disks disk looked disk') (view q) (view t'.pass) w items' x
                  (looks.on.shut ∙ free unshut) (none_full unshut) done.fit done.shuts;
              later = (let before = go.later in let after = ran.later in omega arith);
            })
