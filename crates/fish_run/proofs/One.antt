-- One block: what its rounds did, and where a fault stops the run.
use Rattle.std.proofs.Common.{◌≡◌, ℕ, List, [], ◌∷◌, refl, sym, ap, ◌∙◌, subst, inl, inr, false}
use Rattle.std.proofs.Common.{Bool, Option, Some, None}
use Rattle.std.specs.Prelude.{IfSome, ◌||◌}
use Rattle.fish_disk.specs.declared.disk.Disk.{Ghosts as Disks}
use Rattle.fish_feed.specs.Works.{AreStatementsDone, AreFirstOf}
use Rattle.fish_script.specs.Laws.{Pairs}
use Rattle.fish_lanes.specs.Ending.{EndsAlone}
use Rattle.fish_lanes.specs.Registering.{Registry, registry_of}
use Rattle.fish_lanes.specs.declared.work.Work.{Work}
use Rattle.fish_outside.proofs.ContentLemmas.{Gained_refl}
use Rattle.fish_outside.specs.Content.{Files, Gained, GainedPart}
use Rattle.fish_report.specs.ReportText.{report_text}
use Rattle.fish_report.specs.declared.item.Item.{Item}
use Rattle.fish_rule.proofs.laws.Learning.{learns_self}
use Rattle.fish_rule.specs.Passes.{view}
use Rattle.fish_run.proofs.CommitRows.{rows_none}
use Rattle.fish_run.proofs.Going.{close_of, here_self}
use Rattle.fish_run.proofs.Tables.{renewed_may}
use Rattle.fish_run.proofs.Turns.{rounds_end, rounds_none, runs_step}
use Rattle.fish_run.specs.Blocks.{Block, Round, with_cut}
use Rattle.fish_run.specs.Faults.{IsRunUndamaged}
use Rattle.fish_run.specs.within.Faults.{IsWriteFault}
use Rattle.fish_run.specs.within.Going.{EndsRounds, StopsBlock, WereGiven}
use Rattle.fish_run.specs.Ran.{IsBlockOf}
use Rattle.fish_run.specs.Reports.{block_items, said_items, said_refused}
use Rattle.fish_run.specs.Rounds.{AreAll, AreRounds, FollowOn, given_in}
use Rattle.fish_run.specs.within.Running.{EndsOne, StopsOne}
use Rattle.fish_run.specs.within.Runs.{CanClose, CanGoOn}
use Rattle.fish_run.specs.within.Steps.{HasRounds, HasRunRounds, StopsRounds}
use Rattle.fish_run.specs.declared.lasting.Stopped.{Stopped}
use Rattle.fish_run.specs.declared.parts.Ended.{Ended}
use Rattle.fish_run.specs.declared.running.Lasts.{Lasts}
use Rattle.fish_run.specs.declared.saying.Said.{Said}
use Rattle.fish_script.specs.declared.script.Block as script
use Rattle.fish_script.specs.declared.script.Statement.{Statement}
use Rattle.fish_store.specs.Points.{point_at}
use Rattle.fish_store.specs.Sound.{GoesOnHere, Point, StoreRuns}
use Rattle.fish_store.specs.declared.store.Store.{Store}
use Rattle.fish_whole.proofs.Wholes.{later_self}
use Rattle.fish_whole.specs.Whole.{Later}

-- ---- what the rounds did

-- where what lanes were given are the first works that do these statements, the rounds are the block's first ones
pub are_rounds : (told : Option Files) (texts : List (List Statement)) (given : List (List Work)) (rounds : List Round) → FollowOn rounds
    → WereGiven given rounds → Pairs (AreFirstOf told) texts given → AreRounds told texts rounds
are_rounds told texts given [] follow were first = tt
are_rounds told texts given (a ∷ rounds) follow were first = (follow, subst (Pairs (AreFirstOf told) texts) (sym were) first)

-- and all of them, where they are all works
pub all_given : (told : Option Files) (texts : List (List Statement)) (given : List (List Work)) (rounds : List Round) → AreAll rounds
    → WereGiven given rounds → Pairs (AreStatementsDone told) texts given → Pairs (AreStatementsDone told) texts (given_in rounds)
all_given told texts given [] all were done = elim all [ ]
all_given told texts given (a ∷ rounds) all were done = subst (Pairs (AreStatementsDone told) texts) (sym were) done

module _
    {D : Type 0} (disks : Disks D) where
  -- ---- moments

  -- what goes on in one table tells nothing more
  pub runs_on : (p q : Point D) → GoesOnHere disks p q → Later p.view q.view
      → StoreRuns disks p q (λ w. Unit {0})
  runs_on p q h later = runs_step disks p q (λ w. Unit {0}) h later (λ past s w may. tt)

  -- nothing ran
  pub rounds_self : (p : Point D) (from : ℕ) (r : Registry) → HasRounds disks p p from r [] false from r
  rounds_self p from r = rounds_none disks p from r (here_self disks p) (later_self p.view)

  -- rounds ran, and none was cut
  pub first_of : (p q : Point D) (from to : ℕ) (r t : Registry) (rounds : List Round)
      → HasRounds disks p q from r rounds false to t → EndsAlone q.view to
      → HasRunRounds disks p q from r rounds false None to
  first_of p q from to r t rounds h ends =
      rounds_end disks p q q from to r t rounds false h
      (runs_on q q (here_self disks q) (later_self q.view)) (learns_self q.view) ends refl (rows_none disks q.disk _)

  -- ---- faults

  -- a fault that is none of a round stops the run with the store
  pub stops_with : (p : Point D) (disk : D) (s : Store) (from to : ℕ) (r : Registry) (rounds : List Round) (e : Stopped)
      → e.store ≡ Some s → CanClose s → IsRunUndamaged e.why
      → HasRunRounds disks p (point_at disk s) from r rounds false None to
      → StopsRounds disks p disk from r rounds None e
  stops_with p disk s from to r rounds e is close well ran = record {
    at = point_at disk s;
    disk_is = refl;
    store = subst (λ (z : Option Store). IfSome z (λ x. (point_at disk s ≡ point_at disk x) × CanClose x)) (sym is) (refl, close);
    lost = λ none. (let bad : Some s ≡ None = sym is ∙ none in absurd cc);
    fresh = false;
    end = to;
    cut_by = tt;
    ran = ran;
    whole = λ past sound. well;
  }

  module _ (disk : D) (a : Lasts) (told : Option Files) (text : script.Block) (go : CanGoOn disks.images disk a.store a.count) where
    -- a fault stopped its rounds, or came before them
    pub one_cut : (disk' : D) (given : List (List Work)) (written : Option (List ℕ)) (before : Bool) (e : Stopped)
        (h : StopsBlock disks disk a.store a.count given disk' e)
        → AreRounds told text.lanes (with_cut h.rounds h.cut)
        → StopsOne disks disk disk' a told text written written before before e
    one_cut disk' given written before e h are = record {
      rounds = h.rounds;
      cut = h.cut;
      stops = h.stops;
      renewed = h.renewed;
      how = inl (are, Gained_refl written, h.input, refl);
    }

    module _ (disk' : D) (d : Ended) (given : List (List Work)) (done : Pairs (AreStatementsDone told) text.lanes given)
        (h : EndsRounds disks disk a.store a.count disk' d.store d.end d.said.items given)
        (old new : Option (List ℕ)) where
      block : Block
      block = record { several = text.several; rounds = h.rounds }

      block_is : IsBlockOf told text block
      unfolding block
      block_is = record {
        several = refl;
        follow = h.follow;
        done = all_given told text.lanes given h.rounds h.all h.were done;
        all = h.all;
      }

      items_are : said_items text.several a.count d.end d.said.items ≡ block_items block
      unfolding block
      items_are = (λ i. said_items text.several (sym h.first i) (sym h.last i) (h.said_are i))

      -- it ran, and was written
      pub one_ended : (before now : Bool) (b : Lasts) → b ≡ record { store = d.store; count = d.end.to }
          → Gained old new (report_text (said_items text.several a.count d.end d.said.items))
          → now ≡ before || said_refused d.said.items
          → EndsOne disks disk disk' a told text old new before now b
      unfolding block
      one_ended before now b is written refused =
          subst (EndsOne disks disk disk' a told text old new before now) (sym is) (record {
            go = h.go;
            block = block;
            is = block_is;
            ran = h.ran;
            renewed = h.renewed;
            written = subst (λ (z : List Item). Gained old new (report_text z)) items_are written;
            refused = refused ∙ ap (λ (z : List Said). before || said_refused z) h.said_are;
          })

      -- it couldn't be written
      pub one_unwritten : (before now : Bool) (e : Stopped) → e.store ≡ Some d.store → IsRunUndamaged e.why → IsWriteFault e.why
          → GainedPart old new (report_text (said_items text.several a.count d.end d.said.items))
          → now ≡ before || said_refused d.said.items
          → StopsOne disks disk disk' a told text old new before now e
      unfolding block
      one_unwritten before now e named_is well other part refused =
          let p = point_at disk a.store in
          let q = point_at disk' d.store in
          let r = registry_of (view a.store.pass) a.store.registrar in
          let t = registry_of (view d.store.pass) d.store.registrar in
          record {
            rounds = h.rounds;
            cut = None;
            stops = stops_with p disk' d.store a.count d.end.to r h.rounds e named_is
                (close_of disks.images disk' d.store d.end.to h.go) well
                (first_of p q a.count d.end.to r t h.rounds h.ran h.go.between.end);
            renewed = renewed_may (view a.store.pass).about.number h.rounds false false h.renewed;
            how = inr (
              block,
              block_is,
              refl,
              refl,
              subst (λ (z : List Item). GainedPart old new (report_text z)) items_are part,
              other,
              refused ∙ ap (λ (z : List Said). before || said_refused z) h.said_are,
            );
          }
