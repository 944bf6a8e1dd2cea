-- From round to round of a block.
use Rattle.std.proofs.Common.{◌≡◌, ℕ, suc, ◌+◌, ◌<◌, List, [], ◌∷◌, ◌++◌, Bool, true, false, length}
use Rattle.std.proofs.Common.{refl, sym, ap, ◌∙◌, ◌⊎◌, subst, inl, arith, None, Option, Some, slice_get}
use Rattle.std.specs.Prelude.{◌&&◌, IfSome}
use Rattle.fish_catalog.specs.declared.row.CatRow.{CatRow}
use Rattle.fish_disk.specs.declared.disk.Disk.{Ghosts as Disks}
use Rattle.fish_feed.specs.Queues.{AreIdle, IsGiven, both, works_of}
use Rattle.fish_feed.specs.Works.{Triples}
use Rattle.fish_script.specs.Laws.{Pairs}
use Rattle.fish_lanes.specs.Blocks.{AreKept, AreLanes, EachLane, IsKept, IsNewLane}
use Rattle.fish_lanes.specs.CommitRows.{LeavesRowsOf}
use Rattle.fish_lanes.specs.Controlling.{bound_items}
use Rattle.fish_lanes.specs.Ending.{EndsAlone}
use Rattle.fish_lanes.specs.Outcome.{IsFullIn, LeaveNone, Stops}
use Rattle.fish_lanes.specs.Registering.{Registry, registry_of}
use Rattle.fish_lanes.specs.declared.block.BlockEnd.{BlockEnd}
use Rattle.fish_lanes.specs.declared.block.Boundary.{Boundary}
use Rattle.fish_lanes.specs.declared.lane.Lane.{Lane}
use Rattle.fish_lanes.specs.declared.work.Work.{Work}
use Rattle.fish_outside.specs.Content.{Files}
use Rattle.fish_rule.proofs.laws.Learning.{learns_self}
use Rattle.fish_rule.specs.Passes.{view}
use Rattle.fish_rule.specs.declared.table.Log.{Log}
use Rattle.fish_rule.specs.declared.view.Key.{Key}
use Rattle.fish_rule.specs.declared.view.View.{View}
use Rattle.fish_run.proofs.Blocks.{left, left_cut, left_whole}
use Rattle.fish_run.proofs.CommitRows.{rows_none}
use Rattle.fish_run.proofs.Faults.{commit_well, first_no_input, lane_whole}
use Rattle.fish_run.proofs.Giving.{both_length, given_next, idle_first, none_next, nones, nones_left, nones_length, nones_right}
use Rattle.fish_run.proofs.Giving.{works_length}
use Rattle.fish_run.proofs.Going.{close_of, here_self}
use Rattle.fish_feed.proofs.Lists.{pairs_length, pairs_map}
use Rattle.fish_run.proofs.Stepping.{goes_next, kept_pairs, ran_numbered}
use Rattle.fish_run.proofs.Tables.{IsSomeFull, renewed_free, renewed_may, renewed_push}
use Rattle.fish_run.proofs.Turns.{behind_next, rounds_cut, rounds_end, rounds_more, rounds_none, rounds_rolled, runs_step}
use Rattle.fish_run.specs.Blocks.{Round, after_rounds, first_items}
use Rattle.fish_run.specs.Faults.{IsFirstFault, IsRunUndamaged}
use Rattle.fish_run.specs.within.Going.{EndsRounds, GoesIn, HasNextWorks, HasStepped, AreLanesReady, StopsBlock, WereGiven}
use Rattle.fish_run.specs.within.Turning.{IsRenewed}
use Rattle.fish_run.specs.within.Parts.{StopsLanes}
use Rattle.fish_run.specs.Reports.{end_of_rounds, first_number, last_end}
use Rattle.fish_run.specs.within.Rolls.{RollsOn, StopsRoll}
use Rattle.fish_run.specs.Joins.{block_said, lanes_after, nothing_said, said_over}
use Rattle.fish_run.specs.Rounds.{AreAll, FollowOn, GoOn, GoesOnWith, IsNextLane, given_after, given_in}
use Rattle.fish_run.specs.within.Runs.{CanClose, CanGoOn}
use Rattle.fish_run.specs.within.Steps.{AreWholeLanes, HasRounds, Leaves}
use Rattle.fish_run.specs.Tables.{AreRenewed, IsNearLimits, IsRenewedBy, table_of}
use Rattle.fish_run.specs.within.Tables.{table_after}
use Rattle.fish_run.specs.Works.{AreNumbered, to_do}
use Rattle.fish_run.specs.declared.fault.RunFault.{RunFault}
use Rattle.fish_run.specs.declared.fault.RunFault.TheVariants as fault
use Rattle.fish_run.specs.declared.lasting.Stopped.{Stopped}
use Rattle.fish_run.specs.declared.rounds.RoundStart.{RoundStart}
use Rattle.fish_run.specs.declared.saying.Said.{Said}
use Rattle.fish_script.specs.declared.script.Statement.{Statement}
use Rattle.fish_store.specs.CommitRows.{LeavesRows}
use Rattle.fish_store.specs.Points.{Behind, point_at}
use Rattle.fish_store.specs.Sound.{GoesOnHere, Point, StoreRuns}
use Rattle.fish_store.specs.declared.store.Store.{Store}
use Rattle.fish_whole.specs.Whole.{Later, Whole}

-- ---- one more round

go_push : (a : Round) (rounds : List Round) (b c : Round) → GoOn a (rounds ++ b ∷ []) → Triples (IsNextLane c.fresh) b.lanes c.given c.lanes
    → AreNumbered c.lanes → GoOn a ((rounds ++ b ∷ []) ++ c ∷ [])
go_push a [] b c h next numbered = (h.0, h.1, (next, numbered, tt))
go_push a (x ∷ rounds) b c h next numbered = (h.0, h.1, go_push x rounds b c h.2 next numbered)

follow_push : (rounds : List Round) (b c : Round) → FollowOn (rounds ++ b ∷ []) → Triples (IsNextLane c.fresh) b.lanes c.given c.lanes
    → AreNumbered c.lanes → FollowOn ((rounds ++ b ∷ []) ++ c ∷ [])
follow_push [] b c h next numbered = (h.0, h.1, h.2, (next, numbered, tt))
follow_push (x ∷ rounds) b c h next numbered = (h.0, h.1, h.2, go_push x rounds b c h.3 next numbered)

given_push : (given : List (List Work)) (rounds : List Round) (b : Round)
    → given_after given (rounds ++ b ∷ []) ≡ both (given_after given rounds) b.given
given_push given [] b = refl
given_push given (x ∷ rounds) b = given_push (both given x.given) rounds b

gives_push : (rounds : List Round) (b c : Round)
    → given_in ((rounds ++ b ∷ []) ++ c ∷ []) ≡ both (given_in (rounds ++ b ∷ [])) c.given
gives_push [] b c = refl
gives_push (x ∷ rounds) b c = given_push x.given (rounds ++ b ∷ []) c

were_push : (given : List (List Work)) (rounds : List Round) (b : Round) → given_in (rounds ++ b ∷ []) ≡ given
    → WereGiven given (rounds ++ b ∷ [])
were_push given [] b h = h
were_push given (x ∷ rounds) b h = h

over_push : (said : List Said) (bound : Option Boundary) (rounds : List Round) (b c : Round)
    → said_over said bound ((rounds ++ b ∷ []) ++ c ∷ [])
    ≡ lanes_after c.fresh (bound_items b.end.bound) (said_over said bound (rounds ++ b ∷ [])) c.lanes
over_push said bound [] b c = refl
over_push said bound (x ∷ rounds) b c = over_push (lanes_after x.fresh (bound_items bound) said x.lanes) x.end.bound rounds b c

block_push : (rounds : List Round) (b c : Round)
    → block_said ((rounds ++ b ∷ []) ++ c ∷ []) ≡ lanes_after c.fresh (bound_items b.end.bound) (block_said (rounds ++ b ∷ [])) c.lanes
block_push [] b c = refl
block_push (x ∷ rounds) b c = over_push (nothing_said x.lanes) None (x ∷ rounds) b c

first_push : (rounds : List Round) (b c : Round) → first_number ((rounds ++ b ∷ []) ++ c ∷ []) ≡ first_number (rounds ++ b ∷ [])
first_push [] b c = refl
first_push (x ∷ rounds) b c = refl

last_more : (end : BlockEnd) (rounds : List Round) (b : Round) → last_end end (rounds ++ b ∷ []) ≡ b.end
last_more end [] b = refl
last_more end (x ∷ rounds) b = last_more x.end rounds b

end_push : (rounds : List Round) (b : Round) → end_of_rounds (rounds ++ b ∷ []) ≡ b.end
end_push [] b = refl
end_push (x ∷ rounds) b = last_more x.end rounds b

all_push : (rounds : List Round) (b : Round) → LeaveNone b.lanes → AreAll (rounds ++ b ∷ [])
all_push [] b h = h
all_push (x ∷ []) b h = h
all_push (x ∷ y ∷ rounds) b h = all_push (y ∷ rounds) b h

-- lanes with the same numbers say nothing alike
nothing_same : (k : ℕ) (xs ys : List Lane) → length xs ≡ length ys → ((i : ℕ) (x : Lane) → slice_get xs i ≡ Some x → x.number ≡ i + k)
    → ((i : ℕ) (y : Lane) → slice_get ys i ≡ Some y → y.number ≡ i + k) → nothing_said xs ≡ nothing_said ys
nothing_same k [] [] same h g = refl
nothing_same k [] (y ∷ ys) same h g = absurd (omega arith)
nothing_same k (x ∷ xs) [] same h g = absurd (omega arith)
nothing_same k (x ∷ xs) (y ∷ ys) same h g =
    let one : x.number ≡ y.number = h 0 x refl ∙ sym (g 0 y refl) in
    let more = nothing_same (k + 1) xs ys (omega arith) (λ j z at. (let n = h (suc j) z at in omega arith))
    (λ j z at. (let n = g (suc j) z at in omega arith)) in
    (λ i. record { number = one i; items = [] } ∷ more i)

pub nothing_length : (lanes : List Lane) → length (nothing_said lanes) ≡ length lanes
nothing_length [] = refl
nothing_length (x ∷ lanes) = ap suc (nothing_length lanes)

-- one that isn't asked for isn't begun
pub and_false : (a b : Bool) → a ≡ false → (a && b) ≡ false
and_false a b is = ap (λ (z : Bool). z && b) is

later_self : (v : View) → Later v v
later_self v = record { learns = learns_self v; gained = λ o m. inl m }

module _
    {D : Type 0} (disks : Disks D) where
  -- it may go on in a table that was renewed
  pub renewed_go : (disk disk' : D) (m t : Store) (to : ℕ) → CanGoOn disks.images disk m to → (fresh : Bool)
      → IsRenewed disks disk m to fresh disk' t → CanGoOn disks.images disk' t to
  renewed_go disk disk' m t to go false k =
      subst (λ (z : D). CanGoOn disks.images z t to) (sym k.0) (subst (λ (z : Store). CanGoOn disks.images disk z to) (sym k.1) go)
  renewed_go disk disk' m t to go true k = k.go

module _
    {D : Type 0} (disks : Disks D) (d : D) (s : Store) (from : ℕ) where
  abbrev pub p : Point D
  p = point_at d s

  abbrev pub r : Registry
  r = registry_of (view s.pass) s.registrar

  -- where nothing was done
  runs_self : (q : Point D) → StoreRuns disks q q (λ w. Unit {0})
  runs_self q = runs_step disks q q (λ w. Unit {0}) (here_self disks q)
      (later_self q.view) (λ past sound w may. tt)

  -- ---- before the first round

  none_ran : HasRounds disks p p from r [] false from r
  none_ran = rounds_none disks p from r (here_self disks p) (later_self (view s.pass))

  pub goes_first : (lanes : List Lane) → AreLanes lanes → AreIdle lanes → (a : RoundStart) → a.store ≡ s → a.from ≡ from → a.fresh ≡ false
      → a.bound ≡ None → (said : List Said) → said ≡ nothing_said lanes
      → GoesIn disks d s from d a lanes said (nones lanes)
  goes_first lanes are idle a store_is from_is fresh_is bound_is said said_is = record {
    rounds = [];
    ran = subst (λ (z : RoundStart). HasRounds disks p (point_at d z.store) from r [] z.fresh z.from
        (registry_of (view z.store.pass) z.store.registrar)) (λ i. same i) none_ran;
    renewed = tt;
    follow = tt;
    were = tt;
    next = λ b fresh numbered have. (idle_first lanes b.given b.lanes idle have, numbered, fresh ∙ fresh_is, tt);
    gives = λ b many. sym (nones_left lanes b.given many);
    many = nones_length lanes;
    begins = λ b begins. begins ∙ from_is;
    saying = λ b numbered many.
        ap (λ (z : List Said). lanes_after b.fresh (bound_items None) z b.lanes)
        (nothing_same 1 b.lanes lanes many numbered (λ i x at. (are.new i x at).number_is) ∙ sym said_is)
        ∙ ap (λ (z : Option Boundary). lanes_after b.fresh (bound_items z) said b.lanes) (sym bound_is);
  }
    where
      same : record { store = s; from = from; fresh = false; bound = None } ≡ a
      same i = record { store = sym store_is i; from = sym from_is i; fresh = sym fresh_is i; bound = sym bound_is i }

  -- ---- what lanes are given for a round

  module _ (disk : D) (a : RoundStart) (lanes : List Lane) (said : List Said) (given : List (List Work))
      (g : GoesIn disks d s from disk a lanes said given) where
    -- nothing
    pub ready_none : AreLanesReady disks d s from disk a lanes said (nones lanes) given
    ready_none = record {
      rounds = g.rounds;
      ran = g.ran;
      renewed = g.renewed;
      next = λ b fresh now numbered have. g.next b fresh numbered
          (subst (λ (z : List (List Work)). Triples HasNextWorks lanes z b.lanes) (sym now) (none_next lanes b.lanes have));
      gives = λ b now. g.gives b (ap length now ∙ nones_length lanes) ∙ ap (both given) now ∙ nones_right given lanes g.many;
      many = g.many;
      begins = g.begins;
      saying = g.saying;
    }

    -- statements, where they have none
    pub ready_given : (lanes' : List Lane) → Pairs IsGiven lanes lanes'
        → AreLanesReady disks d s from disk a lanes' said (works_of lanes') (both given (works_of lanes'))
    ready_given lanes' now_given =
        let same : length lanes' ≡ length lanes = pairs_length IsGiven lanes lanes' now_given in
        record {
          rounds = g.rounds;
          ran = g.ran;
          renewed = g.renewed;
          next = λ b fresh now numbered have. g.next b fresh numbered
              (subst (λ (z : List (List Work)). Triples HasNextWorks lanes z b.lanes) (sym now)
              (given_next lanes lanes' b.lanes now_given have));
          gives = λ b now. g.gives b (ap length now ∙ works_length lanes' ∙ same) ∙ ap (both given) now;
          many = both_length given (works_of lanes') (g.many ∙ sym same ∙ sym (works_length lanes')) ∙ g.many ∙ sym same;
          begins = g.begins;
          saying = λ b numbered many. g.saying b numbered (many ∙ same);
        }

    -- none could be read, or memory ran out
    pub stops_unread : (why : RunFault) → IsRunUndamaged why → CanGoOn disks.images disk a.store a.from
        → StopsBlock disks d s from given disk (record { store = Some a.store; why = why })
    stops_unread why well go = record {
      rounds = g.rounds;
      cut = None;
      follow = g.follow;
      were = g.were;
      stops = record {
        at = point_at disk a.store;
        disk_is = refl;
        store = (refl, close_of disks.images disk a.store a.from go);
        lost = λ none. absurd cc;
        fresh = a.fresh;
        end = a.from;
        cut_by = tt;
        ran = rounds_end disks p (point_at disk a.store) (point_at disk a.store) from a.from r
            (registry_of (view a.store.pass) a.store.registrar) g.rounds a.fresh g.ran (runs_self (point_at disk a.store))
            (learns_self (view a.store.pass)) go.between.end refl (rows_none disks disk _);
        whole = λ past sound. well;
      };
      renewed = renewed_may (view s.pass).about.number g.rounds a.fresh a.fresh g.renewed;
      input = λ is. refl;
    }

  -- a fault came before it
  pub stops_before : (e : Stopped) → e.store ≡ Some s → IsRunUndamaged e.why → CanGoOn disks.images d s from
      → (given : List (List Work)) → StopsBlock disks d s from given d e
  stops_before e store well go given = record {
    rounds = [];
    cut = None;
    follow = tt;
    were = tt;
    renewed = tt;
    stops = record {
      at = p;
      disk_is = refl;
      store = subst (λ (z : Option Store). IfSome z (λ x. (p ≡ point_at d x) × CanClose x)) (sym store)
          (refl, close_of disks.images d s from go);
      lost = λ none. (let bad : Some s ≡ None = sym store ∙ none in absurd cc);
      fresh = false;
      end = from;
      cut_by = tt;
      ran = rounds_end disks p p p from from r r [] false none_ran (runs_self p)
          (learns_self (view s.pass)) go.between.end refl (rows_none disks d _);
      whole = λ past sound. well;
    };
    input = λ is. refl;
  }

  -- its files couldn't be opened
  pub stops_unopened : (e : Stopped) → e.store ≡ Some s → IsRunUndamaged e.why → CanGoOn disks.images d s from
      → (texts : List (List Statement)) (told : Option Files) → StopsLanes disks d s from texts d told e
  unfolding stops_before
  stops_unopened e store well go texts told =
      record { given = []; stops = stops_before e store well go []; are = tt }

  -- memory ran out before it
  pub stops_none : (e : Stopped) → e.store ≡ Some s → e.why ≡ fault.Memory → CanGoOn disks.images d s from
      → (given : List (List Work)) → StopsBlock disks d s from given d e
  stops_none e store why go given = stops_before e store (subst IsRunUndamaged (sym why) tt) go given

  -- ---- after a round

  module _ (disk : D) (a : RoundStart) (lanes : List Lane) (said : List Said) (given_now given : List (List Work))
      (g : AreLanesReady disks d s from disk a lanes said given_now given) (are : AreLanes lanes)
      (disk' : D) (m : Store) (ran : List Lane) (end : BlockEnd) (many : length ran ≡ length lanes) (kept : AreKept lanes ran)
      (log : m.log ≡ a.store.log)
      (goes : GoesOnHere disks (point_at disk a.store) (point_at disk' m))
      (later : Later (view a.store.pass) (view m.pass)) (ends : EndsAlone (view m.pass) end.to)
      (rows : LeavesRowsOf disks disk disk' (registry_of (view a.store.pass) a.store.registrar) (first_items ran))
      (leaves : Leaves (Behind disks disk a.store disk') m.file.flusher.count (view a.store.pass) (view m.pass)
      a.store.registrar m.registrar a.from ran end) where
    abbrev pub before : Point D
    before = point_at disk a.store

    abbrev pub at : Point D
    at = point_at disk' m

    abbrev pub known : Registry
    known = registry_of (view a.store.pass) a.store.registrar

    abbrev pub then : Registry
    then = registry_of (view m.pass) m.registrar

    abbrev pub Past : Whole → Type 0
    Past = Behind disks disk a.store disk'

    abbrev pub b : Round
    b = left Past m.file.flusher.count (view a.store.pass) (view m.pass) a.store.registrar m.registrar a.from ran end leaves a.fresh
        given_now

    abbrev pub first : ℕ
    first = (view s.pass).about.number

    pairs : Pairs IsKept lanes ran
    pairs = kept_pairs lanes ran many kept

    numbered : AreNumbered ran
    numbered = ran_numbered lanes ran are pairs

    done : FollowOn (g.rounds ++ b ∷ [])
    done = g.next b refl refl numbered (pairs_map IsKept (λ x y. to_do y ≡ x.works) (λ x y k. sym k.works) lanes ran pairs)

    gave : given_in (g.rounds ++ b ∷ []) ≡ given
    gave = g.gives b refl

    were : WereGiven given (g.rounds ++ b ∷ [])
    were = were_push given g.rounds b gave

    told : block_said (g.rounds ++ b ∷ []) ≡ lanes_after a.fresh (bound_items a.bound) said ran
    told = g.saying b numbered many

    shape : at.shape ≡ before.shape
    shape = ap (λ (l : Log). l.shape) log

    -- a lane met a fault
    pub stops_cut : (why : RunFault) → IsFirstFault ran why → (low high : ℕ) → EachLane (λ i x. Stops Past low high x.fault) ran
        → CanClose m → StopsBlock disks d s from given disk' (record { store = Some m; why = why })
    stops_cut why f low high stops close = record {
      rounds = g.rounds;
      cut = Some b;
      follow = done;
      were = were;
      renewed = renewed_push first g.rounds b true false g.renewed (renewed_free (table_of (table_after first g.rounds) b) b);
      stops = record {
        at = at;
        disk_is = refl;
        store = (refl, close);
        lost = λ none. absurd cc;
        fresh = a.fresh;
        end = end.to;
        cut_by = f;
        ran = rounds_cut disks p before at from a.from end.to r known then g.rounds a.fresh b g.ran goes later shape rows
            (left_cut Past m.file.flusher.count (view a.store.pass) (view m.pass) a.store.registrar m.registrar a.from ran end leaves
            a.fresh given_now) ends;
        whole = λ past sound.
            let n = behind_next disks p before _ (disks.content disk') g.ran.runs goes.told_before past sound in
            lane_whole Past low high ran why stops f n.0 n.1;
      };
      input = λ is. absurd (first_no_input ran why f is);
    }

    module _ (whole : AreWholeLanes ran) (close : CanClose m) where
      all : HasRounds disks p at from r (g.rounds ++ b ∷ []) false end.to then
      all = rounds_more disks p before at from a.from end.to r known then g.rounds a.fresh b g.ran goes later shape rows
          (left_whole Past m.file.flusher.count (view a.store.pass) (view m.pass) a.store.registrar m.registrar a.from ran end leaves
          a.fresh given_now whole)

      -- the rows are those that the rounds tell
      rows_are : m.registrar.catalog ≡ (after_rounds r (g.rounds ++ b ∷ [])).rows
      rows_are = ap (λ (z : Registry). z.rows) all.after

      -- no new table could be begun
      pub stops_roll : (disk'' : D) (e : Stopped) → StopsRoll disks disk' m end.to disk'' e
          → StopsBlock disks d s from given disk'' e
      stops_roll disk'' e k = record {
        rounds = g.rounds ++ b ∷ [];
        cut = None;
        follow = done;
        were = were;
        renewed = renewed_push first g.rounds b true false g.renewed (renewed_free (table_of (table_after first g.rounds) b) b);
        stops = record {
          at = k.at;
          disk_is = k.disk_is;
          store = k.store;
          lost = k.lost;
          fresh = false;
          end = end.to;
          cut_by = tt;
          ran = rounds_end disks p at k.at from end.to r then (g.rounds ++ b ∷ []) false all k.runs k.learns k.end
              k.shape
              (subst (λ (z : D). LeavesRows disks disk' z (λ was. was ++ (after_rounds r (g.rounds ++ b ∷ [])).rows ∷ [])
              ((after_rounds r (g.rounds ++ b ∷ [])).rows ∷ [])) (sym k.disk_is)
              (subst (λ (z : List CatRow). LeavesRows disks disk' disk'' (λ was. was ++ z ∷ []) (z ∷ [])) rows_are k.rows));
          whole = λ past sound. commit_well e.why k.named;
        };
        input = λ is. refl;
      }

      module _ (fresh : Bool) (disk'' : D) (t : Store)
          (renewed : IsRenewed disks disk' m end.to fresh disk'' t) (above : fresh ≡ true → m.log.key.number < end.to) where
        abbrev pub q : Point D
        q = point_at disk'' t

        now : HasRounds disks p q from r (g.rounds ++ b ∷ []) fresh end.to (registry_of (view t.pass) t.registrar)
        now = by fresh above renewed
          where
            higher : m.log.key.number < end.to → RollsOn disks disk' m end.to disk'' t
                → at.view.about.number < q.view.about.number
            higher less k = subst (λ (n : ℕ). at.view.about.number < n)
                (sym (ap (λ (z : Key). z.number) k.go.between.can.of.about ∙ k.number))
                (subst (λ (z : Key). z.number < end.to) (sym close.of.about) less)

            by : (f : Bool) → (f ≡ true → m.log.key.number < end.to) → IsRenewed disks disk' m end.to f disk'' t
                → HasRounds disks p q from r (g.rounds ++ b ∷ []) f end.to (registry_of (view t.pass) t.registrar)
            by false less k = subst (λ (z : D). HasRounds disks p (point_at z t) from r (g.rounds ++ b ∷ []) false
                end.to (registry_of (view t.pass) t.registrar)) (sym k.0)
                (subst (λ (z : Store). HasRounds disks p (point_at disk' z) from r (g.rounds ++ b ∷ []) false end.to
                (registry_of (view z.pass) z.registrar)) (sym k.1) all)
            by true less k = rounds_rolled disks p at q from end.to r then (g.rounds ++ b ∷ [])
                (registry_of (view t.pass) t.registrar) all k.runs k.registry k.unshut k.shape (higher (less refl) k)
                (subst (λ (z : List CatRow). LeavesRows disks disk' disk'' (λ was. z ∷ []) (z ∷ [])) rows_are k.rows)
                (ap (λ (z : Key). z.number) k.go.between.can.of.about ∙ k.number)

        -- memory ran out after it
        pub stops_then : (e : Stopped) → e.store ≡ Some t → e.why ≡ fault.Memory → CanGoOn disks.images disk'' t end.to
            → StopsBlock disks d s from given disk'' e
        stops_then e store why go = record {
          rounds = g.rounds ++ b ∷ [];
          cut = None;
          follow = done;
          were = were;
          renewed = renewed_push first g.rounds b true false g.renewed (renewed_free (table_of (table_after first g.rounds) b) b);
          stops = record {
            at = q;
            disk_is = refl;
            store = subst (λ (z : Option Store). IfSome z (λ x. (q ≡ point_at disk'' x) × CanClose x)) (sym store)
                (refl, close_of disks.images disk'' t end.to go);
            lost = λ none. why;
            fresh = fresh;
            end = end.to;
            cut_by = tt;
            ran = rounds_end disks p q q from end.to r (registry_of (view t.pass) t.registrar) (g.rounds ++ b ∷ [])
                fresh now (runs_self q) (learns_self (view t.pass)) go.between.end refl (rows_none disks disk'' _);
            whole = λ past sound. subst IsRunUndamaged (sym why) tt;
          };
          input = λ is. refl;
        }

        module _ (lanes' : List Lane) (said' : List Said)
            (h : HasStepped fresh a.fresh a.bound said said' ran lanes')
            (asked : (line lines e : ℕ) → IsFullIn ran line lines e
            → (fresh ≡ true) ⊎ ((end.to ≡ (view a.store.pass).about.number) × IsNearLimits end.to e))
            (needed : fresh ≡ true → ((view a.store.pass).about.number < end.to) × IsSomeFull ran) where
          -- where the round found the table full, a new one was begun, or the log is near its limits
          renews : AreRenewed first (g.rounds ++ b ∷ []) fresh fresh
          renews = renewed_push first g.rounds b fresh fresh g.renewed
              (subst (λ (z : ℕ). IsRenewedBy z b fresh fresh) g.ran.begins (record { full = asked; needed = needed }))

          -- the lanes go on
          pub goes_more : GoesIn disks d s from disk''
              (record { store = t; from = end.to; fresh = fresh; bound = end.bound }) lanes' said' given
          goes_more = record {
            rounds = g.rounds ++ b ∷ [];
            ran = now;
            renewed = renews;
            follow = done;
            were = were;
            next = λ c same number have. follow_push g.rounds b c done
                (goes_next lanes ran are pairs fresh lanes' h.next c.fresh same c.given c.lanes have) number;
            gives = λ c size. gives_push g.rounds b c ∙ ap (λ (z : List (List Work)). both z c.given) gave;
            many = g.many ∙ sym many
                ∙ sym (pairs_length (λ x y. GoesOnWith fresh x (to_do y) × IsNewLane x.number y) ran lanes' h.next);
            begins = λ c begins. first_push g.rounds b c ∙ g.begins b refl;
            saying = λ c number size. block_push g.rounds b c
                ∙ ap (λ (z : List Said). lanes_after c.fresh (bound_items end.bound) z c.lanes) (told ∙ sym h.said_are);
          }

          -- or came to their ends
          pub ends_rounds : fresh ≡ false → LeaveNone ran → CanGoOn disks.images disk'' t end.to
              → EndsRounds disks d s from disk'' t end said' given
          ends_rounds old none go = record {
            go = go;
            rounds = g.rounds ++ b ∷ [];
            renewed = subst (λ (z : Bool). AreRenewed first (g.rounds ++ b ∷ []) z z) old renews;
            follow = done;
            were = were;
            all = all_push g.rounds b none;
            ran = subst (λ (f : Bool). HasRounds disks p q from r (g.rounds ++ b ∷ []) f end.to
                (registry_of (view t.pass) t.registrar)) old now;
            first = g.begins b refl;
            last = end_push g.rounds b;
            said_are = h.said_are ∙ sym told;
          }
