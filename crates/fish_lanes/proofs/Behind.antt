-- The moments of a store over which a block goes, and what stood before the table at each.
use Rattle.std.proofs.Common.{◌≡◌, ℕ, Bool, List, Option, Some, All, slice_get, length, refl, sym, ap, ◌∙◌, subst, arith}
use Rattle.std.specs.Prelude.{is_some}
use Rattle.std.proofs.lemmas.Option.{get_or_from_slice_get, slice_get_within}
use Rattle.fish_cold.specs.declared.cold.Cold.{Cold}
use Rattle.fish_disk.specs.Content.{StillReads}
use Rattle.fish_disk.specs.declared.disk.Disk.{Ghosts as Disks}
use Rattle.fish_flush.specs.declared.flusher.Flusher.{Flusher}
use Rattle.fish_lanes.proofs.Advancing.{run_fewer}
use Rattle.fish_lanes.proofs.Finished.{done_both}
use Rattle.fish_lanes.proofs.Lanes.{ready_seat, seated_ready}
use Rattle.fish_lanes.proofs.Lists.{some_once}
use Rattle.fish_lanes.proofs.Moments.{get_there}
use Rattle.fish_lanes.proofs.Pages.{here_same}
use Rattle.fish_lanes.proofs.Single.{only_fewer}
use Rattle.fish_lanes.proofs.Stepping.{rows_self, stays_pass}
use Rattle.fish_lanes.specs.within.Advancing.{HasFinished, HasGone}
use Rattle.fish_lanes.specs.Blocks.{EachLanePair}
use Rattle.fish_lanes.specs.within.Blocks.{AreDone, AreGone, AreSeated, CanGive, HasGiven, HasRunFirst}
use Rattle.fish_lanes.specs.within.Course.{AllRan}
use Rattle.fish_lanes.specs.within.Pasts.{IsHere, WasHere}
use Rattle.fish_lanes.specs.Running.{IsShared}
use Rattle.fish_lanes.specs.within.Running.{IsLaneReady}
use Rattle.fish_lanes.specs.declared.lane.Lane.{Lane}
use Rattle.fish_lanes.specs.declared.lane.LanePass.{LanePass}
use Rattle.fish_lanes.specs.declared.work.Work.{Work}
use Rattle.fish_registry.specs.Knowing.{Knows}
use Rattle.fish_registry.specs.declared.registrar.Registrar.{Registrar}
use Rattle.fish_rule.proofs.laws.Learning.{learns_self}
use Rattle.fish_rule.specs.Logs.{Learns}
use Rattle.fish_rule.specs.Passes.{view}
use Rattle.fish_rule.specs.Table.{IsOfMoment}
use Rattle.fish_rule.specs.declared.table.Log.{Log}
use Rattle.fish_rule.specs.declared.view.Key.{Key}
use Rattle.fish_rule.specs.declared.view.View.{View}
use Rattle.fish_store.proofs.Running.{here_stays, may_stays}
use Rattle.fish_store.proofs.Scanning.{pages_stay}
use Rattle.fish_store.specs.Sound.{GoesOnHere, IsSoundBehind, MayGoOn, Point, ReadsPages, StoreStays}
use Rattle.fish_whole.specs.Whole.{Whole}

-- the lane at a position that went on
pub gone_at : (log : Log) (given gone : List Lane) → AreGone log given gone → (i : ℕ) (x y : Lane) → slice_get given i ≡ Some x
    → slice_get gone i ≡ Some y → HasGone log x y
gone_at log given gone went i x y at_x at_y = subst (λ (t : Lane × Lane). HasGone log t.0 t.1)
    (λ j. (get_or_from_slice_get given i x x at_x j, get_or_from_slice_get gone i y x at_y j))
    (went.each i x (slice_get_within given i x at_x))

-- it may be finished
pub gone_ready : (log : Log) (x y : Lane) → IsLaneReady log x → HasGone log x y → IsLaneReady log y
gone_ready log x y ready h = record {
  seat = h.after;
  seat_is = h.after_is;
  can = h.can;
  shared = subst (λ (w : List Work). All IsShared w) (sym h.works) ready.shared;
  nothing_left = h.left ∙ ready.nothing_left;
}

-- what the first lane did after some pasts, it did after each of these
first_fewer : (P Q : Whole → Type 0) (v u : View) (r s : Registrar) (x y : Lane) → ((past : Whole) → Q past → P past)
    → HasRunFirst P v u r s x y → HasRunFirst Q v u r s x y
first_fewer P Q v u r s x y fewer h =
    let c = h.controlled in
    record {
      controlled = record {
        run = run_fewer P Q v u y.works y.items y.fault fewer c.run;
        so = c.so;
        closed = c.closed;
        only = λ end e none. only_fewer P Q v u r.catalog end fewer y.works y.items (c.only end e none);
        plans = c.plans;
        is = c.is;
        each = c.each;
        found = c.found;
      };
      stops = h.stops;
      works = h.works;
      number = h.number;
      seat = h.seat;
    }

-- the lanes after the first went on, and were finished
others_done : (Past P : Whole → Type 0) (full : Bool) (log : Log) (v : View) (before given gone last : List Lane)
    → ((past : Whole) → Past past → P past) → full ≡ is_some v.shut → CanGive v before → length given ≡ length before
    → AreSeated log v before given → length gone ≡ length given → AreGone log given gone
    → EachLanePair (λ i x y. HasFinished P full log x y) gone last → AreDone Past log given last
others_done Past P full log v before given gone last fewer told can given_size seated gone_size went finished i x z at_x at_z =
    let less = slice_get_within given i x at_x in
    let o = get_there before i (omega arith) in
    let y = get_there gone i (omega arith) in
    let seat = seated i o.0 x o.1 at_x in
    let step = gone_at log given gone went i x y.0 at_x y.1 in
    let ready = seated_ready log v i o.0 x (can.new i o.0 o.1) (can.shared i o.0 o.1) seat in
    let seat_is : seat.seat ≡ step.before = some_once seat.seat step.before
    (sym (ap (λ (l : Lane). l.seat) {y = record o.0 { seat = Some seat.seat }} seat.is) ∙ step.before_is) in
    done_both Past P full log x y.0 z fewer (ap (λ (l : Lane). l.items) seat.is ∙ (can.new i o.0 o.1).empty) step
    (ready_seat log x step.before ready step.before_is)
    (told ∙ ap is_some (sym seat.shut ∙ ap (λ (s : LanePass). (view s.pass).shut) seat_is)) (finished i y.0 z y.1 at_z)

module _
    {D : Type 0} (disks : Disks D) where
  -- what the control pass learns leaves the last commit
  pub pass_goes : (p : Point D) (u : View) → Learns p.view u → GoesOnHere disks p (record p { view = u })
  pass_goes p u learns = here_stays disks p (record p { view = u })
      (stays_pass disks p p.rows u learns (rows_self p.view p.rows))

  -- so a checkpoint may still follow
  pub pass_again : (p : Point D) (u : View) → Learns p.view u → MayGoOn disks.images p → MayGoOn disks.images (record p { view = u })
  pass_again p u learns = may_stays disks p (record p { view = u })
      (stays_pass disks p p.rows u learns (rows_self p.view p.rows))

  -- reading pages leaves it too
  pub pages_stay_at : (k : Key) (n : Point D) (disk : D) (flusher : Flusher) (cold : Cold) → n.view.about ≡ k
      → flusher ≡ n.flusher → ReadsPages disks k n.cold cold n.disk disk
      → StoreStays disks n (record n { disk = disk; flusher = flusher; cold = cold })
  pages_stay_at k n disk flusher cold about same reads =
      pages_stay disks n (record n { disk = disk; flusher = flusher; cold = cold }) (learns_self n.view)
      (rows_self n.view n.rows) same refl
      (subst (λ (z : Key). ReadsPages disks z n.cold cold n.disk disk) (sym about) reads)

  -- what stood before the table is what the disk still has before it
  pub sound_now : (p : Point D) (later : Option (List ℕ)) (k : Key) → p.view.about ≡ k → StillReads (disks.content p.disk) later
      → (past : Whole) → IsSoundBehind disks p later past → IsHere later k p.cold past
  sound_now p later k about still past s = here_same (disks.content p.disk) later k p.cold past still s.told
      (subst (λ (z : Key). IsHere (disks.content p.disk) z p.cold past) about
      (record { table = s.sound.has.table; entries = s.sound.has.entries }))

  -- of a block: its start; the passes are given; the lanes ran at once; the others were finished
  module _
      (p m n q : Point D)
      (gives : GoesOnHere disks p m)
      (runs : GoesOnHere disks m n)
      (reads : GoesOnHere disks n q) where
    -- what stood before the table at the start, as the disk at the end tells it
    abbrev pub Before : Whole → Type 0
    Before past = IsSoundBehind disks p (disks.content q.disk) past

    -- it stood there when the passes were given
    pub behind_given : (past : Whole) → Before past → IsSoundBehind disks m (disks.content n.disk) past
    behind_given past s = record {
      sound = gives.sound past s.sound (runs.told_before (reads.told_before s.told));
      told = reads.told_before s.told;
    }

    -- and when the lanes had run
    pub behind_run : (k : Key) → n.view.about ≡ k → (past : Whole) → Before past
        → WasHere (disks.content n.disk) k n.cold (disks.content q.disk) past
    behind_run k about past s =
        let sound = runs.sound past (behind_given past s).sound (reads.told_before s.told) in
        record {
          here = subst (λ (z : Key). IsHere (disks.content n.disk) z n.cold past) about
              (record { table = sound.has.table; entries = sound.has.entries });
          told = s.told;
        }

    -- so all lanes did their statements after it
    pub all_ran : (full : Bool) (log : Log) (r s : Registrar) (first first' : Lane) (before given gone last : List Lane)
        → n.view.about ≡ log.key → full ≡ is_some p.view.shut → HasGiven p.view m.view (length before) → CanGive p.view before
        → length given ≡ length before → AreSeated log p.view before given
        → HasRunFirst (IsSoundBehind disks m (disks.content n.disk)) m.view n.view r s first first' → IsOfMoment n.view → Knows n.view s
        → length gone ≡ length given → AreGone log given gone → length last ≡ length gone
        → EachLanePair (λ i x y. HasFinished (WasHere (disks.content n.disk) log.key n.cold (disks.content q.disk)) full log x y) gone last
        → AllRan Before log p.view n.view r s first first' before last
    all_ran full log r s first first' before given gone last about told gives can given_size seated did stands knows gone_size went
        last_size finished = record {
          control = m.view;
          given = given;
          gives = gives;
          seated = seated;
          first_did = first_fewer (IsSoundBehind disks m (disks.content n.disk)) Before m.view n.view r s first first' behind_given did;
          others_did = others_done Before (WasHere (disks.content n.disk) log.key n.cold (disks.content q.disk)) full log p.view before
              given gone
              last (behind_run log.key about) told can given_size seated gone_size went finished;
          stands = stands;
          knows = knows;
          given_size = given_size;
          done_size = last_size ∙ gone_size;
        }
