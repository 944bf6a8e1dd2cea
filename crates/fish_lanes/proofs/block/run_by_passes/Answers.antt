-- The passes go out, and come back.
use Rattle.std.proofs.Common.{◌≡◌, arith, get_or, Some, slice_get, sym, subst}
use Rattle.std.proofs.lemmas.Option.{slice_get-get_or, slice_get_within}
use Rattle.fish_flush.specs.declared.flusher.Flusher.{Flusher}
use Rattle.fish_lanes.proofs.Behind.{all_ran, behind_given, behind_run, gone_at, gone_ready, pages_stay_at, pass_again, pass_goes}
use Rattle.fish_lanes.proofs.CommitRows.{left_read}
use Rattle.fish_lanes.proofs.Course.{may_join}
use Rattle.fish_lanes.proofs.Ends.{given_known, given_knows, given_registry, taken_knows, taken_start}
use Rattle.fish_lanes.proofs.Finished.{stops_before, stops_fault, stops_later}
use Rattle.fish_lanes.proofs.Lanes.{seated_ready}
use Rattle.fish_lanes.proofs.Lists.{at_places}
use Rattle.fish_lanes.proofs.Moments.{get_there}
use Rattle.fish_lanes.specs.CommitRows.{LeavesRowsOf}
use Rattle.fish_lanes.specs.Controlling.{IsCheckpointAtMost}
use Rattle.fish_lanes.specs.Outcome.{Stops}
use Rattle.fish_lanes.specs.Registering.{Registry, registry_of}
use Rattle.fish_lanes.specs.within.Course.{AllRan}
use Rattle.fish_lanes.specs.within.Parts.{store_of}
use Rattle.fish_lanes.specs.within.Pasts.{WasHere}
use Rattle.fish_rule.proofs.laws.Learning.{learns_same}
use Rattle.fish_rule.specs.Passes.{view}
use Rattle.fish_rule.specs.Views.{AllOf}
use Rattle.fish_store.proofs.CommitRows.{rows_kept}
use Rattle.fish_store.proofs.Running.{here_both, here_stays, may_stays, told_still}
use Rattle.fish_store.specs.Points.{Behind, point_at}
use Rattle.fish_whole.specs.Whole.{Whole}
use Rattle.fish_lanes.proofs.block.run_by_passes.Goals as goal

pub run_all-requires-clause-ready : goal.run_all-requires-clause-ready
run_all-requires-clause-ready g c κs bounds k d less =
    let lanes = c.give_all.new.lanes in
    let size = c.give_all.auto.lanes in
    let o = get_there c.args.others.now k (omega arith) in
    let at : slice_get lanes k ≡ Some (get_or lanes k d) = slice_get-get_or lanes k d less in
    seated_ready c.args.log.now (view c.args.control.now) k o.0 (get_or lanes k d)
    (c.requires.others.new k o.0 o.1) (c.requires.others.shared k o.0 o.1) (c.give_all.ensures.seated k o.0 (get_or lanes k d) o.1 at)

pub run_all-requires-clause-run : goal.run_all-requires-clause-run
run_all-requires-clause-run g c κs bounds =
    let disk = g.D.Disk in
    let v = view c.args.control.now in
    let m = view c.give_all.new.control in
    let given = c.give_all.ensures.given in
    let before = store_of c.args.file.now c.args.log.now c.args.control.now c.args.registrar.now in
    record {
      can = record {
        of = c.give_all.ensures.pass;
        start = record { live = (let e = given.control in omega arith); outside = given.outside };
        knows = given_knows v m c.args.registrar.now _ given c.requires.others.control c.requires.run.can.knows;
      };
      commit = pass_again disk (point_at c.args.disk.now before) m (learns_same v m given.about given.learned) c.requires.run.commit;
      below = c.requires.run.below;
    }

pub run_all-requires-clause-first : goal.run_all-requires-clause-first
run_all-requires-clause-first g c κs bounds =
    let v = view c.args.control.now in
    let m = view c.give_all.new.control in
    let given = c.give_all.ensures.given in
    record {
      known = given_known v m c.args.registrar.now given.about given.learned c.requires.first.known;
      acceptable = c.requires.first.acceptable;
      empty = c.requires.first.empty;
      nothing_left = c.requires.first.nothing_left;
    }

pub finish_others-requires-clause-ready : goal.finish_others-requires-clause-ready
finish_others-requires-clause-ready g c k d less =
    let given = c.give_all.new.lanes in
    let gone = c.run_all.new.others in
    let size = c.run_all.auto.others in
    let many = c.give_all.auto.lanes in
    let o = get_there c.args.others.now k (omega arith) in
    let x = get_there given k (omega arith) in
    let at : slice_get gone k ≡ Some (get_or gone k d) = slice_get-get_or gone k d less in
    gone_ready c.args.log.now x.0 (get_or gone k d)
    (seated_ready c.args.log.now (view c.args.control.now) k o.0 x.0 (c.requires.others.new k o.0 o.1) (c.requires.others.shared k o.0 o.1)
    (c.give_all.ensures.seated k o.0 x.0 o.1 x.1))
    (gone_at c.args.log.now given gone c.run_all.ensures.gone k x.0 (get_or gone k d) x.1 at)

pub finish_others-requires-clause-memory : goal.finish_others-requires-clause-memory
finish_others-requires-clause-memory g c k y at =
    let given = c.give_all.new.lanes in
    let gone = c.run_all.new.others in
    let size = c.run_all.auto.others in
    let less = slice_get_within gone k y at in
    let x = get_there given k (omega arith) in
    (gone_at c.args.log.now given gone c.run_all.ensures.gone k x.0 y x.1 at).short

pub finish_others-requires-clause-below : goal.finish_others-requires-clause-below
finish_others-requires-clause-below g c = c.run_all.ensures.did.still.below

pub take_all-requires-clause-pass : goal.take_all-requires-clause-pass
take_all-requires-clause-pass g c = c.run_all.ensures.did.still.can.of

pub take_all-requires-clause-can : goal.take_all-requires-clause-can
take_all-requires-clause-can g c =
    let disk = g.D.Disk in
    let log = c.args.log.now in
    let given = c.give_all.ensures.given in
    let v = view c.args.control.now in
    let m = view c.give_all.new.control in
    let did = c.run_all.ensures.did in
    let start = store_of c.args.file.now log c.args.control.now c.args.registrar.now in
    let before = point_at c.args.disk.now start in
    let gave = point_at c.args.disk.now (store_of c.args.file.now log c.give_all.new.control c.args.registrar.now) in
    let then = point_at c.run_all.new.disk (store_of c.run_all.new.file log c.run_all.new.control c.run_all.new.registrar) in
    let read = point_at c.finish_others.new.disk
    (store_of c.finish_others.new.file log c.run_all.new.control c.run_all.new.registrar) in
    let gives = pass_goes disk before m (learns_same v m given.about given.learned) in
    let stays = pages_stay_at disk log.key then c.finish_others.new.disk c.finish_others.new.file.flusher c.finish_others.new.file.cold
    did.still.can.of.about c.finish_others.ensures.reads.flusher c.finish_others.ensures.reads.pages in
    let reads = here_stays disk then read stays in
    may_join (all_ran disk before gave then read gives did.still.goes reads
    c.is_full-full.result log c.args.registrar.now c.run_all.new.registrar c.args.first.now c.run_all.new.first
    c.args.others.now c.give_all.new.lanes c.run_all.new.others c.finish_others.new.lanes did.still.can.of.about c.is_full-full.ensures
    given c.requires.others c.give_all.auto.lanes c.give_all.ensures.seated did.run did.still.can.of.stands did.still.can.knows
    c.run_all.auto.others c.run_all.ensures.gone c.finish_others.auto.lanes c.finish_others.ensures.finished)

pub returns : goal.returns
returns g c =
    let disk = g.D.Disk in
    let log = c.args.log.now in
    let given = c.give_all.ensures.given in
    let v = view c.args.control.now in
    let m = view c.give_all.new.control in
    let did = c.run_all.ensures.did in
    let start = store_of c.args.file.now log c.args.control.now c.args.registrar.now in
    let before = point_at c.args.disk.now start in
    let gave = point_at c.args.disk.now (store_of c.args.file.now log c.give_all.new.control c.args.registrar.now) in
    let then = point_at c.run_all.new.disk (store_of c.run_all.new.file log c.run_all.new.control c.run_all.new.registrar) in
    let read = point_at c.finish_others.new.disk
    (store_of c.finish_others.new.file log c.run_all.new.control c.run_all.new.registrar) in
    let gives = pass_goes disk before m (learns_same v m given.about given.learned) in
    let stays = pages_stay_at disk log.key then c.finish_others.new.disk c.finish_others.new.file.flusher c.finish_others.new.file.cold
    did.still.can.of.about c.finish_others.ensures.reads.flusher c.finish_others.ensures.reads.pages in
    let reads = here_stays disk then read stays in
    let ran : AllRan (Behind disk c.args.disk.now start c.finish_others.new.disk) log v (view c.run_all.new.control) c.args.registrar.now
    c.run_all.new.registrar c.args.first.now c.run_all.new.first c.args.others.now c.finish_others.new.lanes =
    all_ran disk before gave then read gives did.still.goes reads
    c.is_full-full.result log c.args.registrar.now c.run_all.new.registrar c.args.first.now c.run_all.new.first
    c.args.others.now c.give_all.new.lanes c.run_all.new.others c.finish_others.new.lanes did.still.can.of.about c.is_full-full.ensures
    given c.requires.others c.give_all.auto.lanes c.give_all.ensures.seated did.run did.still.can.of.stands did.still.can.knows
    c.run_all.auto.others c.run_all.ensures.gone c.finish_others.auto.lanes c.finish_others.ensures.finished in
    let taken = c.take_all.ensures.taken in
    let back = point_at c.finish_others.new.disk
    (store_of c.finish_others.new.file log c.take_all.new.control c.run_all.new.registrar) in
    let key = log.key in
    let low = disk.faults c.args.disk.now in
    let mid = disk.faults c.run_all.new.disk in
    let high = disk.faults c.finish_others.new.disk in
    let Past : Whole → Type 0 = Behind disk c.args.disk.now start c.finish_others.new.disk in
    let Was : Whole → Type 0 = WasHere (disk.content c.run_all.new.disk) key c.run_all.new.file.cold
    (disk.content c.finish_others.new.disk) in
    let pages = c.finish_others.ensures.reads.pages.cold in
    let items = c.run_all.new.first.items in
    record {
      did = record {
        still = record {
          can = record {
            of = c.take_all.ensures.pass;
            start = taken_start (view c.run_all.new.control) (view c.take_all.new.control) c.finish_others.new.lanes _ taken;
            knows = taken_knows (view c.run_all.new.control) (view c.take_all.new.control) c.run_all.new.registrar c.finish_others.new.lanes
                _ taken did.still.can.knows;
          };
          below = c.finish_others.ensures.reads.below;
          goes = here_both disk before then back (here_both disk before gave then gives did.still.goes)
              (here_both disk then read back reads (pass_goes disk read (view c.take_all.new.control) taken.learns));
          again = λ fine. pass_again disk read (view c.take_all.new.control) taken.learns
              (may_stays disk then read stays (did.still.again fine));
        };
        course = record {
          ran = view c.run_all.new.control;
          done = c.finish_others.new.lanes;
          run = ran;
          back = record { takes = taken; taken = c.take_all.ensures.lanes; size = c.take_all.auto.lanes };
        };
        stops = at_places (λ i z. Stops Past low high z.fault) c.run_all.new.first c.take_all.new.lanes
            (stops_later (Behind disk c.args.disk.now (store_of c.args.file.now log c.give_all.new.control c.args.registrar.now)
            c.run_all.new.disk) Past low mid high c.run_all.new.first.fault pages.later
            (behind_given disk before gave then read gives did.still.goes reads) did.stops)
            (λ i y at.
            let size = c.take_all.auto.lanes in
            let less = slice_get_within c.take_all.new.lanes i y at in
            let x = get_there c.finish_others.new.lanes i (omega arith) in
            stops_fault Past low high x.0.fault y.fault (c.take_all.ensures.lanes i x.0 y x.1 at).fault
            (stops_before Past low mid high x.0.fault did.stops.later
            (stops_later Was Past mid high high x.0.fault (omega arith)
            (behind_run disk before gave then read gives did.still.goes reads key did.still.can.of.about)
            (c.finish_others.ensures.stops i x.0 x.1))));
        committed = subst (λ (f : Flusher). AllOf (IsCheckpointAtMost f.count) items)
            (sym c.finish_others.ensures.reads.flusher) did.committed;
        rows = left_read disk c.args.disk.now (registry_of v c.args.registrar.now) c.run_all.new.disk c.finish_others.new.disk items
            (subst (λ (z : Registry). LeavesRowsOf disk c.args.disk.now c.run_all.new.disk z items)
            (given_registry v m c.args.registrar.now given.learned) did.rows)
            (rows_kept disk c.run_all.new.disk c.finish_others.new.disk
            (told_still (disk.content c.run_all.new.disk) (disk.content c.finish_others.new.disk) pages.content_is) pages.crash);
      };
    }
