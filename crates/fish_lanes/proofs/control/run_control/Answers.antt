-- A turn more, or the end.
use Rattle.std.proofs.Common.{◌≡◌, ◌+◌, ◌∙◌, ◌++◌, ◌∷◌, List, [], arith, ap, drop, false, inl, inr, length, sym, take, true}
use Rattle.std.specs.Prelude.{is_some}
use Rattle.std.proofs.lemmas.List.{take_all, take_more}
use Rattle.fish_epoch.proofs.Reading.{defs_later}
use Rattle.fish_lanes.proofs.Full.{full_test, open_test, unshut_test}
use Rattle.fish_lanes.proofs.Parts.{around, err_told, ok_told}
use Rattle.fish_lanes.proofs.Turn.{ended, failed, going_self, looked_run, lost, missed, stepped}
use Rattle.fish_lanes.specs.declared.work.Work.{Work}
use Rattle.fish_lanes.specs.within.Parts.{store_of}
use Rattle.fish_rule.specs.Passes.{view}
use Rattle.fish_lanes.proofs.control.run_control.Goals as goal

pub loop-work-init : goal.loop-work-init
loop-work-init g c = record {
  going = going_self g.D.Disk c.args.disk.now (store_of c.args.file.now c.args.log.now c.args.pass.now c.args.registrar.now)
      c.requires.run c.requires.known c.args.items.now c.requires.empty;
  read = λ r. (let bad : false ≡ true = sym c.new-defs.ensures.unread ∙ r in absurd cc);
}

pub run_statement-requires-clause-run : goal.run_statement-requires-clause-run
run_statement-requires-clause-run g c =
    let begun = store_of c.args.file.now c.args.log.now c.args.pass.now c.args.registrar.now in
    looked_run g.D.Disk c.args.disk.now begun c.loop-work.invariant.going
    (λ unshut. open_test (view c.loop-work.pass).shut c.is_full-full.result c.finds_full.result c.finds_full.ensures
    c.if-finds_full.false (c.is_full-full.ensures ∙ ap is_some unshut))
    c.find_boundary.new.pass c.find_boundary.new.registrar c.find_boundary.ensures.looks

pub run_statement-requires-clause-defs : goal.run_statement-requires-clause-defs
run_statement-requires-clause-defs g c =
    defs_later (view c.loop-work.pass) (view c.find_boundary.new.pass) c.loop-work.defs.known
    c.find_boundary.ensures.looks.on.gains.on.learns c.loop-work.invariant.read

-- ---- the end

pub returns : goal.returns
returns g c =
    let begun = store_of c.args.file.now c.args.log.now c.args.pass.now c.args.registrar.now in
    let now = store_of c.loop-work.file c.args.log.now c.loop-work.pass c.loop-work.registrar in
    let works = c.args.works.now in
    let size = c.loop-work.invariant.going.held.told.size in
    let test = c.loop-work-test.false in
    record {
      ran = ended g.D.Disk c.args.disk.now begun c.loop-work.disk now works c.loop-work.work-index c.loop-work.items
          c.loop-work.invariant.going
          (inl (let e = ap (λ (z : List Work). length z) (take_all c.loop-work.work-index works (omega arith)) in omega arith));
    }

pub returns-then-finds_full : goal.returns-then-finds_full
returns-then-finds_full g c =
    let begun = store_of c.args.file.now c.args.log.now c.args.pass.now c.args.registrar.now in
    let now = store_of c.loop-work.file c.args.log.now c.loop-work.pass c.loop-work.registrar in
    let full = full_test (view c.loop-work.pass).shut c.is_full-full.result c.finds_full.result c.finds_full.ensures
    c.if-finds_full.true in
    record {
      ran = ended g.D.Disk c.args.disk.now begun c.loop-work.disk now c.args.works.now c.loop-work.work-index c.loop-work.items
          c.loop-work.invariant.going (inr (unshut_test (view c.args.pass.now).shut (sym c.is_full-full.ensures ∙ full.0), full.1));
    }

-- ---- a fault

pub returns-then-is_err : goal.returns-then-is_err
returns-then-is_err g c =
    let begun = store_of c.args.file.now c.args.log.now c.args.pass.now c.args.registrar.now in
    let works = c.args.works.now in
    let i = c.loop-work.work-index in
    record {
      ran = missed g.D.Disk c.args.disk.now begun c.loop-work.invariant.going
          (λ unshut. open_test (view c.loop-work.pass).shut c.is_full-full.result c.finds_full.result c.finds_full.ensures
          c.if-finds_full.false (c.is_full-full.ensures ∙ ap is_some unshut))
          c.find_boundary.new.pass c.find_boundary.new.registrar c.find_boundary.ensures.looks works (drop (i + 1) works) c.work-item.result
          c.find_boundary.new.items (around works i c.work-item.result c.loop-work-test.true c.work-item.is)
          (err_told c.find_boundary.result c.is_err.result c.is_err.ensures.value c.if-is_err.true c.find_boundary.ensures.refused);
    }

pub returns-in-Err : goal.returns-in-Err
returns-in-Err g c =
    let begun = store_of c.args.file.now c.args.log.now c.args.pass.now c.args.registrar.now in
    let now = store_of c.run_statement.new.file c.args.log.now c.run_statement.new.pass c.run_statement.new.registrar in
    let works = c.args.works.now in
    let i = c.loop-work.work-index in
    record {
      ran = failed g.D.Disk c.args.disk.now begun c.loop-work.invariant.going
          (λ unshut. open_test (view c.loop-work.pass).shut c.is_full-full.result c.finds_full.result c.finds_full.ensures
          c.if-finds_full.false (c.is_full-full.ensures ∙ ap is_some unshut))
          c.find_boundary.new.pass c.find_boundary.new.registrar c.find_boundary.ensures.looks c.find_boundary.new.items
          (ok_told c.find_boundary.result c.is_err.result c.is_err.ensures.value c.if-is_err.false c.find_boundary.ensures.polled)
          c.run_statement.new.disk now c.work-item.result c.run_statement.result c.run_statement.ensures.ran works (drop (i + 1) works)
          c.in-Err.fault (around works i c.work-item.result c.loop-work-test.true c.work-item.is) c.in-Err.is;
    }

pub returns-in-Err-push : goal.returns-in-Err-push
returns-in-Err-push g c =
    let begun = store_of c.args.file.now c.args.log.now c.args.pass.now c.args.registrar.now in
    let now = store_of c.run_statement.new.file c.args.log.now c.run_statement.new.pass c.run_statement.new.registrar in
    let works = c.args.works.now in
    let i = c.loop-work.work-index in
    record {
      ran = lost g.D.Disk c.args.disk.now begun c.loop-work.invariant.going
          (λ unshut. open_test (view c.loop-work.pass).shut c.is_full-full.result c.finds_full.result c.finds_full.ensures
          c.if-finds_full.false (c.is_full-full.ensures ∙ ap is_some unshut))
          c.find_boundary.new.pass c.find_boundary.new.registrar c.find_boundary.ensures.looks c.find_boundary.new.items
          (ok_told c.find_boundary.result c.is_err.result c.is_err.ensures.value c.if-is_err.false c.find_boundary.ensures.polled)
          c.run_statement.new.disk now c.work-item.result c.run_statement.result c.run_statement.ensures.ran c.in-Ok.item c.in-Ok.is works
          (drop (i + 1) works) c.push.new.self (around works i c.work-item.result c.loop-work-test.true c.work-item.is)
          c.in-Err-push.ensures.err;
    }

-- ---- a turn more

pub loop-work-preserved : goal.loop-work-preserved
loop-work-preserved g c =
    let begun = store_of c.args.file.now c.args.log.now c.args.pass.now c.args.registrar.now in
    let now = store_of c.run_statement.new.file c.args.log.now c.run_statement.new.pass c.run_statement.new.registrar in
    let works = c.args.works.now in
    let i = c.loop-work.work-index in
    let w = c.work-item.result in
    record {
      going = stepped g.D.Disk c.args.disk.now begun c.loop-work.invariant.going
          (λ unshut. open_test (view c.loop-work.pass).shut c.is_full-full.result c.finds_full.result c.finds_full.ensures
          c.if-finds_full.false (c.is_full-full.ensures ∙ ap is_some unshut))
          c.find_boundary.new.pass c.find_boundary.new.registrar c.find_boundary.ensures.looks c.find_boundary.new.items
          (ok_told c.find_boundary.result c.is_err.result c.is_err.ensures.value c.if-is_err.false c.find_boundary.ensures.polled)
          c.run_statement.new.disk now w c.run_statement.result c.run_statement.ensures.ran c.in-Ok.item c.in-Ok.is (take (i + 1) works)
          c.push.new.self
          (take_more works i w c.loop-work-test.true ∙ ap (λ (z : Work). take i works ++ z ∷ []) (sym c.work-item.is))
          c.in-Ok-push.ensures.ok c.requires.run.can.of.stands c.requires.run.can.knows c.requires.known;
      read = c.run_statement.ensures.defs;
    }
