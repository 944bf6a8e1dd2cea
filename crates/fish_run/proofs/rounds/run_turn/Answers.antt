-- A round ran: the lanes go on, in the same table or in a new one, or a fault stopped them.
use Rattle.std.proofs.Common.{◌≡◌, ◌≢◌, ◌&&◌, ◌<◌, ◌≤◌, ◌⊎◌, ℕ, List, Bool, true, inl, inr, sym, ap, ◌∙◌, subst, ⊎_elim, arith}
use Rattle.std.specs.Prelude.{nat_lt}
use Rattle.fish_lanes.specs.Outcome.{IsFullIn}
use Rattle.fish_lanes.specs.declared.lane.Lane.{Lane}
use Rattle.fish_outside.specs.Causes.{Rose}
use Rattle.fish_rule.specs.Passes.{view}
use Rattle.fish_rule.specs.declared.table.Log.{Log}
use Rattle.fish_rule.specs.declared.view.Key.{Key}
use Rattle.fish_run.proofs.Blocks.{block_rows}
use Rattle.fish_run.proofs.Faults.{commit_no_output, commit_other, first_no_input, first_no_output, lane_rose}
use Rattle.fish_run.proofs.Going.{err_known}
use Rattle.fish_run.proofs.Room.{near_limits}
use Rattle.fish_run.proofs.Rounding.{and_false, ends_rounds, goes_more, renewed_go, stops_cut, stops_roll, stops_then}
use Rattle.fish_run.proofs.Tables.{IsSomeFull, more_full}
use Rattle.fish_run.proofs.Stepping.{above_base, and_true, asked_for, fewer_tables, idle_next, kept_pairs, lanes_next}
use Rattle.fish_run.specs.within.Going.{HasStepped}
use Rattle.fish_run.specs.within.Turning.{StopsTurn}
use Rattle.fish_run.specs.within.Runs.{CanGoOn}
use Rattle.fish_run.specs.Tables.{IsNearLimits}
use Rattle.fish_run.specs.within.Steps.{AreWholeLanes}
use Rattle.fish_run.specs.declared.fault.RunFault.TheVariants as fault
use Rattle.fish_run.specs.declared.lasting.Stopped.{Stopped}
use Rattle.fish_whole.specs.Whole.{Whole}
use Rattle.fish_run.proofs.rounds.run_turn.Goals as goal
use Rattle.fish_store.specs.Points.{Behind}

pub returns-in-Err-clause-stopped : goal.returns-in-Err-clause-stopped
returns-in-Err-clause-stopped g c = λ d s from now given ready.
    let disk = g.D.Disk in
    let a = c.args in
    let b = c.run_round-end in
    let e = b.ensures in
    stops_cut disk d s from a.disk.now a.start a.lanes.now a.said.now now
    given ready
    c.requires.lanes b.new.disk b.new.store b.new.lanes b.result b.auto.lanes
    e.lanes.kept e.store.log e.store.goes e.store.later e.store.ends
    (block_rows disk a.disk.now a.start.store b.new.disk b.new.store b.new.lanes b.result e.store e.leaves.some) e.leaves
    c.in-Err.why c.in-Err.ensures.first (disk.faults a.disk.now) (disk.faults b.new.disk) e.lanes.stops e.close

pub returns-in-Err-clause-disk : goal.returns-in-Err-clause-disk
returns-in-Err-clause-disk g c = λ is.
    let disk = g.D.Disk in
    let b = c.run_round-end in
    let Past : Whole → Type 0 = Behind disk c.args.disk.now c.args.start.store b.new.disk in
    lane_rose Past (disk.faults c.args.disk.now) (disk.faults b.new.disk) b.new.lanes c.in-Err.why b.ensures.lanes.stops
    c.in-Err.ensures.first is

pub returns-in-Err-clause-inner : goal.returns-in-Err-clause-inner
returns-in-Err-clause-inner g c =
    let lanes : List Lane = c.run_round-end.new.lanes in
    (first_no_input lanes c.in-Err.why c.in-Err.ensures.first, first_no_output lanes c.in-Err.why c.in-Err.ensures.first)

pub renew-requires : goal.renew-requires
renew-requires g c = record { go = c.run_round-end.ensures.go c.in-Ok.ensures.whole }

pub returns-in_err-next-clause-stopped : goal.returns-in_err-next-clause-stopped
returns-in_err-next-clause-stopped g c =
    let disk = g.D.Disk in
    let a = c.args in
    let b = c.run_round-end in
    let e = b.ensures in
    let whole : AreWholeLanes b.new.lanes = c.in-Ok.ensures.whole in
    let why : Stopped = c.in_err-next.field-0.0 in
    err_known c.from_residual.result
    (StopsTurn disk a.disk.now a.start a.lanes.now a.said.now c.renew.new.disk) why
    c.from_residual.ensures.1
    (λ d s from now given ready.
    stops_roll disk d s from a.disk.now a.start a.lanes.now a.said.now now
    given ready
    c.requires.lanes b.new.disk b.new.store b.new.lanes b.result b.auto.lanes
    e.lanes.kept e.store.log e.store.goes e.store.later e.store.ends
    (block_rows disk a.disk.now a.start.store b.new.disk b.new.store b.new.lanes b.result e.store e.leaves.some)
    e.leaves whole e.close
    c.renew.new.disk why c.in_err-next.ensures.stopped)

pub returns-in_err-next-clause-disk : goal.returns-in_err-next-clause-disk
returns-in_err-next-clause-disk g c =
    let faults = g.D.Disk.faults in
    let why : Stopped = c.in_err-next.field-0.0 in
    err_known c.from_residual.result (λ s. s.why ≡ fault.Disk → Rose (faults c.args.disk.now) (faults c.renew.new.disk)) why
    c.from_residual.ensures.1
    (λ is. let before = c.run_round-end.ensures.rises in let rose = c.in_err-next.ensures.disk is in omega (before, rose, arith))

pub returns-in_err-next-clause-inner : goal.returns-in_err-next-clause-inner
returns-in_err-next-clause-inner g c =
    let why : Stopped = c.in_err-next.field-0.0 in
    let named = c.in_err-next.ensures.stopped.named in
    err_known c.from_residual.result (λ s. (s.why ≢ fault.Input) × (s.why ≢ fault.Output)) why c.from_residual.ensures.1
    (commit_other why.why named, commit_no_output why.why named)

pub returns-in-Ok-step_all-clause-on : goal.returns-in-Ok-step_all-clause-on
returns-in-Ok-step_all-clause-on g c =
    let disk = g.D.Disk in
    let a = c.args in
    let b = c.run_round-end in
    let e = b.ensures in
    let whole : AreWholeLanes b.new.lanes = c.in-Ok.ensures.whole in
    let more : Bool = c.go_on-more.result in
    let fresh : Bool = more && nat_lt c.base.result.number b.result.to in
    let above = above_base c.base.result.number b.result.to b.new.store.log.key.number more c.base.ensures.0 in
    let go : CanGoOn disk.images c.renew.new.disk c.in_ok-next.next b.result.to = renewed_go disk b.new.disk c.renew.new.disk b.new.store
    c.in_ok-next.next b.result.to (e.go whole) fresh c.in_ok-next.ensures.next in
    let h : HasStepped fresh a.start.fresh a.start.bound a.said.now c.step_all.new.said b.new.lanes c.step_all.new.lanes
    = c.in-Ok-step_all.ensures in
    let rises = b.ensures.store.ends.above in
    let about = (e.go whole).between.can.of.about in
    let least : b.new.store.log.key.number ≤ b.result.to = subst (λ (k : Key). k.number ≤ b.result.to) about rises in
    let before : b.new.store.log.key.number ≡ (view a.start.store.pass).about.number =
    ap (λ (l : Log). l.key.number) e.store.log ∙ ap (λ (k : Key). k.number) (sym c.requires.go.between.can.of.about) in
    let asked : (line lines end : ℕ) → IsFullIn b.new.lanes line lines end
    → (fresh ≡ true) ⊎ ((b.result.to ≡ (view a.start.store.pass).about.number) × IsNearLimits b.result.to end)
    = λ line lines end full.
    ⊎_elim (λ (new : fresh ≡ true). inl new) (λ (same : b.new.store.log.key.number ≡ b.result.to). inr (
      sym same ∙ before,
      near_limits disk.images b.new.disk b.new.store b.result.to (e.go whole) b.new.lanes e.leaves.marks same line lines end full,
    ))
    (asked_for c.base.result.number b.result.to b.new.store.log.key.number more c.base.ensures.0 least b.new.lanes
    c.go_on-more.ensures.full line lines end full) in
    let needed : fresh ≡ true → ((view a.start.store.pass).about.number < b.result.to) × IsSomeFull b.new.lanes = λ new. (
      subst (λ (z : ℕ). z < b.result.to) before (above new),
      more_full (view a.start.store.pass) (view b.new.store.pass) b.new.lanes e.lanes.left
          (c.go_on-more.ensures.asks (and_true more (nat_lt c.base.result.number b.result.to) new)),
    ) in
    record {
      go = go;
      lanes_are = lanes_next a.lanes.now b.new.lanes c.requires.lanes (kept_pairs a.lanes.now b.new.lanes b.auto.lanes e.lanes.kept) fresh
          c.step_all.new.lanes h.next;
      many =
          let lanes = c.step_all.auto.lanes in
          let ran = b.auto.lanes in
          let said = c.step_all.auto.said in
          let before = c.requires.many in
          omega arith;
      same = (let lanes = c.step_all.auto.lanes in let ran = b.auto.lanes in omega arith);
      idle = λ last. idle_next a.lanes.now b.new.lanes c.requires.lanes (kept_pairs a.lanes.now b.new.lanes b.auto.lanes e.lanes.kept) fresh
          c.step_all.new.lanes h.next (and_false more (nat_lt c.base.result.number b.result.to) last) (c.go_on-more.ensures.done last);
      less = fewer_tables disk b.new.disk c.renew.new.disk a.start.store b.new.store
          c.in_ok-next.next c.base.result.number b.result.to b.new.lanes e.store.log c.base.ensures.0 (omega arith)
          e.lanes.left e.lanes.goes_on more
          c.go_on-more.ensures.left c.in_ok-next.ensures.next;
      goes = λ d s from now given ready.
          goes_more disk d s from a.disk.now a.start a.lanes.now a.said.now now
          given ready
          c.requires.lanes b.new.disk b.new.store b.new.lanes b.result b.auto.lanes
          e.lanes.kept e.store.log e.store.goes e.store.later e.store.ends
          (block_rows disk a.disk.now a.start.store b.new.disk b.new.store b.new.lanes b.result e.store e.leaves.some)
          e.leaves whole e.close
          fresh c.renew.new.disk c.in_ok-next.next c.in_ok-next.ensures.next above c.step_all.new.lanes c.step_all.new.said h asked needed;
      ends = λ last d s from now given ready.
          ends_rounds disk d s from a.disk.now a.start a.lanes.now a.said.now now
          given ready
          c.requires.lanes b.new.disk b.new.store b.new.lanes b.result b.auto.lanes
          e.lanes.kept e.store.log e.store.goes e.store.later e.store.ends
          (block_rows disk a.disk.now a.start.store b.new.disk b.new.store b.new.lanes b.result e.store e.leaves.some)
          e.leaves whole e.close
          fresh c.renew.new.disk c.in_ok-next.next c.in_ok-next.ensures.next above c.step_all.new.lanes c.step_all.new.said h asked needed
          (and_false more (nat_lt c.base.result.number b.result.to) last) (c.go_on-more.ensures.done last) go;
    }

pub returns-in-Err-step_all-clause-stopped : goal.returns-in-Err-step_all-clause-stopped
returns-in-Err-step_all-clause-stopped g c = λ d s from now given ready.
    let disk = g.D.Disk in
    let a = c.args in
    let b = c.run_round-end in
    let e = b.ensures in
    let whole : AreWholeLanes b.new.lanes = c.in-Ok.ensures.whole in
    let fresh : Bool = c.go_on-more.result && nat_lt c.base.result.number b.result.to in
    stops_then disk d s from a.disk.now a.start a.lanes.now a.said.now now
    given ready
    c.requires.lanes b.new.disk b.new.store b.new.lanes b.result b.auto.lanes
    e.lanes.kept e.store.log e.store.goes e.store.later e.store.ends
    (block_rows disk a.disk.now a.start.store b.new.disk b.new.store b.new.lanes b.result e.store e.leaves.some)
    e.leaves whole e.close
    fresh c.renew.new.disk c.in_ok-next.next c.in_ok-next.ensures.next
    (above_base c.base.result.number b.result.to b.new.store.log.key.number c.go_on-more.result c.base.ensures.0)
    c.out_of_memory.result c.out_of_memory.ensures.store c.out_of_memory.ensures.why
    (renewed_go disk b.new.disk c.renew.new.disk b.new.store c.in_ok-next.next b.result.to
    (e.go whole) fresh c.in_ok-next.ensures.next)
