-- A block whose files were opened, and closed at its end.
use Rattle.std.proofs.Common.{◌≡◌, [], Err, Some, ap, arith, length, refl, subst, sym, ◌∙◌}
use Rattle.std.proofs.lemmas.Result.{IfErr-weaker, IfOk-weaker}
use Rattle.fish_feed.specs.Queues.{IsQueue, MayEndFeed}
use Rattle.fish_feed.specs.Works.{Triples}
use Rattle.fish_outside.proofs.CauseLemmas.{Rose_earlier, Rose_later}
use Rattle.fish_outside.specs.Causes.{Rose}
use Rattle.fish_run.proofs.Faults.{feed_failed, feed_no_disk, feed_no_output, feed_well}
use Rattle.fish_feed.proofs.Lists.{pairs_length}
use Rattle.fish_run.proofs.Lists.{written_back}
use Rattle.fish_run.proofs.One.{are_rounds}
use Rattle.fish_run.proofs.Rounding.{stops_unopened}
use Rattle.fish_run.proofs.Works.{done_later, still_both}
use Rattle.fish_run.specs.Blocks.{with_cut}
use Rattle.fish_run.specs.Faults.{IsRunUndamaged, feed_fault}
use Rattle.fish_run.specs.within.Parts.{AreUngiven, EndsBlock, EndsLanes, StopsLanes, StopsParts}
use Rattle.fish_run.specs.declared.fault.RunFault.TheVariants as fault
use Rattle.fish_run.proofs.parts.run_lanes.Goals as goal

pub run_parts-ended-requires-clause-some : goal.run_parts-ended-requires-clause-some
run_parts-ended-requires-clause-some g c κs within =
    let many = pairs_length (λ ss q. IsQueue (g.H.Host.files c.open_lanes.new.host) g.H.Feed.Source.left ss [] q) c.args.texts.now
    c.in-Ok.opened.items c.in-Ok.ensures.queues in
    let value = ap length c.as_mut_slice.ensures.value in
    let some = c.requires.texts.some in
    omega (many, value, some, arith)

pub run_parts-ended-requires-clause-few : goal.run_parts-ended-requires-clause-few
run_parts-ended-requires-clause-few g c κs within =
    let many = pairs_length (λ ss q. IsQueue (g.H.Host.files c.open_lanes.new.host) g.H.Feed.Source.left ss [] q) c.args.texts.now
    c.in-Ok.opened.items c.in-Ok.ensures.queues in
    let value = ap length c.as_mut_slice.ensures.value in
    let few = c.requires.texts.few in
    omega (many, value, few, arith)

-- ---- it came to its end

pub returns-in-Ok-clause-ended : goal.returns-in-Ok-clause-ended
returns-in-Ok-clause-ended g c =
    let disk = g.D.Disk in
    let left = g.H.Feed.Source.left in
    let files = g.H.Host.files in
    let a = c.args in
    let mid = files c.run_parts-ended.new.host in
    let new = files c.close.new.host in
    let queues = c.as_mut_slice.result.now in
    let opened = subst (AreUngiven (files c.open_lanes.new.host) left a.texts.now) (sym c.as_mut_slice.ensures.value)
    c.in-Ok.ensures.queues in
    IfOk-weaker c.run_parts-ended.result
    (EndsBlock disk a.disk.now a.store a.from left (files c.open_lanes.new.host) queues
    c.run_parts-ended.new.disk mid)
    (EndsLanes disk a.disk.now a.store a.from a.texts.now c.run_parts-ended.new.disk new)
    (λ e h. record {
      given = h.given;
      rounds = h.rounds;
      done = done_later mid new c.close.ensures.content a.texts.now h.given (h.done a.texts.now opened);
    }) c.run_parts-ended.ensures.ended

-- ---- or a fault came

pub returns-in-Ok-clause-stopped : goal.returns-in-Ok-clause-stopped
returns-in-Ok-clause-stopped g c =
    let disk = g.D.Disk in
    let left = g.H.Feed.Source.left in
    let files = g.H.Host.files in
    let a = c.args in
    let mid = files c.run_parts-ended.new.host in
    let new = files c.close.new.host in
    let queues = c.as_mut_slice.result.now in
    let rest = c.run_parts-ended.new.queues in
    let items = c.in-Ok.opened.items in
    let len = c.as_mut_slice.ensures.len in
    let value = ap length c.as_mut_slice.ensures.value in
    let kept = c.run_parts-ended.auto.queues in
    let all = c.as_mut_slice-in-Ok.ensures.value
    ∙ written_back c.in-Ok.opened.len rest items (omega (value, len, kept, arith)) (omega (value, kept, arith)) in
    let opened = subst (AreUngiven (files c.open_lanes.new.host) left a.texts.now) (sym c.as_mut_slice.ensures.value)
    c.in-Ok.ensures.queues in
    IfErr-weaker c.run_parts-ended.result
    (StopsParts disk a.disk.now a.store a.from left (files c.open_lanes.new.host) queues
    c.run_parts-ended.new.disk mid rest)
    (StopsLanes disk a.disk.now a.store a.from a.texts.now c.run_parts-ended.new.disk new)
    (λ e h.
    let may = subst (Triples (MayEndFeed mid left) a.texts.now h.given) (sym all) (h.may a.texts.now opened) in
    record {
      given = h.given;
      stops = h.stops;
      are = are_rounds new a.texts.now h.given (with_cut h.stops.rounds h.stops.cut) h.stops.follow h.stops.were
          (c.close.ensures.first a.texts.now h.given may);
    }) c.run_parts-ended.ensures.stopped

pub returns-in-Ok-clause-content : goal.returns-in-Ok-clause-content
returns-in-Ok-clause-content g c =
    let files = g.H.Host.files in
    still_both (files c.args.host.now) (files c.open_lanes.new.host) (files c.close.new.host) c.in-Ok.ensures.content
    (still_both (files c.open_lanes.new.host) (files c.run_parts-ended.new.host) (files c.close.new.host) c.run_parts-ended.ensures.content
    c.close.ensures.content)

pub returns-in-Ok-clause-causes : goal.returns-in-Ok-clause-causes
returns-in-Ok-clause-causes g c =
    let faults = g.H.Host.faults in
    let causes = c.run_parts-ended.ensures.causes in
    record {
      later = (let first = c.in-Ok.ensures.cause.later in let mid = causes.later in let last = c.close.ensures.later in
          omega (first, mid, last, arith));
      rises = causes.rises;
      inner = causes.inner;
      input = IfErr-weaker c.run_parts-ended.result
          (λ s. s.why ≡ fault.Input → Rose (faults c.open_lanes.new.host) (faults c.run_parts-ended.new.host))
          (λ s. s.why ≡ fault.Input → Rose (faults c.args.host.now) (faults c.close.new.host))
          (λ s h is. Rose_earlier (faults c.args.host.now) (faults c.open_lanes.new.host) (faults c.close.new.host)
          c.in-Ok.ensures.cause.later
          (Rose_later (faults c.open_lanes.new.host) (faults c.run_parts-ended.new.host) (faults c.close.new.host) (h is)
          c.close.ensures.later))
          causes.input;
      of_disk = causes.of_disk;
    }

-- ---- its files couldn't be opened

pub returns-in-Err-clause-stopped : goal.returns-in-Err-clause-stopped
returns-in-Err-clause-stopped g c =
    let disk = g.D.Disk in
    let a = c.args in
    let refusal = c.in-Err.refusal in
    let why : c.from.result ≡ feed_fault refusal = c.from.ensures in
    stops_unopened disk a.disk.now a.store a.from
    (record { store = Some a.store; why = c.from.result }) refl
    (subst IsRunUndamaged (sym why) (feed_well refusal)) c.requires.go a.texts.now (g.H.Host.files c.open_lanes.new.host)

pub returns-in-Err-clause-causes : goal.returns-in-Err-clause-causes
returns-in-Err-clause-causes g c = record {
  later = c.open_lanes.ensures.cause.later;
  rises = omega arith;
  inner = λ is. feed_no_output c.in-Err.refusal (sym c.from.ensures ∙ is);
  input = λ is.
      let failed = feed_failed c.in-Err.refusal (sym c.from.ensures ∙ is) in
      c.in-Err.ensures.cause.failed (λ i. Err (failed i));
  of_disk = λ is. absurd (feed_no_disk c.in-Err.refusal (sym c.from.ensures ∙ is));
}
