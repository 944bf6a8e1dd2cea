-- A registration begins, and what follows is told of it.
use Rattle.std.proofs.Common.{◌∙◌, sym, subst, ℕ, List}
use Rattle.std.specs.Prelude.{IfOk}
use Rattle.fish_epoch.proofs.Reading.{defs_later}
use Rattle.fish_lanes.proofs.Doings.{does_begun, ok_then, register_so, registered_here, registry_stays, rolls_before, tail_before}
use Rattle.fish_lanes.proofs.Growing.{rows_begun}
use Rattle.fish_lanes.proofs.Looking.{changed, controls_both, controls_self}
use Rattle.fish_lanes.proofs.Registrations.{registry_later}
use Rattle.fish_lanes.proofs.Single.{alone_changes}
use Rattle.fish_lanes.proofs.Stepping.{rows_kept}
use Rattle.fish_lanes.specs.Registering.{IsRegisterCause, registry_of}
use Rattle.fish_lanes.specs.within.Controlling.{TellsBegun}
use Rattle.fish_registry.proofs.Changing.{learns_changes}
use Rattle.fish_rule.specs.Passes.{view}
use Rattle.fish_lanes.proofs.registering.register.Goals as goal

pub returns-in_err-told-clause-on : goal.returns-in_err-told-clause-on
returns-in_err-told-clause-on c = controls_self c.args.log.now c.args.pass.now c.args.registrar.now c.requires.can

pub returns-in_err-text-clause-on : goal.returns-in_err-text-clause-on
returns-in_err-text-clause-on c = controls_self c.args.log.now c.args.pass.now c.args.registrar.now c.requires.can

pub returns-in_default-clause-on : goal.returns-in_default-clause-on
returns-in_default-clause-on c =
    changed c.args.log.now c.args.pass.now c.begin.new.pass c.args.registrar.now c.begin.new.self c.requires.can c.begin.ensures.pass
    c.begin.ensures.knows c.begin.ensures.changes (rows_kept (view c.args.pass.now) c.args.registrar.now c.begin.new.self
    c.in-Err.ensures.refused.0)

pub returns-in-Some-clause-on : goal.returns-in-Some-clause-on
returns-in-Some-clause-on c =
    changed c.args.log.now c.args.pass.now c.begin.new.pass c.args.registrar.now c.begin.new.self c.requires.can c.begin.ensures.pass
    c.begin.ensures.knows c.begin.ensures.changes (rows_kept (view c.args.pass.now) c.args.registrar.now c.begin.new.self
    c.in-Err.ensures.refused.0)

pub returns-in-Some-clause-tells : goal.returns-in-Some-clause-tells
returns-in-Some-clause-tells c =
    let v = view c.args.pass.now in
    let t = view c.begin.new.pass in
    let r = c.args.registrar.now in
    record {
      closed = λ alone. tt;
      tail = λ alone. tt;
      rolls = tt;
      does = record {
        so = subst (λ (z : List ℕ). IsRegisterCause (registry_of v r) z c.in-Some.cause) (sym c.in_ok-told.ensures)
            (register_so v r c.begin.result c.begin.ensures.rolling c.begin.ensures.versions c.args.name.now c.begin.ensures.active
            c.begin.ensures.many_active c.begin.ensures.many c.in-Err.refusal c.in-Some.cause c.in-Err.is
            (sym c.register_cause.ensures ∙ c.in-Some.is));
        is = registry_stays v t r c.begin.new.self c.in-Err.ensures.refused.0 c.in-Err.ensures.refused.1;
        knows = λ h. registry_later v t (registry_of v r) (learns_changes v t c.begin.ensures.changes) h;
      };
    }

pub registered-requires-clause-can : goal.registered-requires-clause-can
registered-requires-clause-can c = (changed c.args.log.now c.args.pass.now c.begin.new.pass c.args.registrar.now c.begin.new.self
    c.requires.can c.begin.ensures.pass c.begin.ensures.knows c.begin.ensures.changes
    (rows_begun (view c.args.pass.now) (view c.begin.new.pass) c.args.registrar.now c.begin.new.self c.args.name.now c.args.def.now
    c.in-Ok.id c.in-Ok.ensures.begun)).can

pub registered-requires-clause-defs : goal.registered-requires-clause-defs
registered-requires-clause-defs c = defs_later (view c.args.pass.now) (view c.begin.new.pass) c.args.defs.now.known
    (learns_changes (view c.args.pass.now) (view c.begin.new.pass) c.begin.ensures.changes) c.requires.defs

pub returns-in-Ok-clause-on : goal.returns-in-Ok-clause-on
returns-in-Ok-clause-on c =
    let log = c.args.log.now in
    let r = c.args.registrar.now in
    let q = c.begin.new.self in
    controls_both log c.args.pass.now c.begin.new.pass c.registered.new.pass r q c.registered.new.registrar
    (changed log c.args.pass.now c.begin.new.pass r q c.requires.can c.begin.ensures.pass c.begin.ensures.knows c.begin.ensures.changes
    (rows_begun (view c.args.pass.now) (view c.begin.new.pass) r q c.args.name.now c.args.def.now c.in-Ok.id c.in-Ok.ensures.begun))
    c.registered.ensures.on

pub returns-in-Ok-clause-tells : goal.returns-in-Ok-clause-tells
returns-in-Ok-clause-tells c =
    let v = view c.args.pass.now in
    let u = view c.begin.new.pass in
    let t = view c.registered.new.pass in
    let r = c.args.registrar.now in
    let q = c.begin.new.self in
    let s = c.registered.new.registrar in
    let told = c.in_ok-told.told in
    let name = c.args.name.now in
    ok_then c.registered.result
    (λ x h. record {
      closed = λ alone. h.closed (alone_changes v u c.begin.ensures.changes alone);
      tail = λ alone. tail_before v u x c.in-Ok.ensures.begun.tail (h.tail (alone_changes v u c.begin.ensures.changes alone));
      rolls = rolls_before v u t x c.begin.ensures.changes.clock h.rolls;
      does = does_begun v u t r q s name c.in_ok-text.text c.args.def.now c.in-Ok.id x c.in-Ok.ensures.begun c.in_ok-text.ensures
          (registered_here v r c.begin.result c.begin.ensures.rolling c.begin.ensures.versions name c.begin.ensures.active
          c.begin.ensures.many_active c.begin.ensures.many c.in-Ok.id c.in-Ok.is) c.begin.ensures.changes.count h.begun;
    })
    (subst (λ (z : List ℕ). IfOk c.registered.result (TellsBegun u q t s z c.in-Ok.id c.in_ok-text.text)) c.in_ok-told.ensures
    c.registered.ensures.tells)
