-- A definition ends, and its last version is read.
use Rattle.std.proofs.Common.{◌≡◌, ◌+◌, ℕ, List, ◌∙◌, sym, subst, arith}
use Rattle.fish_catalog.specs.Rows.{IsActiveNamed}
use Rattle.fish_epoch.proofs.Reading.{defs_later}
use Rattle.fish_lanes.proofs.Doings.{changed_here, deregister_so, registry_stays}
use Rattle.fish_lanes.proofs.Growing.{rows_ended}
use Rattle.fish_lanes.proofs.Looking.{changed, controls_reads, controls_self}
use Rattle.fish_lanes.proofs.Registrations.{registry_later}
use Rattle.fish_lanes.proofs.Stepping.{rows_kept}
use Rattle.fish_lanes.specs.Registering.{IsDeregisterCause, KnowsRegistry, registry_ended, registry_of, waiting_id}
use Rattle.fish_lanes.specs.within.Controlling.{Controls}
use Rattle.fish_registry.proofs.Changing.{learns_changes}
use Rattle.fish_rule.specs.Passes.{view}
use Rattle.fish_lanes.proofs.registering.deregister.Goals.{After-read_definitions}
use Rattle.fish_lanes.proofs.registering.deregister.Goals as goal

pub returns-in_err-told-clause-on : goal.returns-in_err-told-clause-on
returns-in_err-told-clause-on c = controls_self c.args.log.now c.args.pass.now c.args.registrar.now c.requires.can

pub read_definitions-requires-clause-has : goal.read_definitions-requires-clause-has
read_definitions-requires-clause-has c = record {
  of = c.end.ensures.pass;
  read = defs_later (view c.args.pass.now) (view c.end.new.pass) c.args.defs.now.known
      (learns_changes (view c.args.pass.now) (view c.end.new.pass) c.end.ensures.changes) c.requires.defs;
}

-- the definition ended, and its last version is read
read_on : (c : After-read_definitions) → Controls c.args.log.now c.args.pass.now c.args.registrar.now c.read_definitions.new.pass
    c.end.new.self
read_on c =
    let log = c.args.log.now in
    let p = c.args.pass.now in
    let r = c.args.registrar.now in
    let s = c.end.new.self in
    controls_reads log p c.end.new.pass c.read_definitions.new.pass r s
    (changed log p c.end.new.pass r s c.requires.can c.end.ensures.pass c.end.ensures.knows c.end.ensures.changes
    (rows_ended (view p) r s c.args.name.now c.in-Ok.id c.in-Ok.to c.in-Ok.ensures.named c.in-Ok.ensures.rows))
    c.read_definitions.ensures.has.of c.read_definitions.ensures.only

pub returns-in_err-read_definitions-in-Ok-clause-on : goal.returns-in_err-read_definitions-in-Ok-clause-on
returns-in_err-read_definitions-in-Ok-clause-on c =
    controls_reads c.args.log.now c.args.pass.now c.end.new.pass c.read_definitions.new.pass c.args.registrar.now c.end.new.self
    (changed c.args.log.now c.args.pass.now c.end.new.pass c.args.registrar.now c.end.new.self c.requires.can c.end.ensures.pass
    c.end.ensures.knows c.end.ensures.changes (rows_ended (view c.args.pass.now) c.args.registrar.now c.end.new.self c.args.name.now
    c.in-Ok.id c.in-Ok.to c.in-Ok.ensures.named c.in-Ok.ensures.rows)) c.read_definitions.ensures.has.of c.read_definitions.ensures.only

pub returns-in_ok-read_definitions-in-Ok-clause-on : goal.returns-in_ok-read_definitions-in-Ok-clause-on
returns-in_ok-read_definitions-in-Ok-clause-on c = read_on c.before.before.before

pub returns-in_ok-read_definitions-in-Ok-clause-tells : goal.returns-in_ok-read_definitions-in-Ok-clause-tells
returns-in_ok-read_definitions-in-Ok-clause-tells c =
    let v = view c.args.pass.now in
    let t = view c.read_definitions.new.pass in
    let r = c.args.registrar.now in
    let s = c.end.new.self in
    let once = c.in-Ok.ensures.version in
    let again = c.read_definitions.ensures.version in
    let version : t.learned.version ≡ v.learned.version + 1 = omega arith in
    let is : registry_of t s ≡ registry_ended (registry_of v r) c.in-Ok.id c.in-Ok.to =
    λ i. record { rows = c.in-Ok.ensures.rows i; waiting = waiting_id (c.end.ensures.settled i); version = version i } in
    let reached = c.in-Ok.ensures.reached in
    let low = reached.0 in
    let same = reached.1 in
    let more = c.read_definitions.ensures.only.learns.count in
    record {
      closed = λ alone. tt;
      tail = λ alone. c.in-Ok.ensures.alone alone;
      rolls = tt;
      does = record {
        so = (
          changed_here v r c.end.result c.end.ensures.rolling c.end.ensures.versions (c.in-Ok.id, c.in-Ok.to) c.in-Ok.is,
          subst (λ (z : List ℕ). IsActiveNamed r.catalog z c.in-Ok.id) (sym c.in_ok-told.ensures) c.in-Ok.ensures.named,
          (low, omega arith),
        );
        is = is;
        knows = λ h. subst (KnowsRegistry t) is (c.in_ok-read_definitions-in-Ok.ensures.read s (read_on c.before.before.before).can.knows);
      };
    }

pub returns-in-Some-clause-on : goal.returns-in-Some-clause-on
returns-in-Some-clause-on c =
    changed c.args.log.now c.args.pass.now c.end.new.pass c.args.registrar.now c.end.new.self c.requires.can c.end.ensures.pass
    c.end.ensures.knows c.end.ensures.changes (rows_kept (view c.args.pass.now) c.args.registrar.now c.end.new.self
    c.in-Err.ensures.refused.0)

pub returns-in-Some-clause-tells : goal.returns-in-Some-clause-tells
returns-in-Some-clause-tells c =
    let v = view c.args.pass.now in
    let t = view c.end.new.pass in
    let r = c.args.registrar.now in
    record {
      closed = λ alone. tt;
      tail = λ alone. tt;
      rolls = tt;
      does = record {
        so = subst (λ (z : List ℕ). IsDeregisterCause (registry_of v r) z c.in-Some.cause) (sym c.in_ok-told.ensures)
            (deregister_so v r c.end.result c.end.ensures.rolling c.end.ensures.versions c.args.name.now c.end.ensures.unknown
            c.in-Err.refusal c.in-Some.cause c.in-Err.is (sym c.deregister_cause.ensures ∙ c.in-Some.is));
        is = registry_stays v t r c.end.new.self c.in-Err.ensures.refused.0 c.in-Err.ensures.refused.1;
        knows = λ h. registry_later v t (registry_of v r) (learns_changes v t c.end.ensures.changes) h;
      };
    }
