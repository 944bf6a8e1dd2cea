-- The new definition is read, and its index begins or waits.
use Rattle.fish_epoch.proofs.Reading.{defs_later}
use Rattle.fish_lanes.proofs.Looking.{controls_both, controls_reads, controls_self, looks}
use Rattle.fish_lanes.proofs.Registrations.{reads_know, says_at_once, says_rolling}
use Rattle.fish_lanes.specs.within.Controlling.{Controls}
use Rattle.fish_registry.proofs.Changing.{learns_changes, same_tail}
use Rattle.fish_rule.proofs.laws.Clocks.{later_self, loaded_within}
use Rattle.fish_rule.specs.Passes.{view}
use Rattle.fish_scan.proofs.Answering.{scans_alone}
use Rattle.fish_lanes.proofs.registering.registered.Goals.{After-poll}
use Rattle.fish_lanes.proofs.registering.registered.Goals as goal

-- the definitions are read, and the lanes are looked at
look_on : (c : After-poll) → Controls c.args.log.now c.args.pass.now c.args.registrar.now c.poll.new.pass c.poll.new.self
look_on c =
    let log = c.args.log.now in
    let r = c.args.registrar.now in
    let read : Controls log c.args.pass.now r c.read_definitions.new.pass r =
    controls_reads log c.args.pass.now c.args.pass.now c.read_definitions.new.pass r r
    (controls_self log c.args.pass.now r c.requires.can) c.read_definitions.ensures.has.of c.read_definitions.ensures.only in
    controls_both log c.args.pass.now c.read_definitions.new.pass c.poll.new.pass r r c.poll.new.self read
    (looks log c.read_definitions.new.pass c.poll.new.pass r c.poll.new.self read.can c.poll.ensures.pass c.poll.ensures.knows
    c.poll.ensures.changes c.poll.result c.poll.ensures.tells).on

pub returns-in_err-read_definitions-clause-on : goal.returns-in_err-read_definitions-clause-on
returns-in_err-read_definitions-clause-on c =
    controls_reads c.args.log.now c.args.pass.now c.args.pass.now c.read_definitions.new.pass c.args.registrar.now c.args.registrar.now
    (controls_self c.args.log.now c.args.pass.now c.args.registrar.now c.requires.can) c.read_definitions.ensures.has.of
    c.read_definitions.ensures.only

pub poll-requires-clause-knows : goal.poll-requires-clause-knows
poll-requires-clause-knows c =
    let can = c.requires.can in
    reads_know (view c.args.pass.now) (view c.read_definitions.new.pass) c.args.registrar.now can.of.stands can.start can.knows
    c.read_definitions.ensures.only

pub returns-in-NotYet-clause-on : goal.returns-in-NotYet-clause-on
returns-in-NotYet-clause-on c = look_on c.before

pub returns-in-NotYet-clause-defs : goal.returns-in-NotYet-clause-defs
returns-in-NotYet-clause-defs c = defs_later (view c.read_definitions.new.pass) (view c.poll.new.pass)
    c.read_definitions.new.defs.known
    (learns_changes (view c.read_definitions.new.pass) (view c.poll.new.pass) c.poll.ensures.changes)
    c.read_definitions.ensures.has.read

pub returns-in-Bound-clause-on : goal.returns-in-Bound-clause-on
returns-in-Bound-clause-on c = look_on c.before

pub returns-in-Bound-clause-defs : goal.returns-in-Bound-clause-defs
returns-in-Bound-clause-defs c = defs_later (view c.read_definitions.new.pass) (view c.poll.new.pass)
    c.read_definitions.new.defs.known
    (learns_changes (view c.read_definitions.new.pass) (view c.poll.new.pass) c.poll.ensures.changes)
    c.read_definitions.ensures.has.read

pub returns-in-NotYet-clause-tells : goal.returns-in-NotYet-clause-tells
returns-in-NotYet-clause-tells c =
    let can = c.requires.can in
    let tells = c.in-NotYet.ensures.tells in
    let v = view c.args.pass.now in
    let m = view c.read_definitions.new.pass in
    let t = view c.poll.new.pass in
    let only = c.read_definitions.ensures.only in
    record {
      closed = λ alone. elim (c.in-NotYet.ensures.alone (scans_alone v m only alone) (only.outside can.start.outside)) [ ];
      tail = λ alone. tt;
      rolls = loaded_within v.clock m.clock t.clock t.clock _ _ only.clock tells.4 (later_self t.clock);
      begun = says_rolling (view c.args.pass.now) (view c.read_definitions.new.pass) c.args.registrar.now can.of.stands can.start can.knows
          c.read_definitions.ensures.only c.read_definitions.ensures.has.of.stands c.read_definitions.ensures.version
          c.in_ok-read_definitions.ensures.read (view c.poll.new.pass) c.poll.new.self c.poll.ensures.pass.stands c.poll.ensures.knows
          c.poll.ensures.changes c.args.name c.args.id c.args.def c.in-NotYet.seat c.in-NotYet.version c.requires.waits
          (tells.0, tells.1, tells.2, tells.3, tells.5);
    }

pub returns-in-Bound-clause-tells : goal.returns-in-Bound-clause-tells
returns-in-Bound-clause-tells c =
    let can = c.requires.can in
    let tells = c.in-Bound.ensures.tells in
    let v = view c.args.pass.now in
    let m = view c.read_definitions.new.pass in
    record {
      closed = λ alone. tt;
      tail = λ alone. same_tail v m c.in-Bound.from c.read_definitions.ensures.tail
          (c.in-Bound.ensures.begins (scans_alone v m c.read_definitions.ensures.only alone));
      rolls = tt;
      begun = says_at_once (view c.args.pass.now) (view c.read_definitions.new.pass) c.args.registrar.now can.of.stands can.start can.knows
          c.read_definitions.ensures.only c.read_definitions.ensures.has.of.stands c.read_definitions.ensures.version
          c.in_ok-read_definitions.ensures.read (view c.poll.new.pass) c.poll.new.self c.poll.ensures.pass.stands c.poll.ensures.knows
          c.poll.ensures.changes c.args.name c.args.id c.args.def c.in-Bound.id c.in-Bound.from c.requires.waits tells.0 tells.1
          tells.2 tells.4;
    }
