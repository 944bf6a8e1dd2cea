-- The version that the control pass knows is found again, and its definitions are read.
use Rattle.std.proofs.Common.{ap, arith, ◌∙◌}
use Rattle.fish_epoch.proofs.Reading.{defs_later}
use Rattle.fish_lanes.proofs.Registrations.{known_all, known_read, scans_reads}
use Rattle.fish_registry.proofs.Changing.{changes_stays, learns_changes, stays_version}
use Rattle.fish_registry.specs.Changing.{OnlyLoads}
use Rattle.fish_rule.proofs.laws.Learning.{learns_both}
use Rattle.fish_rule.specs.Passes.{view}
use Rattle.fish_rule.specs.declared.view.View.{View}
use Rattle.fish_lanes.proofs.registering.read_definitions.Goals as goal

pub refresh-requires-clause-defs : goal.refresh-requires-clause-defs
refresh-requires-clause-defs c =
    let v = view c.args.pass.now in
    let m = view c.load_version-version.new.pass in
    let stays : OnlyLoads v m = stays_version v m c.load_version-version.result c.requires.outside
    (c.load_version-version.ensures.control c.requires.control) c.load_version-version.ensures.view in
    defs_later v m c.args.defs.now.known (learns_changes v m (changes_stays v m stays)) c.requires.has.read

pub returns-clause-has : goal.returns-clause-has
returns-clause-has c =
    let v = view c.args.pass.now in
    let m = view c.load_version-version.new.pass in
    let t = view c.refresh.new.pass in
    let stays : OnlyLoads v m = stays_version v m c.load_version-version.result c.requires.outside
    (c.load_version-version.ensures.control c.requires.control) c.load_version-version.ensures.view in
    record {
      of = c.refresh.ensures.pass;
      read = known_read t c.refresh.result c.args.defs.now c.refresh.new.self c.refresh.ensures.read c.refresh.ensures.refused
          (defs_later v t c.args.defs.now.known (learns_both v m t (learns_changes v m (changes_stays v m stays))
          c.refresh.ensures.reads.extends.learns) c.requires.has.read);
    }

pub returns-clause-only : goal.returns-clause-only
returns-clause-only c =
    let v = view c.args.pass.now in
    let m = view c.load_version-version.new.pass in
    scans_reads v m (view c.refresh.new.pass) (stays_version v m c.load_version-version.result c.requires.outside
    (c.load_version-version.ensures.control c.requires.control) c.load_version-version.ensures.view) c.refresh.ensures.reads

pub returns-clause-read : goal.returns-clause-read
returns-clause-read c =
    let t = view c.refresh.new.pass in
    let version = c.load_version-version.ensures.control c.requires.control in
    let seen = ap (λ (z : View). z.learned.version) c.load_version-version.ensures.view in
    let read = c.refresh.ensures.reads.version in
    known_all t c.refresh.result c.refresh.new.self c.refresh.ensures.pass.stands c.refresh.ensures.read c.refresh.ensures.version
    (omega arith)

pub returns-clause-tail : goal.returns-clause-tail
returns-clause-tail c =
    let stays = stays_version (view c.args.pass.now) (view c.load_version-version.new.pass) c.load_version-version.result
    c.requires.outside (c.load_version-version.ensures.control c.requires.control) c.load_version-version.ensures.view in
    ap (λ (z : View). z.tail) c.refresh.ensures.reads.extends.frame ∙ ap (λ (z : View). z.tail) stays.frame
