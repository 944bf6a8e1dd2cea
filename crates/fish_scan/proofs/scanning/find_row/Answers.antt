-- The version was loaded, its definitions were read, and of those that have the name this one is the newest.
use Rattle.std.proofs.Common.{List, sym, ap, ◌∙◌, subst, arith}
use Rattle.fish_catalog.specs.declared.listed.Listed.{Listed}
use Rattle.fish_epoch.proofs.Reading.{defs_later}
use Rattle.fish_epoch.specs.Definitions.{IsKnownOf}
use Rattle.fish_rule.specs.Clocks.{HasLoaded}
use Rattle.fish_rule.specs.Passes.{view}
use Rattle.fish_rule.specs.declared.view.Noted.TheVariants.{Version}
use Rattle.fish_rule.specs.declared.view.View.{View}
use Rattle.fish_scan.proofs.Answering.{plans_both, plans_extends, plans_version, scans_both, scans_extends, scans_version}
use Rattle.fish_scan.proofs.Answering.{version_loaded}
use Rattle.fish_scan.specs.Naming.{HasNone, IsNewestListed}
use Rattle.fish_scan.proofs.scanning.find_row.Goals as goal

pub returns-in_err-refresh-clause-only : goal.returns-in_err-refresh-clause-only
returns-in_err-refresh-clause-only c = plans_both _ _ _
    (plans_version _ _ c.load_version-version.result c.load_version-version.ensures.view c.load_version-version.ensures.rises)
    (plans_extends _ _ c.refresh.ensures.reads.extends c.refresh.ensures.reads.loads)

pub returns-in_err-refresh-clause-known : goal.returns-in_err-refresh-clause-known
returns-in_err-refresh-clause-known c =
    let only = scans_both _ _ _ (scans_version (view c.args.pass.now) (view c.load_version-version.new.pass)
    c.load_version-version.result c.load_version-version.ensures.view c.load_version-version.ensures.rises)
    (scans_extends _ (view c.refresh.new.pass) c.refresh.ensures.reads.extends) in
    subst (IsKnownOf (view c.refresh.new.pass)) (sym c.in_err-refresh.ensures.refused)
    (defs_later (view c.args.pass.now) (view c.refresh.new.pass) c.args.known.now only.learns c.requires.known)

pub returns-in_default-clause-only : goal.returns-in_default-clause-only
returns-in_default-clause-only c = plans_both _ _ _
    (plans_version _ _ c.load_version-version.result c.load_version-version.ensures.view c.load_version-version.ensures.rises)
    (plans_extends _ _ c.refresh.ensures.reads.extends c.refresh.ensures.reads.loads)

pub returns-in_default-clause-refused : goal.returns-in_default-clause-refused
returns-in_default-clause-refused c =
    let version = c.in_ok-refresh.ensures.version in (
      sym version,
      subst (HasLoaded (view c.args.pass.now).clock (view c.refresh.new.pass).clock Version) version
          (version_loaded (view c.args.pass.now) (view c.load_version-version.new.pass) (view c.refresh.new.pass)
          c.load_version-version.result c.refresh.new.self c.load_version-version.ensures.view
          c.refresh.ensures.reads.extends.clock version),
      c.in_ok-refresh.ensures.read,
      subst (λ (z : List Listed). HasNone z c.args.ask.now.name) c.rows.ensures c.in_default.ensures,
      c.load_version-version.ensures.rises,
    )

pub returns-in-Some-empty_range-clause-only : goal.returns-in-Some-empty_range-clause-only
returns-in-Some-empty_range-clause-only c = plans_both _ _ _
    (plans_version _ _ c.load_version-version.result c.load_version-version.ensures.view c.load_version-version.ensures.rises)
    (plans_extends _ _ c.refresh.ensures.reads.extends c.refresh.ensures.reads.loads)

pub returns-clause-only : goal.returns-clause-only
returns-clause-only c = plans_both _ _ _
    (plans_version _ _ c.load_version-version.result c.load_version-version.ensures.view c.load_version-version.ensures.rises)
    (plans_extends _ _ c.refresh.ensures.reads.extends c.refresh.ensures.reads.loads)

-- the name's newest definition in the version that was loaded
pub returns-in-Some-empty_range-clause-refused : goal.returns-in-Some-empty_range-clause-refused
returns-in-Some-empty_range-clause-refused c = (
  c.in-Some-empty_range.ensures,
  (
    c.in-Some.position,
    record {
      loaded = version_loaded (view c.args.pass.now) (view c.load_version-version.new.pass) (view c.refresh.new.pass)
          c.load_version-version.result c.refresh.new.self c.load_version-version.ensures.view
          c.refresh.ensures.reads.extends.clock c.in_ok-refresh.ensures.version;
      least = (let is = c.in_ok-refresh.ensures.version in let rises = c.load_version-version.ensures.rises in omega arith);
      read = c.in_ok-refresh.ensures.read;
      newest = subst (λ (z : List Listed). IsNewestListed z c.args.ask.now.name c.in-Some.position) c.rows.ensures c.in-Some.ensures;
    },
  ),
)

pub returns-clause-asked : goal.returns-clause-asked
returns-clause-asked c = record {
  named = record {
    loaded = version_loaded (view c.args.pass.now) (view c.load_version-version.new.pass) (view c.refresh.new.pass)
        c.load_version-version.result c.refresh.new.self c.load_version-version.ensures.view
        c.refresh.ensures.reads.extends.clock c.in_ok-refresh.ensures.version;
    least = (let is = c.in_ok-refresh.ensures.version in let rises = c.load_version-version.ensures.rises in omega arith);
    read = c.in_ok-refresh.ensures.read;
    newest = subst (λ (z : List Listed). IsNewestListed z c.args.ask.now.name c.in-Some.position) c.rows.ensures c.in-Some.ensures;
  };
  some = c.in_default-empty_range.ensures;
}

-- ---- neither load changes the tail

pub returns-in_err-refresh-clause-tail : goal.returns-in_err-refresh-clause-tail
returns-in_err-refresh-clause-tail c = ap (λ (z : View). z.tail) c.refresh.ensures.reads.extends.frame
    ∙ ap (λ (z : View). z.tail) c.load_version-version.ensures.view

pub returns-in_default-clause-tail : goal.returns-in_default-clause-tail
returns-in_default-clause-tail c = ap (λ (z : View). z.tail) c.refresh.ensures.reads.extends.frame
    ∙ ap (λ (z : View). z.tail) c.load_version-version.ensures.view

pub returns-in-Some-empty_range-clause-tail : goal.returns-in-Some-empty_range-clause-tail
returns-in-Some-empty_range-clause-tail c = ap (λ (z : View). z.tail) c.refresh.ensures.reads.extends.frame
    ∙ ap (λ (z : View). z.tail) c.load_version-version.ensures.view

pub returns-clause-tail : goal.returns-clause-tail
returns-clause-tail c = ap (λ (z : View). z.tail) c.refresh.ensures.reads.extends.frame
    ∙ ap (λ (z : View). z.tail) c.load_version-version.ensures.view
