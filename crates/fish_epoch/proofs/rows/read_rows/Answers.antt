-- Each turn makes one version more.
use Rattle.std.proofs.Common.{◌≡◌, ◌∙◌, ◌≤◌, ℕ, ◌+◌, suc, subst, sym, arith}
use Rattle.fish_rule.specs.Passes.{view}
use Rattle.fish_rule.specs.Registry.{KnowsDefinitions, definitions_at}
use Rattle.fish_rule.proofs.laws.Versions.{definitions_first}
use Rattle.fish_rule.specs.declared.view.Key.{Key}
use Rattle.fish_epoch.proofs.Reading.{reads_both}
use Rattle.fish_epoch.proofs.rows.read_rows.Goals as goal

-- where memory ran out, words were read and nothing else
pub returns-in_err-make-clause-reads : goal.returns-in_err-make-clause-reads
returns-in_err-make-clause-reads c =
    reads_both (view c.args.pass.now) (view c.loop-before.pass) (view c.make.new.pass) c.loop-before.invariant.reads
    c.make.ensures.reads

pub loop-before-preserved : goal.loop-before-preserved
loop-before-preserved c =
    let more : suc c.loop-before.before ≡ c.loop-before.before + 1 = omega arith in
    let u = view c.make.new.pass in
    record {
      of = c.make.ensures.pass;
      reads = reads_both (view c.args.pass.now) (view c.loop-before.pass) u c.loop-before.invariant.reads
          c.make.ensures.reads;
      rows = subst (λ (z : ℕ). KnowsDefinitions u.about u.learned z c.make.new.rows.items) more
          c.in_ok-make.ensures.rows;
    }

-- at the start's version nothing is made yet
pub loop-before-init : goal.loop-before-init
loop-before-init c =
    let v = view c.args.pass.now in
    let first : ℕ = c.first_version-before.result in
    let reads = c.first_rows.ensures.reads in
    let rows = c.in_ok-rows.ensures.rows in
    let about = reads.extends.learns.about in
    let is : first ≡ c.args.log.now.key.version = c.first_version-before.ensures in
    let same = reads.version in
    let reached = c.requires.reached in
    let from = c.requires.from in
    record {
      of = c.first_rows.ensures.pass;
      reads = reads;
      rows = record {
        from = subst (λ (z : Key). z.version ≤ first) (sym (about ∙ c.requires.pass.about)) (omega arith);
        reached = omega arith;
        are = λ g has. subst (λ (z : Key). definitions_at z g first ≡ c.in_ok-rows.rows.items) (sym about)
            (definitions_first v.about g first
            (subst (λ (z : Key). first ≤ z.version) (sym c.requires.pass.about) (omega arith)) ∙ sym rows);
      };
    }
