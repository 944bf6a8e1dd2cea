-- A split leaves what the registrar keeps.
use Rattle.std.proofs.Common.{◌∙◌, ap}
use Rattle.fish_registry.proofs.Knowing.{knows_on}
use Rattle.fish_rule.proofs.laws.Learning.{learns_same}
use Rattle.fish_rule.specs.Passes.{view}
use Rattle.fish_rule.specs.declared.view.View.{View}
use Rattle.tests_log.proofs.registrations.split_kept.Goals as goal

pub returns-clause-kept : goal.returns-clause-kept
returns-clause-kept c =
    let left = c.split_lane.ensures.left in
    let v = view c.args.control.now in
    let learns = learns_same v _ (ap (λ (z : View). z.about) left) (ap (λ (z : View). z.learned) left) in
    record {
      of = c.split_lane.ensures.pass;
      knows = knows_on v _ c.args.registrar.now (ap (λ (z : View). z.lane) left)
          (ap (λ (z : View). z.rows) left) (ap (λ (z : View). z.control_words) left) (ap (λ (z : View). z.round) left)
          learns c.requires.kept.knows;
      outside = ap (λ (z : View). z.epoch) left ∙ c.requires.kept.outside;
    }
