-- A split leaves what the registrar keeps.
use Rattle.std.proofs.Common.{◌∙◌, ap}
use Rattle.fish_registry.proofs.Knowing.{knows_on}
use Rattle.fish_rule.proofs.laws.Learning.{learns_same}
use Rattle.fish_rule.specs.Passes.{view}
use Rattle.fish_rule.specs.declared.view.View.{View}
use Rattle.tests_log.proofs.seats.split_beside.Goals as goal

pub returns-clause-beside : goal.returns-clause-beside
returns-clause-beside c =
    let e = c.split_three.ensures in
    let v = view c.args.control.now in
    let learns = learns_same v _ (ap (λ (z : View). z.about) e.left) (ap (λ (z : View). z.learned) e.left) in
    record {
      kept = record {
        of = e.pass;
        knows = knows_on v _ c.args.registrar.now (ap (λ (z : View). z.lane) e.left) (ap (λ (z : View). z.rows) e.left)
            (ap (λ (z : View). z.control_words) e.left) (ap (λ (z : View). z.round) e.left) learns c.requires.kept.knows;
        outside = ap (λ (z : View). z.epoch) e.left ∙ c.requires.kept.outside;
      };
      control = e.control.0;
      idle = e.control.1;
      out = e.out;
    }
