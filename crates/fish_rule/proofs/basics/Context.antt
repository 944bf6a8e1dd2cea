-- What nearly every proof names: the rule of a world, and the view of a pass.
pub use Rattle.std.proofs.Math.ListN.{get_elem?}
pub use mathlib.Core.Option.{some, none}
pub use Rattle.fish_rule.specs.Rule.{Rule, Final}
pub use Rattle.fish_rule.specs.World.{World}
pub use Rattle.fish_rule.specs.Passes.{view}
pub use Rattle.fish_rule.specs.Views.{Among}
pub use Rattle.fish_rule.specs.declared.view.Key.{Key}
pub use Rattle.fish_rule.specs.declared.view.View.{View}
pub use Rattle.fish_rule.specs.declared.view.Flight.{Flight}
pub use Rattle.fish_rule.specs.declared.view.Found.{Found}
pub use Rattle.fish_rule.specs.declared.view.Learned.{Learned}
pub use Rattle.fish_rule.specs.declared.view.Clock.{Clock}
pub use Rattle.fish_rule.specs.declared.view.Epoch.{Epoch}
pub use Rattle.fish_rule.specs.declared.view.Kind.{Kind}
