-- The table allows a store of 0 in the own epoch word.
use Rattle.std.proofs.Common.{◌≡◌, ◌∙◌, sym, ap, arith, subst, ℕ, ◌<◌}
use Rattle.fish_rule.proofs.laws.Versions.{lane_law}
use Rattle.fish_rule.proofs.steps.Retire.{retire_allowed}
use Rattle.fish_rule.specs.Passes.{view}
use Rattle.fish_rule.specs.Registry.{epoch_at}
use Rattle.fish_rule.proofs.registry.retire.Goals as goal

pub store-requires : goal.store-requires
store-requires c =
    let log = c.args.log.now in
    let pass = c.args.pass.now in
    let seat = pass.seat in
    let few = lane_law (view pass) c.requires.pass.stands in
    let at : c.epoch_index-index.result ≡ epoch_at (view pass).lane = c.epoch_index-index.ensures
    ∙ ap epoch_at (sym pass.lane_is) in (
      c.requires.pass.table,
      subst (λ (z : ℕ). c.epoch_index-index.result < z) (sym log.wide) (omega arith),
      retire_allowed log.table.shared.key log.key log.keyed log.table.shared.table_id.slots seat.id seat.me
          _ c.requires.pass.about c.requires.view at,
    )
