-- The lane registers the definitions.
use Rattle.std.proofs.Common.{◌∙◌, ap, sym}
use Rattle.std.specs.List.{list_all}
use Rattle.fish_lanes.specs.declared.lane.Lane.{Lane}
use Rattle.fish_sample.proofs.Filled.{defined_of}
use Rattle.fish_sample.specs.within.Items.{is_registered}
use Rattle.fish_sample.proofs.filling.run_defining.Goals as goal

pub returns : goal.returns
returns g c =
    defined_of g.D.Disk c.args.disk.now c.run_lanes.new.disk c.args.store.now c.run_lanes.new.store c.args.from
    c.in_ok-to.to c.args.lanes.now c.run_lanes.new.lanes c.in_ok-to.ensures c.requires.lane c.index-lanes-0.result c.index-lanes-0.is
    (ap (λ (z : Lane). list_all is_registered z.items) c.index-lanes-0.is ∙ ap (list_all is_registered) (sym c.as_slice.ensures)
    ∙ sym c.are_registered.ensures ∙ c.if-not-are_registered.false)
