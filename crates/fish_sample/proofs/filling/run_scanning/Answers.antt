-- The lane scans each value.
use Rattle.std.proofs.Common.{◌≡◌, ◌∙◌, ap, sym, List, subst}
use Rattle.std.specs.Prelude.{IfOk}
use Rattle.std.specs.List.{list_all}
use Rattle.fish_lanes.specs.declared.lane.Lane.{Lane}
use Rattle.fish_report.specs.declared.item.Item.{Item}
use Rattle.fish_sample.proofs.Filled.{counted_of}
use Rattle.fish_sample.specs.within.Items.{is_scanned, items_text}
use Rattle.fish_sample.proofs.filling.run_scanning.Goals as goal

pub returns : goal.returns
returns g c =
    counted_of g.D.Disk c.args.disk.now c.run_lanes.new.disk c.args.store.now c.run_lanes.new.store c.args.from
    _ c.args.lanes.now c.run_lanes.new.lanes c.args.number c.requires.between c.in_ok-run_lanes.ensures c.requires.lane
    c.index-lanes-0.result c.index-lanes-0.is
    (ap (λ (z : Lane). list_all is_scanned z.items) c.index-lanes-0.is ∙ ap (list_all is_scanned) (sym c.as_slice-items.ensures)
    ∙ sym c.are_scanned.ensures ∙ c.if-not-are_scanned.false)
    c.summary_of.result
    (subst (λ (z : List Item). IfOk c.summary_of.result (λ text. text ≡ items_text c.args.number z))
    (c.as_slice-items.ensures ∙ sym (ap (λ (z : Lane). z.items) c.index-lanes-0.is))
    c.summary_of.ensures)
