-- A block that was run to its end leaves what is asked for.
use Rattle.std.proofs.Common.{◌≡◌, ◌∙◌, sym, List, true, false, length, arith}
use Rattle.std.specs.Prelude.{is_some}
use Rattle.std.specs.List.{list_all}
use Rattle.fish_lanes.proofs.Between.{between_after, first_of}
use Rattle.fish_lanes.specs.declared.lane.Lane.{Lane}
use Rattle.fish_rule.specs.Passes.{view}
use Rattle.fish_sample.proofs.OneBlock.{all_ended, kept_works, registry_is, span_is, whole_at}
use Rattle.fish_sample.specs.within.Blocks.{span_of}
use Rattle.fish_sample.specs.within.Items.{is_whole_lane}
use Rattle.fish_sample.proofs.running.run_lanes.Goals as goal

pub returns : goal.returns
returns g c =
    let disk = g.D.Disk in
    let b = c.run_block-end in
    let e = b.ensures in
    let s = c.args.store.now in
    let t = b.new.store in
    let lanes : List Lane = b.new.lanes in
    let many : length lanes ≡ length c.args.lanes.now = omega (b.auto.lanes, arith) in
    let whole : list_all is_whole_lane lanes ≡ true = sym c.are_whole.ensures ∙ c.if-not-are_whole.false in
    let unbound : is_some b.result.bound ≡ false = sym c.is_some.ensures ∙ c.if-is_some.false in
    let first = first_of lanes (let some = c.requires.lanes.some in omega arith) in
    let span = span_is (view s.pass) (view t.pass) c.args.from b.result.to (length lanes) c.requires.between.end in
    record {
      between = between_after disk c.args.disk.now s b.new.disk t lanes b.result e.store e.items.registered first.0 first.1
          (whole_at lanes whole 0 first.0 first.1).0;
      goes = record { later = e.store.later; sound = λ past sound. e.store.goes.sound past sound (c.requires.content b.new.disk) };
      kept = kept_works lanes whole c.args.lanes.now e.lanes.kept;
      many = many;
      ended = all_ended lanes whole e.lanes.ended;
      told = λ past sound. e.items.sound past (record { sound = sound; told = c.requires.content b.new.disk })
          (span_of (view s.pass) (view t.pass) c.args.from b.result.to (length lanes)) span many;
      so = λ x at. (e.items.registered x at).so (span_of (view s.pass) (view t.pass) c.args.from b.result.to (length lanes)) span;
      registry = registry_is lanes whole disk c.args.disk.now s b.new.disk t c.args.lanes.now c.args.from b.result
          unbound e.items.registered;
    }
