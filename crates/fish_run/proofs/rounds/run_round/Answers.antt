-- What a round leaves is what the run of a block says.
use Rattle.std.proofs.Common.{List, arith}
use Rattle.fish_lanes.specs.declared.lane.Lane.{Lane}
use Rattle.fish_rule.specs.Passes.{view}
use Rattle.fish_run.proofs.Blocks.{leaves_of}
use Rattle.fish_lanes.proofs.Between.{first_of}
use Rattle.fish_run.proofs.Going.{go_whole, table_same}
use Rattle.fish_run.proofs.Lines.{end_stays}
use Rattle.fish_whole.specs.Whole.{Whole}
use Rattle.fish_run.proofs.rounds.run_round.Goals as goal
use Rattle.fish_store.specs.Points.{Behind}

pub run_block-requires-clause-between : goal.run_block-requires-clause-between
run_block-requires-clause-between g c κs bounds = (c.args.from, c.requires.go.between)

pub returns-clause-leaves : goal.returns-clause-leaves
returns-clause-leaves g c =
    let disk = g.D.Disk in
    let b = c.run_block in
    let Past : Whole → Type 0 = Behind disk c.args.disk.now c.args.store.now b.new.disk in
    leaves_of Past b.new.store.file.flusher.count (view c.args.store.now.pass) (view b.new.store.pass) c.args.store.now.registrar
    b.new.store.registrar c.args.from c.args.lanes.now b.new.lanes b.result c.requires.lanes b.auto.lanes c.requires.go.between.end
    (λ past p k span many. b.ensures.items.sound past p k span (omega (many, b.auto.lanes, arith)))
    b.ensures.items.registered b.ensures.lanes.ended b.ensures.lanes.marks b.ensures.lanes.shuts b.ensures.lanes.last
    (b.ensures.items.plans c.args.from c.requires.go.between.end)
    c.requires.go.settled b.ensures.items.alone b.ensures.store.committed b.ensures.lanes.left
    (λ shut. end_stays (view c.args.store.now.pass) (view b.new.store.pass) c.args.from b.result.to shut.0
    c.requires.go.between.can.of.stands
    b.ensures.store.can.of.stands b.ensures.store.later.learns c.requires.go.between.end b.ensures.store.ends shut.1)

pub returns-clause-go : goal.returns-clause-go
returns-clause-go g c = λ whole.
    let b = c.run_block in
    go_whole g.D.Disk c.args.disk.now c.args.store.now b.new.disk b.new.store b.new.lanes b.result whole b.ensures.store
    b.ensures.items.registered
    (let some = c.requires.lanes.some in let same = b.auto.lanes in omega arith)
    (table_same c.args.store.now b.new.store b.ensures.store.log c.requires.go.table)

pub returns-clause-close : goal.returns-clause-close
returns-clause-close g c = record {
  of = c.run_block.ensures.store.can.of;
  alone = c.run_block.ensures.store.ends.alone;
  table = table_same c.args.store.now c.run_block.new.store c.run_block.ensures.store.log c.requires.go.table;
}

-- the first lane tells that the disk's count didn't fall
pub returns-clause-rises : goal.returns-clause-rises
returns-clause-rises g c =
    let lanes : List Lane = c.run_block.new.lanes in
    let first = first_of lanes (let some = c.requires.lanes.some in let same = c.run_block.auto.lanes in omega arith) in
    (c.run_block.ensures.lanes.stops 0 first.0 first.1).later
