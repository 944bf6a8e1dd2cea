-- On a disk that carries its table the record of a key entry is on the entry's page.
use Rattle.fish_cold.proofs.Carried.{row_carried}
use Rattle.fish_cold.proofs.cold.Cold.cold_row.Goals as goal

pub returns-clause-carried : goal.returns-clause-carried
returns-clause-carried g c t h b n p k at =
    row_carried (g.D.Disk.content c.find_row.new.disk) t c.args.self.now h b c.args.node.now.place n p c.args.node.now.key k at
    c.args.node.now.number c.args.loads.now c.find_row.new.loads c.find_row.result c.find_row.ensures.entry
