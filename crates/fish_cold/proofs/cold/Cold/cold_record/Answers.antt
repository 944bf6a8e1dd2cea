-- On a disk that carries its table the words of the number are led to.
use Rattle.fish_cold.proofs.Carried.{record_carried}
use Rattle.fish_cold.proofs.cold.Cold.cold_record.Goals as goal

pub returns-clause-carried : goal.returns-clause-carried
returns-clause-carried g c k h =
    record_carried (g.D.Disk.content c.find_record.new.disk) k c.args.self.now h c.args.number c.requires.older c.args.loads.now
    c.find_record.new.loads c.find_record.result c.find_record.ensures.entry
