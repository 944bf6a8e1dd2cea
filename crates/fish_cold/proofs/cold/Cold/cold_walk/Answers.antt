-- On a disk that carries its table a key entry is on its page, and there is none at place 0.
use Rattle.std.proofs.Common.{arith}
use Rattle.fish_cold.proofs.Carried.{walk_carried}
use Rattle.fish_cold.proofs.cold.Cold.cold_walk.Goals as goal

pub returns-then-place-eq0-clause-carried : goal.returns-then-place-eq0-clause-carried
returns-then-place-eq0-clause-carried g c t h b n p j k at below =
    let place = at.place_is in
    let none = c.if-place-eq0.true in
    absurd (omega arith)

pub returns-clause-carried : goal.returns-clause-carried
returns-clause-carried g c t h b n p j k at below =
    walk_carried (g.D.Disk.content c.walk_on.new.disk) t c.args.self.now h b c.args.place n p j k at c.args.below c.args.from below
    c.walk_on.result c.walk_on.ensures.node
