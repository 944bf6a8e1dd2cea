-- The first lane of a block, or a later one.
use Rattle.std.proofs.Common.{◌≡◌, ◌+◌, ℕ, refl, subst, arith}
use Rattle.fish_script.proofs.Steps.{takes_first, takes_next}
use Rattle.fish_script.specs.declared.builder.Position.TheVariants.{Inside}
use Rattle.fish_script.proofs.builder.ScriptBuilder.next_lane.Goals as goal

pub returns-then-lanes-eq0 : goal.returns-then-lanes-eq0
returns-then-lanes-eq0 c ws h =
    takes_first ws c.args.self.now c.args.feeds h
    (subst (λ (n : ℕ). c.args.self.now.position ≡ Inside n c.args.feeds) c.if-lanes-eq0.true c.requires.position)

pub returns : goal.returns
returns c ws h =
    let done = c.in_ok-end_lane.ensures in
    takes_next ws c.args.self.now (record c.end_lane.new.self { position = Inside (c.args.lanes + 1) c.args.feeds }) c.args.lanes
    c.args.feeds h c.requires.position (omega (arith, c.if-lanes-eq0.false)) c.requires.room refl done.blocks done.lanes done.lane
