-- One number more was read, or the log ends at it.
use Rattle.std.proofs.Common.{ℕ, arith}
use Rattle.fish_rule.proofs.laws.Steps.{count_law}
use Rattle.fish_rule.proofs.laws.ReadsOn.{lines_else}
use Rattle.fish_rule.proofs.laws.ReadSoFar.{read_more, upto_later}
use Rattle.fish_rule.specs.Passes.{view}
use Rattle.fish_rule.proofs.close.add_number.Goals as goal

pub add_start-requires : goal.add_start-requires
add_start-requires c =
    let below = c.requires.look.below in
    let few = count_law (view c.args.control.now) c.requires.pass.stands in
    omega arith

pub returns-in_ok-add_start-in-Entry-clause-read : goal.returns-in_ok-add_start-in-Entry-clause-read
returns-in_ok-add_start-in-Entry-clause-read c =
    let v = view c.next_at.new.control in
    let n : ℕ = c.args.number in
    let line : ℕ = c.in-Entry.line in
    let start = c.in_ok-add_start-in-Entry.ensures in (
      read_more v n line c.args.read.now c.add_start.new.read c.next_at.ensures.pass.stands
          (upto_later (view c.args.control.now) v n c.args.read.now c.next_at.ensures.extends.learns c.requires.read)
          c.in-Entry.ensures.next start,
      start.lines,
    )

pub returns-in-Mark-clause-read : goal.returns-in-Mark-clause-read
returns-in-Mark-clause-read c =
    let v = view c.next_at.new.control in
    let n : ℕ = c.args.number in (
      lines_else v n c.in-Mark.line c.args.read.now
          (upto_later (view c.args.control.now) v n c.args.read.now c.next_at.ensures.extends.learns c.requires.read),
      c.in-Mark.ensures.next,
    )
