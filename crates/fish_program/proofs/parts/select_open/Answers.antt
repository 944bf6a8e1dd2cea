-- All was read, or the file is too long.
use Rattle.std.proofs.Common.{ap, inl, inr}
use Rattle.std.proofs.lemmas.Option.{IfSome_then}
use Rattle.fish_lang.specs.Definition.{definition_of}
use Rattle.fish_lines.specs.File.{outcomes}
use Rattle.fish_report.specs.declared.item.Item.TheVariants as item
use Rattle.fish_program.proofs.parts.select_open.Goals as goal

pub returns-in-Ok-End-clause-answer : goal.returns-in-Ok-End-clause-answer
returns-in-Ok-End-clause-answer g c =
    let s = c.args.command.now in
    IfSome_then (g.F.Source.left c.add_next.new.file.feed)
    (c.in-Ok-End.ensures.end c.in-Ok-End.field-0-is (g.F.Source.left c.args.file.now.feed) c.loop-found.invariant.selected)
    (λ l known. (
      known.0,
      known.1,
      inl (c.end_select.ensures (definition_of s.def) s.value s.form (outcomes s.form s.header known.0) known.2),
    ))

pub returns-in-Ok-TooLong-clause-answer : goal.returns-in-Ok-TooLong-clause-answer
returns-in-Ok-TooLong-clause-answer g c =
    IfSome_then (g.F.Source.left c.add_next.new.file.feed)
    (c.in-Ok-TooLong.ensures.long c.in-Ok-TooLong.field-0-is (g.F.Source.left c.args.file.now.feed) c.loop-found.invariant.selected)
    (λ l known. (known.0, known.1, inr (ap item.SelectTooLong c.in_ok-file-in-Ok-TooLong.ensures, known.2)))
