-- Where the files are told, the report's one item answers for the file's bytes.
use Rattle.std.proofs.lemmas.Option.{IfSome_then}
use Rattle.fish_program.proofs.selection.prepare.Goals as goal

pub returns-in-Ok-clause-answer : goal.returns-in-Ok-clause-answer
returns-in-Ok-clause-answer g c =
    IfSome_then (g.H.Host.files c.select_file.new.host) c.in_ok-item.ensures.answer
    (λ files known. (known.0, c.in_ok-item.item, known.1, c.in_ok-report.ensures, known.2))
