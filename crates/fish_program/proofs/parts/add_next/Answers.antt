-- A part was read, and what it gives added.
use Rattle.std.proofs.Common.{◌≡◌, ◌∙◌, refl, sym}
use Rattle.fish_program.proofs.Selecting.{if_three, then_end, then_long, then_part}
use Rattle.fish_program.specs.declared.parts.Next.TheVariants as next
use Rattle.fish_program.proofs.parts.add_next.Goals as goal

pub returns-clause-part : goal.returns-clause-part
returns-clause-part g c =
    if_three c.add_bytes-added.result
    (λ n found rises part is. then_part g.F.Source.left c.args.command.now c.args.file.now c.read_part.new.file c.in_ok-work.field-0
    c.args.found.now c.add_bytes-added.new.found c.in-Ingest.form c.in-Ingest.begin c.in-Ingest.name c.in-Ingest.bytes c.as_bytes.result.now
    c.in_ok-work.ensures.part c.in-Ingest.is c.as_bytes.ensures (part is)
    (found (λ long. absurd (let bad : next.Part ≡ next.TooLong = sym is ∙ long in cc)))
    (rises (λ long. absurd (let bad : next.Part ≡ next.TooLong = sym is ∙ long in cc))))
    c.add_bytes-added.ensures.found c.add_bytes-added.ensures.rises c.add_bytes-added.ensures.part

pub returns-clause-end : goal.returns-clause-end
returns-clause-end g c =
    if_three c.add_bytes-added.result
    (λ n found rises end is. then_end g.F.Source.left c.args.command.now c.args.file.now c.read_part.new.file c.in_ok-work.field-0
    c.args.found.now c.add_bytes-added.new.found c.in-Ingest.form c.in-Ingest.begin c.in-Ingest.name c.in-Ingest.bytes c.as_bytes.result.now
    c.in_ok-work.ensures.part c.in-Ingest.is c.as_bytes.ensures (end is)
    (found (λ long. absurd (let bad : next.End ≡ next.TooLong = sym is ∙ long in cc))))
    c.add_bytes-added.ensures.found c.add_bytes-added.ensures.rises c.add_bytes-added.ensures.end

pub returns-clause-long : goal.returns-clause-long
returns-clause-long g c =
    if_three c.add_bytes-added.result
    (λ n found rises long is. then_long g.F.Source.left c.args.command.now c.args.file.now c.read_part.new.file c.in_ok-work.field-0
    c.args.found.now c.add_bytes-added.new.found c.in-Ingest.form c.in-Ingest.begin c.in-Ingest.name c.in-Ingest.bytes c.as_bytes.result.now
    c.in_ok-work.ensures.part c.in-Ingest.is c.as_bytes.ensures c.in_ok-work.field-0.last refl (long is))
    c.add_bytes-added.ensures.found c.add_bytes-added.ensures.rises c.add_bytes-added.ensures.long
