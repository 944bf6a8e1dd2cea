-- A fault of the sample is the outcome's, and what was written is as it says.
use Rattle.std.proofs.Common.{◌∙◌, ap}
use Rattle.fish_program.proofs.Samples.{ends_by}
use Rattle.fish_program.proofs.sample.answer_sample.Goals as goal

pub returns-in-Err-clause-ended : goal.returns-in-Err-clause-ended
returns-in-Err-clause-ended g c =
    ends_by c.args.command.now.number (g.W.Sink.written c.args.out.now) (g.W.Sink.written c.sample.new.out)
    c.in-Err.fault c.failed.result
    (c.failed.ensures.fault ∙ c.from.ensures) c.failed.ensures.report c.failed.ensures.remains
    (λ is. ap g.W.Sink.written (c.in-Err.ensures.memory is)) c.in-Err.ensures.part
