-- A line that is too long was counted as no record.
use Rattle.std.proofs.Common.{inr, refl, subst}
use Rattle.fish_ingest.specs.Refusal.{HasRefused, IsIngestCause}
use Rattle.fish_ingest.specs.declared.refusal.IngestRefusal.{IngestRefusal}
use Rattle.fish_lanes.proofs.Storing.{long_none}
use Rattle.fish_rule.specs.Passes.{view}
use Rattle.fish_lanes.proofs.ingesting.ingest_line.Goals as goal

pub returns-in-Err-TooLong-clause-takes : goal.returns-in-Err-TooLong-clause-takes
returns-in-Err-TooLong-clause-takes g c = inr (
  long_none c.args.form c.args.payload.now
      (subst (IsIngestCause c.args.form c.args.payload.now) c.in-Err-TooLong.field-0-is c.in-Err-TooLong.ensures.cause),
  subst (λ (e : IngestRefusal). HasRefused (view c.args.pass.now) c.args.form c.args.payload.now e (view c.ingest_at.new.pass))
      c.in-Err-TooLong.field-0-is c.in-Err-TooLong.ensures.refused,
  refl,
)
