-- The records were made for the pass's lane, under the definitions that the log begins with.
use Rattle.std.proofs.Common.{ℕ, slice_index_or, subst}
use Rattle.bench.specs.Stores.{IsRecordOf}
use Rattle.bench.proofs.stores.lane_of.Goals as goal

pub returns-in-Ok : goal.returns-in-Ok
returns-in-Ok c =
    let defs = c.args.defs.now in
    let records = c.in-Ok.records.items in
    record {
      pass = c.requires.pass;
      records = λ k d inside. (
        defs,
        c.requires.active,
        subst (λ (n : ℕ). IsRecordOf n defs (slice_index_or records k d))
            c.lane-number.ensures (c.in-Ok.ensures k d inside),
      );
    }
