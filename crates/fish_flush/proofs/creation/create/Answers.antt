-- A store without a record.
use Rattle.std.proofs.Common.{ℕ, List, [], ap, ◌∙◌, subst, length, false, refl}
use Rattle.fish_flush.proofs.Checkpoints.{memory_cause}
use Rattle.fish_flush.proofs.Resting.{rest_gates}
use Rattle.fish_flush.proofs.Creating.{few_heads, first_rests}
use Rattle.fish_flush.specs.Kept.{first_commit}
use Rattle.fish_flush.specs.declared.flusher.Flusher.{Flusher}
use Rattle.fish_image.specs.Progress.{AreHeads}
use Rattle.fish_image.proofs.Spelling.{told_length}
use Rattle.fish_flush.proofs.creation.create.Goals as goal

pub returns-in_err-heads-clause-cause : goal.returns-in_err-heads-clause-cause
returns-in_err-heads-clause-cause g c =
    memory_cause (g.D.Disk.faults c.args.disk.now) c.from_residual-in_err-heads.result c.from_residual-in_err-heads.ensures.1

pub returns-in_err-body-clause-cause : goal.returns-in_err-body-clause-cause
returns-in_err-body-clause-cause g c =
    memory_cause (g.D.Disk.faults c.args.disk.now) c.from_residual-in_err-body.result c.from_residual-in_err-body.ensures.1

pub put_first-requires-clause-zeros : goal.put_first-requires-clause-zeros
put_first-requires-clause-zeros g c = c.as_slice.ensures.value ∙ c.in_ok-zeros.ensures

pub put_first-requires-clause-size : goal.put_first-requires-clause-size
put_first-requires-clause-size g c =
    ap (λ (l : List ℕ). length l) c.as_bytes.ensures ∙ told_length (first_commit c.args.shape) c.in_ok-body.body c.in_ok-body.ensures

pub returns-clause-made : goal.returns-clause-made
returns-clause-made g c =
    let disk = g.D.Disk in
    let f : Flusher = record {
      slot = 0;
      turn = 0;
      count = 0;
      line = 0;
      heads = c.in_ok-heads.heads;
      page = 0;
      starts = c.new.result;
      shut = false;
    } in
    first_rests (disk.images c.put_first.new.disk) f c.args.shape c.in_ok-body.body refl refl refl refl refl c.new.ensures.items
    c.in_ok-body.ensures
    (λ e image. ((c.in_ok-put_first.ensures.rests e image).0, (c.in_ok-put_first.ensures.rests e image).1 ∙ c.as_bytes.ensures))
    c.in_ok-put_first.ensures.long
    (subst (λ (n : ℕ). AreHeads n [] c.in_ok-heads.heads.items) (few_heads c.args.shape.bucket_bits c.requires.shape.few_bits)
    c.in_ok-heads.ensures)

pub returns-clause-gates : goal.returns-clause-gates
returns-clause-gates g c =
    let f : Flusher = record {
      slot = 0;
      turn = 0;
      count = 0;
      line = 0;
      heads = c.in_ok-heads.heads;
      page = 0;
      starts = c.new.result;
      shut = false;
    } in
    rest_gates (g.D.Disk.images c.put_first.new.disk) f (first_commit c.args.shape) [] (returns-clause-made g c)
