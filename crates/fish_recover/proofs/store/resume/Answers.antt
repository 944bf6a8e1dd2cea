-- What is kept of a commit that was found is within the limits of its table.
use Rattle.std.proofs.Common.{refl}
use Rattle.fish_recover.proofs.Beginnings.{read_kept}
use Rattle.fish_recover.proofs.store.resume.Goals as goal

pub begin_table-requires-clause-kept : goal.begin_table-requires-clause-kept
begin_table-requires-clause-kept c = read_kept c.args.found c.in-Ok.flusher _ c.requires c.in-Ok.ensures.kept refl
