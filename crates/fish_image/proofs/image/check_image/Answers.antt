-- One piece is all words.
use Rattle.std.proofs.Common.{ℕ, List, [], Err}
use Rattle.fish_catalog.specs.declared.commit.Commit.{Commit}
use Rattle.fish_image.specs.Checking.{Fed, IsImageCause}
use Rattle.fish_image.specs.declared.checker.Checker.{Checker}
use Rattle.fish_image.specs.declared.refusal.ImageRefusal.{ImageRefusal}
use Rattle.fish_image.specs.declared.refusal.ImageRefusal.TheVariants.{Damaged, OutOfMemory}
use Rattle.fish_image.proofs.Pieces.{breaks_damaged}
use Rattle.fish_image.proofs.image.check_image.Goals as goal

-- what the first piece is refused for, all words are
cause_of : (e : ImageRefusal) (c : Commit) (w : List ℕ) (new : Checker) → Fed (Err e) c [] w new → IsImageCause c w e
cause_of (Damaged n) c w new h = breaks_damaged c w n h.1
cause_of OutOfMemory c w new h = tt

pub returns-in-Err-clause-damaged : goal.returns-in-Err-clause-damaged
returns-in-Err-clause-damaged c =
    cause_of c.in-Err.refusal c.args.c.now c.args.words.now _ (c.in-Err.ensures.fed c.args.c.now [] c.in_ok-checker.ensures.seen)
