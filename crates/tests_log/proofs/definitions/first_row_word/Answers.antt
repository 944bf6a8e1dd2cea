-- The row with id 0 is there at version 0, whatever the words.
use Rattle.std.proofs.Common.{ℕ, ◌<◌, sym, subst, arith}
use Rattle.std.proofs.lemmas.List.{length-map}
use Rattle.fish_catalog.specs.Listing.{listed_of}
use Rattle.fish_rule.specs.Passes.{view}
use Rattle.tests_log.proofs.definitions.first_row_word.Goals as goal

pub load_row-requires-clause-row : goal.load_row-requires-clause-row
load_row-requires-clause-row c = record {
  version = 0;
  reached = omega arith;
  there = λ g _. subst (λ (n : ℕ). 0 < n)
      (sym (length-map (view c.args.pass.now).about.rows.value listed_of)) c.requires.row;
}
