-- The pages that are held lie below the old base.
use Rattle.std.proofs.Common.{◌∙◌, sym, ap, subst, arith}
use Rattle.fish_cold.specs.Caching.{IsPageIn}
use Rattle.fish_cold.specs.Starts.{with_starts}
use Rattle.fish_cold.proofs.Growing.{page_grown}
use Rattle.fish_cold.proofs.cold.Cold.grow.Goals as goal

pub returns-clause-read : goal.returns-clause-read
returns-clause-read c content behind read =
    let later = c.requires.later.1 in
    record {
      cached = λ n page among.
          subst (λ s. IsPageIn c.args.base.line s content n page)
          (sym (c.in_ok-all.ensures ∙ ap (λ l. with_starts l c.as_slice-2.result.now) c.as_slice.ensures
          ∙ ap (with_starts c.args.self.now.starts) c.as_slice-2.ensures))
          (page_grown c.args.self.now.base.line c.args.base.line c.args.self.now.starts c.args.starts.now content n page later
          (read.older n page among) behind (read.cached n page among));
      older = λ n page among. (let low = read.older n page among in omega arith);
      last = λ page there. absurd (cc there);
    }
