-- A page that was in the list goes to its front.
use Rattle.std.proofs.Common.{◌∙◌, sym, ap, refl}
use Rattle.std.specs.Option.{option_or}
use Rattle.lru.specs.LruCache.{lru_cache}
use Rattle.fish_cold.specs.Cached.{held_in}
use Rattle.fish_cold.proofs.Looking.{listed_put}
use Rattle.fish_cold.proofs.cold.Cold.keep.Goals as goal

pub returns-in-None-2-clause-kept : goal.returns-in-None-2-clause-kept
returns-in-None-2-clause-kept c p is =
    let held = sym (is ∙ ap (λ o. option_or o (held_in c.args.self.now c.args.page)) c.in-None.is) in
    record {
      base = refl;
      starts = refl;
      listed = λ apart. c.promote.ensures.entries ∙ ap (λ es. lru_cache es c.args.self.now.cache.cap)
          (listed_put c.args.self.now c.args.page p apart held);
      others = λ apart. refl;
      beside = λ last. absurd (c.if-last-2.false (last ∙ sym c.page_of.ensures));
    }
