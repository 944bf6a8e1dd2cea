-- The page's words are those that were read, and its regions begin at its start.
use Rattle.std.proofs.Common.{subst}
use Rattle.std.proofs.lemmas.Option.{IfSome_then}
use Rattle.fish_cold.specs.Regions.{AreRegions}
use Rattle.fish_cold.proofs.reading.read_page.Goals as goal

pub returns-clause-page : goal.returns-clause-page
returns-clause-page g c =
    IfSome_then (g.D.Disk.content c.read_words.new.disk) c.in_ok-words.ensures.words
    (λ content is. record {
      words = is;
      regions = λ start h.
          let first = c.first_line-first.ensures start (c.start_in.ensures start h) in
          subst (λ n. AreRegions c.in_ok-words.words.items n c.in_ok-regions.regions.items) first
          (subst (λ l. AreRegions l c.first_line-first.result c.in_ok-regions.regions.items)
          c.as_slice.ensures.value c.in_ok-regions.ensures);
    })
