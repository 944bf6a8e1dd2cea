-- A record without keys may be published once its words are stored.
use Rattle.fish_claim.proofs.Filled.{plain_publish}
use Rattle.fish_claim.specs.Fills.{with_words}
use Rattle.fish_rule.specs.Passes.{view}
use Rattle.tests_log.proofs.bodies.publish_words.Goals as goal

pub publish-requires-clause-view : goal.publish-requires-clause-view
publish-requires-clause-view c =
    let plain = c.requires.view in
    let f = plain.flight in
    let words = c.args.words.now in
    let filled = c.fill.ensures.filled f plain.can.flying in (
      with_words f words,
      plain_publish (view c.fill.new.pass) f plain.parts words filled plain.can.unlinked plain.is plain.plain,
      filled.stored,
    )
