-- The words at the record's line are those of a record, whose parts are the entry's.
use Rattle.std.proofs.Common.{◌≡◌, ℕ, List, ◌++◌, length, sym, ap, ◌∙◌, subst, arith}
use Rattle.fish_catalog.specs.declared.entry.Entry.TheVariants as entry
use Rattle.fish_layout.specs.Body.{IsBody}
use Rattle.fish_rule.proofs.laws.Entries.{found_body, knows_entry}
use Rattle.fish_rule.proofs.laws.Learning.{extends_both}
use Rattle.fish_rule.specs.Logs.{KnowsAs}
use Rattle.fish_rule.specs.Passes.{view}
use Rattle.fish_rule.specs.declared.view.View.{View}
use Rattle.fish_walk.proofs.Records.{look_extends, look_finds}
use Rattle.fish_walk.proofs.reading.read_entry.Goals as goal

-- the look found the region again, at the line of its word
pub read_region-requires-clause-found : goal.read_region-requires-clause-found
read_region-requires-clause-found g c =
    let f = c.requires.stored in
    let told = c.look_at-word.ensures.view in
    let word = c.look_at-word.ensures.known f.0 f.1 (f.2 ∙ sym c.from.ensures) in
    let at = look_finds (view c.args.pass.now) (view c.look_at-word.new.pass) _ told.0 c.look_at-word.result
    c.line_of_word.result f.0 c.requires.pass.stands told.1 word f.1 f.3
    c.line_of_word.ensures in
    (f.0, at.0, at.1, at.2)

-- a look and the reads only learn
pub returns-in_err-loaded-clause-extends : goal.returns-in_err-loaded-clause-extends
returns-in_err-loaded-clause-extends g c =
    let told = c.look_at-word.ensures.view in
    let look = look_extends (view c.args.pass.now) (view c.look_at-word.new.pass) _ told.0 _ told.1 in
    extends_both _ _ _ look c.read_region.ensures.extends

-- the same where the payload found no memory
pub returns-in_err-lane-clause-extends : goal.returns-in_err-lane-clause-extends
returns-in_err-lane-clause-extends g c =
    let told = c.look_at-word.ensures.view in
    let look = look_extends (view c.args.pass.now) (view c.look_at-word.new.pass) _ told.0 _ told.1 in
    extends_both _ _ _ look c.read_region.ensures.extends

-- and where there was memory
pub returns-clause-extends : goal.returns-clause-extends
returns-clause-extends g c =
    let told = c.look_at-word.ensures.view in
    let look = look_extends (view c.args.pass.now) (view c.look_at-word.new.pass) _ told.0 _ told.1 in
    extends_both _ _ _ look c.read_region.ensures.extends

-- the words are those of a record
pub read_payload-requires : goal.read_payload-requires
read_payload-requires g c =
    let f = c.requires.stored in
    let told = c.look_at-word.ensures.view in
    let word = c.look_at-word.ensures.known f.0 f.1 (f.2 ∙ sym c.from.ensures) in
    let at = look_finds (view c.args.pass.now) (view c.look_at-word.new.pass) _ told.0 c.look_at-word.result
    c.line_of_word.result f.0 c.requires.pass.stands told.1 word f.1 f.3
    c.line_of_word.ensures in
    let read = c.in_ok-loaded.ensures.words in
    let words = read.words f.0 at.0 at.1 at.2 in
    let q = found_body (view c.read_region.new.pass) f.0 read.more c.read_region.ensures.pass.stands
    (c.read_region.ensures.extends.learns.found f.0 at.0) f.3 words in
    let same : c.deref.result.now ≡ read.more =
    c.deref.ensures.value ∙ read.after_is ∙ ap (λ (z : List ℕ). z ++ read.more) c.new-words.ensures.items in
    (q.0, subst (IsBody q.0) (sym same) q.1)

-- whose parts are the entry that stands there
pub returns-clause-entry : goal.returns-clause-entry
returns-clause-entry g c =
    let f = c.requires.stored in
    let told = c.look_at-word.ensures.view in
    let word = c.look_at-word.ensures.known f.0 f.1 (f.2 ∙ sym c.from.ensures) in
    let at = look_finds (view c.args.pass.now) (view c.look_at-word.new.pass) _ told.0 c.look_at-word.result
    c.line_of_word.result f.0 c.requires.pass.stands told.1 word f.1 f.3
    c.line_of_word.ensures in
    let read = c.in_ok-loaded.ensures.words in
    let words = read.words f.0 at.0 at.1 at.2 in
    let same : c.deref.result.now ≡ read.more =
    c.deref.ensures.value ∙ read.after_is ∙ ap (λ (z : List ℕ). z ++ read.more) c.new-words.ensures.items in
    let r = c.in_ok-lane.field-0 in
    subst (λ (z : ℕ). KnowsAs (view c.read_region.new.pass) z (entry.Stored r.lane r.form r.payload)) f.2
    (knows_entry (view c.read_region.new.pass) f.0 read.more
    (c.read_region.ensures.extends.learns.found f.0 at.0) f.3 words r.lane r.form r.payload
    (λ q b. c.in_ok-lane.ensures.lane q (subst (IsBody q) (sym same) b))
    (λ q b. c.in_ok-lane.ensures.form q (subst (IsBody q) (sym same) b))
    (λ q b. c.in_ok-lane.ensures.payload q (subst (IsBody q) (sym same) b)))

-- the look is no load of a word of the log
pub returns-clause-counted : goal.returns-clause-counted
returns-clause-counted g c =
    let told = c.look_at-word.ensures.view in
    let looked = ap (λ (z : View). z.clock.loads) told.1 in
    let loaded = c.in_ok-loaded.ensures.loads in
    let few = c.in_ok-loaded.ensures.few in
    let count = c.count.ensures in
    let tick = c.tick.ensures in
    record {
      exact = omega arith;
      few = λ f was number is.
          let word = c.look_at-word.ensures.known f was (number ∙ sym c.from.ensures) in
          let at = look_finds (view c.args.pass.now) (view c.look_at-word.new.pass) _ told.0 c.look_at-word.result
          c.line_of_word.result f c.requires.pass.stands told.1 word was is
          c.line_of_word.ensures in
          let read = c.in_ok-loaded.ensures.words in
          let size = ap length (read.after_is ∙ ap (λ (z : List ℕ). z ++ read.more) c.new-words.ensures.items) in
          let full = (read.words f at.0 at.1 at.2).full in
          omega arith;
    }
