-- The region of the next number is copied, and follows what was copied before.
use Rattle.std.proofs.Common.{◌≡◌, ℕ, ◌+◌, ◌-◌, ◌*◌, ◌++◌, List, refl, ap, ◌∙◌, subst, arith, length, take}
use Rattle.fish_flush.proofs.AddedRegions.{added, added_end, added_lines, added_next}
use Rattle.fish_flush.proofs.Rewritten.{all_rewritten}
use Rattle.fish_image.specs.Stands.{words_in}
use Rattle.fish_rule.specs.Passes.{view}
use Rattle.fish_flush.proofs.batch.add_region.Goals as goal

pub put_words-requires-clause-whole : goal.put_words-requires-clause-whole
put_words-requires-clause-whole c = (4 * (c.args.batch.now.line - c.args.batch.now.written), omega arith)

-- there is room for the start of the region's page
pub keep_start-batch-requires : goal.keep_start-batch-requires
keep_start-batch-requires c =
    let v = view c.args.pass.now in
    let u = view c.copy_region-size.new.pass in
    let a = c.args.batch.now in
    let on = c.copy_region-size.ensures.extends in
    let stands = c.copy_region-size.ensures.pass.stands in
    let about = c.copy_region-size.ensures.pass.about in
    let end = c.requires.end in
    let size : ℕ = c.copy_region-size.result in
    let copied = c.copy_region-size.ensures.copied in
    let upto = added_end c.args.log.now.key v u c.args.number a on stands about c.requires.from c.requires.line _ _ size copied
    end.0 end.1 end.2 end.3 in
    let room = c.requires.room.own in
    record { room = λ here. (let own = room here in omega arith) }

pub overflow_add-batch : goal.overflow_add-batch
overflow_add-batch c =
    let v = view c.args.pass.now in
    let u = view c.copy_region-size.new.pass in
    let a = c.args.batch.now in
    let on = c.copy_region-size.ensures.extends in
    let stands = c.copy_region-size.ensures.pass.stands in
    let about = c.copy_region-size.ensures.pass.about in
    let end = c.requires.end in
    let size : ℕ = c.copy_region-size.result in
    let copied = c.copy_region-size.ensures.copied in
    let next = added_next c.args.log.now.key v u c.args.number a on stands about c.requires.from c.requires.line _ _ size copied in
    let lines = added_lines c.args.log.now.key v u c.args.number a on stands about c.requires.from c.requires.line _ _ size copied in
    let begins = next.begins in
    let inside = next.inside in
    let short = next.short in
    omega arith

pub returns-clause-added : goal.returns-clause-added
returns-clause-added c =
    let v = view c.args.pass.now in
    let u = view c.copy_region-size.new.pass in
    let a = c.args.batch.now in
    let on = c.copy_region-size.ensures.extends in
    let stands = c.copy_region-size.ensures.pass.stands in
    let about = c.copy_region-size.ensures.pass.about in
    let end = c.requires.end in
    let size : ℕ = c.copy_region-size.result in
    let copied = c.copy_region-size.ensures.copied in
    let words : List ℕ = c.copy_region-size.new.words in
    let many : length words ≡ length a.words.items = c.copy_region-size.ensures.size ∙ ap length c.as_mut_slice.ensures.value in
    let same = all_rewritten words a.words.items a.words.len a.words.ok.0 many in
    let read : c.deref.result.now ≡ words = c.deref.ensures.value ∙ same in
    let put : words_in (take (32 * (a.line - a.written) + 8 * length (take size words)) c.put_words.new.bytes.items)
    ≡ words_in (take (32 * (a.line - a.written)) a.bytes.items) ++ take size words =
    subst (λ (l : List ℕ). words_in (take (32 * (a.line - a.written) + 8 * length (take size l)) c.put_words.new.bytes.items)
    ≡ words_in (take (32 * (a.line - a.written)) a.bytes.items) ++ take size l) read c.put_words.ensures.words in
    added c.args.log.now.key v u c.args.number a on stands about c.requires.from c.requires.line c.copy_region-size.new.heads.items words
    size copied _ end.0 end.1 end.2 end.3 c.requires.page.0 c.requires.page.1 c.requires.room refl refl refl refl
    c.copy_region-size.ensures.heads c.put_words.ensures.size put
    (ap length same ∙ many) c.keep_start-batch.ensures.page
    c.keep_start-batch.ensures.starts c.keep_start-batch.ensures.few c.keep_start-batch.ensures.kept
    c.keep_start-batch.ensures.capacity
