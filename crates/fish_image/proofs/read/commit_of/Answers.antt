-- Each word of the head is the commit's.
use Rattle.std.proofs.Common.{◌≡◌, ◌/◌, ◌%◌, arith, ◌∙◌}
use Rattle.fish_image.proofs.Spelling.{told_word}
use Rattle.fish_image.proofs.read.commit_of.Goals as goal

pub returns : goal.returns
returns c k h rows =
    let b = c.args.b.now in
    let w = h.commit.within in
    let sign_is = c.word_at.ensures ∙ told_word k b h 0 (omega arith) in
    let format : c.word_at.result / 72057594037927936 % 16 ≡ k.format = (let few = h.commit.format.known in omega arith) in
    let turn_is = c.word_at-2.ensures ∙ told_word k b h 1 (omega arith) in
    let turn : c.word_at-2.result % 256 ≡ k.turn = (let few = w.turn in omega arith) in
    let pages_is = c.word_at-3.ensures ∙ told_word k b h 2 (omega arith) in
    let pages : c.word_at-3.result % 65536 ≡ k.pages = (let few = w.few_pages in omega arith) in
    let bits_is = c.word_at-4.ensures ∙ told_word k b h 3 (omega arith) in
    let bits : c.word_at-4.result % 256 ≡ k.bucket_bits = (let few = w.few_bits in omega arith) in
    let count_is = c.word_at-5.ensures ∙ told_word k b h 4 (omega arith) in
    let count : c.word_at-5.result % 4294967296 ≡ k.count = (let few = w.count in omega arith) in
    let lines : c.word_at-6.result ≡ k.lines = c.word_at-6.ensures ∙ told_word k b h 5 (omega arith) in
    λ i. record {
      format = format i;
      turn = turn i;
      pages = pages i;
      bucket_bits = bits i;
      count = count i;
      lines = lines i;
      rows = rows i;
    }
