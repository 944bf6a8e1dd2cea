-- The bytes from a place on are those of the words.
use Rattle.std.proofs.Common.{◌≡◌, ◌≤◌, ℕ, ◌+◌, ◌*◌, List, ◌++◌, length, take, ap, ◌∙◌, arith}
use Rattle.std.proofs.lemmas.List.{length-take-le}
use Rattle.fish_flush.proofs.Rewritten.{all_rewritten, over, over_front, over_size}
use Rattle.fish_flush.proofs.Words.{bytes_size, words_both, words_bytes}
use Rattle.fish_image.specs.Stands.{words_in}
use Rattle.fish_flush.proofs.region.put_words.Goals as goal

pub returns-clause-words : goal.returns-clause-words
returns-clause-words c =
    let new : List ℕ = c.write_u64_into.new.dst in
    let old : List ℕ = c.args.bytes.now.items in
    let words : List ℕ = c.args.words.now in
    let from : ℕ = c.args.from in
    let size : length new ≡ 8 * length words = bytes_size words new c.write_u64_into.ensures in
    let within = c.requires.within in
    let whole = c.requires.whole in
    let fits : from + length new ≤ length old = omega arith in
    let all = all_rewritten (over new old from fits) old c.args.bytes.now.len c.args.bytes.now.ok.0 (over_size new old from fits) in
    let front : length (take from old) ≡ 8 * whole.0 = length-take-le from old (omega arith) ∙ whole.1 in
    let upto : from + 8 * length words ≡ from + length new = omega arith in
    ap (λ (l : List ℕ). words_in (take (from + 8 * length words) l)) all
    ∙ ap (λ (n : ℕ). words_in (take n (over new old from fits))) upto
    ∙ ap words_in (over_front new old from fits)
    ∙ words_both whole.0 (length words) (take from old) new front size
    ∙ ap (λ (l : List ℕ). words_in (take from old) ++ l)
    (words_bytes words new (λ i. (let one = c.type_inv.words i in omega arith)) c.write_u64_into.ensures)
