-- Each word is made of its eight bytes, and what is left of the bytes is none.
use Rattle.std.proofs.Common.{◌≡◌, ◌/◌, ◌∙◌, List, ℕ, ◌++◌, drop, length, take, ap, arith}
use Rattle.std.proofs.Math.Seq.{take-append_seam}
use Rattle.fish_image.proofs.ByteWords.{read_words, words_of-take}
use Rattle.fish_image.proofs.words.words_in.Goals as goal

pub returns : goal.returns
returns c =
    let dst : List ℕ = c.read_u64_into.new.dst in
    let rest : List ℕ = drop (length dst) c.in_ok-words.words.items in
    let size : length dst ≡ length c.args.bytes.now / 8 = omega arith in
    let full : c.in_ok-words.words.len ≡ length dst = omega arith in
    ap (λ n. take n (dst ++ rest)) full
    ∙ take-append_seam dst rest
    ∙ read_words (length c.args.bytes.now / 8) _ dst size c.read_u64_into.ensures
    ∙ words_of-take (length c.args.bytes.now / 8) _ c.args.bytes.now (omega arith)
