-- The words that hold the bytes are enough, and fill what was made for them.
use Rattle.std.proofs.Common.{◌≡◌, ℕ, List, ◌++◌, drop, length, take, ap, ◌∙◌, arith}
use Rattle.std.proofs.Math.Seq.{take-append_seam}
use Rattle.fish_layout.specs.Bytes.{bytes_in, words_for}
use Rattle.fish_layout.proofs.Bytes.{bytes_enough, length_words}
use Rattle.fish_layout.proofs.read.read_bytes.Goals as goal

pub returns : goal.returns
returns c =
    let words : List ℕ = c.args.words.now in
    let used : List ℕ = take c.words_for.result words in
    let written : List ℕ = c.write_u64_into.new.dst in
    let behind : List ℕ = drop (length written) c.in_ok-bytes.bytes.items in
    let cut : c.words_for.result ≡ words_for c.args.len = omega arith in
    let full : c.in_ok-bytes.bytes.len ≡ length written =
    omega (arith, ap length c.write_u64_into.ensures, length_words used) in
    c.truncate.ensures.items
    ∙ ap (λ n. take c.args.len (take n (written ++ behind))) full
    ∙ ap (take c.args.len) (take-append_seam written behind)
    ∙ ap (take c.args.len) c.write_u64_into.ensures
    ∙ ap (λ n. bytes_in (take n words) c.args.len) cut
    ∙ bytes_enough words c.args.len c.requires.room
