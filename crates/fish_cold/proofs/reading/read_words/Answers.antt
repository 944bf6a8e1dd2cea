-- The bytes that were read are those of the page.
use Rattle.std.proofs.Common.{◌≡◌, ◌/◌, ◌∙◌, List, ℕ, ◌++◌, drop, length, take, ap, arith, subst}
use Rattle.std.proofs.Math.Seq.{take-append_seam}
use Rattle.std.proofs.lemmas.Option.{IfSome_then}
use Rattle.fish_image.specs.Stands.{words_of}
use Rattle.fish_cold.proofs.LogWords.{page_read}
use Rattle.fish_cold.proofs.reading.read_words.Goals as goal

pub returns-clause-words : goal.returns-clause-words
returns-clause-words g c =
    let buf : List ℕ = c.read.new.buf in
    let rest : List ℕ = drop (length buf) c.in_ok-bytes.bytes.items in
    let full : c.in_ok-bytes.bytes.len ≡ length buf = omega arith in
    let same : c.deref.result.now ≡ buf = c.deref.ensures.value ∙ ap (λ n. take n (buf ++ rest)) full ∙ take-append_seam buf rest in
    let is = subst (λ b. c.in_ok-words.words.items ≡ words_of (length (take c.in_ok-count.count b) / 8)
    (take c.in_ok-count.count b)) same c.in_ok-words.ensures in
    IfSome_then (g.D.Disk.content c.read.new.self) c.in_ok-count.ensures.bytes
    (λ content gave. page_read c.args.end c.args.page c.in_ok-count.count _ content buf c.in_ok-words.words.items
    (omega arith) (omega arith) gave.0 gave.1 is)
