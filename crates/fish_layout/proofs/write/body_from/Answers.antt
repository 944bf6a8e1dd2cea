-- The header, the words after it and the padding follow one another.
use Rattle.std.proofs.Common.{◌≡◌, ◌+◌, ◌-◌, ◌*◌, [], ◌∷◌, ◌++◌, length, take, replicate, ap, ◌∙◌, arith, vec_len}
use Rattle.std.proofs.lemmas.List.{take_all}
use Rattle.fish_layout.specs.Body.{body_header, body_words, parts_of, words_after_head}
use Rattle.fish_layout.proofs.write.body_from.Goals as goal

pub returns : goal.returns
unfolding body_words
returns c =
    let p = parts_of c.args.head c.args.keys.now c.args.payload.now in
    let front = body_header p ∷ words_after_head p in
    let made : c.push_words.new.words.items ≡ front =
    c.in_ok-push_words.ensures
    ∙ ap (λ l. l ++ words_after_head p)
    (c.in_ok-push.ensures.items ∙ ap (λ l. l ++ (c.header_word_of.result ∷ [])) c.in_ok-words.ensures.items)
    ∙ ap (λ x. x ∷ words_after_head p) c.header_word_of.ensures in
    let size : vec_len c.push_words.new.words ≡ 1 + length (words_after_head p) =
    omega (arith, ap length made, c.push_words.new.words.ok.0) in
    let lines = c.count_lines-lines.ensures.value c.args.head in
    c.of_words.ensures
    ∙ c.in_ok-resize.ensures.items
    ∙ ap (λ l.
    take (c.count_lines-lines.result * 4) l ++ replicate
    (c.count_lines-lines.result * 4 - vec_len c.push_words.new.words) 0) made
    ∙ ap (λ l. l ++ replicate (c.count_lines-lines.result * 4 - vec_len c.push_words.new.words) 0)
    (take_all (c.count_lines-lines.result * 4) front (omega arith))
    ∙ ap (λ n. front ++ replicate n 0) (omega arith)
