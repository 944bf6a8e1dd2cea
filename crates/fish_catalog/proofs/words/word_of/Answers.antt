-- Each word, by its position.
use Rattle.std.proofs.Common.{◌-◌, sym, ap, ◌∙◌, arith}
use Rattle.fish_layout.specs.Bytes.{word_at}
use Rattle.fish_catalog.specs.Words.{row_word}
use Rattle.fish_catalog.proofs.RowWords.{word_of_name, word_of_text}
use Rattle.fish_catalog.proofs.words.word_of.Goals as goal

-- the first boundary
pub returns-in-0 : goal.returns-in-0
unfolding row_word
returns-in-0 c = c.word_of_bound.ensures ∙ ap (row_word c.args.row.now) (sym c.in-0.is)

-- the second
pub returns-in-1 : goal.returns-in-1
unfolding row_word
returns-in-1 c = c.word_of_bound-in-1.ensures ∙ ap (row_word c.args.row.now) (sym c.in-1.is)

-- a word of the name
pub returns-in-3-to-6 : goal.returns-in-3-to-6
returns-in-3-to-6 c =
    let position = c.args.position in
    c.word_of_bytes.ensures ∙ ap (λ b. word_at b (position - 3)) c.as_bytes.ensures.value
    ∙ sym (word_of_name c.args.row.now position (omega arith) (omega arith))

-- a word of the text
pub returns-in_default : goal.returns-in_default
returns-in_default c =
    let position = c.args.position in
    c.word_of_bytes-in_default.ensures ∙ ap (λ b. word_at b (position - 7)) c.as_bytes-in_default.ensures.value
    ∙ sym (word_of_text c.args.row.now position (omega arith))
