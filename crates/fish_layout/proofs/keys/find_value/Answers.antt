-- The value's bytes lie where the third word says.
use Rattle.std.proofs.Common.{◌∙◌}
use Rattle.std.proofs.lemmas.Result.{IfOk-weaker}
use Rattle.fish_layout.proofs.ValueBytes.{behind_skip, value_part}
use Rattle.fish_layout.proofs.keys.find_value.Goals as goal

pub slice_bounds-read_value-count : goal.slice_bounds-read_value-count
slice_bounds-read_value-count c =
    behind_skip c.args.words.now _ _ _ c.deref.result.now (c.deref.ensures.value ∙ c.in_ok-bytes.ensures)
    _ c.words_for.ensures c.if-words-first.false

pub slice_bounds-read_value-start : goal.slice_bounds-read_value-start
slice_bounds-read_value-start c =
    behind_skip c.args.words.now _ _ _ c.deref.result.now (c.deref.ensures.value ∙ c.in_ok-bytes.ensures)
    _ c.words_for.ensures c.if-words-first.false

pub returns : goal.returns
returns c =
    IfOk-weaker c.read_value.result _ _
    (λ o gives v n proper kind within room bytes. gives v proper (c.kind_in.ensures ∙ kind)
    (value_part c.args.words.now _ _ _ n _ _ _ (c.deref.ensures.value ∙ c.in_ok-bytes.ensures)
    c.offset_in-skip.ensures.value c.offset_in-first.ensures.value c.size_in.ensures.value within room ∙ bytes)) c.read_value.ensures
