-- The bytes of a text are one.
use Rattle.std.proofs.lemmas.Str.{is_utf8-from_IsUtf8}
use Rattle.fish_lang.proofs.token.text_token.Goals as goal

pub returns : goal.returns
returns c = rw (is_utf8-from_IsUtf8 c.args.s
    (rw c.as_bytes-bytes.ensures.value at c.as_bytes-bytes.ensures.utf8))
