-- A text in UTF-8 is never refused.
use Rattle.std.proofs.lemmas.Str.{IsUtf8-from_is_utf8}
use Rattle.fish_csv.proofs.column.to_field.Goals as goal

pub unreachable-requires : goal.unreachable-requires
unreachable-requires c = absurd (c.in-Err.ensures (IsUtf8-from_is_utf8 c.args.text.now c.requires))
