-- The word is ASCII, so it is a text.
use Rattle.std.proofs.Common.{◌≡◌}
use Rattle.std.specs.Prelude.{true, false, IsSome, ◌↔◌, IsUtf8}
use Rattle.fish_script.proofs.Ascii.{IsUtf8-name}
use Rattle.fish_script.proofs.name.name_text.Goals as goal

pub unreachable-requires : goal.unreachable-requires
unreachable-requires c =
    let text : IsSome c.in_ok-text.field-0 ↔ IsUtf8 c.args.w.now = c.in_ok-text.ensures.text in
    let none : false ≡ true = (rw c.in-None.is at text).1 (IsUtf8-name c.args.w.now c.requires) in
    cc
