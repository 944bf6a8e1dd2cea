-- The text so far is the old one and that of the pieces so far.
use Rattle.std.proofs.Common.{◌≡◌, ◌++◌, codes, take}
use Rattle.std.specs.Prelude.{string_bytes}
use Rattle.std.specs.List.{flat_map}
use Rattle.fish_report.specs.Parts.{piece_text}
use Rattle.fish_report.proofs.parts.push_more_pieces.Given as goal

abbrev pub invariant-loop-piece : goal.invariant-loop-piece
invariant-loop-piece l =
    string_bytes l.text ≡ string_bytes l.fn.text
    ++ flat_map (λ piece. codes " " ++ piece_text piece) (take l.piece-index l.pieces)
