-- What is put of a piece, or of foreign bytes of its length, is one way for its write to end.
use Rattle.std.proofs.Common.{◌≤◌, length, arith}
use Rattle.std.proofs.lemmas.Result.{IfOk-weaker}
use Rattle.fish_disk.proofs.Regions.{put_within}
use Rattle.fish_disk.proofs.memory.torn.Goals as goal

pub returns-in-1 : goal.returns-in-1
returns-in-1 c =
    let bytes = c.args.bytes.now in
    let half = c.split_at.result.0.now in
    let within : c.args.at ≤ length bytes = omega (arith, c.if-at-bytes.false) in
    IfOk-weaker c.written.result _ _
    (λ left is. put_within c.args.at (length c.args.piece.now) half bytes left within
    (omega (arith, c.split_at.ensures.front_len)) is)
    c.written.ensures

pub returns-in-2 : goal.returns-in-2
returns-in-2 c =
    let bytes = c.args.bytes.now in
    let piece = c.args.piece.now in
    let within : c.args.at ≤ length bytes = omega (arith, c.if-at-bytes.false) in
    IfOk-weaker c.written-in-2.result _ _
    (λ left is. put_within c.args.at (length piece) piece bytes left within (omega arith) is)
    c.written-in-2.ensures

pub returns-in_ok-foreign-in_default : goal.returns-in_ok-foreign-in_default
returns-in_ok-foreign-in_default c =
    let bytes = c.args.bytes.now in
    let foreign = c.as_slice.result.now in
    let within : c.args.at ≤ length bytes = omega (arith, c.if-at-bytes.false) in
    IfOk-weaker c.written-in_default.result _ _
    (λ left is. put_within c.args.at (length c.args.piece.now) foreign bytes left within
    (omega (arith, c.as_slice.ensures.len, c.in_ok-foreign-in_default.ensures.len)) is)
    c.written-in_default.ensures
