-- A header says its fields, so only one with these fields can be meant.
use Rattle.std.proofs.Common.{◌≡◌, true, arith}
use Rattle.fish_layout.proofs.Headers.{header_says}
use Rattle.fish_layout.proofs.header.read_record_header.Goals as goal
use Rattle.fish_layout.proofs.header.read_record_header.Goals.{
  else-has_limits-via-then-has_limits+else-pack_header-word,
  else-has_limits-via-else-has_limits,
}

pub returns-else-has_limits : goal.returns-else-has_limits
returns-else-has_limits c some =
    let is = some.1 in
    let limits = is.limits in
    let says = header_says is in
    elim c.else-has_limits.branch [
      | else-has_limits-via-then-has_limits+else-pack_header-word w ↦ omega arith
      | else-has_limits-via-else-has_limits w ↦
          (let yes : c.has_limits.result ≡ true =
          c.has_limits.ensures.1 (record {
            some_lines = omega arith;
            keys = omega arith;
            some_lane = omega arith;
            lane = omega arith;
            version = omega arith;
            length = omega arith;
          }) in cc)
    ]
