-- A void's header says its lines, so only one with these lines can be meant.
use Rattle.std.proofs.Common.{◌≡◌, ◌∙◌, arith, ap}
use Rattle.fish_layout.specs.Header.{lines_of}
use Rattle.fish_layout.proofs.Headers.{lines_of-void}
use Rattle.fish_layout.proofs.header.read_void_header.Goals as goal
use Rattle.fish_layout.proofs.header.read_void_header.Goals.{
  then-lines-lt1-via-then-lines-lt1,
  then-lines-lt1-via-else-lines-lt1+then-void_header-word,
}

pub returns-then-lines-lt1 : goal.returns-then-lines-lt1
returns-then-lines-lt1 c some =
    let is = some.1 in
    let lines : lines_of c.args.word ≡ some.0.lines = ap lines_of is.is ∙ lines_of-void some.0.lines is.lines in
    elim c.then-lines-lt1.branch [
      | then-lines-lt1-via-then-lines-lt1 w ↦ omega arith
      | then-lines-lt1-via-else-lines-lt1+then-void_header-word w ↦ omega arith
    ]
